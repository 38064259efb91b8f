use Rattle.std.proofs.Common.{◌≡◌, ◌<◌, ℕ, rules, arith, subst}
use Rattle.desk_lines.specs.Grammar.{most_lines}
use Rattle.session_server.proofs.Sessions.{SoFar, begins, breaks_off, ends, ends_after_all, fails, goes_on, too_many}
use Rattle.session_server.proofs.talk_over.talk_over.Goals as goal

pub lines-init : goal.lines-init
lines-init g c = begins g.A.Answerer.step _ _ _

pub returns-in-Ok-Some : goal.returns-in-Ok-Some
returns-in-Ok-Some g c =
    let within : c.lines._count < most_lines = search rules in
    ends g.A.Answerer.step _ _ _ _ _ _ _ _ _ c.lines._count c.in-Ok-Some.ended within c.lines.invariant (rw c.in-Ok-Some.field-0-is at c.in-Ok-Some.ensures)

pub returns-in-Err : goal.returns-in-Err
returns-in-Err g c =
    let within : c.lines._count < most_lines = search rules in
    breaks_off g.A.Answerer.step _ _ _ _ _ _ _ _ _ c.lines._count c.in-Err.fault within c.lines.invariant c.in-Err.ensures

pub lines-preserved : goal.lines-preserved
lines-preserved g c = goes_on g.A.Answerer.step _ _ _ _ _ _ _ _ _ c.lines._count c.lines.invariant (rw c.in-Ok-None.field-0-is at c.in-Ok-None.ensures)

pub returns-in-Ok-true : goal.returns-in-Ok-true
returns-in-Ok-true g c =
    let all : c.lines._count ≡ most_lines = omega (arith, c.lines-test.false, c.lines.auto._count-end) in
    let so_far = subst (λ (n : ℕ). SoFar g.A.Answerer.step (g.R.Read.remaining c.args.reader.now) (g.R.Read.remaining c.lines.reader)
    (g.W.Write.contents c.args.out.now) (g.W.Write.contents c.lines.out) c.args.answerer.now c.lines.answerer n) all c.lines.invariant in
    too_many g.A.Answerer.step _ _ (g.R.Read.remaining c.has_more.new.reader) _ _ _ _ so_far ((rw c.in-Ok-true.field-0-test at c.in-Ok-true.ensures).1)

pub returns-in-Ok-false : goal.returns-in-Ok-false
returns-in-Ok-false g c =
    let all : c.lines._count ≡ most_lines = omega (arith, c.lines-test.false, c.lines.auto._count-end) in
    let so_far = subst (λ (n : ℕ). SoFar g.A.Answerer.step (g.R.Read.remaining c.args.reader.now) (g.R.Read.remaining c.lines.reader)
    (g.W.Write.contents c.args.out.now) (g.W.Write.contents c.lines.out) c.args.answerer.now c.lines.answerer n) all c.lines.invariant in
    ends_after_all g.A.Answerer.step _ _ (g.R.Read.remaining c.has_more.new.reader) _ _ _ _ so_far ((rw c.in-Ok-false.field-0-test at c.in-Ok-false.ensures).1)

pub returns-in-Err-has_more : goal.returns-in-Err-has_more
returns-in-Err-has_more g c =
    let all : c.lines._count ≡ most_lines = omega (arith, c.lines-test.false, c.lines.auto._count-end) in
    let so_far = subst (λ (n : ℕ). SoFar g.A.Answerer.step (g.R.Read.remaining c.args.reader.now) (g.R.Read.remaining c.lines.reader)
    (g.W.Write.contents c.args.out.now) (g.W.Write.contents c.lines.out) c.args.answerer.now c.lines.answerer n) all c.lines.invariant in
    fails g.A.Answerer.step _ (g.R.Read.remaining c.lines.reader) _ _ _ _ so_far
