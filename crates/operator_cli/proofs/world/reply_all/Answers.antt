use Rattle.std.proofs.Common.{◌≡◌, ◌≤◌, ◌<◌, ℕ, rules, arith, subst, refl}
use Rattle.std.proofs.KnownBytes.{Keeps-refl}
use Rattle.session_server.proofs.Sessions.{first_empty}
use Rattle.operator_cli.specs.Ran.{RestRan}
use Rattle.operator_cli.specs.Script.{answers}
use Rattle.operator_cli.proofs.BreakLaws.{broke_after, broke_at_limit, err_is}
use Rattle.operator_cli.proofs.ScriptLaws.{SoFar, at_err, begins, goes_on, breaks_off, unknown_more, one_too_many, all_answered}
use Rattle.operator_cli.proofs.world.reply_all.Goals as goal

pub lines-init : goal.lines-init
lines-init g c = begins _ _ _

pub returns-in_err-is_answered-clause-ran : goal.returns-in_err-is_answered-clause-ran
returns-in_err-is_answered-clause-ran g c =
    let within : c.lines._count < c.args.most = search rules in
    at_err c.from_residual.result (RestRan c.args.most (g.R.Read.remaining c.args.reader.now) (g.W.Write.contents c.args.out.now)
    (g.W.Write.contents c.reply_next.new.out) c.args.world.now c.reply_next.new.world) _ c.from_residual.ensures.1
    (λ f e. rw e (breaks_off c.args.most (g.R.Read.remaining c.args.reader.now) (g.R.Read.remaining c.lines.reader) (g.W.Write.contents c.args.out.now)
    (g.W.Write.contents c.lines.out) (g.W.Write.contents c.reply_next.new.out) c.args.world.now c.lines.world c.lines._count _ c.lines.invariant within
    c.in_err-is_answered.ensures.ran))

pub returns-then-not-is_answered-clause-ran : goal.returns-then-not-is_answered-clause-ran
returns-then-not-is_answered-clause-ran g c =
    let within : c.lines._count ≤ c.args.most = search rules in
    let last = rw c.if-not-is_answered.true at c.in_ok-is_answered.ensures.ran in
    all_answered c.args.most (g.R.Read.remaining c.args.reader.now) (g.R.Read.remaining c.lines.reader) (g.R.Read.remaining c.reply_next.new.reader)
    (g.W.Write.contents c.args.out.now) (g.W.Write.contents c.lines.out) (g.W.Write.contents c.reply_next.new.out)
    c.args.world.now c.lines.world c.reply_next.new.world c.lines._count c.lines.invariant within (first_empty _ _ last.2) last.0 last.1

pub lines-preserved : goal.lines-preserved
lines-preserved g c =
    let next = rw c.if-not-is_answered.false at c.in_ok-is_answered.ensures.ran in
    goes_on _ _ _ _ _ _ _ _ _ c.lines._count c.lines.invariant next

pub returns-in_err-is_more-clause-ran : goal.returns-in_err-is_more-clause-ran
returns-in_err-is_more-clause-ran g c =
    let input = g.R.Read.remaining c.args.reader.now in
    let rest = g.R.Read.remaining c.lines.reader in
    let old = g.W.Write.contents c.args.out.now in
    let new = g.W.Write.contents c.lines.out in
    let all : c.lines._count ≡ c.args.most = omega (arith, c.lines-test.false, c.lines.auto._count-end) in
    let so_far = subst (λ (n : ℕ). SoFar input rest old new c.args.world.now c.lines.world n) all c.lines.invariant in
    at_err c.from_residual-in_err-is_more.result (RestRan c.args.most input old new c.args.world.now c.lines.world) _ c.from_residual-in_err-is_more.ensures.1
    (λ f e. rw e (unknown_more c.args.most input rest old new c.args.world.now c.lines.world so_far))

pub returns-then-is_more-clause-ran : goal.returns-then-is_more-clause-ran
returns-then-is_more-clause-ran g c =
    let input = g.R.Read.remaining c.args.reader.now in
    let rest = g.R.Read.remaining c.lines.reader in
    let old = g.W.Write.contents c.args.out.now in
    let new = g.W.Write.contents c.lines.out in
    let all : c.lines._count ≡ c.args.most = omega (arith, c.lines-test.false, c.lines.auto._count-end) in
    let so_far = subst (λ (n : ℕ). SoFar input rest old new c.args.world.now c.lines.world n) all c.lines.invariant in
    let more = rw c.if-is_more.true at c.in_ok-is_more.ensures in
    one_too_many c.args.most input rest (g.R.Read.remaining c.has_more.new.reader) old new c.args.world.now c.lines.world so_far more.1

pub returns-clause-ran : goal.returns-clause-ran
returns-clause-ran g c =
    let within : c.lines._count ≤ c.args.most = omega (arith, c.lines.auto._count-end) in
    let over = rw c.if-is_more.false at c.in_ok-is_more.ensures in
    let new = g.W.Write.contents c.lines.out in
    all_answered c.args.most (g.R.Read.remaining c.args.reader.now) (g.R.Read.remaining c.lines.reader) (g.R.Read.remaining c.has_more.new.reader)
    (g.W.Write.contents c.args.out.now) new new
    c.args.world.now c.lines.world c.lines.world c.lines._count c.lines.invariant within over.1 (Keeps-refl new) refl

pub returns-in_err-is_answered-clause-reads : goal.returns-in_err-is_answered-clause-reads
returns-in_err-is_answered-clause-reads g c is =
    let within : c.lines._count < c.args.most = search rules in
    broke_after 1 c.args.most (g.R.Read.remaining c.args.reader.now) (g.R.Read.remaining c.lines.reader) (g.R.Read.remaining c.reply_next.new.reader)
    (g.W.Write.contents c.args.out.now) (g.W.Write.contents c.lines.out) (g.W.Write.contents c.reply_next.new.out)
    c.args.world.now c.lines.world c.lines._count c.lines.invariant (omega (arith, within))
    (c.in_err-is_answered.ensures.reads (err_is c.from_residual.result _ c.from_residual.ensures.1 is))

pub returns-in_err-is_more-clause-reads : goal.returns-in_err-is_more-clause-reads
returns-in_err-is_more-clause-reads g c is =
    let rest = g.R.Read.remaining c.lines.reader in
    let after = g.R.Read.remaining c.has_more.new.reader in
    let new = g.W.Write.contents c.lines.out in
    let within : c.lines._count ≤ c.args.most = omega (arith, c.lines.auto._count-end) in
    broke_after 0 c.args.most (g.R.Read.remaining c.args.reader.now) rest after (g.W.Write.contents c.args.out.now) new new
    c.args.world.now c.lines.world c.lines._count c.lines.invariant (omega (arith, within))
    (broke_at_limit (answers c.lines.world) rest after new refl c.in_err-is_more.ensures)
