use Rattle.std.proofs.Common.{◌≡◌, ◌<◌, rules, arith}
use Rattle.desk_lines.specs.Grammar.{most_lines}
use Rattle.live_office.proofs.Talks.{begins}
use Rattle.operator_cli.specs.Asking.{IsAnsweredBy}
use Rattle.operator_cli.proofs.AskLaws.{asks_break, asks_end, asks_fail, asks_on, asks_over, asks_too_many}
use Rattle.operator_cli.proofs.asking.ask_over.Goals as goal

pub lines-init : goal.lines-init
lines-init g c = begins IsAnsweredBy _ _ _

pub returns-in-Ok-Some : goal.returns-in-Ok-Some
returns-in-Ok-Some g c =
    let within : c.lines._count < most_lines = search rules in
    asks_end _ _ _ _ _ _ _ _ _ c.lines._count c.in-Ok-Some.ended within c.lines.invariant (rw c.in-Ok-Some.field-0-is at c.in-Ok-Some.ensures)

pub returns-in-Err : goal.returns-in-Err
returns-in-Err g c =
    let within : c.lines._count < most_lines = search rules in
    asks_break _ _ _ _ _ _ _ _ _ c.lines._count c.in-Err.fault within c.lines.invariant c.in-Err.ensures

pub lines-preserved : goal.lines-preserved
lines-preserved g c = asks_on _ _ _ _ _ _ _ _ _ c.lines._count c.lines.invariant (rw c.in-Ok-None.field-0-is at c.in-Ok-None.ensures)

pub returns-in-Ok-true : goal.returns-in-Ok-true
returns-in-Ok-true g c =
    let all : c.lines._count ≡ most_lines = omega (arith, c.lines-test.false, c.lines.auto._count-end) in
    asks_too_many _ _ (g.R.Read.remaining c.has_more.new.reader) _ _ _ _ c.lines._count all c.lines.invariant
    ((rw c.in-Ok-true.field-0-test at c.in-Ok-true.ensures).1)

pub returns-in-Ok-false : goal.returns-in-Ok-false
returns-in-Ok-false g c =
    let all : c.lines._count ≡ most_lines = omega (arith, c.lines-test.false, c.lines.auto._count-end) in
    asks_over _ _ (g.R.Read.remaining c.has_more.new.reader) _ _ _ _ c.lines._count all c.lines.invariant
    ((rw c.in-Ok-false.field-0-test at c.in-Ok-false.ensures).1)

pub returns-in-Err-has_more : goal.returns-in-Err-has_more
returns-in-Err-has_more g c =
    let all : c.lines._count ≡ most_lines = omega (arith, c.lines-test.false, c.lines.auto._count-end) in
    asks_fail _ (g.R.Read.remaining c.lines.input) _ _ _ _ c.lines._count all c.lines.invariant
