use Rattle.std.proofs.Common.{refl}
use Rattle.operator_cli.specs.Script.{replies, script_of_lines}
use Rattle.operator_cli.specs.Ran.{StartRan, MayGoOn}
use Rattle.operator_cli.proofs.BreakLaws.{broke_here}
use Rattle.operator_cli.proofs.ScriptLaws.{at_err, line_broken, start_none, start_ran}
use Rattle.operator_cli.proofs.world.read_start.Goals as goal

pub returns-in_err-next_line-clause-ran : goal.returns-in_err-next_line-clause-ran
returns-in_err-next_line-clause-ran g c =
    let input = g.R.Read.remaining c.args.reader.now in
    let rest = g.R.Read.remaining c.next_line.new.reader in
    at_err c.from_residual.result (StartRan input rest) _ c.from_residual.ensures.1
    (λ f e. rw e (line_broken MayGoOn replies script_of_lines input rest c.next_line.new.line.items _ tt refl c.in_err-next_line.ensures))

pub returns-then-not-branch-clause-ran : goal.returns-then-not-branch-clause-ran
returns-then-not-branch-clause-ran g c =
    let given = rw c.if-not-branch.true at c.in_ok-next_line.ensures in
    start_none _ _ given

pub returns-clause-ran : goal.returns-clause-ran
returns-clause-ran g c =
    let given = rw c.if-not-branch.false at c.in_ok-next_line.ensures in
    let line = c.as_slice.ensures.value in
    let found = rw line at c.read_sites.ensures.found in
    let only = rw line at c.read_sites.ensures.only in
    let exact = rw line at c.read_sites.ensures.exact in
    start_ran _ _ c.next_line.new.line.items c.read_sites.result given.0 given.1 found only exact

pub returns-in_err-next_line-clause-reads : goal.returns-in_err-next_line-clause-reads
returns-in_err-next_line-clause-reads g c is out =
    broke_here 999999 replies (g.R.Read.remaining c.args.reader.now) (g.R.Read.remaining c.next_line.new.reader) out c.next_line.new.line.items _
    c.from_residual.result refl c.in_err-next_line.ensures c.from_residual.ensures.1 is
