use Rattle.std.proofs.Common.{refl, subst}
use Rattle.std.specs.Prelude.{IfErr}
use Rattle.operator_cli.specs.Faults.{IsOutFault}
use Rattle.operator_cli.specs.Ran.{SitesRan}
use Rattle.operator_cli.specs.Script.{replies_at}
use Rattle.operator_cli.proofs.BreakLaws.{broke_here, broke_sites, not_out_of}
use Rattle.operator_cli.proofs.ScriptLaws.{at_err, sites_unread, sites_second, sites_alone}
use Rattle.operator_cli.proofs.world.run_world.Goals as goal

pub returns-in_err-next_line-clause-ran : goal.returns-in_err-next_line-clause-ran
returns-in_err-next_line-clause-ran g c =
    at_err c.from_residual.result (SitesRan 999999 c.args.sites (g.R.Read.remaining c.args.reader.now) (g.W.Write.contents c.args.out.now)
    (g.W.Write.contents c.args.out.now)) _ c.from_residual.ensures.1
    (λ f e. rw e (sites_unread 999998 c.args.sites _ _ _ c.next_line.new.line.items _ c.in_err-next_line.ensures))

pub returns-then-branch-clause-ran : goal.returns-then-branch-clause-ran
returns-then-branch-clause-ran g c =
    let given = rw c.if-branch.true at c.in_ok-next_line.ensures in
    let ran = rw c.as_slice.ensures.value at c.run_second.ensures.ran in
    sites_second 999998 c.args.sites c.next_line.new.line.items _ _ _ _ c.run_second.result given.0 given.1 ran

pub returns-else-branch-clause-ran : goal.returns-else-branch-clause-ran
returns-else-branch-clause-ran g c =
    let given = rw c.if-branch.false at c.in_ok-next_line.ensures in
    sites_alone 999999 c.args.sites _ _ _ _ c.run_none.result given c.run_none.ensures.written
    (λ f e. subst (λ r. IfErr r IsOutFault) e c.run_none.ensures.fault)

pub returns-in_err-next_line-clause-reads : goal.returns-in_err-next_line-clause-reads
returns-in_err-next_line-clause-reads g c is =
    broke_here 999998 (replies_at c.args.sites) (g.R.Read.remaining c.args.reader.now) (g.R.Read.remaining c.next_line.new.reader)
    (g.W.Write.contents c.args.out.now) c.next_line.new.line.items _ c.from_residual.result refl c.in_err-next_line.ensures c.from_residual.ensures.1 is

pub returns-then-branch-clause-reads : goal.returns-then-branch-clause-reads
returns-then-branch-clause-reads g c is =
    let given = rw c.if-branch.true at c.in_ok-next_line.ensures in
    let broke = rw c.as_slice.ensures.value at (c.run_second.ensures.reads is) in
    broke_sites 999998 c.args.sites c.next_line.new.line.items _ _ _ _ _ given.0 given.1 broke

pub returns-else-branch-clause-reads : goal.returns-else-branch-clause-reads
returns-else-branch-clause-reads g c is = absurd (not_out_of c.run_none.result c.run_none.ensures.fault is)
