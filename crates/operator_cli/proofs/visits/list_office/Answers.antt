use Rattle.std.proofs.Common.{◌≡◌, inr, refl, subst, sym}
use Rattle.std.proofs.lemmas.Bool.{false≢true}
use Rattle.rights_lattice.specs.EventName.{IsEventName}
use Rattle.operator_cli.specs.declared.command_fault.CommandFault.{CommandFault}
use Rattle.operator_cli.specs.declared.command_fault.CommandFault.TheVariants as fault
use Rattle.operator_cli.specs.declared.told.CommandReply.TheVariants.{NotFound}
use Rattle.operator_cli.specs.Printed.{IsOfLooking, IsTellingOf}
use Rattle.operator_cli.proofs.EndLaws.{fails_for, for_write, told_lives}
use Rattle.operator_cli.proofs.PrintLaws.{ends_printed, told_printed}
use Rattle.operator_cli.proofs.VisitLaws.{fails_only}
use Rattle.operator_cli.proofs.visits.list_office.Goals as goal

pub returns-in_default : goal.returns-in_default
returns-in_default g c =
    let told = IsTellingOf IsOfLooking in
    let causes : CommandFault → Type 0 = λ cause. cause ≡ fault.Write in
    let before = g.W.Write.contents c.args.out.now in
    let mid = g.W.Write.contents c.tell-came.new.out in
    let after = g.W.Write.contents c.ended.new.out in
    let unnamed : IsEventName c.args.event.now
    → ⊥ = λ named. false≢true (c.in_default.ensures.names.1 (subst IsEventName (sym c.as_bytes.ensures.value) named)) in
    inr (
      unnamed,
      record {
        same = refl;
        printed =
            ends_printed told before mid after c.tell-came.result c.ended.result
            (told_printed told before mid c.tell-came.result NotFound (NotFound, tt, refl, refl) c.tell-came.ensures.written c.tell-came.ensures.status)
            c.ended.ensures.kept c.ended.ensures.status;
        told = c.ended.ensures.told;
        cause =
            fails_for causes (g.E.Write.contents c.args.err.now) (g.E.Write.contents c.ended.new.err) c.tell-came.result c.ended.result
            (for_write c.tell-came.result causes c.tell-came.ensures.fault refl) (fails_only c.tell-came.result)
            (told_lives c.tell-came.result NotFound c.tell-came.ensures.status) c.ended.ensures.line c.ended.ensures.flush;
      },
    )
