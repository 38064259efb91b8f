use Rattle.std.proofs.Common.{◌∙◌, ℕ, List, inl, inr, refl, subst, sym}
use Rattle.std.proofs.lemmas.Bool.{false≢true}
use Rattle.rights_lattice.specs.EventName.{IsEventName}
use Rattle.site_desk.specs.Moments.{Shares}
use Rattle.operator_cli.specs.declared.outcome.Outcome.TheVariants.{Tells}
use Rattle.operator_cli.specs.declared.told.CommandReply.TheVariants.{Unknown}
use Rattle.operator_cli.specs.Commands.{SharesOf}
use Rattle.operator_cli.proofs.CommandLaws.{came_over}
use Rattle.operator_cli.proofs.shares.shares.Goals as goal

pub returns-in-Some : goal.returns-in-Some
returns-in-Some g c =
    let book = c.in-Ok.book in
    let named = subst (λ (name : List ℕ). Shares name c.shares-called.result book) (c.in-Some.ensures.same ∙ c.as_bytes.ensures.value)
    c.shares-called.ensures.shares in
    came_over g.S.Store c.args.conn c.close-in-Ok.result (SharesOf c.args.event.now) c.outcome_of_shares.result book book c.into_keeper-in-Ok.result
    c.into_keeper-in-Ok.ensures c.close-in-Ok.ensures c.in-Ok.ensures.opened
    (inr (c.shares-called.result, named, refl, c.outcome_of_shares.ensures))

pub returns-in_default : goal.returns-in_default
returns-in_default g c =
    let book = c.in-Ok.book in
    came_over g.S.Store c.args.conn c.close.result (SharesOf c.args.event.now) (Tells Unknown) book book c.into_keeper.result c.into_keeper.ensures
    c.close.ensures c.in-Ok.ensures.opened
    (inl ((λ named. absurd (false≢true (c.in_default.ensures.names.1 (subst IsEventName (sym c.as_bytes.ensures.value) named)))), refl, refl))

pub returns-in-Err : goal.returns-in-Err
returns-in-Err g c = inl (c.in-Err.fault, refl, c.in-Err.ensures.fault)
