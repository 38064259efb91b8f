use Rattle.std.proofs.Common.{take}
use Rattle.mirrored_records.proofs.BringLemmas.{between_on, front_extends, on_err}
use Rattle.mirrored_records.proofs.opening.bring_up.Goals as goal

pub returns-in_err-bring_piece-clause-short : goal.returns-in_err-bring_piece-clause-short
returns-in_err-bring_piece-clause-short g c =
    on_err c.from_residual.result _
    (between_on g.K.Keeper c.args.keeper.now _ c.bring_piece.new.keeper (take c.args.count c.args.whole.now) (take c.loop-place.place c.args.whole.now)
    c.args.whole.now
    (front_extends c.args.count c.loop-place.place c.args.whole.now c.loop-place.invariant.0) c.loop-place.invariant.2 c.in_err-bring_piece.ensures.short)
