use Rattle.std.proofs.Common.{ap}
use Rattle.live_office.specs.Admissible.{admissible}
use Rattle.live_office.proofs.Handled.{served_by}
use Rattle.live_office.proofs.serving.serve.Goals as goal

pub invariant_of-result : goal.invariant_of-result
invariant_of-result g c =
    record {
      served = ∣ served_by (admissible g.L.Opens.office g.L.Opens.began g.K.Keeper) _ _ _ _ _ _ _ _ c.answer-ended.ensures.served
          (ap g.R.Read.remaining c.of-reader_began.ensures) (ap g.W.Write.contents c.of-writer_began.ensures) ∣₁;
    }
