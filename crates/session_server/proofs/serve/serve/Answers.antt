use Rattle.std.proofs.Common.{ap, length, refl}
use Rattle.site_desk.specs.SiteView.{SiteInStep}
use Rattle.session_server.specs.SeatStep.{told_at}
use Rattle.session_server.proofs.Rows.{same_visit}
use Rattle.session_server.proofs.Seats.{of_desk, served_by, talked_parts, talked_share}
use Rattle.session_server.proofs.serve.serve.Goals as goal

pub invariant_of-result : goal.invariant_of-result
invariant_of-result g c =
    record {
      served = ∣ served_by (length g.L.Opens.began) _ _ _ _ _ _ _ _ _ _ _
          (of_desk (told_at g.L.Opens.office g.L.Opens.began g.K.Keeper.failed (SiteInStep g.K.Keeper)) (length g.L.Opens.began) _ _ _ _ _ _
          c.talk-ended.ensures) c.new-at.ensures
          (ap g.R.Read.remaining c.of-reader_began.ensures) (ap g.W.Write.contents c.of-writer_began.ensures) c.into_parts-seat.ensures.receipts
          c.into_parts-seat.ensures.looks ∣₁;
    }

pub returns-clause-parts : goal.returns-clause-parts
returns-clause-parts g c =
    talked_parts (length g.L.Opens.began) _ _ _ _ _ _ _ _
    (of_desk (told_at g.L.Opens.office g.L.Opens.began g.K.Keeper.failed (SiteInStep g.K.Keeper)) (length g.L.Opens.began) _ _ _ _ _ _
    c.talk-ended.ensures) c.new-at.ensures c.into_parts-seat.ensures.seat

pub returns-clause-share : goal.returns-clause-share
returns-clause-share g c =
    talked_share (length g.L.Opens.began) _ _ _ _ _ _ _ _ _
    (of_desk (told_at g.L.Opens.office g.L.Opens.began g.K.Keeper.failed (SiteInStep g.K.Keeper)) (length g.L.Opens.began) _ _ _ _ _ _
    c.talk-ended.ensures) c.new-at.ensures c.into_parts-seat.ensures.seat c.into_parts-seat.ensures.receipts

pub returns-clause-visit : goal.returns-clause-visit
returns-clause-visit g c = same_visit refl c.of-reader_began.ensures c.of-writer_began.ensures
