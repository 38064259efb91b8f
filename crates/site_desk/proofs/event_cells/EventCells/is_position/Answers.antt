use Rattle.std.proofs.Common.{◌≡◌, ◌<◌, ℕ, refl, sym, ap, ◌∙◌, arith}
use Rattle.std.specs.Prelude.{nat_le}
use Rattle.std.proofs.lemmas.Bool.{lt-leb}
use Rattle.rights_lattice.specs.Limits.{site_numbers}
use Rattle.rights_lattice.specs.Sums.{max_sites}
use Rattle.local_rights.specs.OpenSeats.{all_below}
use Rattle.local_rights.specs.Rights.{gained, spent}
use Rattle.local_rights.proofs.PositionLaws.{not_all}
use Rattle.site_desk.proofs.EventTables.{all_sites}
use Rattle.site_desk.proofs.event_cells.EventCells.is_position.Goals as goal

pub returns-then-spent-gained : goal.returns-then-spent-gained
returns-then-spent-gained c = λ X event shows.
    let n = c.loop-number.number in
    let sides = c.gained_and_spent-gained in
    let below : n < max_sites = omega (arith, c.loop-number-test.true, all_sites site_numbers refl) in
    let more : gained X event n < spent X event n = omega (
      arith,
      c.if-spent-gained.true,
      sides.ensures.gained X event shows,
      sides.ensures.spent X event shows,
      ap (gained X event) c.site.ensures,
      ap (spent X event) c.site.ensures,
    ) in
    sym (not_all max_sites (λ i. nat_le (spent X event i) (gained X event i)) n below (lt-leb (spent X event n) (gained X event n) more))

pub returns : goal.returns
returns c = λ X event shows.
    let all : c.loop-number.number ≡ max_sites = all_sites c.loop-number.number (omega (arith, c.loop-number.auto.number-end, c.loop-number-test.false)) in
    sym (ap (λ (n : ℕ). all_below n (λ i. nat_le (spent X event i) (gained X event i))) (sym all) ∙ c.loop-number.invariant X event shows)
