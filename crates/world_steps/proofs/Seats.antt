-- Where each seat of an event is: sums over the sites.
use Rattle.std.proofs.Common.{◌≡◌, inl, inr, ℕ, ◌+◌, ◌-◌, ◌≤◌, ◌<◌, Bool, true, false, cond, List, [], ◌∷◌, ◌++◌, refl, sym, ap, ◌∙◌, arith, eq-eqb, ne_eqb}
use Rattle.std.specs.Prelude.{◌==◌}
use Rattle.std.proofs.lemmas.Bool.{cases_lt, cases_eq}
use Rattle.rights_lattice.specs.declared.cell.Cell.{Cell}
use Rattle.rights_lattice.specs.declared.cell.Cell.TheVariants.{Gave, Used, Back}
use Rattle.rights_lattice.specs.Cells.{Cells, value_at, marks_of}
use Rattle.rights_lattice.specs.State.{At}
use Rattle.rights_lattice.specs.RightsView.{IsCellOf}
use Rattle.rights_lattice.specs.Sums.{max_sites, sum_below}
use Rattle.rights_lattice.proofs.CellLaws.{value_at-all_zero, greatest-marks_of}
use Rattle.rights_lattice.proofs.TableLaws.{of_more}
use Rattle.local_rights.specs.Rights as rights
use Rattle.local_rights.specs.Rights.{gained, spent}
use Rattle.local_rights.proofs.Sums.{sum_below-add, sum_below_same, sum_below_swap, sum_below_more}
use Rattle.book_core.specs.declared.entry.Entry.{Entry}
use Rattle.book_core.specs.History.{state_of, delta_of}
use Rattle.book_core.specs.Decision.{SiteConfig, Releasing, Selling, Refunding, Ceding, sites_of}
use Rattle.book_core.specs.Legal.{IsNext, IsLegal}
use Rattle.book_core.specs.Operations.{operations, total, sold, refunded, ceded}
use Rattle.book_core.proofs.BookLaws.{marks_within}
use Rattle.book_core.proofs.Histories.{at-push, legal_along, next_sites, sites_of-push}
use Rattle.book_core.proofs.Rows.{legal_rights, legal_cells}
use Rattle.world_steps.specs.World.{World, count, history_at, office_at, all_operations}
use Rattle.world_steps.specs.Promises.{SeatsAddUp}
use Rattle.world_steps.proofs.Balance.{total_below, ceded_below}
use Rattle.world_steps.proofs.FlatList.{ceded_all, ceded_self}
use Rattle.world_steps.proofs.Worlds.{Sound, sound_views}
use Rattle.world_steps.proofs.Reached.{no_history}

-- the cells that a history raises are of sites below the count so far, and so is the site itself
record IsOfSites (office : SiteConfig) (h : List Entry) : Type 0 where
  me : office.me < sites_of office h
  cells : (event : List ℕ) (cell : Cell) → 1 ≤ value_at (state_of h).cells event cell → IsCellOf (sites_of office h) cell

legal_of_sites : (office : SiteConfig) (h : List Entry) → office.me < office.sites → IsLegal office h → IsOfSites office h
legal_of_sites office h me legal =
    legal_along office (IsOfSites office) (record { me = me; cells = λ event cell some. absurd (omega (arith, some, value_at-all_zero event cell)) }) more
    h legal
  where
    more : (g : List Entry) (entry : Entry) → IsOfSites office g → IsNext office g entry → IsOfSites office (g ++ entry ∷ [])
    more g entry before next =
        let le : sites_of office g ≤ sites_of office (g ++ entry ∷ []) = omega (arith, next_sites office g entry next, sites_of-push office g entry) in
        record {
          me = omega (arith, before.me, le);
          cells = λ event cell some. of_more (sites_of office g) (sites_of office (g ++ entry ∷ [])) cell le (of_before g entry before next event cell some);
        }
      where
        of_before : (g : List Entry) (entry : Entry) → IsOfSites office g → IsNext office g entry
            → (event : List ℕ) (cell : Cell) → 1 ≤ value_at (state_of (g ++ entry ∷ [])).cells event cell → IsCellOf (sites_of office g) cell
        of_before g entry before next event cell some = elim (cases_lt 0 (value_at (state_of g).cells event cell)) [
          | inl l ↦ before.cells event cell (omega (arith, l))
          | inr l ↦ marks_within office g entry (marks_of (delta_of entry).cells) before.me next refl event cell
              (omega (arith, l, some, at-push g entry (At event cell), greatest-marks_of (delta_of entry).cells event cell))
        ]

pub legal_within : (office : SiteConfig) (h : List Entry) → office.me < office.sites → IsLegal office h
    → (event : List ℕ) (cell : Cell) → 1 ≤ value_at (state_of h).cells event cell → IsCellOf (sites_of office h) cell
legal_within office h me legal = (legal_of_sites office h me legal).cells

ceded_zero : (X : Cells) (event : List ℕ) (i j : ℕ) → value_at X event (Gave i j) ≡ 0 → rights.ceded_in X event i j ≡ 0
ceded_zero X event i j h = by_test (i == j)
  where
    by_test : (b : Bool) → cond b 0 (value_at X event (Gave i j)) ≡ 0
    by_test true = refl
    by_test false = h

-- Where each site's rights are what it created, took back and got less what it gave and used, what was created and
-- taken back is what was used, what is left, and what was given and not yet got.
seats_sum : (n : ℕ) (created back used sellable : ℕ → ℕ) (given got under : ℕ → ℕ → ℕ)
    → ((i : ℕ) → i < n → sellable i + (sum_below n (given i) + used i) ≡ created i + sum_below n (got i) + back i)
    → ((i j : ℕ) → i < n → j < n → under i j + got j i ≡ given i j)
    → sum_below n created + sum_below n back ≡ sum_below n used + sum_below n sellable + sum_below n (λ i. sum_below n (under i))
seats_sum n created back used sellable given got under each between =
    let all : sum_below n (λ i. sellable i + (sum_below n (given i) + used i)) ≡ sum_below n (λ i. created i + sum_below n (got i) + back i) =
    sum_below_same n _ _ each in
    let pairs : sum_below n (λ i. sum_below n (λ j. under i j + got j i)) ≡ sum_below n (λ i. sum_below n (given i)) =
    sum_below_same n _ _ (λ i l. sum_below_same n _ _ (λ j m. between i j l m)) in
    let split : sum_below n (λ i. sum_below n (λ j. under i j + got j i)) ≡ sum_below n (λ i. sum_below n (under i) + sum_below n (λ j. got j i)) =
    sum_below_same n _ _ (λ i l. sum_below-add n (under i) (λ j. got j i)) in
    omega (
      arith,
      all,
      pairs,
      split,
      sum_below-add n (λ i. sum_below n (under i)) (λ i. sum_below n (λ j. got j i)),
      sum_below_swap n n (λ i j. got j i),
      sum_below-add n sellable (λ i. sum_below n (given i) + used i),
      sum_below-add n (λ i. sum_below n (given i)) used,
      sum_below-add n (λ i. created i + sum_below n (got i)) back,
      sum_below-add n created (λ i. sum_below n (got i)),
    )

-- for an event, in a world whose sites have numbers
pub seats_add_up : (w : World) → Sound w → count w ≤ max_sites → (event : List ℕ) → refunded event (all_operations w) ≤ sold event (all_operations w)
    → SeatsAddUp w event
seats_add_up w sound few event within =
    let n = count w in
    let h : ℕ → List Entry = λ i. history_at w i in
    let view : ℕ → Cells = λ i. (state_of (h i)).cells in
    let sellable : ℕ → ℕ = λ i. gained (view i) event i - spent (view i) event i in
    let given : ℕ → ℕ → ℕ = λ i j. rights.ceded_in (view i) event i j in
    let got : ℕ → ℕ → ℕ = λ i j. rights.ceded_in (view i) event j i in
    let under : ℕ → ℕ → ℕ = λ i j. given i j - got j i in
    let learned : (i j : ℕ) → got j i ≤ given i j = λ i j. ceded_below (view j) (view i) event i j (sound_views w sound j event (Gave i j)) in
    let sum : sum_below n (λ i. value_at (view i) event (Gave i i)) + sum_below n (λ i. value_at (view i) event (Back i))
    ≡ sum_below n (λ i. value_at (view i) event (Used i)) + sum_below n sellable + sum_below n (λ i. sum_below n (under i)) =
    seats_sum n (λ i. value_at (view i) event (Gave i i)) (λ i. value_at (view i) event (Back i)) (λ i. value_at (view i) event (Used i)) sellable given
    got under
    (λ i l. omega (
      arith,
      legal_rights (office_at w i) (h i) (sound.legal i) event,
      sum_below_more n max_sites (given i) few (λ j m. ceded_zero (view i) event i j (no_gift i j l m)),
      sum_below_more n max_sites (got i) few (λ j m. ceded_zero (view i) event j i (no_giver i j m)),
    ))
    (λ i j l m. omega (arith, learned i j)) in
    record {
      outstanding = sold event (all_operations w) - refunded event (all_operations w);
      sellable = sellable;
      under_way = under;
      kept_sales = omega (arith, within);
      own_rights = λ i. omega (arith, legal_rights (office_at w i) (h i) (sound.legal i) event);
      not_learned = λ i j. omega (arith, learned i j, ceded_is i j);
      all_released = omega (
        arith,
        within,
        sum,
        total_below n h Releasing event (λ i. legal_cells (office_at w i) (h i) (sound.legal i) Releasing tt event),
        total_below n h Selling event (λ i. legal_cells (office_at w i) (h i) (sound.legal i) Selling tt event),
        total_below n h Refunding event (λ i. legal_cells (office_at w i) (h i) (sound.legal i) Refunding tt event),
      );
    }
  where
    -- nothing is given to a site that is not there
    no_gift : (i j : ℕ) → i < count w → count w ≤ j → value_at (state_of (history_at w i)).cells event (Gave i j) ≡ 0
    no_gift i j l m = elim (cases_lt 0 (value_at (state_of (history_at w i)).cells event (Gave i j))) [
      | inl some ↦ absurd (omega (
        arith,
        (legal_within (office_at w i) (history_at w i) (sound.own i l) (sound.legal i) event (Gave i j) (omega (arith, some))).1,
        sound.few i,
        m,
      ))
      | inr none ↦ omega (arith, none)
    ]

    -- nor by one
    no_giver : (i j : ℕ) → count w ≤ j → value_at (state_of (history_at w i)).cells event (Gave j i) ≡ 0
    no_giver i j m =
        omega (
          arith,
          sound_views w sound i event (Gave j i),
          ap (λ (g : List Entry). value_at (state_of g).cells event (Gave j i)) (no_history w j m),
          value_at-all_zero event (Gave j i),
        )

    -- what a site ceded by its own view is what it ceded by its operations
    ceded_is : (i j : ℕ) → rights.ceded_in (state_of (history_at w i)).cells event i j ≡ ceded i j event (all_operations w)
    ceded_is i j =
        by_case ∙ sym (ceded_all (count w) (history_at w) (no_history w) i j event)
      where
        by_case : rights.ceded_in (state_of (history_at w i)).cells event i j ≡ total (Ceding j) event (operations i (history_at w i))
        by_case = elim (cases_eq j i) [
          | inl e ↦ ap (λ b. cond b 0 (value_at (state_of (history_at w i)).cells event (Gave i j))) (eq-eqb i j (sym e))
              ∙ sym (ceded_self (office_at w i) (history_at w i) (sound.legal i) j e event)
          | inr ne ↦ ap (λ b. cond b 0 (value_at (state_of (history_at w i)).cells event (Gave i j))) (ne_eqb i j (λ e. ne (sym e)))
              ∙ legal_cells (office_at w i) (history_at w i) (sound.legal i) (Ceding j) ne event
        ]
