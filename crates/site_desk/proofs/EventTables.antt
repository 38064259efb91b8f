-- Where the cells are in a table, and a number of a table raised.
use Rattle.std.proofs.Common.{◌≡◌, ◌≢◌, ℕ, zero, suc, ◌+◌, ◌-◌, ◌*◌, ◌/◌, ◌%◌, ◌<◌, ltb, Bool, true, false, cond, List, length, set, get_or, replicate, refl, sym, ap, ◌∙◌, arith}
use Rattle.std.specs.Prelude.{max, ◌&&◌}
use Rattle.std.proofs.lemmas.Nat.{div-mul-add, mod-mul-add, mul-add-lt}
use Rattle.std.proofs.lemmas.Bool.{cond-false, cond-true, false_from_ne_true, le-ltb, lt-ltb}
use Rattle.std.proofs.lemmas.List.{get_or-set_same, get_or-set_other}
use Rattle.rights_lattice.specs.declared.cell.Cell.{Cell}
use Rattle.rights_lattice.specs.declared.cell.Cell.TheVariants.{Gave, Used, Back}
use Rattle.rights_lattice.specs.Cell.{same_cell, same_event}
use Rattle.rights_lattice.specs.Cells.{Valued, value_in}
use Rattle.rights_lattice.specs.Limits.{site_numbers}
use Rattle.rights_lattice.specs.RightsView.{IsCellOf}
use Rattle.rights_lattice.specs.Sums.{max_sites}
use Rattle.rights_lattice.proofs.SpotLaws.{same_cell_is, same_cell_self, same_event_is, same_event_self, value_in-tests}
use Rattle.site_desk.specs.EventCells.{offset_of, value_in_table}

pub none_at : (n place : ℕ) → ◌≡◌ {A = ℕ} (get_or (replicate n 0) place 0) 0
none_at zero place = refl
none_at (suc n) zero = refl
none_at (suc n) (suc place) = none_at n place

-- the count of numbers in a table
abbrev width_of : ℕ → ℕ
width_of n = n * n + 2 * n

-- the cell at a place of a table
abbrev cell_at : ℕ → ℕ → Cell
cell_at n o = cond (ltb o (n * n)) (Gave (o / n) (o % n)) (cond (ltb o (n * n + n)) (Used (o - n * n)) (Back (o - n * n - n)))

gave_lt : (n i j : ℕ) → i < n → j < n → i * n + j < n * n
gave_lt n i j p q = mul-add-lt i n j n p q

offset_lt : (n : ℕ) (c : Cell) → IsCellOf n c → offset_of n c < width_of n
offset_lt n (Gave i j) w = omega (arith, gave_lt n i j w.0 w.1)
offset_lt n (Used i) w = omega (arith, w)
offset_lt n (Back i) w = omega (arith, w)

cell_at-offset_of : (n : ℕ) (c : Cell) → IsCellOf n c → cell_at n (offset_of n c) ≡ c
cell_at-offset_of n (Gave i j) w =
    cond-true _ _ _ (lt-ltb (i * n + j) (n * n) (gave_lt n i j w.0 w.1)) ∙ (λ k. Gave (div-mul-add i n j w.1 k) (mod-mul-add i n j w.1 k))
cell_at-offset_of n (Used i) w =
    let same : n * n + i - n * n ≡ i = omega arith in
    cond-false _ _ _ (le-ltb (n * n + i) (n * n) (omega arith)) ∙ cond-true _ _ _ (lt-ltb (n * n + i) (n * n + n) (omega (arith, w))) ∙ ap Used same
cell_at-offset_of n (Back i) w =
    let same : n * n + n + i - n * n - n ≡ i = omega arith in
    cond-false _ _ _ (le-ltb (n * n + n + i) (n * n) (omega arith)) ∙ cond-false _ _ _ (le-ltb (n * n + n + i) (n * n + n) (omega arith)) ∙ ap Back same

pub few_numbers : width_of max_sites ≡ 4224
unfolding max_sites
few_numbers = refl

same_place : (c d : Cell) → IsCellOf max_sites c → IsCellOf max_sites d → offset_of max_sites c ≡ offset_of max_sites d → c ≡ d
same_place c d p q e = sym (cell_at-offset_of max_sites c p) ∙ ap (cell_at max_sites) e ∙ cell_at-offset_of max_sites d q

-- the cell that is raised, and every other
pub raised : (table now : List ℕ) (place value : ℕ) (cell other : Cell) → length table ≡ 4224 → place ≡ offset_of max_sites cell
    → now ≡ set table place (max (get_or table place 0) value)
    → IsCellOf max_sites cell → IsCellOf max_sites other → value_in_table now other ≡ max (value_in_table table other) (cond (same_cell other cell) value 0)
raised table now place value cell other len at is p q =
    elim (same_cell other cell) as (λ b. same_cell other cell ≡ b → value_in_table now other ≡ max (value_in_table table other) (cond b value 0)) [
      | true ↦ λ t.
          let here : place ≡ offset_of max_sites other = at ∙ ap (offset_of max_sites) (sym (same_cell_is other cell t)) in
          let lt : place < length table = omega (arith, len, few_numbers, offset_lt max_sites cell p, at) in
          ap (λ l. get_or l (offset_of max_sites other) 0) is
          ∙ ap (λ k. get_or (set table place (max (get_or table place 0) value)) k 0) (sym here)
          ∙ get_or-set_same table place (max (get_or table place 0) value) 0 lt
          ∙ ap (λ k. max (get_or table k 0) value) here
      | false ↦ λ f.
          let apart : offset_of max_sites other ≢ place = λ e. differ other cell f (same_place other cell q p (e ∙ at)) in
          ap (λ l. get_or l (offset_of max_sites other) 0) is
          ∙ get_or-set_other table place (offset_of max_sites other) (max (get_or table place 0) value) 0 apart
          ∙ at_zero (value_in_table table other)
    ] refl
  where
    differ : (c d : Cell) → same_cell c d ≡ false → c ≢ d
    differ c d f e = let t : same_cell c d ≡ true = ap (same_cell c) (sym e) ∙ same_cell_self c in cc

    at_zero : (n : ℕ) → n ≡ max n 0
    at_zero n = omega arith

-- what a mark of the event says of a cell, and what a mark of another event says
here : (m : Valued) (event : List ℕ) (cell : Cell) → m.event ≡ event → value_in m event cell ≡ cond (same_cell cell m.cell) m.value 0
here m event cell is = value_in-tests m event cell ∙ ap (λ b. cond (b && same_cell cell m.cell) m.value 0) (ap (same_event event) is ∙ same_event_self event)

pub elsewhere : (m : Valued) (event : List ℕ) (cell : Cell) → m.event ≢ event → value_in m event cell ≡ 0
elsewhere m event cell apart =
    value_in-tests m event cell ∙ ap (λ b. cond (b && same_cell cell m.cell) m.value 0)
    (false_from_ne_true (same_event event m.event) (λ t. apart (sym (same_event_is event m.event t))))

pub all_sites : (n : ℕ) → n ≡ site_numbers → n ≡ max_sites
unfolding max_sites
all_sites n is = is

-- what a mark that is raised says
pub said : (m : Valued) (event : List ℕ) (cell d : Cell) (value : ℕ) → d ≡ m.cell → value ≡ m.value → m.event ≡ event
    → cond (same_cell cell d) value 0 ≡ value_in m event cell
said m event cell d value p q is = (λ i. cond (same_cell cell (p i)) (q i) 0) ∙ sym (here m event cell is)

pub other_name : (event name : List ℕ) (b : Bool) → b ≡ same_event name event → b ≡ false → name ≢ event
other_name event name b is f e = let t : same_event name event ≡ true = ap (λ n. same_event n event) e ∙ same_event_self event in cc
