-- The sums over the flat list of all operations, from the sites' own cells.
use Rattle.std.proofs.Common.{◌≡◌, ℕ, suc, ◌+◌, ◌*◌, ◌≤◌, ◌<◌, List, refl, sym, ap, ◌∙◌, arith}
use Rattle.rights_lattice.specs.declared.cell.Cell.{Cell}
use Rattle.rights_lattice.specs.declared.cell.Cell.TheVariants.{Gave, Used, Back}
use Rattle.rights_lattice.specs.Cells.{value_at, greatest_value}
use Rattle.rights_lattice.specs.Limits.{site_numbers}
use Rattle.rights_lattice.specs.Sums.{max_sites, sum_below}
use Rattle.local_rights.specs.declared.seat_totals.Totals.{Totals}
use Rattle.book_core.specs.declared.entry.Entry.{Entry}
use Rattle.book_core.specs.History.{state_of}
use Rattle.book_core.specs.Decision.{Kind, Releasing, Selling, Refunding, cell_of}
use Rattle.book_core.specs.Legal.{IsLegal}
use Rattle.book_core.specs.Operations.{operations_below, total}
use Rattle.book_core.specs.BookView.{BookView}
use Rattle.book_core.proofs.Rows.{IsProper, legal_cells}
use Rattle.world_steps.specs.World.{totals_below}
use Rattle.world_steps.specs.Reaching.{AreAtMost, with_own}
use Rattle.world_steps.proofs.Balance.{office_numbered, total_below}

-- a site's own cell
abbrev pub own_cell : (ℕ → List Entry) → List ℕ → (ℕ → Cell) → ℕ → ℕ
own_cell h event cell i = value_at (state_of (h i)).cells event (cell i)

-- the own cells of the first n sites
abbrev pub own_sum : ℕ → (ℕ → List Entry) → List ℕ → (ℕ → Cell) → ℕ
own_sum n h event cell = sum_below n (own_cell h event cell)

-- the sums are those of the first n sites' own cells
pub record AreOwn (n : ℕ) (h : ℕ → List Entry) (event : List ℕ) (totals : Totals) : Type 0 where
  pub released : totals.released ≡ own_sum n h event (λ i. Gave i i)
  pub sold : totals.sold ≡ own_sum n h event Used
  pub refunded : totals.refunded ≡ own_sum n h event Back

sum_more : (n : ℕ) (f : ℕ → ℕ) → sum_below (n + 1) f ≡ sum_below n f + f n
sum_more n f = ap (λ k. sum_below k f) (let e : n + 1 ≡ suc n = omega arith in e)

-- one more site's own cell
own_more : (h : ℕ → List Entry) (event : List ℕ) (cell : ℕ → Cell) (i me : ℕ) (history : List Entry) (sum : ℕ) → me ≡ i → h i ≡ history
    → sum ≡ own_sum i h event cell → sum + value_at (state_of history).cells event (cell me) ≡ own_sum (i + 1) h event cell
own_more h event cell i me history sum here is so_far =
    let at : value_at (state_of history).cells event (cell me) ≡ own_cell h event cell i =
    ap (λ j. value_at (state_of history).cells event (cell j)) here
    ∙ ap (λ (g : List Entry). value_at (state_of g).cells event (cell i)) (sym is) in
    omega (arith, at, so_far, sum_more i (own_cell h event cell))

-- one more book's own cells
pub own_all_more : (h : ℕ → List Entry) (event : List ℕ) (i : ℕ) (book : BookView) (totals : Totals) → book.office.me ≡ i → h i ≡ book.history
    → AreOwn i h event totals → AreOwn (i + 1) h event (with_own totals book event)
own_all_more h event i book totals here is before =
    record {
      released = own_more h event (λ j. Gave j j) i book.office.me book.history totals.released here is before.released;
      sold = own_more h event Used i book.office.me book.history totals.sold here is before.sold;
      refunded = own_more h event Back i book.office.me book.history totals.refunded here is before.refunded;
    }

-- sums of own cells stay small
pub own_fits : (i n : ℕ) (totals : Totals) → i < n → n ≤ max_sites → AreAtMost (greatest_value * i) totals → AreAtMost (greatest_value * site_numbers) totals
unfolding max_sites
own_fits i n totals l few at_most =
    record { released = omega (arith, at_most.released); sold = omega (arith, at_most.sold); refunded = omega (arith, at_most.refunded) }

-- one more cell's worth
pub one_more : (i : ℕ) (totals : Totals) → AreAtMost (greatest_value * i + greatest_value) totals → AreAtMost (greatest_value * (i + 1)) totals
one_more i totals at_most =
    record { released = omega (arith, at_most.released); sold = omega (arith, at_most.sold); refunded = omega (arith, at_most.refunded) }

-- no site's own cells
pub own_none : (h : ℕ → List Entry) (event : List ℕ) → AreOwn 0 h event (record { released = 0; sold = 0; refunded = 0 })
own_none h event = record { released = refl; sold = refl; refunded = refl }

-- the sums of all own cells are those over the flat list
pub own_totals : (n i : ℕ) (h : ℕ → List Entry) (sites limit : ℕ → ℕ) (event : List ℕ) (totals : Totals)
    → ((k : ℕ) → IsLegal (office_numbered k (sites k) (limit k)) (h k))
    → i ≡ n → AreOwn i h event totals → totals ≡ totals_below n h event
own_totals n i h sites limit event totals legal all own =
    λ k. record {
      released = whole Releasing (λ _. tt) totals.released own.released k;
      sold = whole Selling (λ _. tt) totals.sold own.sold k;
      refunded = whole Refunding (λ _. tt) totals.refunded own.refunded k;
    }
  where
    whole : (kind : Kind) → ((k : ℕ) → IsProper k kind) → (sum : ℕ) → sum ≡ own_sum i h event (λ k. cell_of k kind)
        → sum ≡ total kind event (operations_below n h)
    whole kind proper sum is =
        is ∙ ap (λ m. own_sum m h event (λ k. cell_of k kind)) all
        ∙ sym (total_below n h kind event (λ k. legal_cells (office_numbered k (sites k) (limit k)) (h k) (legal k) kind (proper k) event))
