-- What the first entries of a history say of one event, an entry at a time.
use Rattle.std.proofs.Common.{All, ◌≡◌, ℕ, zero, suc, ◌+◌, ◌≤◌, ◌<◌, Bool, true, ◌||◌, List, [], ◌∷◌, ◌++◌, length, take, get_or, Some, None, slice_get, subst, sym, ap, ◌∙◌, arith}
use Rattle.std.specs.Prelude.{max, IsTrue, ◌↔◌, ◌==◌}
use Rattle.std.specs.List.{list_any}
use Rattle.std.proofs.lemmas.List.{take_all, take_more}
use Rattle.std.proofs.lemmas.List.Elements.{All-more}
use Rattle.std.proofs.lemmas.Bool.Decides.{nat_tests}
use Rattle.std.proofs.lemmas.Option.{get_or_from_slice_get, slice_get_within}
use Rattle.rights_lattice.specs.declared.cell.Cell.{Cell}
use Rattle.rights_lattice.specs.Cell.{same_event}
use Rattle.rights_lattice.specs.Cells.{Valued, value_at, greatest, marks_of}
use Rattle.rights_lattice.specs.RightsView.{IsCellOf}
use Rattle.rights_lattice.specs.State.{State, At, knows, names_in_order}
use Rattle.rights_lattice.specs.Sums.{max_sites}
use Rattle.rights_lattice.proofs.CellLaws.{greatest-marks_of}
use Rattle.rights_lattice.proofs.StateLaws.{any_in_order, contains-union}
use Rattle.request_ledger.specs.declared.reply.Reply.{Reply}
use Rattle.request_ledger.specs.declared.request.Request.{Request}
use Rattle.book_core.specs.declared.entry.Entry.{Entry}
use Rattle.book_core.specs.declared.entry.Entry.TheVariants.{Asked}
use Rattle.book_core.specs.History.{delta_of, state_of}
use Rattle.book_core.proofs.Histories.{state_of-push, at-push}
use Rattle.site_desk.specs.EventCells.{value_in_table, Shows}
use Rattle.site_desk.specs.declared.receipt.Receipt.{Receipt}
use Rattle.site_desk.specs.Finish.{StandsIn}

-- a place of a list is not empty
pub not_none : {X : Type 0} (xs : List X) (k : ℕ) → k < length xs → slice_get xs k ≡ None → ⊥
not_none [] k lt none = omega (arith, lt)
not_none (y ∷ ys) zero lt none = cc
not_none (y ∷ ys) (suc k) lt none = not_none ys k (omega (arith, lt)) none

-- one element more of which the fact holds
pub all_more : {X : Type 0} (P : X → Type 0) (xs : List X) (n : ℕ) (x : X) → All P (take n xs) → n < length xs → x ≡ get_or xs n x → P x
    → All P (take (n + 1) xs)
all_more P xs n x before lt is holds = All-more P xs n x lt before (subst P is holds)

-- all elements, once there is none left
pub all_of : {X : Type 0} (P : X → Type 0) (xs : List X) (n : ℕ) → length xs ≤ n → All P (take n xs) → All P xs
all_of P xs n le holds = subst (All P) (take_all n xs le) holds

take_next : {X : Type 0} (xs : List X) (k : ℕ) (x : X) → slice_get xs k ≡ Some x → take (k + 1) xs ≡ take k xs ++ x ∷ []
take_next xs k x is = take_more xs k x (slice_get_within xs k x is) ∙ ap (λ y. take k xs ++ y ∷ []) (get_or_from_slice_get xs k x x is)

-- one entry more raises the cells to its marks
pub shows_more : (h : List Entry) (k : ℕ) (entry : Entry) (marks : List Valued) (old new event : List ℕ) → slice_get h k ≡ Some entry
    → marks ≡ marks_of (delta_of entry).cells
    → Shows old (state_of (take k h)).cells event
    → ((cell : Cell) → IsCellOf max_sites cell → value_in_table new cell ≡ max (value_in_table old cell) (greatest marks event cell))
    → Shows new (state_of (take (k + 1) h)).cells event
shows_more h k entry marks old new event is all before raised cell of =
    raised cell of
    ∙ (λ i. max (before cell of i) ((ap (λ ms. greatest ms event cell) all ∙ greatest-marks_of (delta_of entry).cells event cell) i))
    ∙ sym (at-push (take k h) entry (At event cell))
    ∙ ap (λ (g : List Entry). value_at (state_of g).cells event cell) (sym (take_next h k entry is))

-- one entry more names what it and those before it name
pub knows_more : (h : List Entry) (k : ℕ) (entry : Entry) (event : List ℕ) → slice_get h k ≡ Some entry
    → knows (state_of (take (k + 1) h)).names event ≡ (knows (state_of (take k h)).names event || knows (delta_of entry).names event)
knows_more h k entry event is =
    ap (λ (g : List Entry). knows (state_of g).names event) (take_next h k entry is)
    ∙ ap (λ (s : State). knows s.names event) (state_of-push (take k h) entry)
    ∙ contains-union (state_of (take k h)).names (delta_of entry).names event

-- a look through the names of an entry's delta
pub any_of : (found : Bool) (names : List (List ℕ)) (delta : State) (entry : Entry) (event : List ℕ) → found ≡ list_any (same_event event) names
    → names ≡ names_in_order delta.names → delta ≡ delta_of entry
    → found ≡ knows (delta_of entry).names event
any_of found names delta entry event is all of =
    is ∙ ap (list_any (same_event event)) all ∙ any_in_order event delta.names ∙ ap (λ (d : State). knows d.names event) of

pub same_number : (a b : ℕ) (same : Bool) → same ≡ (a == b) → same ≡ true → a ≡ b
same_number a b same is t = let e : (a == b) ≡ true = sym is ∙ t in grind (arith, nat_tests)

-- the entry at the receipt's place has its number and its request, and what is left to compare are the replies
pub stands : (h : List Entry) (r : Receipt) (number : ℕ) (request : Request) (reply : Reply) (delta : State) (same : Bool)
    → slice_get h r.place ≡ Some (Asked number request reply delta)
    → number ≡ r.number → request ≡ r.request → (IsTrue same ↔ (reply ≡ r.reply)) → IsTrue same ↔ StandsIn h r
stands h r number request reply delta same at p q both = (
  (λ t. (delta, at ∙ (λ i. Some (Asked (p i) (q i) (both.0 t i) delta)))),
  (λ s. let found : Some (Asked number request reply delta) ≡ Some (Asked r.number r.request r.reply s.0) = sym at
      ∙ s.1 in let u : reply ≡ r.reply = cc in both.1 u),
)
