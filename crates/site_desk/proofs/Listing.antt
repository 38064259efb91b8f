-- The requests that name an event, entry by entry.
use Rattle.std.proofs.Common.{◌≡◌, ◌∙◌, ℕ, zero, suc, ◌+◌, ◌<◌, Bool, true, false, cond, List, [], ◌∷◌, ◌++◌, Option, Some, None, ap, arith, length, map, refl, take}
use Rattle.std.specs.Prelude.{filter, slice_get}
use Rattle.std.proofs.lemmas.List.{append-nil, map-append}
use Rattle.std.proofs.lemmas.List.Elements.{filter-append}
use Rattle.request_ledger.specs.declared.reply.Kept.{Kept}
use Rattle.book_core.specs.declared.entry.Entry.{Entry}
use Rattle.book_core.specs.declared.entry.Entry.TheVariants.{Asked, Joined, Grown}
use Rattle.book_core.specs.History.{asked, asked_from}
use Rattle.book_core.proofs.Kept.{asked-push}
use Rattle.history_keeper.specs.declared.lookup.Listed.{Listed}
use Rattle.history_keeper.specs.Lookups.{listed_in, listing, names_event}
use Rattle.site_desk.specs.Looks.{row_at, row_of, with_row}

-- what one entry more adds
pub listed_push : (h : List Entry) (entry : Entry) (event : List ℕ)
    → listed_in (h ++ entry ∷ []) event ≡ listed_in h event ++ map listing
    (filter (λ (a : ℕ × Kept). names_event event a.1.request) (asked_from (length h) (entry ∷ [])))
listed_push h entry event =
    let names : ℕ × Kept → Bool = λ a. names_event event a.1.request in
    ap (λ (asks : List (ℕ × Kept)). map listing (filter names asks)) (asked-push h entry)
    ∙ ap (map listing) (filter-append names (asked h) (asked_from (length h) (entry ∷ [])))
    ∙ map-append listing (filter names (asked h)) (filter names (asked_from (length h) (entry ∷ [])))

next_entry : (h : List Entry) (k : ℕ) (entry : Entry) → slice_get h k ≡ Some entry → take (suc k) h ≡ take k h ++ entry ∷ []
next_entry [] k entry is = cc
next_entry (x ∷ h) zero entry is = cc
next_entry (x ∷ h) (suc k) entry is = ap (λ ys. x ∷ ys) (next_entry h k entry is)

all_before : (h : List Entry) (k : ℕ) (entry : Entry) → slice_get h k ≡ Some entry → length (take k h) ≡ k
all_before [] k entry is = cc
all_before (x ∷ h) zero entry is = refl
all_before (x ∷ h) (suc k) entry is = ap suc (all_before h k entry is)

listed_entry : (h : List Entry) (k : ℕ) (entry : Entry) (event : List ℕ) → slice_get h k ≡ Some entry
    → listed_in (take (suc k) h) event ≡ listed_in (take k h) event ++ map listing
    (filter (λ (a : ℕ × Kept). names_event event a.1.request) (asked_from k (entry ∷ [])))
listed_entry h k entry event is =
    let names : ℕ × Kept → Bool = λ a. names_event event a.1.request in
    ap (λ (l : List Entry). listed_in l event) (next_entry h k entry is) ∙ listed_push (take k h) entry event
    ∙ ap (λ (n : ℕ). listed_in (take k h) event ++ map listing (filter names (asked_from n (entry ∷ [])))) (all_before h k entry is)

-- by cases on whether the request names the event
if_named : (xs : List Listed) (b : Bool) (a : ℕ × Kept) → xs ++ map listing (cond b (a ∷ []) []) ≡ with_row (cond b (Some (listing a)) None) xs
if_named xs true a = refl
if_named xs false a = append-nil xs

row_of_entry : (xs : List Listed) (k : ℕ) (entry : Entry) (event : List ℕ)
    → xs ++ map listing (filter (λ (a : ℕ × Kept). names_event event a.1.request) (asked_from k (entry ∷ []))) ≡ with_row (row_of k event (Some entry)) xs
row_of_entry xs k (Asked number request reply delta) event = if_named xs (names_event event request)
    (number, record { place = k; request = request; reply = reply })
row_of_entry xs k (Joined peer delta) event = append-nil xs
row_of_entry xs k (Grown sites) event = append-nil xs

in_range : (h : List Entry) (k : ℕ) → k < length h → slice_get h k ≡ None → ⊥
in_range [] k lt is = absurd (omega (arith, lt))
in_range (x ∷ h) zero lt is = cc
in_range (x ∷ h) (suc k) lt is = in_range h k (omega (arith, lt)) is

at_place : (h : List Entry) (k : ℕ) (event : List ℕ) (found : Option Entry) → k < length h → slice_get h k ≡ found
    → listed_in (take (suc k) h) event ≡ with_row (row_of k event found) (listed_in (take k h) event)
at_place h k event (Some entry) lt is = listed_entry h k entry event is ∙ row_of_entry (listed_in (take k h) event) k entry event
at_place h k event None lt is = absurd (in_range h k lt is)

-- what the next place adds to the list
pub listed_more : (h : List Entry) (k : ℕ) (event : List ℕ) → k < length h
    → listed_in (take (k + 1) h) event ≡ with_row (row_at h k event) (listed_in (take k h) event)
listed_more h k event lt =
    let next : k + 1 ≡ suc k = omega arith in
    ap (λ (n : ℕ). listed_in (take n h) event) next ∙ at_place h k event (slice_get h k) lt refl
