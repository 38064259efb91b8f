-- The flat list of all accepted requests: no two have the same site and place, and each site's share of it.
use Rattle.std.proofs.Common.{◌≡◌, ◌≢◌, ◌⊎◌, inl, inr, ℕ, zero, suc, ◌+◌, ◌≤◌, ◌<◌, Bool, true, false, cond, ◌&&◌, List, [], ◌∷◌, ◌++◌, Option, Some, None, refl, sym, ap, ◌∙◌, subst, arith, length, length-append, eq-eqb, ne_eqb, append-nil}
use Rattle.std.specs.Prelude.{slice_get, ◌==◌}
use Rattle.std.proofs.lemmas.Bool.{cases_lt, cases_eq}
use Rattle.std.proofs.lemmas.List.Sums.{sum_by-append, sum_by-cons}
use Rattle.rights_lattice.specs.Cell.{same_event}
use Rattle.rights_lattice.specs.Cells.{Cells}
use Rattle.request_ledger.specs.Requests.{is_done}
use Rattle.book_core.specs.declared.entry.Entry.{Entry}
use Rattle.book_core.specs.declared.entry.Entry.TheVariants.{Asked, Joined, Grown}
use Rattle.book_core.specs.History.{state_of}
use Rattle.book_core.specs.Decision.{SiteConfig, Kind, Releasing, Selling, Refunding, Ceding, Change, change_of}
use Rattle.book_core.specs.Legal.{IsNext, IsLegal}
use Rattle.book_core.specs.Operations.{Operation, operation_if, operation_of, operations_from, operations, operations_below, counted, total, ceded_by, ceded, AreDistinct, same_kind}
use Rattle.book_core.proofs.Histories.{operations_push, legal_along}
use Rattle.book_core.proofs.Rows.{Allowed, IsAllowed, accepted, asked_allowed, asked_total, share, miss}

-- ---- the site and the place of an operation

-- it is of this site, at this place or after it
record IsOf (me from : ℕ) (o : Operation) : Type 0 where
  site : o.site ≡ me
  place : from ≤ o.place

-- an element of two lists, one behind the other
pub get_append : {A : Type 0} (xs ys : List A) (k : ℕ) (a : A) → slice_get (xs ++ ys) k ≡ Some a
    → ((k < length xs) × (slice_get xs k ≡ Some a)) ⊎ ((j : ℕ) × (k ≡ length xs + j) × (slice_get ys j ≡ Some a))
get_append [] ys k a found = inr (k, omega arith, found)
get_append (x ∷ xs) ys zero a found = inl (omega arith, found)
get_append (x ∷ xs) ys (suc k) a found = elim (get_append xs ys k a found) [
  | inl p ↦ inl (omega (arith, p.0), p.1)
  | inr p ↦ inr (p.0, omega (arith, p.1), p.2)
]

-- an entry's operation stands at the entry's place, and is alone
of_if : (me place : ℕ) (o : Option Change) (k : ℕ) (x : Operation) → slice_get (operation_if me place o) k ≡ Some x
    → (k ≡ 0) × (x.site ≡ me) × (x.place ≡ place)
of_if me place None k x found = cc
of_if me place (Some c) zero x found =
    let same : record { site = me; place = place; kind = c.kind; event = c.event; amount = c.amount } ≡ x = cc in
    (refl, sym (ap (λ (y : Operation). y.site) same), sym (ap (λ (y : Operation). y.place) same))
of_if me place (Some c) (suc k) x found = cc

of_entry : (me : ℕ) (before : List Entry) (entry : Entry) (k : ℕ) (x : Operation) → slice_get (operation_of me before entry) k ≡ Some x
    → (k ≡ 0) × (x.site ≡ me) × (x.place ≡ length before)
of_entry me before (Joined peer delta) k x found = cc
of_entry me before (Grown sites) k x found = cc
of_entry me before (Asked number request reply delta) k x found = by_test (is_done reply) found
  where
    by_test : (b : Bool) → slice_get (cond b (operation_if me (length before) (change_of before request)) []) k ≡ Some x
        → (k ≡ 0) × (x.site ≡ me) × (x.place ≡ length before)
    by_test true here = of_if me (length before) (change_of before request) k x here
    by_test false here = cc

of_history : (me : ℕ) (before h : List Entry) (k : ℕ) (x : Operation) → slice_get (operations_from me before h) k ≡ Some x → IsOf me (length before) x
of_history me before [] k x found = cc
of_history me before (entry ∷ h) k x found = elim (get_append (operation_of me before entry) (operations_from me (before ++ entry ∷ []) h) k x found) [
  | inl p ↦ (
      let here = of_entry me before entry k x p.1 in
      record { site = here.1; place = omega (arith, here.2) }
      )
  | inr p ↦ (
      let more = of_history me (before ++ entry ∷ []) h p.0 x p.2 in
      record { site = more.site; place = omega (arith, more.place, length-append before (entry ∷ [])) }
      )
]

distinct_history : (me : ℕ) (before h : List Entry) (k l : ℕ) (x y : Operation) → slice_get (operations_from me before h) k ≡ Some x
    → slice_get (operations_from me before h) l ≡ Some y → x.place ≡ y.place → k ≡ l
distinct_history me before [] k l x y found also same = cc
distinct_history me before (entry ∷ h) k l x y found also same =
    both (λ i j here there. distinct_history me (before ++ entry ∷ []) h i j x y here there same)
    (get_append (operation_of me before entry) (operations_from me (before ++ entry ∷ []) h) k x found)
    (get_append (operation_of me before entry) (operations_from me (before ++ entry ∷ []) h) l y also)
  where
    here : (m : ℕ) (z : Operation) → slice_get (operation_of me before entry) m ≡ Some z → (m ≡ 0) × (z.place ≡ length before)
    here m z at = let one = of_entry me before entry m z at in (one.0, one.2)

    later : (m : ℕ) (z : Operation) → slice_get (operations_from me (before ++ entry ∷ []) h) m ≡ Some z → length before < z.place
    later m z at = let more = of_history me (before ++ entry ∷ []) h m z at in omega (arith, more.place, length-append before (entry ∷ []))

    both : ((i j : ℕ) → slice_get (operations_from me (before ++ entry ∷ []) h) i ≡ Some x
        → slice_get (operations_from me (before ++ entry ∷ []) h) j ≡ Some y → i ≡ j)
        → ((k < length (operation_of me before entry)) × (slice_get (operation_of me before entry) k ≡ Some x))
        ⊎ ((j : ℕ) × (k ≡ length (operation_of me before entry) + j) × (slice_get (operations_from me (before ++ entry ∷ []) h) j ≡ Some x))
        → ((l < length (operation_of me before entry)) × (slice_get (operation_of me before entry) l ≡ Some y))
        ⊎ ((j : ℕ) × (l ≡ length (operation_of me before entry) + j) × (slice_get (operations_from me (before ++ entry ∷ []) h) j ≡ Some y))
        → k ≡ l
    both rest (inl p) (inl q) = omega (arith, (here k x p.1).0, (here l y q.1).0)
    both rest (inl p) (inr q) = absurd (omega (arith, (here k x p.1).1, later q.0 y q.2, same))
    both rest (inr p) (inl q) = absurd (omega (arith, (here l y q.1).1, later p.0 x p.2, same))
    both rest (inr p) (inr q) = omega (arith, p.1, q.1, rest p.0 q.0 p.2 q.2)

of_below : (n : ℕ) (h : ℕ → List Entry) (k : ℕ) (x : Operation) → slice_get (operations_below n h) k ≡ Some x → x.site < n
of_below zero h k x found = cc
of_below (suc n) h k x found = elim (get_append (operations_below n h) (operations n (h n)) k x found) [
  | inl p ↦ omega (arith, of_below n h k x p.1)
  | inr p ↦ omega (arith, (of_history n [] (h n) p.0 x p.2).site)
]

-- no two of the flat list have the same site and place
pub distinct_below : (n : ℕ) (h : ℕ → List Entry) → AreDistinct (operations_below n h)
distinct_below zero h k l x y found also site place = cc
distinct_below (suc n) h k l x y found also site place =
    both (λ i j here there. distinct_below n h i j x y here there site place) (get_append (operations_below n h) (operations n (h n)) k x found)
    (get_append (operations_below n h) (operations n (h n)) l y also)
  where
    both : ((i j : ℕ) → slice_get (operations_below n h) i ≡ Some x → slice_get (operations_below n h) j ≡ Some y → i ≡ j)
        → ((k < length (operations_below n h)) × (slice_get (operations_below n h) k ≡ Some x))
        ⊎ ((j : ℕ) × (k ≡ length (operations_below n h) + j) × (slice_get (operations n (h n)) j ≡ Some x))
        → ((l < length (operations_below n h)) × (slice_get (operations_below n h) l ≡ Some y))
        ⊎ ((j : ℕ) × (l ≡ length (operations_below n h) + j) × (slice_get (operations n (h n)) j ≡ Some y))
        → k ≡ l
    both rest (inl p) (inl q) = rest k l p.1 q.1
    both rest (inl p) (inr q) = absurd (omega (arith, of_below n h k x p.1, (of_history n [] (h n) q.0 y q.2).site, site))
    both rest (inr p) (inl q) = absurd (omega (arith, of_below n h l y q.1, (of_history n [] (h n) p.0 x p.2).site, site))
    both rest (inr p) (inr q) = omega (arith, p.1, q.1, distinct_history n [] (h n) p.0 q.0 x y p.2 q.2 place)

-- ---- what a site ceded

ceded_here : (me j : ℕ) (event : List ℕ) (os : List Operation) → ((k : ℕ) (x : Operation) → slice_get os k ≡ Some x → x.site ≡ me)
    → ceded me j event os ≡ total (Ceding j) event os
ceded_here me j event [] at = refl
ceded_here me j event (o ∷ os) at =
    omega (
      arith,
      sum_by-cons (ceded_by me j event) o os,
      sum_by-cons (counted (Ceding j) event) o os,
      ap (λ b. cond b (counted (Ceding j) event o) 0) (eq-eqb o.site me (at 0 o refl)),
      ceded_here me j event os (λ k x found. at (suc k) x found),
    )

ceded_elsewhere : (me i j : ℕ) (event : List ℕ) (os : List Operation) → me ≢ i → ((k : ℕ) (x : Operation) → slice_get os k ≡ Some x → x.site ≡ me)
    → ceded i j event os ≡ 0
ceded_elsewhere me i j event [] ne at = refl
ceded_elsewhere me i j event (o ∷ os) ne at =
    omega (
      arith,
      sum_by-cons (ceded_by i j event) o os,
      ap (λ b. cond b (counted (Ceding j) event o) 0) (ne_eqb o.site i (λ e. ne (sym (at 0 o refl) ∙ e))),
      ceded_elsewhere me i j event os ne (λ k x found. at (suc k) x found),
    )

at_site : (n : ℕ) (h : List Entry) (k : ℕ) (x : Operation) → slice_get (operations n h) k ≡ Some x → x.site ≡ n
at_site n h k x found = (of_history n [] h k x found).site

ceded_past : (n : ℕ) (h : ℕ → List Entry) (i j : ℕ) (event : List ℕ) → n ≤ i → ceded i j event (operations_below n h) ≡ 0
ceded_past zero h i j event l = refl
ceded_past (suc n) h i j event l =
    omega (
      arith,
      sum_by-append (ceded_by i j event) (operations_below n h) (operations n (h n)),
      ceded_past n h i j event (omega arith),
      ceded_elsewhere n i j event (operations n (h n)) (λ e. absurd (omega (arith, e, l))) (at_site n (h n)),
    )

ceded_below : (n : ℕ) (h : ℕ → List Entry) (i j : ℕ) (event : List ℕ) → i < n
    → ceded i j event (operations_below n h) ≡ total (Ceding j) event (operations i (h i))
ceded_below zero h i j event l = absurd (omega (arith, l))
ceded_below (suc n) h i j event l = elim (cases_eq n i) [
  | inl e ↦ omega (
    arith,
    sum_by-append (ceded_by i j event) (operations_below n h) (operations n (h n)),
    ceded_past n h i j event (omega (arith, e)),
    subst (λ m. ceded i j event (operations m (h m)) ≡ total (Ceding j) event (operations i (h i))) (sym e)
        (ceded_here i j event (operations i (h i)) (at_site i (h i))),
  )
  | inr ne ↦ omega (
    arith,
    sum_by-append (ceded_by i j event) (operations_below n h) (operations n (h n)),
    ceded_below n h i j event (omega (arith, l, ne)),
    ceded_elsewhere n i j event (operations n (h n)) ne (at_site n (h n)),
  )
]

-- what site i ceded is the sum over its own history
pub ceded_all : (n : ℕ) (h : ℕ → List Entry) → ((i : ℕ) → n ≤ i → h i ≡ []) → (i j : ℕ) (event : List ℕ)
    → ceded i j event (operations_below n h) ≡ total (Ceding j) event (operations i (h i))
ceded_all n h none i j event = elim (cases_lt i n) [
  | inl l ↦ ceded_below n h i j event l
  | inr l ↦ ceded_past n h i j event l ∙ sym (ap (λ (g : List Entry). total (Ceding j) event (operations i g)) (none i l))
]

-- no site cedes to itself
pub ceded_self : (office : SiteConfig) (h : List Entry) → IsLegal office h → (j : ℕ) → j ≡ office.me → (event : List ℕ)
    → total (Ceding j) event (operations office.me h) ≡ 0
ceded_self office h legal j me event = legal_along office (λ g. total (Ceding j) event (operations office.me g) ≡ 0) refl more h legal
  where
    no_share : (x : Cells) (o : Option Change) → Allowed office.me x o → share (Ceding j) event o ≡ 0
    no_share x None may = refl
    no_share x (Some c) may = by_kind c.kind may
      where
        by_kind : (kind : Kind) → IsAllowed office.me x kind c.event c.amount → cond (same_event event c.event && same_kind (Ceding j) kind) c.amount 0 ≡ 0
        by_kind Releasing here = miss (same_event event c.event) false c.amount refl
        by_kind Selling here = miss (same_event event c.event) false c.amount refl
        by_kind Refunding here = miss (same_event event c.event) false c.amount refl
        by_kind (Ceding to) here = miss (same_event event c.event) (j == to) c.amount (ne_eqb j to (λ e. here.0 (sym e ∙ me)))

    more : (g : List Entry) (entry : Entry) → total (Ceding j) event (operations office.me g) ≡ 0 → IsNext office g entry
        → total (Ceding j) event (operations office.me (g ++ entry ∷ [])) ≡ 0
    more g (Asked number request reply delta) before next =
        asked_total office.me g number request reply delta (Ceding j) event
        ∙ omega (arith, before, no_share (state_of g).cells (accepted g request reply) (asked_allowed office g request reply next.answer))
    more g (Joined peer delta) before next =
        ap (total (Ceding j) event) (operations_push office.me g (Joined peer delta) ∙ append-nil (operations office.me g)) ∙ before
    more g (Grown sites) before next =
        ap (total (Ceding j) event) (operations_push office.me g (Grown sites) ∙ append-nil (operations office.me g)) ∙ before
