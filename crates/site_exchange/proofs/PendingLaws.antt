-- What an exchange keeps for its peers: of one peer more, of a peer that was caught up, and of a longer history.
use Rattle.std.proofs.Common.{◌≡◌, ◌≢◌, ◌⊎◌, inl, inr, ℕ, zero, suc, ◌<◌, ◌≤◌, List, [], ◌∷◌, ◌++◌, length, get_or, set, Option, Some, None, refl, sym, ap, ◌∙◌, subst, arith, get_or-set_same, get_or-set_other}
use Rattle.std.specs.Prelude.{Result, Ok, Err, OnOk, slice_get}
use Rattle.std.proofs.lemmas.Bool.{cases_eq}
use Rattle.rights_lattice.specs.State.{bottom}
use Rattle.book_core.specs.declared.entry.Entry.{Entry}
use Rattle.book_core.proofs.Histories.{get_push}
use Rattle.delta_buffer.specs.Pending.{PendingView, IsPendingOf}
use Rattle.delta_buffer.proofs.PendingLaws.{none_pending, still_pending}
use Rattle.site_exchange.specs.Taking.{extended}
use Rattle.site_exchange.specs.Pendings.{ArePending, BeginAtAcked, ExchangeView, IsPendingIn, KeepAdded, KeepsExchange, IsCaughtUp, StayPending}

-- nothing was added behind what a peer has acknowledged
abbrev pub nothing_behind : ℕ → PendingView
nothing_behind n = record { from = n; upto = n; delta = bottom }

pub begins_more : (acked : List ℕ) (ps : List PendingView) → BeginAtAcked acked ps → BeginAtAcked acked (ps ++ nothing_behind (get_or acked (length ps) 0) ∷ [])
begins_more acked ps begins peer p found = elim (get_push ps (nothing_behind (get_or acked (length ps) 0)) peer p found) [
  | inl old ↦ begins peer p old.1
  | inr new ↦ ap (λ (v : PendingView). v.from) (sym new.1) ∙ ap (λ k. get_or acked k 0) (sym new.0)
]

pub pending_more : (acked : List ℕ) (ps : List PendingView) (h : List Entry) (peer : ℕ) → get_or acked peer 0 ≤ length h → IsPendingIn h ps peer
    → IsPendingIn h (ps ++ nothing_behind (get_or acked (length ps) 0) ∷ []) peer
pending_more acked ps h peer le old p found = elim (get_push ps (nothing_behind (get_or acked (length ps) 0)) peer p found) [
  | inl before ↦ old p before.1
  | inr new ↦ subst (IsPendingOf h) new.1 (none_pending h (get_or acked (length ps) 0) (subst (λ k. get_or acked k 0 ≤ length h) new.0 le))
]

-- an element of a list in which one was set
pub at_set : {A : Type 0} (xs : List A) (i k : ℕ) (new a : A) → slice_get (set xs i new) k ≡ Some a
    → ((k ≡ i) × (new ≡ a)) ⊎ ((k ≢ i) × (slice_get xs k ≡ Some a))
at_set [] i k new a found = cc
at_set (x ∷ xs) zero zero new a found = inl (refl, cc)
at_set (x ∷ xs) zero (suc k) new a found = inr ((λ e. cc), found)
at_set (x ∷ xs) (suc i) zero new a found = inr ((λ e. cc), found)
at_set (x ∷ xs) (suc i) (suc k) new a found = elim (at_set xs i k new a found)
    [ inl p ↦ inl (ap suc p.0, p.1) | inr p ↦ inr ((λ e. p.0 (omega (arith, e))), p.1) ]

pub begins_set : (acked : List ℕ) (ps : List PendingView) (i : ℕ) (new : PendingView) → BeginAtAcked acked ps → new.from ≡ get_or acked i 0
    → BeginAtAcked acked (set ps i new)
begins_set acked ps i new begins from peer p found = elim (at_set ps i peer new p found) [
  | inl here ↦ ap (λ (v : PendingView). v.from) (sym here.1) ∙ from ∙ ap (λ k. get_or acked k 0) (sym here.0)
  | inr there ↦ begins peer p there.1
]

pub pending_set : (h : List Entry) (ps : List PendingView) (i peer : ℕ) (new : PendingView) → IsPendingOf h new → IsPendingIn h ps peer
    → IsPendingIn h (set ps i new) peer
pending_set h ps i peer new is old p found = elim (at_set ps i peer new p found) [ inl here ↦ subst (IsPendingOf h) here.1 is | inr there ↦ old p there.1 ]

-- with the number raised at a place, and what is pending there begun anew there
pub begins_raised : (acked : List ℕ) (ps : List PendingView) (i n : ℕ) (new : PendingView) → i < length acked → BeginAtAcked acked ps → new.from ≡ n
    → BeginAtAcked (set acked i n) (set ps i new)
begins_raised acked ps i n new l begins from peer p found = elim (at_set ps i peer new p found) [
  | inl here ↦ ap (λ (v : PendingView). v.from) (sym here.1) ∙ from ∙ sym (ap (λ k. get_or (set acked i n) k 0) here.0 ∙ get_or-set_same acked i n 0 l)
  | inr there ↦ begins peer p there.1 ∙ sym (get_or-set_other acked i peer n 0 there.0)
]

-- an element that is there with more behind it
still_there : {A : Type 0} (xs ys : List A) (k : ℕ) (a : A) → slice_get xs k ≡ Some a → slice_get (xs ++ ys) k ≡ Some a
still_there [] ys k a found = cc
still_there (x ∷ xs) ys zero a found = found
still_there (x ∷ xs) ys (suc k) a found = still_there xs ys k a found

pub added_more : (ps qs : List PendingView) (new : PendingView) → KeepAdded ps qs → KeepAdded ps (qs ++ new ∷ [])
added_more ps qs new kept peer p found = let old = kept peer p found in (old.0, still_there qs (new ∷ []) peer old.0 old.1, old.2)

-- the element that was set
set_there : {A : Type 0} (xs : List A) (i : ℕ) (old new : A) → slice_get xs i ≡ Some old → slice_get (set xs i new) i ≡ Some new
set_there [] i old new found = cc
set_there (x ∷ xs) zero old new found = refl
set_there (x ∷ xs) (suc i) old new found = set_there xs i old new found

set_elsewhere : {A : Type 0} (xs : List A) (i k : ℕ) (new a : A) → k ≢ i → slice_get xs k ≡ Some a → slice_get (set xs i new) k ≡ Some a
set_elsewhere [] i k new a other found = cc
set_elsewhere (x ∷ xs) zero zero new a other found = absurd (other refl)
set_elsewhere (x ∷ xs) zero (suc k) new a other found = found
set_elsewhere (x ∷ xs) (suc i) zero new a other found = found
set_elsewhere (x ∷ xs) (suc i) (suc k) new a other found = set_elsewhere xs i k new a (λ e. other (ap suc e)) found

pub added_set : (ps : List PendingView) (i : ℕ) (old new : PendingView) → slice_get ps i ≡ Some old → old.upto ≤ new.upto → KeepAdded ps (set ps i new)
added_set ps i old new there le peer p found = elim (cases_eq peer i) [
  | inl e ↦
      let same : Some old ≡ Some p = sym there ∙ sym (ap (slice_get ps) e) ∙ found in
      let is : old ≡ p = cc in
      (new, subst (λ k. slice_get (set ps i new) k ≡ Some new) (sym e) (set_there ps i old new there), omega (arith, le, ap (λ (v : PendingView). v.upto) is))
  | inr other ↦ (p, set_elsewhere ps i peer new p other found, omega arith)
]

pub added_then : (ps qs rs : List PendingView) → KeepAdded ps qs → KeepAdded qs rs → KeepAdded ps rs
added_then ps qs rs first then peer p found =
    let old = first peer p found in
    let new = then peer old.0 old.1 in
    (new.0, new.1, omega (arith, old.2, new.2))

-- what is pending of a history is pending of it with more behind it
-- an exchange `e`, seen as `old`, of which the pending deltas alone changed
pub keeps_opened : (h : List Entry) (e old : ExchangeView) (ps : List PendingView) → e ≡ old → StayPending h e.acked e.pendings ps → KeepAdded e.pendings ps
    → KeepsExchange h old (record { sites = e.sites; acked = e.acked; pendings = ps })
keeps_opened h e old ps same stay added =
    subst (λ (was : ExchangeView). KeepsExchange h was (record { sites = e.sites; acked = e.acked; pendings = ps })) same
    (record { sites = refl; acked = refl; pending = stay; added = added })

pub pending_grown : (h more : List Entry) (e : ExchangeView) → ArePending h e → ArePending (h ++ more) e
pending_grown h more e are peer p found = still_pending h more p (are peer p found)

pub pending_extended : (entry : Option Entry) (h : List Entry) (e : ExchangeView) → ArePending h e → ArePending (extended entry h) e
pending_extended None h e are = are
pending_extended (Some entry) h e are = pending_grown h (entry ∷ []) e are

-- what is pending at a place reaches as far as the one that was set there
pub reached_set : {A E : Type 0} (r : Result A E) (h : List Entry) (ps : List PendingView) (i : ℕ) (old new : PendingView) → slice_get ps i ≡ Some old
    → OnOk r (new.upto ≡ length h) → OnOk r (IsCaughtUp h (set ps i new) i)
reached_set (Ok a) h ps i old new there is = (new, set_there ps i old new there, is)
reached_set (Err e) h ps i old new there is = tt
