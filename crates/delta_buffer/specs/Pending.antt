-- The delta-interval that is pending for a peer (Almeida et al., JPDC 2018).
use Rattle.std.specs.Prelude.{◌≡◌, ℕ, ◌+◌, ◌≤◌, List, length, slice_get, Some, refl}
use Rattle.std.specs.Coded.{Coded, code_by, coded_ℕ, coded×}
use Rattle.rights_lattice.specs.State.{State, coded_state, join}
use Rattle.book_core.specs.declared.entry.Entry.{Entry}
use Rattle.book_core.specs.History.{delta_of, interval}

-- what contracts see of it: from where on and up to where the deltas of a history are joined, and their join
pub record PendingView : Type 0 where
  pub from : ℕ
  pub upto : ℕ
  pub delta : State

abbrev pub coded_pending : Coded PendingView
coded_pending = code_by ((ℕ × ℕ) × State) (coded× (coded× coded_ℕ coded_ℕ) coded_state) (λ p. ((p.from, p.upto), p.delta))
    (λ p. record { from = p.0.0; upto = p.0.1; delta = p.1 }) (λ _. refl)

-- it is an interval of this history
pub record IsPendingOf (h : List Entry) (p : PendingView) : Type 0 where
  pub within : p.upto ≤ length h
  pub delta : p.delta ≡ interval h p.from p.upto

-- what the entries of a history from this place on add
abbrev pub since : List Entry → ℕ → State
since h a = interval h a (length h)

-- with one entry joined behind those that were added
abbrev pub pending_with : PendingView → Entry → PendingView
pending_with p entry = record { from = p.from; upto = p.upto + 1; delta = join p.delta (delta_of entry) }

-- with all entries of this history joined
abbrev pub pending_all : List Entry → PendingView → PendingView
pending_all h p = record { from = p.from; upto = length h; delta = since h p.from }

-- it is an interval of each history of which it was one, and in which this entry comes next
abbrev pub StaysPendingWith : Entry → PendingView → PendingView → Type 0
StaysPendingWith entry old new = (h : List Entry) → IsPendingOf h old → slice_get h old.upto ≡ Some entry → IsPendingOf h new
