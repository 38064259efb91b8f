-- Two keepers of one history. (Our own; two disks that mirror each other: Bitton and Gray, VLDB 1988.)
use Rattle.std.specs.Prelude.{◌≡◌, ◌⊎◌, ℕ, Bool, true, false, List, ◌++◌, Option, Some, Result, OnOk, OnErr, refl}
use Rattle.std.specs.Coded.{Coded, code_by, coded×, coded_ℕ}
use Rattle.book_core.specs.declared.entry.Entry.{Entry}
use Rattle.history_keeper.specs.declared.keeper.KeepFault.{KeepFault}
use Rattle.history_keeper.specs.declared.keeper.Keeper.{Ghosts}
use Rattle.history_keeper.specs.declared.meta.Meta.{Meta}
use Rattle.history_keeper.specs.Keeping.{Keeps, LeavesAllOrNone, LeavesOnly}
use Rattle.mirrored_records.specs.Prefixes.{Extends}

-- what contracts see of two keepers
pub record MirrorView (A B : Type 0) : Type 0 where
  pub first : A
  pub second : B
  pub failures : ℕ

abbrev pub coded_mirror : {A B : Type 0} → Coded A → Coded B → Coded (MirrorView A B)
coded_mirror {A} {B} first second =
    code_by ((A × B) × ℕ) (coded× (coded× first second) coded_ℕ)
    (λ m. ((m.first, m.second), m.failures)) (λ p. record { first = p.0.0; second = p.0.1; failures = p.1 }) (λ _. refl)

-- what a keeper shows, member by member
abbrev pub shown : {K : Type 0} → (K → ℕ) → (K → Type 0) → (K → List Entry) → (K → Option (List Entry) → Type 0) → (K → Meta → Type 0) → Ghosts K
shown failed is_trusted kept may_leave is_of = record { failed = failed; is_trusted = is_trusted; kept = kept; may_leave = may_leave; is_of = is_of }

-- it has not failed, and a crash leaves what it holds
pub record IsOpen {K : Type 0} (k : Ghosts K) (keeper : K) : Type 0 where
  pub sound : k.failed keeper ≡ 0
  pub rests : k.is_trusted keeper → LeavesOnly (k.kept keeper) (k.may_leave keeper)

-- both are open
pub record AreOpen {A B : Type 0} (a : Ghosts A) (b : Ghosts B) (one : A) (other : B) : Type 0 where
  pub first : IsOpen a one
  pub second : IsOpen b other

-- what was given to one: it has it, or failed, and a crash leaves all of it or none
pub record AppendsTo {K : Type 0} (k : Ghosts K) (old new : K) (entries : List Entry) (result : Result (Unit {0}) KeepFault) : Type 0 where
  pub kept : OnOk result (k.is_trusted new → Keeps (k.kept old ++ entries) (k.kept new) (k.may_leave new))
  pub stopped : OnErr result (k.is_trusted new → LeavesAllOrNone (k.kept old) entries (k.may_leave new))
  pub site : k.is_trusted new → (meta : Meta) → k.is_of old meta → k.is_of new meta
  pub trusted : k.is_trusted new → k.is_trusted old

-- what was given to two: both have it, or a crash leaves of each all of it or none
pub record AppendsBoth {A B : Type 0} (a : Ghosts A) (b : Ghosts B) (one one_now : A) (other other_now : B) (entries : List Entry)
    (result : Result (Unit {0}) KeepFault) : Type 0 where
  pub first : AppendsTo a one one_now entries result
  pub second : AppendsTo b other other_now entries result

-- two keepers as the one that survives shows itself, the first or the second; the other may lie or be lost
abbrev pub surviving : {A B : Type 0} → Bool → Ghosts A → Ghosts B → Ghosts (MirrorView A B)
surviving true a b = record {
  failed = λ m. m.failures;
  is_trusted = λ m. a.is_trusted m.first;
  kept = λ m. a.kept m.first;
  may_leave = λ m. a.may_leave m.first;
  is_of = λ m. a.is_of m.first;
}
surviving false a b = record {
  failed = λ m. m.failures;
  is_trusted = λ m. b.is_trusted m.second;
  kept = λ m. b.kept m.second;
  may_leave = λ m. b.may_leave m.second;
  is_of = λ m. b.is_of m.second;
}

-- a keeper was brought up to these entries, by adding what it lacked
pub record IsBroughtUp {K : Type 0} (k : Ghosts K) (old new : K) (entries : List Entry) : Type 0 where
  pub sound : k.failed new ≡ 0
  pub kept : k.is_trusted new → entries ≡ k.kept new
  pub site : k.is_trusted new → (meta : Meta) → k.is_of old meta → k.is_of new meta
  pub trusted : k.is_trusted new → k.is_trusted old

-- a keeper of the list failed as it was brought up to the whole: a crash leaves the list, with some of what it lacked
pub record LeavesBetween {K : Type 0} (k : Ghosts K) (old new : K) (list whole : List Entry) : Type 0 where
  pub failed : k.failed new ≡ 1
  pub left : k.is_trusted new → (left : Option (List Entry)) → k.may_leave new left
      → (some : List Entry) × (left ≡ Some some) × Extends list some × Extends some whole
  pub site : k.is_trusted new → (meta : Meta) → k.is_of old meta → k.is_of new meta
  pub trusted : k.is_trusted new → k.is_trusted old

-- of two keepers, each before and after, one is as it was, and the other failed as it was brought up
abbrev pub OneIsShort : {A B : Type 0} → Ghosts A → Ghosts B → A × A → B × B → List Entry → List Entry → Type 0
OneIsShort a b first second one other =
    ((first.1 ≡ first.0) × LeavesBetween b second.0 second.1 other one) ⊎ ((second.1 ≡ second.0) × LeavesBetween a first.0 first.1 one other)

-- two keepers of one history were opened as one: the one that survives holds these entries
pub record IsOpened {A B : Type 0} (s : Ghosts (MirrorView A B)) (old new : MirrorView A B) (entries : List Entry) : Type 0 where
  pub unshut : new.failures ≡ 0
  pub kept : s.is_trusted new → entries ≡ s.kept new
  pub site : s.is_trusted new → (meta : Meta) → s.is_of old meta → s.is_of new meta
  pub trusted : s.is_trusted new → s.is_trusted old
