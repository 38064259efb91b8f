-- A keeper is brought up, piece by piece.
use Rattle.std.proofs.Common.{◌≡◌, ◌⊎◌, inl, inr, ℕ, ◌+◌, ◌-◌, ◌≤◌, List, [], ◌++◌, length, take, drop, Option, Some, sym, ap, ◌∙◌, arith}
use Rattle.std.specs.Prelude.{Result, Ok, Err, OnErr, MatchResult}
use Rattle.std.proofs.lemmas.List.{append_assoc, append-nil, take-append-drop}
use Rattle.std.proofs.Math.Seq.{take-add, take-length}
use Rattle.book_core.specs.declared.entry.Entry.{Entry}
use Rattle.history_keeper.specs.declared.keeper.KeepFault.{KeepFault}
use Rattle.history_keeper.specs.declared.keeper.Keeper.{Ghosts}
use Rattle.history_keeper.specs.declared.meta.Meta.{Meta}
use Rattle.history_keeper.specs.Keeping.{LeavesAllOrNone}
use Rattle.mirrored_records.specs.Mirrored.{IsBroughtUp, LeavesBetween}
use Rattle.mirrored_records.specs.Prefixes.{Extends}

taken : (place end : ℕ) (whole : List Entry) → place ≤ end → take place whole ++ take (end - place) (drop place whole) ≡ take end whole
taken place end whole h = sym (take-add place (end - place) whole) ∙ ap (λ n. take n whole) (omega (arith, h))

extends_trans : (a b c : List Entry) → Extends a b → Extends b c → Extends a c
extends_trans a b c (x, p) (y, q) = (x ++ y, q ∙ (ap (λ l. l ++ y) p ∙ append_assoc a x y))

-- a front of a front, and a front of the whole
pub front_extends : (place end : ℕ) (whole : List Entry) → place ≤ end → Extends (take place whole) (take end whole)
front_extends place end whole h = (take (end - place) (drop place whole), sym (taken place end whole h))

whole_extends : (place : ℕ) (whole : List Entry) → Extends (take place whole) whole
whole_extends place whole = (drop place whole, sym (take-append-drop place whole))

extends_itself : (list : List Entry) → Extends list list
extends_itself list = ([], sym (append-nil list))

-- once more is brought up
pub brought_on : {K : Type 0} (k : Ghosts K) (old mid new : K) (some more : List Entry) → IsBroughtUp k old mid some → IsBroughtUp k mid new more
    → IsBroughtUp k old new more
brought_on k old mid new some more p q = record {
  sound = q.sound;
  kept = q.kept;
  site = λ trusted meta is. q.site trusted meta (p.site (q.trusted trusted) meta is);
  trusted = λ trusted. p.trusted (q.trusted trusted);
}

-- and where what was brought up is not all
pub between_on : {K : Type 0} (k : Ghosts K) (old mid new : K) (list some whole : List Entry) → Extends list some → IsBroughtUp k old mid some
    → LeavesBetween k mid new some whole → LeavesBetween k old new list whole
between_on k old mid new list some whole e p q = record {
  failed = q.failed;
  left = λ trusted left may. let x = q.left trusted left may in (x.0, x.1, extends_trans list some x.0 e x.2, x.3);
  site = λ trusted meta is. q.site trusted meta (p.site (q.trusted trusted) meta is);
  trusted = λ trusted. p.trusted (q.trusted trusted);
}

-- nothing was brought up yet
pub brought_none : {K : Type 0} (k : Ghosts K) (keeper : K) (list : List Entry) → k.failed keeper ≡ 0 → (k.is_trusted keeper → list ≡ k.kept keeper)
    → IsBroughtUp k keeper keeper list
brought_none k keeper list sound kept = record { sound = sound; kept = kept; site = λ _ meta is. is; trusted = λ trusted. trusted }

-- what a crash leaves of an append of a piece that failed
pub left_between : (kept whole : List Entry) (place end : ℕ) (left : Option (List Entry)) → place ≤ end → take place whole ≡ kept
    → (left ≡ Some kept) ⊎ (left ≡ Some (kept ++ take (end - place) (drop place whole)))
    → (some : List Entry) × (left ≡ Some some) × Extends (take place whole) some × Extends some whole
left_between kept whole place end left h e (inl p) = (take place whole, p ∙ ap Some (sym e), extends_itself (take place whole), whole_extends place whole)
left_between kept whole place end left h e (inr p) = (
  take end whole,
  p ∙ (ap (λ l. Some (l ++ take (end - place) (drop place whole))) (sym e) ∙ ap Some (taken place end whole h)),
  front_extends place end whole h,
  whole_extends end whole,
)

-- a keeper of a front was given the piece behind it
pub piece_kept : (kept whole : List Entry) (place end : ℕ) → place ≤ end → take place whole ≡ kept
    → take end whole ≡ kept ++ take (end - place) (drop place whole)
piece_kept kept whole place end h e = sym (taken place end whole h) ∙ ap (λ l. l ++ take (end - place) (drop place whole)) e

-- what is so of an error is so where there is one
pub on_err : {T F : Type 0} (result : Result T F) (P : Type 0) → P → OnErr result P
on_err (Ok x) P p = tt
on_err (Err e) P p = p

-- a piece that was not kept
pub short_piece : {K : Type 0} (k : Ghosts K) (old new : K) (result : Result (Unit {0}) KeepFault) (place end : ℕ) (whole : List Entry) → place ≤ end
    → (k.is_trusted old → take place whole ≡ k.kept old)
    → OnErr result (k.is_trusted new → LeavesAllOrNone (k.kept old) (take (end - place) (drop place whole)) (k.may_leave new))
    → MatchResult result (λ _. k.failed new ≡ 0) (λ _. k.failed new ≡ 1)
    → (k.is_trusted new → (meta : Meta) → k.is_of old meta → k.is_of new meta) → (k.is_trusted new → k.is_trusted old)
    → OnErr result (LeavesBetween k old new (take place whole) whole)
short_piece k old new (Ok x) place end whole h begun stopped counted site trusted = tt
short_piece k old new (Err e) place end whole h begun stopped counted site trusted = record {
  failed = counted;
  left = λ trust left may. left_between (k.kept old) whole place end left h (begun (trusted trust)) (stopped trust left may);
  site = site;
  trusted = trusted;
}
