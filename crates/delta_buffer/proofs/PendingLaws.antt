-- What is pending of a history, and of a longer one.
use Rattle.std.proofs.Common.{◌≡◌, inl, inr, ℕ, ◌+◌, ◌-◌, ◌≤◌, List, ◌++◌, length, take, drop, Some, sym, ap, ◌∙◌, arith, length-append, length-drop}
use Rattle.std.specs.Prelude.{slice_get}
use Rattle.std.proofs.lemmas.Bool.{cases_lt}
use Rattle.std.proofs.lemmas.List.{take-append-le, drop-append-le}
use Rattle.std.proofs.lemmas.Option.{slice_get_within}
use Rattle.rights_lattice.specs.State.{bottom, join}
use Rattle.book_core.specs.declared.entry.Entry.{Entry}
use Rattle.book_core.specs.History.{delta_of, state_of, interval}
use Rattle.delta_buffer.specs.Pending.{PendingView, IsPendingOf}
use Rattle.delta_buffer.proofs.IntervalLaws.{none_between, one_between, meeting}

-- one entry joined
pub added : (h : List Entry) (p : PendingView) (entry : Entry) → p.from ≤ p.upto → IsPendingOf h p → slice_get h p.upto ≡ Some entry
    → IsPendingOf h (record { from = p.from; upto = p.upto + 1; delta = join p.delta (delta_of entry) })
added h p entry order is found = record {
  within = omega (arith, slice_get_within h p.upto entry found);
  delta =
      (λ k. join (is.delta k) (sym (one_between h p.upto (p.upto + 1) entry (omega arith) found) k))
      ∙ sym (meeting h p.from p.upto (p.upto + 1) order (omega arith));
}

-- all entries up to a place joined
pub caught_up : (h : List Entry) (p : PendingView) (upto : ℕ) → p.from ≤ p.upto → IsPendingOf h p → p.upto ≤ upto
    → join p.delta (interval h p.upto upto) ≡ interval h p.from upto
caught_up h p upto order is le = ap (λ X. join X (interval h p.upto upto)) is.delta ∙ sym (meeting h p.from p.upto upto order le)

-- an interval that ends within a history is that of a longer one
behind : (h more : List Entry) (a b : ℕ) → b ≤ length h → take (b - a) (drop a (h ++ more)) ≡ take (b - a) (drop a h)
behind h more a b le = elim (cases_lt b a) [
  | inl past ↦ let none : b - a ≡ 0 = omega arith in ap (λ n. take n (drop a (h ++ more))) none ∙ sym (ap (λ n. take n (drop a h)) none)
  | inr order ↦ ap (take (b - a)) (drop-append-le a h more (omega arith)) ∙ take-append-le (b - a) (drop a h) more (omega (arith, length-drop a h))
]

-- what is pending of a history is pending of it with more behind it
pub still_pending : (h more : List Entry) (p : PendingView) → IsPendingOf h p → IsPendingOf (h ++ more) p
still_pending h more p is = record {
  within = omega (arith, is.within, length-append h more);
  delta = is.delta ∙ ap state_of (sym (behind h more p.from p.upto is.within));
}

-- nothing is pending behind what is acknowledged
pub none_pending : (h : List Entry) (n : ℕ) → n ≤ length h → IsPendingOf h (record { from = n; upto = n; delta = bottom })
none_pending h n le = record { within = le; delta = sym (none_between h n) }
