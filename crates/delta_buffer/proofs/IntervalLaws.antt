-- Intervals of a history: none, one entry, and two that meet.
use Rattle.std.proofs.Common.{◌≡◌, ℕ, zero, suc, ◌+◌, ◌-◌, ◌≤◌, List, [], ◌∷◌, ◌++◌, Some, ap, ◌∙◌, arith, take, drop}
use Rattle.std.specs.Prelude.{slice_get}
use Rattle.std.proofs.Math.Seq.{take-add}
use Rattle.std.proofs.lemmas.List.{drop-drop}
use Rattle.rights_lattice.specs.State.{bottom, join}
use Rattle.rights_lattice.proofs.StateLaws.{join-bottom}
use Rattle.book_core.specs.declared.entry.Entry.{Entry}
use Rattle.book_core.specs.History.{delta_of, state_of, interval}
use Rattle.book_core.proofs.Histories.{state_of-append}

pub none_between : (h : List Entry) (a : ℕ) → interval h a a ≡ bottom
none_between h a = ap (λ n. state_of (take n (drop a h))) (let e : a - a ≡ 0 = omega arith in e)

first_of : (h : List Entry) (a : ℕ) (entry : Entry) → slice_get h a ≡ Some entry → take 1 (drop a h) ≡ entry ∷ []
first_of [] a entry found = cc
first_of (x ∷ h) zero entry found = let same : x ≡ entry = cc in ap (λ (e : Entry). e ∷ []) same
first_of (x ∷ h) (suc a) entry found = first_of h a entry found

-- the interval of one entry is its delta
pub one_between : (h : List Entry) (a b : ℕ) (entry : Entry) → b - a ≡ 1 → slice_get h a ≡ Some entry → interval h a b ≡ delta_of entry
one_between h a b entry one found =
    ap (λ n. state_of (take n (drop a h))) one
    ∙ ap state_of (first_of h a entry found)
    ∙ join-bottom (delta_of entry)

-- two intervals that meet make one
pub meeting : (h : List Entry) (a m b : ℕ) → a ≤ m → m ≤ b → interval h a b ≡ join (interval h a m) (interval h m b)
meeting h a m b low high =
    let sizes : b - a ≡ (m - a) + (b - m) = omega arith in
    let place : a + (m - a) ≡ m = omega arith in
    ap (λ n. state_of (take n (drop a h))) sizes
    ∙ ap state_of (take-add (m - a) (b - m) (drop a h)
    ∙ ap (λ (xs : List Entry). take (m - a) (drop a h) ++ take (b - m) xs) (drop-drop (m - a) a h ∙ ap (λ n. drop n h) place))
    ∙ state_of-append (take (m - a) (drop a h)) (take (b - m) (drop m h))
