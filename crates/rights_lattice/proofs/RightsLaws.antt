-- Lists of marks as states: the greatest value of a cell in a list, and the sites that cells are of.
use Rattle.std.proofs.Common.{◌≡◌, ℕ, zero, suc, ◌+◌, ◌≤◌, ◌<◌, Bool, true, false, cond, List, [], ◌∷◌, ◌++◌, length, take, get_or, refl, sym, ap, ◌∙◌, subst, arith}
use Rattle.std.specs.Prelude.{max}
use Rattle.std.specs.Ordering.{eq_by_cmp}
use Rattle.std.proofs.lemmas.List.{take_more}
use Rattle.rights_lattice.specs.Cells.{Key, Cells, Valued, value_at, all_zero, raise, raise_all, marks_of, greatest, value_in, is_of, key_cmp}
use Rattle.rights_lattice.specs.Cells as cells
use Rattle.rights_lattice.specs.declared.cell.Cell.{Cell}
use Rattle.rights_lattice.specs.RightsView.{IsCellOf, IsWithin}
use Rattle.rights_lattice.proofs.CellLaws.{value_at-raise_all, value_at-raise, value_at-all_zero, greatest-append, value_in-same, of_same}

pub value_at-marks : (ms : List Valued) (e : List ℕ) (c : Cell) → value_at (raise_all all_zero ms) e c ≡ greatest ms e c
value_at-marks ms e c = omega (arith, value_at-raise_all all_zero ms e c, value_at-all_zero e c)

pub greatest-take_more : (ms : List Valued) (i : ℕ) (m : Valued) (e : List ℕ) (c : Cell) → i < length ms → m ≡ get_or ms i m
    → greatest (take (i + 1) ms) e c ≡ max (greatest (take i ms) e c) (value_in m e c)
greatest-take_more ms i m e c h is =
    ap (λ (l : List Valued). greatest l e c) (take_more ms i m h) ∙ greatest-append (take i ms) (get_or ms i m ∷ []) e c
    ∙ subst (λ (x : Valued). max (greatest (take i ms) e c) (max (value_in x e c) 0) ≡ max (greatest (take i ms) e c) (value_in m e c)) is (omega arith)

-- what is no more stays no more under the same test
pub cond_le : (b : Bool) (x y : ℕ) → x ≤ y → cond b x 0 ≤ cond b y 0
cond_le true x y h = h
cond_le false x y h = omega arith

same_place : (x m : Valued) (e : List ℕ) (c : Cell) → m.event ≡ x.event → m.cell ≡ x.cell → x.value ≤ m.value → value_in x e c ≤ value_in m e c
same_place x m e c p q le =
    let at : is_of m e c ≡ is_of x e c = λ i. eq_by_cmp key_cmp (e, c) (p i, q i) in
    subst (λ b. value_in x e c ≤ cond b m.value 0) (sym at) (cond_le (is_of x e c) x.value m.value le)

-- a mark that is not above what is there changes nothing
pub greatest-at : (ms : List Valued) (i : ℕ) (m d : Valued) (e : List ℕ) (c : Cell) → i < length ms → m.event ≡ (get_or ms i d).event
    → m.cell ≡ (get_or ms i d).cell → m.value ≤ (get_or ms i d).value → value_in m e c ≤ greatest ms e c
greatest-at [] i m d e c h p q le = absurd (omega arith)
greatest-at (x ∷ ms) zero m d e c h p q le =
    let both : value_in m e c ≤ value_in x e c = same_place m x e c (sym p) (sym q) le in omega arith
greatest-at (x ∷ ms) (suc i) m d e c h p q le = omega (arith, greatest-at ms i m d e c (omega arith) p q le)

-- each mark is at most the greatest of its cell
pub member_value : (ms : List Valued) (i : ℕ) (m : Valued) → i < length ms → m ≡ get_or ms i m → m.value ≤ greatest ms m.event m.cell
member_value ms i m h is =
    omega (
      arith,
      greatest-at ms i m m m.event m.cell h (ap (λ (x : Valued). x.event) is) (ap (λ (x : Valued). x.cell) is)
          (let v = ap (λ (x : Valued). x.value) is in omega arith),
      value_in-same m m.event m.cell refl refl,
    )

raise_all-push : (X : Cells) (ms : List Valued) (m : Valued) → raise_all X (ms ++ m ∷ []) ≡ raise (raise_all X ms) m
raise_all-push X [] m = refl
raise_all-push X (x ∷ ms) m = raise_all-push (raise X x) ms m

pub raise_all-take_more : (X : Cells) (ms : List Valued) (i : ℕ) (m : Valued) → i < length ms → m ≡ get_or ms i m
    → raise_all X (take (i + 1) ms) ≡ raise (raise_all X (take i ms)) m
raise_all-take_more X ms i m h is =
    ap (raise_all X) (take_more ms i m h) ∙ raise_all-push X (take i ms) (get_or ms i m) ∙ ap (raise (raise_all X (take i ms))) (sym is)

pub join-marks : (X Y : Cells) → cells.join X Y ≡ raise_all X (marks_of Y)
unfolding cells.join
join-marks X Y = refl

pub within_zero : (n : ℕ) → IsWithin n all_zero
within_zero n e c h = absurd (omega (arith, value_at-all_zero e c))

-- a raised cell of a site below the count
pub within_raise : (n : ℕ) (X : Cells) (m : Valued) → IsWithin n X → IsCellOf n m.cell → IsWithin n (raise X m)
within_raise n X m within of e c h =
    elim (is_of m e c) as (λ b. is_of m e c ≡ b → IsCellOf n c) [
      | true ↦ λ t. subst (λ (k : Key). IsCellOf n k.1) (sym (of_same m e c t)) of
      | false ↦ λ t. let none : value_in m e c ≡ 0 = ap (λ b. cond b m.value 0) t in within e c (omega (arith, value_at-raise X m e c))
    ] refl
