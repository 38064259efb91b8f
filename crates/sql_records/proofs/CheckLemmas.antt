-- The check `one = 1`, as nodes that refer to one another.
use Rattle.std.proofs.Common.{◌≡◌, ℕ, suc, ◌<◌, ◌≤◌, pos, List, [], ◌∷◌, length, get_or, Some, None, Option, refl, sym, ap, ◌∙◌, arith}
use Rattle.std.specs.Prelude.{slice_get, unwrap_or}
use Rattle.std.proofs.lemmas.Option.{unwrap_or-slice_get}
use Rattle.sqlite.specs.Collation.TheVariants.{Binary as Bytewise}
use Rattle.sqlite.specs.declared.types.Value.TheVariants.{Null, Int}
use Rattle.sqlite.specs.Term.{Term, lit, col}
use Rattle.sqlite_sql.specs.declared.ops.BinaryOp.TheVariants.{Compare}
use Rattle.sqlite_sql.specs.declared.ops.CompareOp.TheVariants.{Eq}
use Rattle.sqlite_schema.specs.declared.code.Op.{Op}
use Rattle.sqlite_schema.specs.declared.code.Op.TheVariants.{Literal, Column, Unary, Binary, Case}
use Rattle.sqlite_schema.specs.Code.{op_term, term_to, term_in, terms_in}
use Rattle.sql_records.specs.Layout.{one_is_1, AreOneAnd1, sides_of}

abbrev node : List Op → ℕ → Op
node ops at = get_or ops at (Literal Null)

found : (ops : List Op) (at : ℕ) (op : Op) → slice_get ops at ≡ Some op → node ops at ≡ op
found ops at op e = sym (unwrap_or-slice_get ops at (Literal Null)) ∙ ap (λ o. unwrap_or o (Literal Null)) e

-- a node that is no literal null is there
there : (ops : List Op) (at : ℕ) (op : Op) → (o : Option Op) → slice_get ops at ≡ o → unwrap_or o (Literal Null) ≡ op → (op ≡ Literal Null → ⊥)
    → slice_get ops at ≡ Some op
there ops at op None is e other = absurd (other (sym e))
there ops at op (Some x) is e other = is ∙ ap Some e

is_there : (ops : List Op) (at : ℕ) (op : Op) → node ops at ≡ op → (op ≡ Literal Null → ⊥) → slice_get ops at ≡ Some op
is_there ops at op e other = there ops at op (slice_get ops at) refl (unwrap_or-slice_get ops at (Literal Null) ∙ e) other

column_node : (below : ℕ → Term) (op : Op) → op_term below op ≡ col 1 0 → op ≡ Column 1 0
column_node below (Literal v) e = absurd cc
column_node below (Column slot at) e = cc
column_node below (Unary op a) e = absurd cc
column_node below (Binary op a b) e = absurd cc
column_node below (Case t a b) e = absurd cc

literal_node : (below : ℕ → Term) (op : Op) → op_term below op ≡ lit (Int (pos 1)) → op ≡ Literal (Int (pos 1))
literal_node below (Literal v) e = cc
literal_node below (Column slot at) e = absurd cc
literal_node below (Unary op a) e = absurd cc
literal_node below (Binary op a b) e = absurd cc
literal_node below (Case t a b) e = absurd cc

abbrev pub equality : ℕ → ℕ → Op
equality left right = Binary (Compare Eq Bytewise) left right

pub equality_of : (op : Op) (left right : ℕ) → sides_of op ≡ Some (left, right) → op ≡ equality left right
equality_of (Binary (Compare Eq Bytewise) a b) left right e = let p : ◌≡◌ {A = ℕ × ℕ} (a, b) (left, right) = cc in ap (λ (s : ℕ × ℕ). equality s.0 s.1) p
equality_of _ left right e = absurd cc

-- the node of an equality, over the terms of its sides
sides_in : (below : ℕ → Term) (op : Op) → op_term below op ≡ one_is_1 → (left right : ℕ) × (op ≡ equality left right) × (below left ≡ col 1 0)
    × (below right ≡ lit (Int (pos 1)))
sides_in below (Literal v) e = absurd cc
sides_in below (Column slot at) e = absurd cc
sides_in below (Unary op a) e = absurd cc
sides_in below (Binary op a b) e = (a, b, cc, cc, cc)
sides_in below (Case t a b) e = absurd cc

-- such a term is that of such nodes
abbrev pub IsCheckAt : List Op → ℕ → Type 0
IsCheckAt ops at = (left right : ℕ) × (slice_get ops at ≡ Some (equality left right)) × AreOneAnd1 ops left right

deep_to : (ops : List Op) (at n : ℕ) → term_to ops (suc (suc n)) at ≡ one_is_1 → IsCheckAt ops at
deep_to ops at n e =
    let s = sides_in (term_to ops (suc n)) (node ops at) e in (
      s.0,
      s.1,
      is_there ops at _ s.2 (λ (x : equality s.0 s.1 ≡ Literal Null). cc),
      (
        is_there ops s.0 _ (column_node (term_to ops n) (node ops s.0) s.3) (λ (x : Column 1 0 ≡ Literal Null). cc),
        is_there ops s.1 _ (literal_node (term_to ops n) (node ops s.1) s.4) (λ (x : Literal (Int (pos 1)) ≡ Literal Null). cc),
      ),
    )

pub check_to : (ops : List Op) (at : ℕ) → 2 ≤ length ops → term_in ops at ≡ one_is_1 → IsCheckAt ops at
check_to [] at long e = absurd (omega (arith, long))
check_to (x ∷ []) at long e = absurd (omega (arith, long))
check_to (x ∷ y ∷ more) at long e = deep_to (x ∷ y ∷ more) at (length more) e

deep_from : (ops : List Op) (at left right n : ℕ) → slice_get ops at ≡ Some (equality left right) → AreOneAnd1 ops left right
    → term_to ops (suc (suc n)) at ≡ one_is_1
deep_from ops at left right n is h = rw (found ops at _ is, found ops left _ h.0, found ops right _ h.1) refl

pub check_from : (ops : List Op) (at left right : ℕ) → 2 ≤ length ops → slice_get ops at ≡ Some (equality left right) → AreOneAnd1 ops left right
    → term_in ops at ≡ one_is_1
check_from [] at left right long is h = absurd (omega (arith, long))
check_from (x ∷ []) at left right long is h = absurd (omega (arith, long))
check_from (x ∷ y ∷ more) at left right long is h = deep_from (x ∷ y ∷ more) at left right (length more) is h

shallow : (op : Op) → op_term (λ at. lit Null) op ≡ one_is_1 → ⊥
shallow (Literal v) e = cc
shallow (Column slot at) e = cc
shallow (Unary op a) e = cc
shallow (Binary op a b) e = let l : ◌≡◌ {A = Term} (lit Null) (col 1 0) = cc in cc
shallow (Case t a b) e = cc

-- it takes two nodes at least
pub too_short : (ops : List Op) (at : ℕ) → length ops < 2 → term_in ops at ≡ one_is_1 → ⊥
too_short [] at low e = cc
too_short (x ∷ []) at low e = shallow (node (x ∷ []) at) e
too_short (x ∷ y ∷ more) at low e = absurd (omega (arith, low))

pub no_such : (ops : List Op) (roots : List ℕ) → length ops < 2 → terms_in ops roots ≡ one_is_1 ∷ [] → ⊥
no_such ops [] low e = cc
no_such ops (root ∷ roots) low e = let is : term_in ops root ≡ one_is_1 = cc in too_short ops root low is
