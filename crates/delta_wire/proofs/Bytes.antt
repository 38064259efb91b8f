-- What holds of each byte of a line, where it holds of the bytes of names, of digits and of a space.
use Rattle.std.proofs.Common.{◌≡◌, ℕ, ◌≤◌, ◌^◌, Bool, true, List, [], ◌∷◌, ◌++◌, refl, arith, codes}
use Rattle.std.specs.Fmt.{decimal}
use Rattle.std.specs.List.{join_with_byte, AllByRecursion, list_all}
use Rattle.std.specs.Str.Parse.{AllDigits}
use Rattle.std.proofs.lemmas.Bool.{and_parts, and_from}
use Rattle.std.proofs.lemmas.Fmt.{digits_decimal}
use Rattle.std.proofs.lemmas.Str.Parse.{digit_from_value}
use Rattle.rights_lattice.specs.EventName.{IsEventName, is_event_byte}
use Rattle.rights_lattice.specs.declared.cell.Cell.{Cell}
use Rattle.rights_lattice.specs.declared.cell.Cell.TheVariants.{Gave, Used, Back}
use Rattle.rights_lattice.specs.Cells.{IsValue}
use Rattle.rights_lattice.specs.Limits.{IsSite}
use Rattle.delta_mutators.specs.declared.delta.Item.{Item}
use Rattle.delta_mutators.specs.declared.delta.Item.TheVariants as item
use Rattle.delta_wire.specs.declared.header.Purpose.{Purpose}
use Rattle.delta_wire.specs.declared.header.Purpose.TheVariants as purpose
use Rattle.delta_wire.specs.Grammar.{cell_words, item_line, header_line, IsCell, IsUpto, IsItem}
use Rattle.delta_wire.specs.Reading.{purpose_text}
use Rattle.plain_words.proofs.NumberLaws.{own}

abbrev pub Holds : (ℕ → Bool) → List ℕ → Type 0
Holds p w = list_all p w ≡ true

-- the test holds of each byte that a name may have
abbrev pub HoldsOfNames : (ℕ → Bool) → Type 0
HoldsOfNames p = (b : ℕ) → is_event_byte b ≡ true → p b ≡ true

-- the test holds of all that stands in a line
pub record IsOfLines (p : ℕ → Bool) : Type 0 where
  pub names : HoldsOfNames p
  pub digits : (b : ℕ) → 48 ≤ b → b ≤ 57 → p b ≡ true
  pub space : p 32 ≡ true

pub holds_append : (p : ℕ → Bool) (v w : List ℕ) → Holds p v → Holds p w → Holds p (v ++ w)
holds_append p [] w h k = k
holds_append p (b ∷ v) w h k = let parts = and_parts (p b) (list_all p v) h in and_from _ _ parts.0 (holds_append p v w parts.1 k)

join_holds : (p : ℕ → Bool) → IsOfLines p → (w : List ℕ) (ws : List (List ℕ)) → Holds p w → AllByRecursion (Holds p) ws → Holds p (join_with_byte 32 (w ∷ ws))
join_holds p is w [] h hs = h
join_holds p is w (v ∷ ws) h hs = holds_append p w (32 ∷ join_with_byte 32 (v ∷ ws)) h (and_from _ _ is.space (join_holds p is v ws hs.0 hs.1))

letters_hold : (p : ℕ → Bool) → HoldsOfNames p → (w : List ℕ) → list_all is_event_byte w ≡ true → Holds p w
letters_hold p names [] e = refl
letters_hold p names (b ∷ w) e = let parts = and_parts (is_event_byte b) (list_all is_event_byte w) e in and_from _ _ (names b parts.0)
    (letters_hold p names w parts.1)

pub name_holds : (p : ℕ → Bool) → HoldsOfNames p → (e : List ℕ) → IsEventName e → Holds p e
name_holds p names e h = letters_hold p names e h.bytes_allowed

digits_hold : (p : ℕ → Bool) → IsOfLines p → (w : List ℕ) → AllDigits 10 w → Holds p w
digits_hold p is [] h = refl
digits_hold p is (b ∷ w) h = let r = digit_from_value b h.0 in and_from _ _ (is.digits b (omega arith) (omega arith)) (digits_hold p is w h.1)

decimal_holds : (p : ℕ → Bool) → IsOfLines p → (n : ℕ) → n ≤ 2 ^ 58 → Holds p (decimal n)
decimal_holds p is n h = digits_hold p is (decimal n) (own.to _ (digits_decimal own n (omega arith)))

cell_holds : (p : ℕ → Bool) → IsOfLines p → (e : List ℕ) (c : Cell) (v : ℕ) → IsEventName e → IsCell c → IsValue v
    → Holds p (join_with_byte 32 (cell_words e v c))
cell_holds p is e (Gave i j) v h k w =
    join_holds p is (codes "gave") (e ∷ decimal i ∷ decimal j ∷ decimal v ∷ []) (letters_hold p is.names (codes "gave") refl) (
      name_holds p is.names e h,
      (
        decimal_holds p is i (omega (arith, k.0)),
        (decimal_holds p is j (omega (arith, k.1)), (decimal_holds p is v (omega (arith, w)), tt)),
      ),
    )
cell_holds p is e (Used i) v h k w =
    join_holds p is (codes "used") (e ∷ decimal i ∷ decimal v ∷ []) (letters_hold p is.names (codes "used") refl)
    (name_holds p is.names e h, (decimal_holds p is i (omega (arith, k)), (decimal_holds p is v (omega (arith, w)), tt)))
cell_holds p is e (Back i) v h k w =
    join_holds p is (codes "back") (e ∷ decimal i ∷ decimal v ∷ []) (letters_hold p is.names (codes "back") refl)
    (name_holds p is.names e h, (decimal_holds p is i (omega (arith, k)), (decimal_holds p is v (omega (arith, w)), tt)))

pub item_holds : (p : ℕ → Bool) → IsOfLines p → (i : Item) → IsItem i → Holds p (item_line i)
unfolding item_line
item_holds p is (item.Name e) h = join_holds p is (codes "name") (e ∷ []) (letters_hold p is.names (codes "name") refl) (name_holds p is.names e h, tt)
item_holds p is (item.Cell m) h = cell_holds p is m.event m.cell m.value h.0 h.1 h.2

purpose_holds : (p : ℕ → Bool) → IsOfLines p → (q : Purpose) → Holds p (purpose_text q)
purpose_holds p is purpose.Delta = letters_hold p is.names (purpose_text purpose.Delta) refl
purpose_holds p is purpose.Ack = letters_hold p is.names (purpose_text purpose.Ack) refl

pub header_holds : (p : ℕ → Bool) → IsOfLines p → (q : Purpose) (by to upto : ℕ) → IsSite by → IsSite to → IsUpto upto
    → Holds p (header_line (purpose_text q) by to upto)
unfolding header_line
header_holds p is q by to upto h k u =
    join_holds p is (purpose_text q) (decimal by ∷ decimal to ∷ decimal upto ∷ []) (purpose_holds p is q)
    (decimal_holds p is by (omega (arith, h)), (decimal_holds p is to (omega (arith, k)), (decimal_holds p is upto (omega (arith, u)), tt)))
