-- The two laws of one line: what is read is spelled so, and what is spelled so is read.
use Rattle.std.proofs.Common.{◌≡◌, ℕ, true, false, List, [], ◌∷◌, Some, None, refl, sym, ap, subst, ◌∙◌, arith, codes, lit<}
use Rattle.std.specs.Str.{bytes_eq}
use Rattle.std.specs.Fmt.{decimal}
use Rattle.std.specs.List.{slice_split, join_with_byte}
use Rattle.std.proofs.lemmas.Bool.{false_from_ne_true}
use Rattle.std.proofs.lemmas.Slice.Eq.{bytes_eq-Decides}
use Rattle.std.proofs.lemmas.List.Splits.{join_with_byte-slice_split}
use Rattle.std.proofs.lemmas.Option.{none-some, same_Some}
use Rattle.rights_lattice.specs.declared.cell.Cell.{Cell}
use Rattle.rights_lattice.specs.declared.cell.Cell.TheVariants.{Gave, Used, Back}
use Rattle.delta_mutators.specs.declared.delta.Item.{Item}
use Rattle.delta_mutators.specs.declared.delta.Item.TheVariants as item
use Rattle.rights_lattice.specs.EventName.{IsEventName}
use Rattle.book_core.specs.Limits.{greatest_limit}
use Rattle.plain_words.specs.Words.{is_space, first_word, ended, ◌>>=◌}
use Rattle.delta_wire.specs.declared.items.ItemKind.{ItemKind}
use Rattle.delta_wire.specs.declared.items.ItemKind.TheVariants as kind
use Rattle.delta_wire.specs.declared.header.Header.{Header}
use Rattle.delta_wire.specs.declared.header.Purpose.{Purpose}
use Rattle.delta_wire.specs.declared.header.Purpose.TheVariants as purpose
use Rattle.rights_lattice.specs.Cells.{IsValue}
use Rattle.rights_lattice.specs.Limits.{IsSite}
use Rattle.delta_wire.specs.Grammar.{cell_words, item_words, item_line, header_words, header_line, IsCell, IsUpto, IsItem}
use Rattle.delta_wire.specs.Fields.{event_at, site_at, natural_at}
use Rattle.delta_wire.specs.Reading.{kind_text, kind_of, kind_at, name_item, mark_item, gave_item, used_item, back_item, after_kind, item_of_words, item_of, purpose_text, purpose_of, purpose_at, upto_at, header_of_words, header_of}
use Rattle.plain_words.proofs.NumberLaws.{number_at_found, number_at_again, decimal_lacks_space}
use Rattle.plain_words.proofs.WordLaws.{lacks_space, split_join, bind_some, word_tested, word_found, ended_found}
use Rattle.delta_wire.proofs.FieldLaws.{event_at_found, event_again, site_at_found, site_again, value_at_found, value_again}
use Rattle.delta_wire.proofs.Names.{name_lacks_space}

-- ---- first words

kind_again : (v : ItemKind) → kind_of (kind_text v) ≡ Some v
unfolding kind_of
kind_again kind.Name = refl
kind_again kind.Gave = refl
kind_again kind.Used = refl
kind_again kind.Back = refl

kind_found : (w : List ℕ) (v : ItemKind) → kind_of w ≡ Some v → w ≡ kind_text v
unfolding kind_of
kind_found w v e = word_tested kind_text w kind.Name v _
    (word_tested kind_text w kind.Gave v _ (word_tested kind_text w kind.Used v _ (word_tested kind_text w kind.Back v None (λ n. absurd cc)))) e

purpose_again : (v : Purpose) → purpose_of (purpose_text v) ≡ Some v
unfolding purpose_of
purpose_again purpose.Delta = refl
purpose_again purpose.Ack = refl

purpose_found : (w : List ℕ) (v : Purpose) → purpose_of w ≡ Some v → w ≡ purpose_text v
unfolding purpose_of
purpose_found w v e = word_tested purpose_text w purpose.Delta v _ (word_tested purpose_text w purpose.Ack v None (λ n. absurd cc)) e

-- ---- a word, and the words after it

kind_at_found : (words : List (List ℕ)) (x : ItemKind × List (List ℕ)) → kind_at words ≡ Some x → words ≡ kind_text x.0 ∷ x.1
unfolding kind_at
kind_at_found words x e =
    let a = bind_some (first_word words) (λ w. kind_of w.0 >>= λ v. Some (v, w.1)) x e in
    let b = bind_some (kind_of a.0.0) (λ v. Some (v, a.0.1)) x a.2 in
    word_found words a.0 a.1 ∙ ap (λ (w : List ℕ). w ∷ a.0.1) (kind_found a.0.0 b.0 b.1)
    ∙ ap (λ (p : ItemKind × List (List ℕ)). kind_text p.0 ∷ p.1) (same_Some (b.0, a.0.1) x b.2)

purpose_at_found : (words : List (List ℕ)) (x : Purpose × List (List ℕ)) → purpose_at words ≡ Some x → words ≡ purpose_text x.0 ∷ x.1
unfolding purpose_at
purpose_at_found words x e =
    let a = bind_some (first_word words) (λ w. purpose_of w.0 >>= λ v. Some (v, w.1)) x e in
    let b = bind_some (purpose_of a.0.0) (λ v. Some (v, a.0.1)) x a.2 in
    word_found words a.0 a.1 ∙ ap (λ (w : List ℕ). w ∷ a.0.1) (purpose_found a.0.0 b.0 b.1)
    ∙ ap (λ (p : Purpose × List (List ℕ)). purpose_text p.0 ∷ p.1) (same_Some (b.0, a.0.1) x b.2)

upto_at_found : (words : List (List ℕ)) (x : ℕ × List (List ℕ)) → upto_at words ≡ Some x → (words ≡ decimal x.0 ∷ x.1) × IsUpto x.0
upto_at_found words x e = let f = number_at_found 1 greatest_limit words x (lit< tt) e in (f.0, (f.1, f.2))

-- ---- items

abbrev Spells : List (List ℕ) → Item → Type 0
Spells words i = (words ≡ item_words i) × IsItem i

name_item_found : (words : List (List ℕ)) (i : Item) → name_item words ≡ Some i → Spells (codes "name" ∷ words) i
unfolding name_item
name_item_found words i e =
    let a = bind_some (event_at words) (λ n. ended (item.Name n.0) n.1) i e in
    let f = event_at_found words a.0 a.1 in
    let z = ended_found (item.Name a.0.0) i a.0.1 a.2 in
    subst (Spells (codes "name" ∷ words)) z.1 (ap (λ (t : List (List ℕ)). codes "name" ∷ t) (f.0 ∙ ap (λ (t : List (List ℕ)). a.0.0 ∷ t) z.0), f.1)

-- the mark that ends a line
abbrev MarkIs : List ℕ → Cell → List (List ℕ) → Item → Type 0
MarkIs event cell words i = (v : ℕ) × (words ≡ decimal v ∷ []) × IsValue v × (item.Cell (record { event = event; cell = cell; value = v }) ≡ i)

mark_item_found : (event : List ℕ) (cell : Cell) (words : List (List ℕ)) (i : Item) → mark_item event cell words ≡ Some i → MarkIs event cell words i
unfolding mark_item
mark_item_found event cell words i e =
    let mark : ℕ → Item = λ v. item.Cell (record { event = event; cell = cell; value = v }) in
    let a = bind_some (natural_at words) (λ v. ended (item.Cell (record { event = event; cell = cell; value = v.0 })) v.1) i e in
    let f = value_at_found words a.0 a.1 in
    let z = ended_found (mark a.0.0) i a.0.1 a.2 in
    (a.0.0, f.0 ∙ ap (λ (t : List (List ℕ)). decimal a.0.0 ∷ t) z.0, f.1, z.1)

gave_item_found : (words : List (List ℕ)) (i : Item) → gave_item words ≡ Some i → Spells (codes "gave" ∷ words) i
unfolding gave_item
gave_item_found words i e =
    let a = bind_some (event_at words) (λ n. site_at n.1 >>= λ s. site_at s.1 >>= λ t. mark_item n.0 (Gave s.0 t.0) t.1) i e in
    let b = bind_some (site_at a.0.1) (λ s. site_at s.1 >>= λ t. mark_item a.0.0 (Gave s.0 t.0) t.1) i a.2 in
    let d = bind_some (site_at b.0.1) (λ t. mark_item a.0.0 (Gave b.0.0 t.0) t.1) i b.2 in
    let m = mark_item_found a.0.0 (Gave b.0.0 d.0.0) d.0.1 i d.2 in
    let f = event_at_found words a.0 a.1 in
    let g = site_at_found a.0.1 b.0 b.1 in
    let h = site_at_found b.0.1 d.0 d.1 in
    subst (Spells (codes "gave" ∷ words)) m.3 (
      ap (λ (t : List (List ℕ)). codes "gave" ∷ t)
          (f.0 ∙ ap (λ (t : List (List ℕ)). a.0.0 ∷ t)
          (g.0 ∙ ap (λ (t : List (List ℕ)). decimal b.0.0 ∷ t) (h.0 ∙ ap (λ (t : List (List ℕ)). decimal d.0.0 ∷ t) m.1))),
      (f.1, (g.1, h.1), m.2),
    )

used_item_found : (words : List (List ℕ)) (i : Item) → used_item words ≡ Some i → Spells (codes "used" ∷ words) i
unfolding used_item
used_item_found words i e =
    let a = bind_some (event_at words) (λ n. site_at n.1 >>= λ s. mark_item n.0 (Used s.0) s.1) i e in
    let b = bind_some (site_at a.0.1) (λ s. mark_item a.0.0 (Used s.0) s.1) i a.2 in
    let m = mark_item_found a.0.0 (Used b.0.0) b.0.1 i b.2 in
    let f = event_at_found words a.0 a.1 in
    let g = site_at_found a.0.1 b.0 b.1 in
    subst (Spells (codes "used" ∷ words)) m.3 (
      ap (λ (t : List (List ℕ)). codes "used" ∷ t) (f.0 ∙ ap (λ (t : List (List ℕ)). a.0.0 ∷ t) (g.0 ∙ ap (λ (t : List (List ℕ)). decimal b.0.0 ∷ t) m.1)),
      (f.1, g.1, m.2),
    )

back_item_found : (words : List (List ℕ)) (i : Item) → back_item words ≡ Some i → Spells (codes "back" ∷ words) i
unfolding back_item
back_item_found words i e =
    let a = bind_some (event_at words) (λ n. site_at n.1 >>= λ s. mark_item n.0 (Back s.0) s.1) i e in
    let b = bind_some (site_at a.0.1) (λ s. mark_item a.0.0 (Back s.0) s.1) i a.2 in
    let m = mark_item_found a.0.0 (Back b.0.0) b.0.1 i b.2 in
    let f = event_at_found words a.0 a.1 in
    let g = site_at_found a.0.1 b.0 b.1 in
    subst (Spells (codes "back" ∷ words)) m.3 (
      ap (λ (t : List (List ℕ)). codes "back" ∷ t) (f.0 ∙ ap (λ (t : List (List ℕ)). a.0.0 ∷ t) (g.0 ∙ ap (λ (t : List (List ℕ)). decimal b.0.0 ∷ t) m.1)),
      (f.1, g.1, m.2),
    )

after_kind_found : (k : ItemKind) (words : List (List ℕ)) (i : Item) → after_kind k words ≡ Some i → Spells (kind_text k ∷ words) i
after_kind_found kind.Name words i e = name_item_found words i e
after_kind_found kind.Gave words i e = gave_item_found words i e
after_kind_found kind.Used words i e = used_item_found words i e
after_kind_found kind.Back words i e = back_item_found words i e

item_words_found : (words : List (List ℕ)) (i : Item) → item_of_words words ≡ Some i → Spells words i
unfolding item_of_words
item_words_found words i e =
    let a = bind_some (kind_at words) (λ k. after_kind k.0 k.1) i e in
    rw (kind_at_found words a.0 a.1) (after_kind_found a.0.0 a.0.1 i a.2)

-- what is read is spelled so
pub item_found : (line : List ℕ) (i : Item) → item_of line ≡ Some i → (line ≡ item_line i) × IsItem i
unfolding item_line
item_found line i e =
    let f = item_words_found (slice_split is_space line) i e in
    (sym (join_with_byte-slice_split 32 line) ∙ ap (join_with_byte 32) f.0, f.1)

-- ---- headers

abbrev SpellsHeader : List (List ℕ) → Header → Type 0
SpellsHeader words h = (words ≡ header_words (purpose_text h.purpose) h.by h.to h.upto) × IsSite h.by × IsSite h.to × IsUpto h.upto

header_words_found : (words : List (List ℕ)) (x : Header) → header_of_words words ≡ Some x → SpellsHeader words x
unfolding header_of_words
header_words_found words x e =
    let a = bind_some (purpose_at words)
    (λ k. site_at k.1 >>= λ s. site_at s.1 >>= λ t. upto_at t.1 >>= λ u. ended (record { purpose = k.0; by = s.0; to = t.0; upto = u.0 }) u.1) x e in
    let b = bind_some (site_at a.0.1)
    (λ s. site_at s.1 >>= λ t. upto_at t.1 >>= λ u. ended (record { purpose = a.0.0; by = s.0; to = t.0; upto = u.0 }) u.1) x a.2 in
    let d = bind_some (site_at b.0.1) (λ t. upto_at t.1 >>= λ u. ended (record { purpose = a.0.0; by = b.0.0; to = t.0; upto = u.0 }) u.1) x b.2 in
    let u = bind_some (upto_at d.0.1) (λ u. ended (record { purpose = a.0.0; by = b.0.0; to = d.0.0; upto = u.0 }) u.1) x d.2 in
    let made : Header = record { purpose = a.0.0; by = b.0.0; to = d.0.0; upto = u.0.0 } in
    let z = ended_found made x u.0.1 u.2 in
    let f = purpose_at_found words a.0 a.1 in
    let g = site_at_found a.0.1 b.0 b.1 in
    let h = site_at_found b.0.1 d.0 d.1 in
    let v = upto_at_found d.0.1 u.0 u.1 in
    subst (SpellsHeader words) z.1 (
      f ∙ ap (λ (t : List (List ℕ)). purpose_text a.0.0 ∷ t)
          (g.0 ∙ ap (λ (t : List (List ℕ)). decimal b.0.0 ∷ t)
          (h.0 ∙ ap (λ (t : List (List ℕ)). decimal d.0.0 ∷ t) (v.0 ∙ ap (λ (t : List (List ℕ)). decimal u.0.0 ∷ t) z.0))),
      g.1,
      h.1,
      v.1,
    )

pub header_found : (line : List ℕ) (x : Header) → header_of line ≡ Some x → (line ≡ header_line (purpose_text x.purpose) x.by x.to x.upto) × IsSite x.by
    × IsSite x.to × IsUpto x.upto
unfolding header_line
header_found line x e =
    let f = header_words_found (slice_split is_space line) x e in
    (sym (join_with_byte-slice_split 32 line) ∙ ap (join_with_byte 32) f.0, f.1, f.2, f.3)

-- ---- back

kind_at_again : (v : ItemKind) (ws : List (List ℕ)) → kind_at (kind_text v ∷ ws) ≡ Some (v, ws)
unfolding kind_at
kind_at_again v ws = rw (kind_again v) refl

purpose_at_again : (v : Purpose) (ws : List (List ℕ)) → purpose_at (purpose_text v ∷ ws) ≡ Some (v, ws)
unfolding purpose_at
purpose_at_again v ws = rw (purpose_again v) refl

upto_again : (n : ℕ) (ws : List (List ℕ)) → IsUpto n → upto_at (decimal n ∷ ws) ≡ Some (n, ws)
upto_again n ws h = number_at_again 1 greatest_limit n ws (lit< tt) h.0 h.1

cell_again : (e : List ℕ) (c : Cell) (v : ℕ) → IsEventName e → IsCell c → IsValue v
    → item_of_words (cell_words e v c) ≡ Some (item.Cell (record { event = e; cell = c; value = v }))
unfolding item_of_words gave_item used_item back_item mark_item
cell_again e (Gave i j) v h k w = rw (
  kind_at_again kind.Gave (e ∷ decimal i ∷ decimal j ∷ decimal v ∷ []),
  event_again e (decimal i ∷ decimal j ∷ decimal v ∷ []) h,
  site_again i (decimal j ∷ decimal v ∷ []) k.0,
  site_again j (decimal v ∷ []) k.1,
  value_again v [] w,
) refl
cell_again e (Used i) v h k w = rw (
  kind_at_again kind.Used (e ∷ decimal i ∷ decimal v ∷ []),
  event_again e (decimal i ∷ decimal v ∷ []) h,
  site_again i (decimal v ∷ []) k,
  value_again v [] w,
) refl
cell_again e (Back i) v h k w = rw (
  kind_at_again kind.Back (e ∷ decimal i ∷ decimal v ∷ []),
  event_again e (decimal i ∷ decimal v ∷ []) h,
  site_again i (decimal v ∷ []) k,
  value_again v [] w,
) refl

item_words_again : (i : Item) → IsItem i → item_of_words (item_words i) ≡ Some i
unfolding item_of_words name_item
item_words_again (item.Name e) h = rw (kind_at_again kind.Name (e ∷ []), event_again e [] h) refl
item_words_again (item.Cell m) h = cell_again m.event m.cell m.value h.0 h.1 h.2

cell_splits : (e : List ℕ) (c : Cell) (v : ℕ) → IsEventName e → IsCell c → IsValue v
    → slice_split is_space (join_with_byte 32 (cell_words e v c)) ≡ cell_words e v c
cell_splits e (Gave i j) v h k w = split_join _ (e ∷ decimal i ∷ decimal j ∷ decimal v ∷ []) refl (
  name_lacks_space e h,
  (
    decimal_lacks_space i (omega (arith, k.0)),
    (decimal_lacks_space j (omega (arith, k.1)), (decimal_lacks_space v (omega (arith, w)), tt)),
  ),
)
cell_splits e (Used i) v h k w = split_join _ (e ∷ decimal i ∷ decimal v ∷ []) refl
    (name_lacks_space e h, (decimal_lacks_space i (omega (arith, k)), (decimal_lacks_space v (omega (arith, w)), tt)))
cell_splits e (Back i) v h k w = split_join _ (e ∷ decimal i ∷ decimal v ∷ []) refl
    (name_lacks_space e h, (decimal_lacks_space i (omega (arith, k)), (decimal_lacks_space v (omega (arith, w)), tt)))

item_splits : (i : Item) → IsItem i → slice_split is_space (join_with_byte 32 (item_words i)) ≡ item_words i
item_splits (item.Name e) h = split_join _ (e ∷ []) refl (name_lacks_space e h, tt)
item_splits (item.Cell m) h = cell_splits m.event m.cell m.value h.0 h.1 h.2

-- what is spelled so is read
pub item_again : (i : Item) → IsItem i → item_of (item_line i) ≡ Some i
unfolding item_line
item_again i h = ap item_of_words (item_splits i h) ∙ item_words_again i h

purpose_lacks : (p : Purpose) → lacks_space (purpose_text p) ≡ true
purpose_lacks purpose.Delta = refl
purpose_lacks purpose.Ack = refl

header_words_again : (p : Purpose) (by to upto : ℕ) → IsSite by → IsSite to → IsUpto upto
    → header_of_words (header_words (purpose_text p) by to upto) ≡ Some (record { purpose = p; by = by; to = to; upto = upto })
unfolding header_of_words
header_words_again p by to upto h k u =
    rw (
      purpose_at_again p (decimal by ∷ decimal to ∷ decimal upto ∷ []),
      site_again by (decimal to ∷ decimal upto ∷ []) h,
      site_again to (decimal upto ∷ []) k,
      upto_again upto [] u,
    ) refl

pub header_again : (p : Purpose) (by to upto : ℕ) → IsSite by → IsSite to → IsUpto upto
    → header_of (header_line (purpose_text p) by to upto) ≡ Some (record { purpose = p; by = by; to = to; upto = upto })
unfolding header_line
header_again p by to upto h k u =
    ap header_of_words (split_join _ (decimal by ∷ decimal to ∷ decimal upto ∷ []) (purpose_lacks p)
    (decimal_lacks_space by (omega (arith, h)), (decimal_lacks_space to (omega (arith, k)), (decimal_lacks_space upto (omega (arith, u)), tt))))
    ∙ header_words_again p by to upto h k u

-- no item's line is the last line of a message
end_is_no_item : item_of (codes "end") ≡ None
unfolding item_of_words kind_at kind_of
end_is_no_item = refl

pub item_is_not_end : (i : Item) → IsItem i → bytes_eq (item_line i) (codes "end") ≡ false
item_is_not_end i h = false_from_ne_true _
    (λ t. none-some i (sym end_is_no_item ∙ ap item_of (sym ((bytes_eq-Decides (item_line i) (codes "end")).0 t)) ∙ item_again i h))
