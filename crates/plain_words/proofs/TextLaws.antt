-- The texts of several things, one after another.
use Rattle.std.proofs.Common.{◌≡◌, ℕ, ◌+◌, ◌<◌, List, [], ◌∷◌, ◌++◌, take, drop, length, get_or, sym, ap, ◌∙◌, subst, Option}
use Rattle.std.specs.List.{AllByRecursion, flat_map}
use Rattle.std.specs.Io.KnownBytes.{Appends}
use Rattle.std.proofs.KnownBytes.{Appends-trans}
use Rattle.std.proofs.lemmas.List.{flat_map_more, take_more, take-append-drop}
use Rattle.std.proofs.lemmas.List.Concat.{flat_map-append}
use Rattle.plain_words.specs.Writing.{AppendsFront}
use Rattle.plain_words.proofs.WriteLaws.{AppendsFront-after, AppendsFront-longer}

-- the text of the first k items, and of one more
texts_more : {A : Type 0} (f : A → List ℕ) (items : List A) (k : ℕ) (item : A) → k < length items → item ≡ get_or items k item
    → flat_map f (take k items) ++ f item ≡ flat_map f (take (k + 1) items)
texts_more f items k item within e =
    flat_map_more f [] (take k items) item ∙ ap (flat_map f) (ap (λ x. take k items ++ x ∷ []) e ∙ sym (take_more items k item within))

texts_front : {A : Type 0} (f : A → List ℕ) (items : List A) (k : ℕ) → flat_map f items ≡ flat_map f (take k items) ++ flat_map f (drop k items)
texts_front f items k = ap (flat_map f) (sym (take-append-drop k items)) ∙ flat_map-append f (take k items) (drop k items)

-- a front of the text of one item, after the texts of those before it
pub texts_break_off : {A : Type 0} (a b c : Option (List ℕ)) (f : A → List ℕ) (items : List A) (k : ℕ) (item : A) → k < length items
    → item ≡ get_or items k item
    → Appends a b (flat_map f (take k items)) → AppendsFront b c (f item) → AppendsFront a c (flat_map f items)
texts_break_off a b c f items k item within e before now =
    subst (AppendsFront a c) (ap (λ t. t ++ flat_map f (drop (k + 1) items)) (texts_more f items k item within e) ∙ sym (texts_front f items (k + 1)))
    (AppendsFront-longer a c _ (flat_map f (drop (k + 1) items)) (AppendsFront-after a b c _ (f item) before now))

-- the text of one item more
pub texts_go_on : {A : Type 0} (a b c : Option (List ℕ)) (f : A → List ℕ) (items : List A) (k : ℕ) (item : A) → k < length items → item ≡ get_or items k item
    → Appends a b (flat_map f (take k items)) → Appends b c (f item) → Appends a c (flat_map f (take (k + 1) items))
texts_go_on a b c f items k item within e before now =
    subst (Appends a c) (texts_more f items k item within e) (Appends-trans a b c _ (f item) before now)

-- what holds of each of them, and of one more
pub all_end : {X : Type 0} (P : X → Type 0) (xs : List X) (x : X) → AllByRecursion P xs → P x → AllByRecursion P (xs ++ x ∷ [])
all_end P [] x h p = (p, tt)
all_end P (y ∷ xs) x h p = (h.0, all_end P xs x h.1 p)

pub all_more : {X : Type 0} (P : X → Type 0) (xs : List X) (k : ℕ) (x : X) → k < length xs → x ≡ get_or xs k x → AllByRecursion P (take k xs) → P x
    → AllByRecursion P (take (k + 1) xs)
all_more P xs k x lt is h p =
    subst (AllByRecursion P) (ap (λ y. take k xs ++ y ∷ []) is ∙ sym (take_more xs k x lt)) (all_end P (take k xs) x h p)
