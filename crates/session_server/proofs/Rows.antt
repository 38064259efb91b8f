-- Rows to which one more is added each.
use Rattle.std.proofs.Common.{◌≡◌, ℕ, zero, suc, ◌+◌, ◌<◌, List, [], ◌∷◌, ◌++◌, length, get_or, refl, sym, ap, ◌∙◌, subst, arith}
use Rattle.std.specs.Prelude.{All, map}
use Rattle.std.specs.List.{AllZip}
use Rattle.std.proofs.lemmas.List.{length_push, length-map, map-append, same_from_push}
use Rattle.std.proofs.lemmas.List.Elements.{All-cons, All-nil, All-head, All-tail, All-push, All-weaker}
use Rattle.session_server.specs.declared.site.Visit.{Visit}
use Rattle.session_server.specs.Mesh.{each_with, rows_of, AreInTurn}

pub same_visit : {R W : Type 0} {i j : ℕ} {a b : R} {x y : W} → i ≡ j → a ≡ b → x ≡ y
    → ◌≡◌ {A = Visit R W} (record { id = i; reader = a; writer = x }) (record { id = j; reader = b; writer = y })
same_visit p q s = λ k. record { id = p k; reader = q k; writer = s k }

pub mapped_push : {A B : Type 0} (f : A → B) (xs ys : List A) (y : A) → xs ≡ ys ++ y ∷ [] → map f xs ≡ map f ys ++ f y ∷ []
mapped_push f xs ys y e = ap (map f) e ∙ map-append f ys (y ∷ [])

associative : {X : Type 0} (xs ys zs : List X) → (xs ++ ys) ++ zs ≡ xs ++ (ys ++ zs)
associative [] ys zs = refl
associative (x ∷ xs) ys zs = ap (λ t. x ∷ t) (associative xs ys zs)

-- one more on both sides, where what came is told of what went in
pub mapped_more : {A B X : Type 0} (f : A → X) (g : B → X) (old mid new : List A) (xs ys : List B) (a : A) (b : B) → new ≡ mid ++ a ∷ []
    → ys ≡ xs ++ b ∷ [] → f a ≡ g b → map f mid ≡ map f old ++ map g xs
    → map f new ≡ map f old ++ map g ys
mapped_more f g old mid new xs ys a b p q same h =
    mapped_push f new mid a p ∙ (λ k. h k ++ same k ∷ []) ∙ associative (map f old) (map g xs) (g b ∷ [])
    ∙ ap (λ l. map f old ++ l) (sym (mapped_push g ys xs b q))

pub mapped_at : {A B : Type 0} (f : A → B) (xs : List A) (k : ℕ) (x : A) (d : B) → k < length xs → x ≡ get_or xs k x → f x ≡ get_or (map f xs) k d
mapped_at f [] k x d lt e = absurd (omega (arith, lt))
mapped_at f (y ∷ xs) zero x d lt e = ap f e
mapped_at f (y ∷ xs) (suc k) x d lt e = mapped_at f xs k x d (omega (arith, lt)) e

pub map_after : {A B X : Type 0} (f : A → B) (g : B → X) (xs : List A) → map g (map f xs) ≡ map (λ x. g (f x)) xs
map_after f g [] = refl
map_after f g (x ∷ xs) = λ i. g (f x) ∷ map_after f g xs i

pub each_push : {X : Type 0} (rows : List (List X)) (xs : List X) (row : List X) (x : X) → length xs ≡ length rows
    → each_with (rows ++ row ∷ []) (xs ++ x ∷ []) ≡ each_with rows xs ++ (row ++ x ∷ []) ∷ []
each_push [] [] row x e = refl
each_push [] (y ∷ ys) row x e = absurd (omega (arith, e))
each_push (r ∷ rows) [] row x e = absurd (omega (arith, e))
each_push (r ∷ rows) (y ∷ ys) row x e = ap (λ t. (r ++ y ∷ []) ∷ t) (each_push rows ys row x (omega (arith, e)))

-- the same by other names
pub each_more : {X : Type 0} (rows rows' : List (List X)) (row : List X) (xs xs' : List X) (x : X) (new new' : List (List X)) → length xs' ≡ length rows'
    → rows ≡ rows' ++ row ∷ [] → xs ≡ xs' ++ x ∷ [] → new ≡ new' ++ (row ++ x ∷ []) ∷ [] → new' ≡ each_with rows' xs'
    → new ≡ each_with rows xs
each_more rows rows' row xs xs' x new new' len er ex en is = en ∙ ap (λ l. l ++ (row ++ x ∷ []) ∷ []) is ∙ sym (each_push rows' xs' row x len)
    ∙ sym (λ i. each_with (er i) (ex i))

pub each_map : {X Y : Type 0} (f : X → Y) (rows : List (List X)) (xs : List X) → map (map f) (each_with rows xs) ≡ each_with (map (map f) rows) (map f xs)
each_map f [] xs = refl
each_map f (r ∷ rows) [] = refl
each_map f (r ∷ rows) (x ∷ xs) = λ i. map-append f r (x ∷ []) i ∷ each_map f rows xs i

pub length_each : {X : Type 0} (rows : List (List X)) (xs : List X) → length (each_with rows xs) ≡ length rows
length_each [] xs = refl
length_each (r ∷ rows) [] = refl
length_each (r ∷ rows) (x ∷ xs) = ap suc (length_each rows xs)

-- what the rows were before
pub each_same : {X : Type 0} (rows others : List (List X)) (xs ys : List X) → length xs ≡ length rows → length ys ≡ length others
    → each_with rows xs ≡ each_with others ys → rows ≡ others
each_same [] [] xs ys p q e = refl
each_same [] (o ∷ others) xs [] p q e = absurd (omega (arith, q))
each_same [] (o ∷ others) xs (y ∷ ys) p q e = absurd (let same = e in cc)
each_same (r ∷ rows) others [] ys p q e = absurd (omega (arith, p))
each_same (r ∷ rows) [] (x ∷ xs) ys p q e = absurd (let same = e in cc)
each_same (r ∷ rows) (o ∷ others) (x ∷ xs) [] p q e = absurd (omega (arith, q))
each_same (r ∷ rows) (o ∷ others) (x ∷ xs) (y ∷ ys) p q e =
    let first : r ++ x ∷ [] ≡ o ++ y ∷ [] = let same = e in cc in
    let rest : each_with rows xs ≡ each_with others ys = let same = e in cc in
    λ i. (same_from_push r o x y first).0 i ∷ each_same rows others xs ys (omega (arith, p)) (omega (arith, q)) rest i

pub length_rows : {X : Type 0} (came : List (List (X × X))) → length (rows_of came) ≡ length came
length_rows [] = refl
length_rows (c ∷ earlier) = length_push (each_with (rows_of earlier) (map (λ p. p.0) c)) (map (λ p. p.1) c)
    ∙ omega (arith, length_each (rows_of earlier) (map (λ p. p.0) c), length_rows earlier)

each_longer : {X : Type 0} (n : ℕ) (rows : List (List X)) (xs : List X) → length xs ≡ length rows → All (λ row. length row + 1 ≡ n) rows
    → All (λ row. length row + 1 ≡ n + 1) (each_with rows xs)
each_longer n [] xs e h = All-nil (λ row. length row + 1 ≡ n + 1)
each_longer n (r ∷ rows) [] e h = absurd (omega (arith, e))
each_longer n (r ∷ rows) (x ∷ xs) e h =
    All-cons (λ row. length row + 1 ≡ n + 1) (r ++ x ∷ []) (each_with rows xs) (omega (arith, length_push r x, All-head (λ row. length row + 1 ≡ n) r rows h))
    (each_longer n rows xs (omega (arith, e)) (All-tail (λ row. length row + 1 ≡ n) r rows h))

-- each row has one less than there are
pub full_rows : {X : Type 0} (came : List (List (X × X))) → AreInTurn came → All (λ row. length row + 1 ≡ length came) (rows_of came)
full_rows [] h = All-nil (λ row. length row + 1 ≡ 0)
full_rows (c ∷ earlier) h =
    let n = length earlier in
    All-push (λ row. length row + 1 ≡ length (c ∷ earlier)) (each_with (rows_of earlier) (map (λ p. p.0) c)) (map (λ p. p.1) c)
    (All-weaker (λ row. length row + 1 ≡ n + 1) (λ row. length row + 1 ≡ length (c ∷ earlier)) (λ row e. omega (arith, e))
    (each_with (rows_of earlier) (map (λ p. p.0) c))
    (each_longer n (rows_of earlier) (map (λ p. p.0) c) (omega (arith, length-map c (λ p. p.0), h.0, length_rows earlier)) (full_rows earlier h.1)))
    (omega (arith, length-map c (λ p. p.1), h.0))

pub all_each : {X : Type 0} (P : X → Type 0) (rows : List (List X)) (xs : List X) → All (λ row. All P row) rows → All P xs
    → All (λ row. All P row) (each_with rows xs)
all_each P [] xs h k = h
all_each P (r ∷ rows) [] h k = h
all_each P (r ∷ rows) (x ∷ xs) h k =
    All-cons (λ row. All P row) (r ++ x ∷ []) (each_with rows xs) (All-push P r x (All-head (λ row. All P row) r rows h) (All-head P x xs k))
    (all_each P rows xs (All-tail (λ row. All P row) r rows h) (All-tail P x xs k))

pub All-pushed : {X : Type 0} (P : X → Type 0) (xs : List X) (x : X) → All P (xs ++ x ∷ []) → All P xs × P x
All-pushed P [] x h = (All-nil P, All-head P x [] h)
All-pushed P (y ∷ xs) x h = let rest = All-pushed P xs x (All-tail P y (xs ++ x ∷ []) h) in (All-cons P y xs (All-head P y (xs ++ x ∷ []) h) rest.0, rest.1)

-- what holds of rows holds of them before, and of what was added
pub all_before : {X : Type 0} (P : X → Type 0) (rows : List (List X)) (xs : List X) → length xs ≡ length rows → All (λ row. All P row) (each_with rows xs)
    → All (λ row. All P row) rows × All P xs
all_before P [] [] e h = (h, All-nil P)
all_before P [] (x ∷ xs) e h = absurd (omega (arith, e))
all_before P (r ∷ rows) [] e h = absurd (omega (arith, e))
all_before P (r ∷ rows) (x ∷ xs) e h =
    let one = All-pushed P r x (All-head (λ row. All P row) (r ++ x ∷ []) (each_with rows xs) h) in
    let rest = all_before P rows xs (omega (arith, e)) (All-tail (λ row. All P row) (r ++ x ∷ []) (each_with rows xs) h) in
    (All-cons (λ row. All P row) r rows one.0 rest.0, All-cons P x xs one.1 rest.1)

none_and_more : {A B : Type 0} (R : A → B → Type 0) (ys : List B) (y : B) → AllZip R [] (ys ++ y ∷ []) → ⊥
none_and_more R [] y h = h
none_and_more R (b ∷ ys) y h = h

more_and_none : {A B : Type 0} (R : A → B → Type 0) (xs : List A) (x : A) → AllZip R (xs ++ x ∷ []) [] → ⊥
more_and_none R [] x h = h
more_and_none R (a ∷ xs) x h = h

unpaired : {A B : Type 0} (R : A → B → Type 0) (xs : List A) (ys : List B) (x : A) (y : B) → AllZip R (xs ++ x ∷ []) (ys ++ y ∷ []) → AllZip R xs ys × R x y
unpaired R [] [] x y h = (tt, h.0)
unpaired R [] (b ∷ ys) x y h = absurd (none_and_more R ys y h.1)
unpaired R (a ∷ xs) [] x y h = absurd (more_and_none R xs x h.1)
unpaired R (a ∷ xs) (b ∷ ys) x y h = let rest = unpaired R xs ys x y h.1 in ((h.0, rest.0), rest.1)

-- the last pair of two lists, and those before it
pub last_pair : {A B : Type 0} (R : A → B → Type 0) (xs xs' : List A) (x : A) (ys ys' : List B) (y : B) → xs ≡ xs' ++ x ∷ [] → ys ≡ ys' ++ y ∷ []
    → AllZip R xs ys → AllZip R xs' ys' × R x y
last_pair R xs xs' x ys ys' y p q h = unpaired R xs' ys' x y (subst (λ l. AllZip R l (ys' ++ y ∷ [])) p (subst (λ l. AllZip R xs l) q h))
