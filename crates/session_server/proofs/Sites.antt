-- What is left of each site, told of what was handed in.
use Rattle.std.proofs.Common.{◌≡◌, ◌≢◌, ◌≤◌, ℕ, List, [], ◌∷◌, Result, Ok, Err, refl, subst, sym, ap, ◌∙◌}
use Rattle.std.specs.Prelude.{All, IfErr, IfOk, map}
use Rattle.std.specs.List.{AllZip}
use Rattle.std.proofs.lemmas.List.Elements.{All-cons, All-nil}
use Rattle.book_core.specs.BookView.{BookView}
use Rattle.site_desk.specs.declared.answer.Seen.{Seen}
use Rattle.site_desk.specs.declared.finish.FinishFault.{FinishFault}
use Rattle.site_desk.specs.declared.finish.FinishFault.TheVariants.{SeatsOut, Stranger, StrangerSeen}
use Rattle.site_desk.specs.declared.receipt.Receipt.{Receipt}
use Rattle.site_desk.specs.Count.{asked_since}
use Rattle.session_server.specs.Finished.{IsCompared, IsFinished}
use Rattle.session_server.proofs.Rows.{map_after}

-- the same without the count
pub finished_by : (opening share : ℕ) (book : BookView) (receipts : List Receipt) (looks : List Seen) (result : Result (Unit {0}) FinishFault)
    → IsCompared opening share book receipts looks result → IsFinished book receipts looks result
finished_by opening share book receipts looks (Ok done) h = (h.1, h.2)
finished_by opening share book receipts looks (Err SeatsOut) h = tt
finished_by opening share book receipts looks (Err (Stranger k)) h = h.1
finished_by opening share book receipts looks (Err (StrangerSeen k)) h = (h.1, h.2)

-- no more was entered than was given, where the shares are no more
pub entered_by : (opening share given : ℕ) (book : BookView) (receipts : List Receipt) (looks : List Seen) (result : Result (Unit {0}) FinishFault)
    → IsCompared opening share book receipts looks result → share ≤ given
    → result ≢ Err SeatsOut → asked_since opening book.history ≤ given
entered_by opening share given book receipts looks (Ok done) h few in_seats = subst (λ n. n ≤ given) h.0 few
entered_by opening share given book receipts looks (Err SeatsOut) h few in_seats = absurd (in_seats refl)
entered_by opening share given book receipts looks (Err (Stranger k)) h few in_seats = subst (λ n. n ≤ given) h.0 few
entered_by opening share given book receipts looks (Err (StrangerSeen k)) h few in_seats = subst (λ n. n ≤ given) h.0 few

pub seats_in : (result : Result (Unit {0}) FinishFault) → IfErr result (λ fault. fault ≢ SeatsOut) → result ≢ Err SeatsOut
seats_in (Ok done) h is = absurd (let same = is in cc)
seats_in (Err fault) h is = h (let same = is in cc)

-- what pairs agree on is the same list by both
pub same_by : {A B X : Type 0} (R : A → B → Type 0) (f : A → X) (g : B → X) (xs : List A) (ys : List B) → ((x : A) (y : B) → R x y → g y ≡ f x)
    → AllZip R xs ys → map g ys ≡ map f xs
same_by R f g [] [] so h = refl
same_by R f g [] (y ∷ ys) so h = absurd h
same_by R f g (x ∷ xs) [] so h = absurd h
same_by R f g (x ∷ xs) (y ∷ ys) so h = λ i. so x y h.0 i ∷ same_by R f g xs ys so h.1 i

-- what the second of each pair has
pub each_second : {A B : Type 0} (R : A → B → Type 0) (Q : B → Type 0) (xs : List A) (ys : List B) → ((x : A) (y : B) → R x y → Q y) → AllZip R xs ys → All Q ys
each_second R Q [] [] so h = All-nil Q
each_second R Q [] (y ∷ ys) so h = absurd h
each_second R Q (x ∷ xs) [] so h = absurd h
each_second R Q (x ∷ xs) (y ∷ ys) so h = All-cons Q y ys (so x y h.0) (each_second R Q xs ys so h.1)

-- what stands behind three steps, one by one
pub through : {A B C D : Type 0} (R : A → B → Type 0) (S : B → C → Type 0) (T : C → D → Type 0) (Q : A → D → Type 0) (xs : List A) (ys : List B)
    (zs : List C) (ws : List D)
    → ((a : A) (b : B) (c : C) (d : D) → R a b → S b c → T c d → Q a d) → AllZip R xs ys → AllZip S ys zs → AllZip T zs ws → AllZip Q xs ws
through R S T Q [] [] [] [] so r s t = tt
through R S T Q [] [] [] (w ∷ ws) so r s t = absurd t
through R S T Q [] [] (z ∷ zs) ws so r s t = absurd s
through R S T Q [] (y ∷ ys) zs ws so r s t = absurd r
through R S T Q (x ∷ xs) [] zs ws so r s t = absurd r
through R S T Q (x ∷ xs) (y ∷ ys) [] ws so r s t = absurd s
through R S T Q (x ∷ xs) (y ∷ ys) (z ∷ zs) [] so r s t = absurd t
through R S T Q (x ∷ xs) (y ∷ ys) (z ∷ zs) (w ∷ ws) so r s t = (so x y z w r.0 s.0 t.0, through R S T Q xs ys zs ws so r.1 s.1 t.1)

-- what is the same at both ends of the steps, read of what the first had
pub same_through : {A B C D V X : Type 0} (R : A → B → Type 0) (S : B → C → Type 0) (T : C → D → Type 0) (xs : List A) (ys : List B) (zs : List C)
    (ws : List D) (vs : List V) (had : A → V) (f : V → X) (g : D → X)
    → ((a : A) (b : B) (c : C) (d : D) → R a b → S b c → T c d → g d ≡ f (had a)) → AllZip R xs ys → AllZip S ys zs → AllZip T zs ws → map had xs ≡ vs
    → map g ws ≡ map f vs
same_through R S T xs ys zs ws vs had f g so r s t is =
    same_by (λ a d. g d ≡ f (had a)) (λ a. f (had a)) g xs ws (λ a d q. q) (through R S T (λ a d. g d ≡ f (had a)) xs ys zs ws so r s t)
    ∙ sym (map_after had f xs)
    ∙ ap (map f) is

pub zip_map : {A V D : Type 0} (f : A → V) (Q : V → D → Type 0) (xs : List A) (ws : List D) → AllZip (λ a d. Q (f a) d) xs ws → AllZip Q (map f xs) ws
zip_map f Q [] [] h = tt
zip_map f Q [] (w ∷ ws) h = absurd h
zip_map f Q (x ∷ xs) [] h = absurd h
zip_map f Q (x ∷ xs) (w ∷ ws) h = (h.0, zip_map f Q xs ws h.1)

-- what is left behind the steps, paired with what the first had
pub pairs_through : {A B C D V : Type 0} (R : A → B → Type 0) (S : B → C → Type 0) (T : C → D → Type 0) (xs : List A) (ys : List B) (zs : List C)
    (ws : List D) (vs : List V) (had : A → V) (Q : V → D → Type 0)
    → ((a : A) (b : B) (c : C) (d : D) → R a b → S b c → T c d → Q (had a) d) → AllZip R xs ys → AllZip S ys zs → AllZip T zs ws → map had xs ≡ vs
    → AllZip Q vs ws
pairs_through R S T xs ys zs ws vs had Q so r s t is = subst (λ l. AllZip Q l ws) is
    (zip_map had Q xs ws (through R S T (λ a d. Q (had a) d) xs ys zs ws so r s t))

-- what the first of a pair has, which the second is paired with
pub with_first : {A B : Type 0} (R : A → B → Type 0) (xs : List A) (ys : List B) → AllZip R xs ys → All (λ y. (x : A) × R x y) ys
with_first {A} R xs ys h = each_second R (λ y. (x : A) × R x y) xs ys (λ x y r. (x, r)) h

-- the same by other names
pub renamed : {A B C : Type 0} (a a' : A) (b b' : B) (c c' : C) (P : A → B → C → Type 0) → a' ≡ a → b' ≡ b → c' ≡ c → P a b c → P a' b' c'
renamed {A} {B} {C} a a' b b' c c' P p q r h = subst (λ (t : A × (B × C)). P t.0 t.1.0 t.1.1) (λ i. (sym p i, (sym q i, sym r i))) h

pub if_ok_then : {A E : Type 0} (P Q : A → Type 0) (r : Result A E) → ((a : A) → P a → Q a) → IfOk r P → IfOk r Q
if_ok_then P Q (Ok a) so h = so a h
if_ok_then P Q (Err e) so h = tt
