-- Cards that are dealt one by one.
use Rattle.std.proofs.Common.{◌≡◌, ◌≢◌, ℕ, zero, suc, ◌+◌, ◌<◌, ◌%◌, Bool, true, false, List, [], ◌∷◌, ◌++◌, length, get_or, set, map, ◌⊎◌, inl, inr, refl, sym, ap, ◌∙◌, subst, rules, zero-add}
use Rattle.std.specs.List.{AllZip, filter, enumerate_from}
use Rattle.std.proofs.lemmas.List.{get_or-map, get_or-set_same, get_or-set_other, length-map, length-set, map-set}
use Rattle.std.proofs.lemmas.List.Elements.{filter-append}
use Rattle.std.proofs.lemmas.Bool.Decides.{eqb_tells}
use Rattle.std.proofs.Math.Dec.{eqb}
use Rattle.std.proofs.lemmas.Bool.{eq-eqb, ne_eqb}
use Rattle.std.proofs.lemmas.List.{map-append, append-nil}
use Rattle.session_server.proofs.Sites.{zip_map}
use Rattle.operator_cli.specs.Dealt.{AreDealt, dealt}

numbered_last : {X : Type 0} (i : ℕ) (xs : List X) (x : X) → enumerate_from i (xs ++ x ∷ []) ≡ enumerate_from i xs ++ (i + length xs, x) ∷ []
numbered_last i [] x = search rules
numbered_last i (y ∷ xs) x =
    ap (λ l. (i, y) ∷ l) (numbered_last (i + 1) xs x ∙ ap (λ k. enumerate_from (i + 1) xs ++ (k, x) ∷ []) (search rules))

one_in : {X : Type 0} (p : X → Bool) (x : X) → p x ≡ true → filter p (x ∷ []) ≡ x ∷ []
one_in p x is = cc

one_out : {X : Type 0} (p : X → Bool) (x : X) → p x ≡ false → filter p (x ∷ []) ≡ []
one_out p x is = cc

-- what is dealt of one card more
dealt_last : {X : Type 0} (n k : ℕ) (xs : List X) (x : X)
    → dealt n k (xs ++ x ∷ []) ≡ dealt n k xs ++ map (λ c. c.1) (filter (λ (c : ℕ × X). eqb (c.0 % n) k) ((length xs, x) ∷ []))
dealt_last {X} n k xs x =
    let mine : ℕ × X → Bool = λ (c : ℕ × X). eqb (c.0 % n) k in
    ap (λ l. map (λ (c : ℕ × X). c.1) (filter mine l)) (numbered_last 0 xs x ∙ ap (λ j. enumerate_from 0 xs ++ (j, x) ∷ []) (zero-add (length xs)))
    ∙ (ap (map (λ (c : ℕ × X). c.1)) (filter-append mine (enumerate_from 0 xs) ((length xs, x) ∷ []))
    ∙ map-append (λ (c : ℕ × X). c.1) (filter mine (enumerate_from 0 xs)) (filter mine ((length xs, x) ∷ [])))

-- a card more comes to its hand
dealt_in : {X : Type 0} (n k : ℕ) (xs : List X) (x : X) → eqb (length xs % n) k ≡ true → dealt n k (xs ++ x ∷ []) ≡ dealt n k xs ++ x ∷ []
dealt_in {X} n k xs x is = dealt_last n k xs x
    ∙ ap (λ l. dealt n k xs ++ map (λ (c : ℕ × X). c.1) l) (one_in (λ (c : ℕ × X). eqb (c.0 % n) k) (length xs, x) is)

-- and to no other
dealt_out : {X : Type 0} (n k : ℕ) (xs : List X) (x : X) → eqb (length xs % n) k ≡ false → dealt n k (xs ++ x ∷ []) ≡ dealt n k xs
dealt_out {X} n k xs x is =
    dealt_last n k xs x ∙ (ap (λ l. dealt n k xs ++ map (λ (c : ℕ × X). c.1) l) (one_out (λ (c : ℕ × X). eqb (c.0 % n) k) (length xs, x) is)
    ∙ append-nil (dealt n k xs))

-- one card more, dealt to the hand whose turn it is
module _ {X : Type 0} (cards : List X) (card : X) (hands : List (List X)) (turn : ℕ) (there : turn < length hands)
    (is : turn ≡ length cards % length hands) (fair : AreDealt cards hands) where
  after : List (List X)
  after = set hands turn (get_or hands turn [] ++ card ∷ [])

  at_hand : (hand : ℕ) → hand < length hands → ((eqb hand turn ≡ true) × (hand ≡ turn)) ⊎ ((eqb hand turn ≡ false) × (hand ≢ turn))
      → get_or after hand [] ≡ dealt (length hands) hand (cards ++ card ∷ [])
  unfolding after
  at_hand hand in_hands (inl (_, same)) =
      subst (λ h. get_or after h [] ≡ dealt (length hands) h (cards ++ card ∷ [])) (sym same)
      (get_or-set_same hands turn (get_or hands turn [] ++ card ∷ []) [] there
      ∙ (ap (λ l. l ++ card ∷ []) (fair turn there) ∙ sym (dealt_in (length hands) turn cards card (eq-eqb (length cards % length hands) turn (sym is)))))
  at_hand hand in_hands (inr (_, other)) =
      get_or-set_other hands turn hand (get_or hands turn [] ++ card ∷ []) [] other
      ∙ (fair hand in_hands ∙ sym (dealt_out (length hands) hand cards card (ne_eqb (length cards % length hands) hand (λ e. other (sym (is ∙ e))))))

  pub dealt_more : AreDealt (cards ++ card ∷ []) (set hands turn (get_or hands turn [] ++ card ∷ []))
  unfolding after
  dealt_more hand in_hands =
      let fits : hand < length hands = subst (λ n. hand < n) (length-set hands turn (get_or hands turn [] ++ card ∷ [])) in_hands in
      subst (λ n. get_or after hand [] ≡ dealt n hand (cards ++ card ∷ [])) (sym (length-set hands turn (get_or hands turn [] ++ card ∷ [])))
      (at_hand hand fits (eqb_tells hand turn))

nothing_in : {S X : Type 0} (sites : List S) (k : ℕ) → get_or {A = List X} (map (λ _. []) sites) k [] ≡ []
nothing_in [] k = refl
nothing_in (s ∷ sites) zero = refl
nothing_in (s ∷ sites) (suc k) = nothing_in sites k

-- nothing is dealt yet
pub none_dealt : {S X : Type 0} (hand : S → List X) (sites : List S) → map hand sites ≡ map (λ _. []) sites → AreDealt [] (map hand sites)
none_dealt {S} {X} hand sites empty k fits = subst (λ (hands : List (List X)). get_or hands k [] ≡ []) (sym empty) (nothing_in sites k)

-- the site whose turn it is has one card more
pub more_dealt : {S X : Type 0} (hand : S → List X) (sites : List S) (k : ℕ) (old new : S) (cards all : List X) (card : X)
    → all ≡ cards ++ card ∷ [] → k < length sites → k ≡ length cards % length sites → old ≡ get_or sites k old → hand new ≡ hand old ++ card ∷ []
    → AreDealt cards (map hand sites) → AreDealt all (map hand (set sites k new))
more_dealt {S} {X} hand sites k old new cards all card last fits turn is more fair =
    let held : hand new ≡ get_or (map hand sites) k [] ++ card ∷ [] = more
    ∙ ap (λ l. l ++ card ∷ []) (ap hand is ∙ sym (get_or-map hand sites k old [] fits)) in
    subst (λ l. AreDealt l (map hand (set sites k new))) (sym last)
    (subst (AreDealt (cards ++ card ∷ [])) (sym (map-set hand sites k new ∙ ap (set (map hand sites) k) held))
    (dealt_more cards card (map hand sites) k (subst (λ n. k < n) (sym (length-map sites hand)) fits)
    (turn ∙ ap (λ n. length cards % n) (sym (length-map sites hand))) fair))

pub same_count : {X S E : Type 0} (told : E → X) (hand : S → X) (sites : List S) (ends : List E) → map told ends ≡ map hand sites → length ends ≡ length sites
same_count told hand sites ends same = sym (length-map ends told) ∙ (ap length same ∙ length-map sites hand)

-- ---- what is read of books that stay the same

pub pairs_of : {A B D : Type 0} (f : A → B) (xs ys : List A) (bs : List B) (ds : List D) (Q : B → D → Type 0) → map f xs ≡ map f ys → map f ys ≡ bs
    → AllZip (λ a d. Q (f a) d) xs ds → AllZip Q bs ds
pairs_of f xs ys bs ds Q same first h = subst (λ l. AllZip Q l ds) (same ∙ first) (zip_map f Q xs ds h)
