-- Each step keeps the rule of a link.
use Rattle.std.proofs.Common.{◌≡◌, ◌≢◌, ℕ, zero, suc, ◌<◌, ◌≤◌, ◌^◌, true, false, true≢false, List, [], ◌∷◌, ◌++◌, length, set, sym, refl, ap, ◌∙◌, subst, ⊎_elim, append_assoc, arith, length-append}
use mathlib.Core.Option.{some, some-ne-none}
use lib.ListN.{get_elem?}
use Rattle.crossbeam_channel.specs.Fifo.{Pushes, Pops, Forks, Merges, Learns}
use Rattle.atomic_table.proofs.Lists.{at_set, at_snoc}
use Rattle.link_queue.specs.declared.item.Item.{Item}
use Rattle.link_queue.specs.declared.item.Item.TheVariants.{Message, End}
use Rattle.link_queue.specs.declared.item.View.{View}
use Rattle.link_queue.specs.Link.{messages, know, Fits, Linked}

messages-append : (xs ys : List Item) → messages (xs ++ ys) ≡ messages xs ++ messages ys
messages-append [] ys = refl
messages-append (Message m ∷ xs) ys = ap (λ l. m ∷ l) (messages-append xs ys)
messages-append (End ∷ xs) ys = messages-append xs ys

messages_one : (x : Item) (xs : List Item) → messages (x ∷ xs) ≡ messages (x ∷ []) ++ messages xs
messages_one (Message m) xs = refl
messages_one End xs = refl

at_end : (l : List View) (a b : View) (j : ℕ) → get_elem? l j ≢ some b → get_elem? (l ++ a ∷ []) j ≡ some b → j ≡ length l
at_end [] a b zero n e = refl
at_end [] a b (suc j) n e = absurd (some-ne-none b (sym e))
at_end (x ∷ xs) a b zero n e = absurd (n e)
at_end (x ∷ xs) a b (suc j) n e = ap suc (at_end xs a b j n e)

abbrev All : (ℕ → View → Type 0) → List View → Type 0
All F views = (pass : ℕ) (v : View) → get_elem? views pass ≡ some v → F pass v

all_set : (F : ℕ → View → Type 0) (views : List View) (pass : ℕ) (w : View) → F pass w
    → ((j : ℕ) (u : View) → j ≢ pass → get_elem? views j ≡ some u → F j u) → All F (set views pass w)
all_set F views pass w mine others j u e =
    ⊎_elim (λ (x : (j ≡ pass) × (w ≡ u)). subst (λ (y : ℕ × View). F y.0 y.1) (λ i. (sym x.0 i, x.1 i)) mine)
    (λ (x : (j ≢ pass) × (get_elem? views j ≡ some u)). others j u x.0 x.1)
    (at_set views pass j w u e)

-- an empty link, made by one thread
pub begins : Linked [] (know true true [] [] ∷ [])
begins = (
  0,
  0,
  [],
  [],
  refl,
  omega arith,
  all_set (Fits 0 0 [] []) (know true true [] [] ∷ []) 0 (know true true [] []) ((λ _. (refl, refl)), λ _. (refl, refl))
      (λ j u other e. absurd (other (at_end [] _ u j (λ x. some-ne-none u (sym x)) e))),
)

-- an item put at the back
pub puts : (n pass : ℕ) (v : View) (x : Item) → v.sends ≡ true → length (v.put ++ messages (x ∷ [])) ≤ 2 ^ 63
    → Pushes Linked n pass v x (λ w. w ≡ know v.sends v.receives (v.put ++ messages (x ∷ [])) v.got)
puts n pass v x may room items views _ h at =
    let w : View = know v.sends v.receives (v.put ++ messages (x ∷ [])) v.got in
    let mine = h.6 pass v at in
    let same = (mine.0 may).1 in
    let put = h.2 ++ messages (x ∷ []) in (
      w,
      (
        h.0,
        h.1,
        put,
        h.3,
        ap (λ l. l ++ messages (x ∷ [])) h.4 ∙ append_assoc h.3 (messages items) (messages (x ∷ []))
            ∙ ap (λ l. h.3 ++ l) (sym (messages-append items (x ∷ []))),
        subst (λ l. length (l ++ messages (x ∷ [])) ≤ 2 ^ 63) same room,
        all_set (Fits h.0 h.1 put h.3) views pass w ((λ _. ((mine.0 may).0, ap (λ l. l ++ messages (x ∷ [])) same)), mine.1)
            (λ j u other e. ((λ p. absurd (other (((h.6 j u e).0 p).0 ∙ sym (mine.0 may).0))), (h.6 j u e).1)),
      ),
      refl,
    )

-- an item taken from the front
pub takes : (pass : ℕ) (v : View) → v.receives ≡ true
    → Pops Linked pass v (λ x w. (w ≡ know v.sends v.receives v.put (v.got ++ messages (x ∷ []))) × (length w.got < 2 ^ 64))
takes pass v may x items views h at =
    let one = messages (x ∷ []) in
    let w : View = know v.sends v.receives v.put (v.got ++ one) in
    let mine = h.6 pass v at in
    let same = (mine.1 may).1 in
    let got = h.3 ++ one in
    let split : h.2 ≡ got ++ messages items = h.4 ∙ ap (λ l. h.3 ++ l) (messages_one x items) ∙ sym (append_assoc h.3 one (messages items)) in (
      w,
      (
        h.0,
        h.1,
        h.2,
        got,
        split,
        h.5,
        all_set (Fits h.0 h.1 h.2 got) views pass w (mine.0, λ _. ((mine.1 may).0, ap (λ l. l ++ one) same))
            (λ j u other e. ((h.6 j u e).0, λ p. absurd (other (((h.6 j u e).1 p).0 ∙ sym (mine.1 may).0)))),
      ),
      (refl, omega (arith, h.5, ap length split, length-append got (messages items), length-append h.3 one, length-append v.got one, ap length same)),
    )

-- one end for each of two passes
pub forks : (pass : ℕ) (v : View) → v.sends ≡ true → v.receives ≡ true → Forks Linked pass v (know true false v.put []) (know false true [] v.got)
forks pass v a b items views h at =
    let l : View = know true false v.put [] in
    let r : View = know false true [] v.got in
    let mine = h.6 pass v at in
    let vs : List View = set views pass l in
    let Old : ℕ → View → Type 0 = λ j u. (u.sends ≡ true → (j ≡ h.0) × (u.put ≡ h.2)) × (u.receives ≢ true) in
    let old : All Old vs = all_set Old views pass l ((λ _. mine.0 a), λ p. true≢false (sym p))
    (λ j u other e. ((h.6 j u e).0, λ p. other (((h.6 j u e).1 p).0 ∙ sym (mine.1 b).0))) in (
      h.0,
      length vs,
      h.2,
      h.3,
      h.4,
      h.5,
      λ j u e. ⊎_elim (λ x. ((old j u x).0, λ p. absurd ((old j u x).1 p)))
          (λ (is : r ≡ u). (
            (λ p. absurd (true≢false (sym (ap (λ (y : View). y.sends) is ∙ p)))),
            λ p. (at_end vs r u j (λ x. (old j u x).1 p) e, ap (λ (y : View). y.got) (sym is) ∙ (mine.1 b).1),
          )) (at_snoc vs r u j e),
    )

-- both ends known by one pass, and the other spent
pub merges : (pass : ℕ) (v : View) (other : ℕ) (u : View) → v.sends ≡ true → u.receives ≡ true
    → Merges Linked pass v other u (know true true v.put u.got) (know false false [] [])
merges pass v other u a b items views h at two at' =
    let both : View = know true true v.put u.got in
    let mine = h.6 pass v at in
    let vs : List View = set views pass both in
    let was : get_elem? views other ≡ some u = ⊎_elim (λ x. absurd (two x.0)) (λ x. x.1) (at_set views pass other both u at') in
    let theirs = (h.6 other u was).1 b in
    let Now : ℕ → View → Type 0 = λ j y. j ≢ other → Fits h.0 pass h.2 h.3 j y in
    let now : All Now vs = all_set Now views pass both (λ _. ((λ _. mine.0 a), λ _. (refl, theirs.1)))
    (λ j y _ e apart. ((h.6 j y e).0, λ p. absurd (apart (((h.6 j y e).1 p).0 ∙ sym theirs.0)))) in (
      h.0,
      pass,
      h.2,
      h.3,
      h.4,
      h.5,
      all_set (Fits h.0 pass h.2 h.3) vs other (know false false [] [])
          ((λ p. absurd (true≢false (sym p))), λ p. absurd (true≢false (sym p))) (λ j y apart e. now j y e apart),
    )

-- what a pass that knows both ends learns
pub totals : (pass : ℕ) (v : View) → v.sends ≡ true → v.receives ≡ true → Learns Linked pass v (λ items. v.put ≡ v.got ++ messages items)
totals pass v a b items views h at = let mine = h.6 pass v at in (mine.0 a).1 ∙ h.4 ∙ ap (λ l. l ++ messages items) (sym (mine.1 b).1)
