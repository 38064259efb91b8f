-- Lists of names as sets, and what the names are after more are made known.
use Rattle.std.proofs.Common.{◌≡◌, ℕ, ◌+◌, ◌<◌, Bool, true, false, cond, ◌||◌, List, [], ◌∷◌, ◌++◌, length, take, get_or, refl, sym, ap, ◌∙◌}
use Rattle.std.specs.List.{list_any}
use Rattle.std.proofs.lemmas.List.Folds.{list_any-append}
use Rattle.std.proofs.lemmas.List.{take_more}
use Rattle.rights_lattice.specs.Cell.{same_event}
use Rattle.rights_lattice.proofs.SpotLaws.{same_event_is}
use Rattle.rights_lattice.proofs.OrLaws.{or_comm, or_false, or_swap}
use Rattle.event_catalogue.specs.Catalogue.{with_new}

already_by : (b : Bool) (q n : List ℕ) (ns : List (List ℕ)) → same_event q n ≡ b → list_any (same_event n) ns ≡ true
    → list_any (same_event q) ns ≡ (b || list_any (same_event q) ns)
already_by true q n ns t h = ap (λ (x : List ℕ). list_any (same_event x) ns) (same_event_is q n t) ∙ h
already_by false q n ns t h = refl

-- a name that is there is added by doing nothing
pub already : (q n : List ℕ) (ns : List (List ℕ)) → list_any (same_event n) ns ≡ true
    → list_any (same_event q) ns ≡ (same_event q n || list_any (same_event q) ns)
already q n ns h = already_by (same_event q n) q n ns refl h

pub pushed : (q n : List ℕ) (ns : List (List ℕ)) → list_any (same_event q) (ns ++ n ∷ []) ≡ (same_event q n || list_any (same_event q) ns)
pushed q n ns = list_any-append (same_event q) ns (n ∷ []) ∙ ap (λ b. list_any (same_event q) ns || b) (or_false (same_event q n))
    ∙ or_comm (list_any (same_event q) ns) (same_event q n)

-- what is known after more names: what was known before, and those
pub any-with_new : (q : List ℕ) (known names : List (List ℕ))
    → list_any (same_event q) (with_new known names) ≡ (list_any (same_event q) known || list_any (same_event q) names)
any-with_new q known [] = sym (or_false (list_any (same_event q) known))
any-with_new q known (e ∷ es) =
    by_test (list_any (same_event e) known) refl (any-with_new q known es) (any-with_new q (known ++ e ∷ []) es)
    ∙ or_swap (same_event q e) (list_any (same_event q) known) (list_any (same_event q) es)
  where
    by_test : (b : Bool) → list_any (same_event e) known ≡ b
        → list_any (same_event q) (with_new known es) ≡ (list_any (same_event q) known || list_any (same_event q) es)
        → list_any (same_event q) (with_new (known ++ e ∷ []) es) ≡ (list_any (same_event q) (known ++ e ∷ []) || list_any (same_event q) es)
        → list_any (same_event q) (cond b (with_new known es) (with_new (known ++ e ∷ []) es))
        ≡ ((same_event q e || list_any (same_event q) known) || list_any (same_event q) es)
    by_test true h there new = there ∙ ap (λ c. c || list_any (same_event q) es) (already q e known h)
    by_test false h there new = new ∙ ap (λ c. c || list_any (same_event q) es) (pushed q e known)

-- more names after others
pub with_new-append : (known xs ys : List (List ℕ)) → with_new known (xs ++ ys) ≡ with_new (with_new known xs) ys
with_new-append known [] ys = refl
with_new-append known (x ∷ xs) ys = by_test (list_any (same_event x) known) (with_new-append known xs ys) (with_new-append (known ++ x ∷ []) xs ys)
  where
    by_test : (b : Bool)
        → with_new known (xs ++ ys) ≡ with_new (with_new known xs) ys
        → with_new (known ++ x ∷ []) (xs ++ ys) ≡ with_new (with_new (known ++ x ∷ []) xs) ys
        → cond b (with_new known (xs ++ ys)) (with_new (known ++ x ∷ []) (xs ++ ys)) ≡ with_new (cond b (with_new known xs) (with_new (known ++ x ∷ []) xs)) ys
    by_test true there new = there
    by_test false there new = new

-- one more of the names
pub with_new_more : (known names now : List (List ℕ)) (i : ℕ) (n : List ℕ) → i < length names → n ≡ get_or names i n → now ≡ with_new known (take i names)
    → with_new now (n ∷ []) ≡ with_new known (take (i + 1) names)
with_new_more known names now i n h is so_far =
    ap (λ (ns : List (List ℕ)). with_new ns (n ∷ [])) so_far
    ∙ sym (with_new-append known (take i names) (n ∷ []))
    ∙ ap (λ (x : List ℕ). with_new known (take i names ++ x ∷ [])) is
    ∙ ap (with_new known) (sym (take_more names i n h))
