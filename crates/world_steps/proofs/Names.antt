-- The names that sites know, as one rising list.
use Rattle.std.proofs.Common.{◌≡◌, ℕ, zero, suc, ◌+◌, ◌≤◌, ◌||◌, List, [], ◌∷◌, ◌++◌, map, refl, sym, ap, ◌∙◌, arith, length, take, get_or}
use Rattle.std.specs.Ordering.{match_ordering}
use Rattle.std.specs.Prelude.{slice_get, Some, None}
use Rattle.std.specs.Ordering.{nat_cmp}
use Rattle.std.specs.declared.cmp.Ordering.{Ordering}
use Rattle.std.specs.declared.cmp.Ordering.TheVariants.{Less, Equal, Greater}
use Rattle.std.specs.Cmp.Lexicographic.{slice_cmp}
use Rattle.std.proofs.lemmas.Cmp.{nat_list_cmp_total}
use Rattle.std.specs.BTreeSet.{insert_key}
use Rattle.std.specs.FinMap as finite
use Rattle.std.specs.FinMap.Entries.{put, by_order}
use Rattle.std.proofs.lemmas.List.{take_more, take_all}
use Rattle.std.proofs.lemmas.Option.{get_or_from_slice_get, slice_get_within}
use Rattle.rights_lattice.specs.State.{Names, knows, with_name, with_names, join_names, names_in_order}
use Rattle.rights_lattice.proofs.StateLaws.{any_by_order, same_names, knows-with_names, contains-union}
use Rattle.rights_lattice.proofs.OrLaws.{or_comm}
use Rattle.book_core.specs.declared.entry.Entry.{Entry}
use Rattle.book_core.specs.History.{state_of, names_known}
use Rattle.book_core.proofs.NameLaws.{known_names}
use Rattle.world_steps.specs.World.{known_below}

keys-put : (name : List ℕ) (es : List (List ℕ × Unit {0}))
    → map (λ e. e.0) (put (slice_cmp nat_cmp) name tt es) ≡ insert_key (slice_cmp nat_cmp) (map (λ e. e.0) es) name
keys-put name [] = refl
keys-put name (e ∷ es) = by_test (slice_cmp nat_cmp name e.0) (keys-put name es)
  where
    by_test : (o : Ordering) → map (λ x. x.0) (put (slice_cmp nat_cmp) name tt es) ≡ insert_key (slice_cmp nat_cmp) (map (λ x. x.0) es) name
        → map (λ x. x.0) (by_order o ((name, tt) ∷ e ∷ es) ((e.0, tt) ∷ es) (e ∷ put (slice_cmp nat_cmp) name tt es))
        ≡ match_ordering o (name ∷ e.0 ∷ map (λ x. x.0) es) (e.0 ∷ map (λ x. x.0) es) (e.0 ∷ insert_key (slice_cmp nat_cmp) (map (λ x. x.0) es) name)
    by_test Less rest = refl
    by_test Equal rest = refl
    by_test Greater rest = ap (λ (ks : List (List ℕ)). e.0 ∷ ks) rest

-- one more name in its place
inserted : (known : Names) (name : List ℕ) → names_in_order (with_name known name) ≡ insert_key (slice_cmp nat_cmp) (names_in_order known) name
unfolding with_name
inserted known name = ap (map (λ e. e.0)) (finite.entries-insert nat_list_cmp_total known name tt) ∙ keys-put name (finite.entries known)

with_names-append : (known : Names) (ns ms : List (List ℕ)) → with_names known (ns ++ ms) ≡ with_names (with_names known ns) ms
with_names-append known [] ms = refl
with_names-append known (n ∷ ns) ms = with_names-append (with_name known n) ns ms

-- a place where nothing stands is past the end
pub past_end : {A : Type 0} (xs : List A) (k : ℕ) → slice_get xs k ≡ None → length xs ≤ k
past_end [] k none = omega arith
past_end (x ∷ xs) zero none = cc
past_end (x ∷ xs) (suc k) none = omega (arith, past_end xs k none)

-- one more name of a list
pub add_more : (old now new : List (List ℕ)) (ns : List (List ℕ)) (k : ℕ) (name : List ℕ) (known : Names) → slice_get ns k ≡ Some name
    → (old ≡ names_in_order known → now ≡ names_in_order (with_names known (take k ns))) → new ≡ insert_key (slice_cmp nat_cmp) now name
    → old ≡ names_in_order known → new ≡ names_in_order (with_names known (take (k + 1) ns))
add_more old now new ns k name known found before is start =
    is
    ∙ ap (λ (l : List (List ℕ)). insert_key (slice_cmp nat_cmp) l name) (before start)
    ∙ sym (inserted (with_names known (take k ns)) name)
    ∙ ap (λ (n : List ℕ). names_in_order (with_name (with_names known (take k ns)) n)) (sym (get_or_from_slice_get ns k name [] found))
    ∙ ap (λ (N : Names). names_in_order N) (sym (with_names-append known (take k ns) (get_or ns k [] ∷ [])))
    ∙ ap (λ (l : List (List ℕ)). names_in_order (with_names known l)) (sym (take_more ns k [] (slice_get_within ns k name found)))

-- the names of a history, in whatever order they are added, make the union
union_of : (known : Names) (h : List Entry) → with_names known (names_known h) ≡ join_names known (state_of h).names
union_of known h = same_names _ _ (λ n.
    knows-with_names known (names_known h) n
    ∙ ap (λ b. b || knows known n) (sym (any_by_order n (names_known h)) ∙ known_names h n)
    ∙ or_comm (knows (state_of h).names n) (knows known n)
    ∙ sym (contains-union known (state_of h).names n))

-- all names of a book are added
pub all_added : (old now : List (List ℕ)) (h : List Entry) (k : ℕ) (known : Names) → length (names_known h) ≤ k
    → (old ≡ names_in_order known → now ≡ names_in_order (with_names known (take k (names_known h)))) → old ≡ names_in_order known
    → now ≡ names_in_order (join_names known (state_of h).names)
all_added old now h k known all before start =
    before start
    ∙ ap (λ (l : List (List ℕ)). names_in_order (with_names known l)) (take_all k (names_known h) all)
    ∙ ap (λ (N : Names). names_in_order N) (union_of known h)

-- the names of one more site
pub known_more : (h : ℕ → List Entry) (i : ℕ) (history : List Entry) (now new : List (List ℕ)) → h i ≡ history
    → now ≡ names_in_order (known_below i h) → ((known : Names) → now ≡ names_in_order known → new ≡ names_in_order (join_names known (state_of history).names))
    → new ≡ names_in_order (known_below (i + 1) h)
known_more h i history now new is before adds =
    adds (known_below i h) before
    ∙ ap (λ (g : List Entry). names_in_order (join_names (known_below i h) (state_of g).names)) (sym is)
    ∙ ap (λ n. names_in_order (known_below n h)) (let e : suc i ≡ i + 1 = omega arith in e)
