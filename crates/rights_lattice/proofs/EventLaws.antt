-- Words that name events.
use Rattle.std.proofs.Common.{◌≡◌, ℕ, ◌&&◌, leb, ltb, true, List, length, Some, None, sym, subst, arith}
use Rattle.std.specs.List.{list_all}
use Rattle.std.proofs.lemmas.Bool.{and_parts, and_from, leb-true, ltb-true, le-leb, lt-ltb, false_from_ne_true, cond-true, cond-false}
use Rattle.std.proofs.lemmas.Option.{cond_some}
use Rattle.rights_lattice.specs.Limits.{longest_name}
use Rattle.rights_lattice.specs.EventName.{IsEventName, is_event_byte, is_name, name_of}

-- the test tells names
name_from : (word : List ℕ) → IsEventName word → is_name word ≡ true
name_from word h = and_from _ _ (and_from _ _ (lt-ltb _ _ (omega (arith, h.not_empty))) (le-leb _ _ h.at_most_longest)) h.bytes_allowed

name_to : (word : List ℕ) → is_name word ≡ true → IsEventName word
name_to word h =
    let outer = and_parts (ltb 0 (length word) && leb (length word) longest_name) (list_all is_event_byte word) h in
    let inner = and_parts (ltb 0 (length word)) (leb (length word) longest_name) outer.0 in
    let low = ltb-true 0 (length word) inner.0 in
    record { not_empty = omega (arith, low); at_most_longest = leb-true (length word) longest_name inner.1; bytes_allowed = outer.1 }

-- a word that is no name spells none
pub name_of_none : (w : List ℕ) → (IsEventName w → ⊥) → None ≡ name_of w
unfolding name_of
name_of_none w h = sym (cond-false (is_name w) (Some w) None (false_from_ne_true _ (λ t. h (name_to w t))))

pub name_of_found : (w e : List ℕ) → name_of w ≡ Some e → (w ≡ e) × IsEventName e
unfolding name_of
name_of_found w e h = let t = cond_some (is_name w) w e h in (t.1, subst IsEventName t.1 (name_to w t.0))

pub name_of_again : (w : List ℕ) → IsEventName w → name_of w ≡ Some w
unfolding name_of
name_of_again w h = cond-true (is_name w) (Some w) None (name_from w h)
