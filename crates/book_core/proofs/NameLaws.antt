-- The names of a history are those of its state.
use Rattle.std.proofs.Common.{◌≡◌, ℕ, ◌||◌, List, [], ◌∷◌, ◌++◌, sym, ap, ◌∙◌}
use Rattle.std.specs.List.{list_any, fold}
use Rattle.std.proofs.lemmas.List.Sums.{fold_push}
use Rattle.rights_lattice.specs.Cell.{same_event}
use Rattle.rights_lattice.specs.State.{knows, names_in_order}
use Rattle.rights_lattice.proofs.StateLaws.{contains-union, knows-no_names, any_in_order}
use Rattle.rights_lattice.proofs.OrLaws.{or_assoc, or_false}
use Rattle.event_catalogue.specs.Catalogue.{with_new}
use Rattle.event_catalogue.proofs.NameLaws.{any-with_new}
use Rattle.book_core.specs.declared.entry.Entry.{Entry}
use Rattle.book_core.specs.History.{delta_of, state_of, names_known}

-- the names of one entry more, where some are known
abbrev more_names : List (List ℕ) → Entry → List (List ℕ)
more_names known entry = with_new known (names_in_order (delta_of entry).names)

known_along : (known : List (List ℕ)) (h : List Entry) (name : List ℕ)
    → list_any (same_event name) (fold more_names known h) ≡ (list_any (same_event name) known || knows (state_of h).names name)
known_along known [] name = sym (ap (λ b. list_any (same_event name) known || b) (knows-no_names name) ∙ or_false (list_any (same_event name) known))
known_along known (entry ∷ h) name =
    let here = list_any (same_event name) known in
    let new = names_in_order (delta_of entry).names in
    known_along (with_new known new) h name
    ∙ ap (λ b. b || knows (state_of h).names name) (any-with_new name known new ∙ ap (λ b. here || b) (any_in_order name (delta_of entry).names))
    ∙ or_assoc here (knows (delta_of entry).names name) (knows (state_of h).names name)
    ∙ ap (λ b. here || b) (sym (contains-union (delta_of entry).names (state_of h).names name))

-- a name is among those of the history where its state knows it
pub known_names : (h : List Entry) (name : List ℕ) → list_any (same_event name) (names_known h) ≡ knows (state_of h).names name
known_names h name = known_along [] h name

-- the names of a history with one more entry
pub names_of-push : (h : List Entry) (entry : Entry) → names_known (h ++ entry ∷ []) ≡ with_new (names_known h) (names_in_order (delta_of entry).names)
names_of-push h entry = fold_push more_names [] h entry
