use Rattle.std.proofs.Common.{rules, option_copied, ◌≡◌, ℕ, ◌+◌, List, [], ◌∷◌, ◌++◌, take, Some, ap, sym, ◌∙◌}
use Rattle.std.specs.Prelude.{slice_get}
use Rattle.std.proofs.lemmas.Grind.{take_at_read}
use Rattle.std.proofs.lemmas.Option.{get_or_from_slice_get, slice_get_within}
use Rattle.site_runs.proofs.tests.entries_of.Goals as goal

one_more : {A : Type 0} (xs : List A) (i : ℕ) (x : A) → slice_get xs i ≡ Some x → take (i + 1) xs ≡ take i xs ++ x ∷ []
one_more xs i x found = (take_at_read xs i x (slice_get_within xs i x found)).1 ∙ ap (λ y. take i xs ++ y ∷ []) (get_or_from_slice_get xs i x x found)

pub loop-place-preserved : goal.loop-place-preserved
loop-place-preserved c =
    let history = c.args.book.now.history in
    let entry = c.in_ok-entry.field-0.now in
    let found : slice_get history c.loop-place.place ≡ Some entry = sym c.entry.ensures ∙ ap option_copied c.in_ok-entry.was in
    let more = one_more history c.loop-place.place entry found in
    search (rules, more)
