use Rattle.std.proofs.Common.{sym, ◌∙◌, ap, List, ℕ, ◌++◌, ◌∷◌, []}
use Rattle.book_core.specs.History.{names_known}
use Rattle.site_desk.proofs.Sharing.{next_name}
use Rattle.site_desk.proofs.looking_up.events_in.Goals as goal

pub places-preserved : goal.places-preserved
places-preserved c =
    let names = names_known c.args.book.now.history in
    c.in_ok-push.ensures.items
    ∙ ap (λ (ns : List (List ℕ)). ns ++ c.in-Some.event ∷ []) c.places.invariant
    ∙ sym (next_name names c.places.place c.in-Some.event (sym c.event_at.ensures ∙ c.in-Some.is))
