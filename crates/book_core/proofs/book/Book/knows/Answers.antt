use Rattle.std.proofs.Common.{ap, ◌∙◌}
use Rattle.std.specs.List.{list_any}
use Rattle.rights_lattice.specs.Cell.{same_event}
use Rattle.book_core.proofs.NameLaws.{known_names}
use Rattle.book_core.proofs.book.Book.knows.Goals as goal

pub returns : goal.returns
returns c = rw (← c.self.view_is) (c.has.ensures.known ∙ ap (list_any (same_event c.args.event)) c.self.invariant.names_are
    ∙ known_names c.self.inside.history.items c.args.event)
