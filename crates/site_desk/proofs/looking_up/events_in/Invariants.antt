use Rattle.std.proofs.Common.{◌≡◌, take}
use Rattle.book_core.specs.History.{names_known}
use Rattle.site_desk.proofs.looking_up.events_in.Given as goal

abbrev pub invariant-places : goal.invariant-places
invariant-places l = l.events.items ≡ take l.place (names_known l.book.history)
