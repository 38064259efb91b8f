use Rattle.std.proofs.Common.{◌≡◌, take}
use Rattle.history_keeper.specs.Lookups.{listed_in}
use Rattle.site_desk.proofs.looking_up.listed_in.Given as goal

abbrev pub invariant-places : goal.invariant-places
invariant-places l = l.listed.items ≡ listed_in (take l.place l.book.history) l.event
