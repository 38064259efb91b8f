use Rattle.std.proofs.Common.{◌≡◌, ◌+◌, ◌≤◌, take}
use Rattle.event_catalogue.specs.Catalogue.{with_new}
use Rattle.event_catalogue.proofs.catalogue.Catalogue.join.Given as goal

abbrev pub invariant-loop-name : goal.invariant-loop-name
invariant-loop-name l = (l.self.names ≡ with_new l.fn.self.names (take l.name-index l.names)) × (l.fn.self.room ≤ l.self.room + l.name-index)
