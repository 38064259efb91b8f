use Rattle.std.proofs.Common.{arith}
use Rattle.rights_lattice.specs.Sums.{max_sites}
use Rattle.site_desk.specs.EventCells.{offset_of}
use Rattle.site_desk.proofs.EventTables.{none_at}
use Rattle.site_desk.proofs.event_cells.EventCells.new.Goals as goal

pub invariant_of-result : goal.invariant_of-result
invariant_of-result c = λ place. omega (arith, none_at 4224 place)

pub returns : goal.returns
returns c = λ cell. none_at 4224 (offset_of max_sites cell)
