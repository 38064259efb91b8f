use Rattle.std.proofs.Common.{ap, set}
use Rattle.site_desk.proofs.EventTables.{raised}
use Rattle.site_desk.proofs.event_cells.EventCells.raise.Goals as goal

pub returns : goal.returns
returns c = λ other of. rw (← c.self.view_is)
    (raised c.self.inside.values _ c.offset-place.result c.args.value c.args.cell.now other c.self.told c.offset-place.ensures.place
    (ap (λ n. set c.self.inside.values c.offset-place.result n) c.max.ensures) c.offset-place.ensures.of_sites of)
