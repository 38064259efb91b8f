use Rattle.site_desk.proofs.Moments.{looks}
use Rattle.site_desk.proofs.desk.Desk.look_when.Goals as goal

pub returns-then-is_past-clause-seen : goal.returns-then-is_past-clause-seen
returns-then-is_past-clause-seen g c = record {
  site = c.deref-then-is_past.result.now;
  at_desk = c.look.ensures.at_desk;
  holds = looks c.deref-then-is_past.result.now c.args.event c.look.result c.look.ensures.closed c.look.ensures.unknown c.look.ensures.at c.look.ensures.seen;
}
