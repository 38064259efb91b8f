use Rattle.site_desk.proofs.Moments.{sends}
use Rattle.site_desk.proofs.desk.Desk.next.Goals as goal

pub returns-clause-due : goal.returns-clause-due
returns-clause-due g c = record {
  site = c.deref_mut.result.now;
  at_desk = c.next.ensures.at_desk;
  holds = sends c.deref_mut.result.now c.args.to c.next.result c.next.ensures.closed c.next.ensures.no_site c.next.ensures.memory c.next.ensures.message;
}
