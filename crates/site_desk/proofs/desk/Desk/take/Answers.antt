use Rattle.site_exchange.specs.declared.message.TakeFault.TheVariants as take_fault
use Rattle.site_desk.proofs.Moments.{held, shut, takes}
use Rattle.site_desk.proofs.desk.Desk.take.Goals as goal

pub returns-clause-taken : goal.returns-clause-taken
returns-clause-taken g c = record {
  site = c.deref_mut.result.now;
  at_desk = c.take.ensures.at_desk;
  holds = takes c.deref_mut.result.now c.take.new.self c.args.message c.take.result c.take.ensures.took;
}

pub returns-clause-held : goal.returns-clause-held
returns-clause-held g c = held c.deref_mut.result.now c.take.new.self c.args.message c.take.result c.take.ensures.took c.take.ensures.stays

pub returns-clause-shut : goal.returns-clause-shut
returns-clause-shut g c = shut c.deref_mut.result.now c.take.new.self c.take.result take_fault.Store c.take.ensures.took.call.closes c.take.ensures.stays
