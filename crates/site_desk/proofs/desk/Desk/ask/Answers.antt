use Rattle.std.proofs.Common.{ap}
use Rattle.site_desk.specs.declared.fault.AskFault.TheVariants as ask_fault
use Rattle.site_desk.specs.Calls.{answer_in}
use Rattle.site_desk.proofs.Moments.{replies, shut, stands}
use Rattle.site_desk.proofs.desk.Desk.ask.Goals as goal

pub returns-clause-answered : goal.returns-clause-answered
returns-clause-answered g c = record {
  site = c.deref_mut.result.now;
  at_desk = c.ask.ensures.at_desk;
  holds = replies c.deref_mut.result.now c.ask.new.self c.args.number c.args.request.now c.ask.result c.ask.ensures.asked;
}

pub returns-clause-stands : goal.returns-clause-stands
returns-clause-stands g c = stands c.deref_mut.result.now c.ask.new.self c.args.number c.args.request.now c.ask.result c.ask.ensures.asked
    c.ask.ensures.receipt c.ask.ensures.stays

pub returns-clause-shut : goal.returns-clause-shut
returns-clause-shut g c = λ failed. shut c.deref_mut.result.now c.ask.new.self (answer_in c.ask.result) ask_fault.Store c.ask.ensures.asked.call.closes
    c.ask.ensures.stays (ap answer_in failed)
