use Rattle.std.proofs.Common.{ap}
use Rattle.site_desk.specs.declared.fault.AskFault.TheVariants as ask_fault
use Rattle.site_desk.specs.Calls.{answers_in}
use Rattle.site_desk.proofs.Moments.{shut}
use Rattle.site_desk.proofs.Stands.{stands_all}
use Rattle.site_desk.proofs.desk.Desk.ask_all.Goals as goal

pub returns-clause-stands : goal.returns-clause-stands
returns-clause-stands g c = stands_all c.deref_mut.result.now c.ask_all.new.self c.args.requests.now c.ask_all.result c.ask_all.ensures.asked
    c.ask_all.ensures.stays c.ask_all.ensures.receipts

pub returns-clause-shut : goal.returns-clause-shut
returns-clause-shut g c = λ failed. shut c.deref_mut.result.now c.ask_all.new.self (answers_in c.ask_all.result) ask_fault.Store
    c.ask_all.ensures.asked.closes c.ask_all.ensures.stays (ap answers_in failed)
