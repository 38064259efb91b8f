use Rattle.std.proofs.Common.{◌≡◌, Err, ap}
use Rattle.site_exchange.specs.declared.message.TakeFault.TheVariants.{Store}
use Rattle.live_office.proofs.importing.import_at.Goals as goal

pub returns-in-Err-take-clause-shut : goal.returns-in-Err-take-clause-shut
returns-in-Err-take-clause-shut g c = λ e. let same : c.in-Err-take.fault ≡ Store = cc in c.in-Err-take.ensures.shut (ap Err same)
