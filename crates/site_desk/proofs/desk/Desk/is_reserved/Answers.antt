use Rattle.std.proofs.Common.{rules}
use Rattle.site_desk.proofs.desk.Desk.is_reserved.Goals as goal

pub returns-clause-reserved : goal.returns-clause-reserved
returns-clause-reserved g c =
    λ e. record { site = c.deref.result.now; at_desk = c.is_reserved.ensures.at_desk; holds = c.is_reserved.ensures.reserved.0 (search rules) }

pub returns-clause-free : goal.returns-clause-free
returns-clause-free g c =
    let told = c.is_reserved.ensures in
    λ e. record { site = c.deref.result.now; at_desk = told.at_desk; holds = λ reserved. let is = told.reserved.1 reserved in cc }
