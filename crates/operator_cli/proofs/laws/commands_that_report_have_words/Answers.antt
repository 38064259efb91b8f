use Rattle.std.proofs.Common.{refl}
use Rattle.clap.proofs.OnLiterals.{clap_on_literals}
use Rattle.plain_words.specs.Number.{number_of}
use Rattle.operator_cli.specs.Orders.{named_order, number_in, find_in, list_in, events_in, shares_in, files_in, copies_in, audit_in, status_in}
use Rattle.operator_cli.proofs.laws.commands_that_report_have_words.Goals as goal

pub returns-clause-find : goal.returns-clause-find
unfolding clap_on_literals named_order find_in number_in number_of
returns-clause-find c = (refl, refl)

pub returns-clause-list : goal.returns-clause-list
unfolding clap_on_literals named_order list_in
returns-clause-list c = (refl, refl)

pub returns-clause-events : goal.returns-clause-events
unfolding clap_on_literals named_order events_in
returns-clause-events c = (refl, refl)

pub returns-clause-shares : goal.returns-clause-shares
unfolding clap_on_literals named_order shares_in
returns-clause-shares c = (refl, refl)

pub returns-clause-audit : goal.returns-clause-audit
unfolding clap_on_literals named_order audit_in files_in copies_in
returns-clause-audit c = (refl, refl)

pub returns-clause-status : goal.returns-clause-status
unfolding clap_on_literals named_order status_in
returns-clause-status c = (refl, refl)

pub returns-clause-version : goal.returns-clause-version
unfolding clap_on_literals named_order
returns-clause-version c = (refl, refl)
