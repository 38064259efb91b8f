use Rattle.std.proofs.Common.{refl}
use Rattle.clap.proofs.OnLiterals.{clap_on_literals}
use Rattle.plain_words.specs.Number.{number_of}
use Rattle.operator_cli.specs.Orders.{named_order, number_in, init_in, migrate_in, grow_in, ask_in, export_in, import_in}
use Rattle.operator_cli.proofs.laws.commands_that_change_have_words.Goals as goal

pub returns-clause-init : goal.returns-clause-init
unfolding clap_on_literals named_order init_in number_in number_of
returns-clause-init c = (refl, refl)

pub returns-clause-migrate : goal.returns-clause-migrate
unfolding clap_on_literals named_order migrate_in
returns-clause-migrate c = (refl, refl)

pub returns-clause-grow : goal.returns-clause-grow
unfolding clap_on_literals named_order grow_in number_in number_of
returns-clause-grow c = (refl, refl)

pub returns-clause-ask : goal.returns-clause-ask
unfolding clap_on_literals named_order ask_in
returns-clause-ask c = (refl, refl)

pub returns-clause-export : goal.returns-clause-export
unfolding clap_on_literals named_order export_in number_in number_of
returns-clause-export c = (refl, refl)

pub returns-clause-import : goal.returns-clause-import
unfolding clap_on_literals named_order import_in
returns-clause-import c = (refl, refl)
