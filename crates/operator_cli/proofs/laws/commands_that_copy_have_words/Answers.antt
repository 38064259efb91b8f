use Rattle.std.proofs.Common.{refl}
use Rattle.clap.proofs.OnLiterals.{clap_on_literals}
use Rattle.operator_cli.specs.Orders.{named_order, pair_in, alone_in, backup_in}
use Rattle.operator_cli.proofs.laws.commands_that_copy_have_words.Goals as goal

pub returns-clause-pair : goal.returns-clause-pair
unfolding clap_on_literals named_order pair_in
returns-clause-pair c = (refl, refl)

pub returns-clause-alone : goal.returns-clause-alone
unfolding clap_on_literals named_order alone_in
returns-clause-alone c = (refl, refl)

pub returns-clause-backup : goal.returns-clause-backup
unfolding clap_on_literals named_order backup_in
returns-clause-backup c = (refl, refl)
