use Rattle.std.proofs.Common.{refl}
use Rattle.clap.proofs.OnLiterals.{clap_on_literals}
use Rattle.plain_words.specs.Number.{number_of}
use Rattle.operator_cli.specs.Orders.{named_order, number_in, files_in, copies_in, serve_in, open_in, low_in, reserve_in, close_in}
use Rattle.operator_cli.proofs.laws.commands_that_serve_have_words.Goals as goal

pub returns-clause-world : goal.returns-clause-world
unfolding clap_on_literals named_order
returns-clause-world c = (refl, refl)

pub returns-clause-serve : goal.returns-clause-serve
unfolding clap_on_literals named_order serve_in number_in number_of files_in copies_in
returns-clause-serve c = (refl, refl)

pub returns-clause-open : goal.returns-clause-open
unfolding clap_on_literals named_order open_in low_in reserve_in number_in number_of
returns-clause-open c = (refl, refl)

pub returns-clause-spares : goal.returns-clause-spares
unfolding clap_on_literals named_order open_in low_in reserve_in number_in number_of
returns-clause-spares c = (refl, refl)

pub returns-clause-close : goal.returns-clause-close
unfolding clap_on_literals named_order close_in
returns-clause-close c = (refl, refl)
