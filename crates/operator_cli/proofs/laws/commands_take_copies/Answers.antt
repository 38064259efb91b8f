use Rattle.std.proofs.Common.{refl}
use Rattle.clap.proofs.OnLiterals.{clap_on_literals}
use Rattle.plain_words.specs.Number.{number_of}
use Rattle.operator_cli.specs.Orders.{named_order, number_in, ask_in, open_in, low_in, reserve_in, audit_in, serve_in, files_in, copies_in}
use Rattle.operator_cli.proofs.laws.commands_take_copies.Goals as goal

pub returns-clause-ask : goal.returns-clause-ask
unfolding clap_on_literals named_order ask_in
returns-clause-ask c = (refl, refl)

pub returns-clause-open : goal.returns-clause-open
unfolding clap_on_literals named_order open_in low_in reserve_in number_in number_of
returns-clause-open c = (refl, refl)

pub returns-clause-audit : goal.returns-clause-audit
unfolding clap_on_literals named_order audit_in files_in copies_in
returns-clause-audit c = (refl, refl)

pub returns-clause-serve : goal.returns-clause-serve
unfolding clap_on_literals named_order serve_in number_in number_of files_in copies_in
returns-clause-serve c = (refl, refl)

pub returns-clause-twice : goal.returns-clause-twice
unfolding clap_on_literals
returns-clause-twice c = λ e. cc

pub returns-clause-none : goal.returns-clause-none
unfolding clap_on_literals
returns-clause-none c = λ e. cc
