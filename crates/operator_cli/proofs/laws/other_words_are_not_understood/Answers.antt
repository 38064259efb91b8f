use Rattle.clap.proofs.OnLiterals.{clap_on_literals}
use Rattle.operator_cli.proofs.laws.other_words_are_not_understood.Goals as goal

pub returns-clause-no_file : goal.returns-clause-no_file
unfolding clap_on_literals
returns-clause-no_file c = λ e. cc

pub returns-clause-word_too_many : goal.returns-clause-word_too_many
unfolding clap_on_literals
returns-clause-word_too_many c = λ e. cc

pub returns-clause-help : goal.returns-clause-help
unfolding clap_on_literals
returns-clause-help c = λ e. cc
