-- A command with one value or one command more.
use Rattle.std.proofs.Common.{◌≡◌, ◌∙◌, ◌||◌, ap, ap₂}
use Rattle.clap.specs.Words.{AddsArg, AddsSubcommand, App, Rule, Shape, app_of, with_rule, with_subcommand}
use Rattle.clap.specs.declared.builder.arg.Arg.{Arg}
use Rattle.clap.specs.declared.builder.command.Command.{Command}
use Rattle.operator_cli.specs.Orders.{IsCommand, IsValue, above}

pub takes : {app : App} {rule : Rule} {old : Command} {arg : Arg} {new : Command} → AddsArg old arg new → IsCommand app old → IsValue rule arg
    → IsCommand (with_rule app rule) new
takes adds command value = (adds.shape value.1 ∙ ap₂ with_rule command.0 value.0, adds.globals ∙ ap₂ ◌||◌ command.1 value.1)

top_of : App → Shape
top_of a = a.top

pub stands_above : {app sub : App} {old below new : Command} → AddsSubcommand old below new → app_of old ≡ app → IsCommand sub below → app_of new ≡ above app sub
unfolding top_of
stands_above adds is command = adds.shape command.1 ∙ ap₂ with_subcommand is (ap top_of command.0)
