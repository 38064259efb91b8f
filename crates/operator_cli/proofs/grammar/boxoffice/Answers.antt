use Rattle.std.proofs.Common.{ap, ◌∙◌}
use Rattle.clap.specs.Simple.{app_of_fields}
use Rattle.operator_cli.specs.Orders.{needing}
use Rattle.operator_cli.proofs.TakesLaws.{stands_above}
use Rattle.operator_cli.proofs.grammar.boxoffice.Goals as goal

pub returns : goal.returns
returns c =
    let none = ap app_of_fields c.subcommand_required.ensures ∙ ap needing c.named.ensures.0 in
    let world = stands_above c.in_ok-subcommand.ensures none c.named-world.ensures in
    let init = stands_above c.in_ok-subcommand-2.ensures world c.in_ok-init.ensures in
    let migrate = stands_above c.in_ok-subcommand-3.ensures init c.in_ok-migrate.ensures in
    let grow = stands_above c.in_ok-subcommand-4.ensures migrate c.in_ok-grow.ensures in
    let ask = stands_above c.in_ok-subcommand-5.ensures grow c.in_ok-ask.ensures in
    let find = stands_above c.in_ok-subcommand-6.ensures ask c.in_ok-find.ensures in
    let list = stands_above c.in_ok-subcommand-7.ensures find c.in_ok-list.ensures in
    let events = stands_above c.in_ok-subcommand-8.ensures list c.in_ok-events.ensures in
    let shares = stands_above c.in_ok-subcommand-9.ensures events c.in_ok-shares.ensures in
    let export = stands_above c.in_ok-subcommand-10.ensures shares c.in_ok-export.ensures in
    let import = stands_above c.in_ok-subcommand-11.ensures export c.in_ok-import.ensures in
    let audit = stands_above c.in_ok-subcommand-12.ensures import c.in_ok-audit.ensures in
    let serve = stands_above c.in_ok-subcommand-13.ensures audit c.in_ok-serve.ensures in
    let opened = stands_above c.in_ok-subcommand-14.ensures serve c.in_ok-open.ensures in
    let closed = stands_above c.in_ok-subcommand-15.ensures opened c.in_ok-close.ensures in
    let status = stands_above c.in_ok-subcommand-16.ensures closed c.in_ok-status.ensures in
    let paired = stands_above c.in_ok-subcommand-17.ensures status c.in_ok-pair.ensures in
    let alone = stands_above c.in_ok-subcommand-18.ensures paired c.in_ok-alone.ensures in
    let backup = stands_above c.in_ok-subcommand-19.ensures alone c.in_ok-backup.ensures in
    stands_above c.in_ok-whole.ensures backup c.named-version.ensures
