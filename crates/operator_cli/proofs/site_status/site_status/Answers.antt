use Rattle.std.proofs.Common.{◌∙◌, ap, inl, refl}
use Rattle.book_core.specs.BookView.{BookView}
use Rattle.operator_cli.specs.declared.outcome.Outcome.TheVariants.{SiteStatusIs}
use Rattle.operator_cli.specs.Commands.{HasSiteStatus}
use Rattle.operator_cli.specs.Printed.{site_status_in}
use Rattle.operator_cli.proofs.CommandLaws.{came_over}
use Rattle.operator_cli.proofs.site_status.site_status.Goals as goal

pub returns-in-Ok : goal.returns-in-Ok
returns-in-Ok g c =
    let shown = c.site_status_of-site_status.ensures ∙ ap (λ (b : BookView). site_status_in b.office b.history) c.book.ensures.book in
    came_over g.S.Store c.args.conn c.close.result HasSiteStatus (SiteStatusIs c.site_status_of-site_status.result) c.in-Ok.book c.in-Ok.book
    c.into_keeper.result c.into_keeper.ensures c.close.ensures c.in-Ok.ensures.opened
    (refl, ap SiteStatusIs shown)

pub returns-in-Err : goal.returns-in-Err
returns-in-Err g c = inl (c.in-Err.fault, refl, c.in-Err.ensures.fault)
