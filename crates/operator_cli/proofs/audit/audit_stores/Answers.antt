use Rattle.std.proofs.Common.{◌≡◌, map}
use Rattle.book_core.specs.Books.{AreNotOversold}
use Rattle.operator_cli.specs.declared.status.Status.{Status}
use Rattle.operator_cli.specs.declared.status.Status.TheVariants.{Done}
use Rattle.operator_cli.proofs.PrintLaws.{ends_as}
use Rattle.operator_cli.proofs.Serves.{ends_audited}
use Rattle.operator_cli.proofs.audit.audit_stores.Goals as goal

pub returns-clause-audited : goal.returns-clause-audited
returns-clause-audited g c =
    ends_audited (map (λ site. site.book) c.args.sites.now) (g.W.Write.contents c.args.out.now) (g.W.Write.contents c.audit_all-came.new.out)
    (g.W.Write.contents c.ended.new.out)
    (g.E.Write.contents c.args.err.now) (g.E.Write.contents c.ended.new.err) c.audit_all-came.result c.ended.result
    c.audit_all-came.ensures.out c.audit_all-came.ensures.fault c.ended.ensures.kept c.audit_all-came.ensures.ends c.ended.ensures.line
    c.ended.ensures.flush c.ended.ensures.status

pub returns-clause-not_oversold : goal.returns-clause-not_oversold
returns-clause-not_oversold g c =
    ends_as (λ (status : Status). status ≡ Done → AreNotOversold (map (λ site. site.book) c.args.sites.now)) c.audit_all-came.result c.ended.result
    c.audit_all-came.ensures.not_oversold (λ e. cc) c.ended.ensures.status
