use Rattle.std.proofs.Common.{rules, map, refl}
use Rattle.std.specs.Io.KnownBytes.{Keeps}
use Rattle.operator_cli.specs.Audited.{IsPartsText}
use Rattle.operator_cli.proofs.BrokenOff.{fails_unprinted}
use Rattle.operator_cli.proofs.audit.refuse_parts.Goals as goal

pub returns-clause-cause : goal.returns-clause-cause
returns-clause-cause g c =
    fails_unprinted (IsPartsText (map (λ site. site.book) c.args.sites.now)) (g.W.Write.contents c.args.out.now)
    (g.W.Write.contents c.refused_parts.new.out) (g.W.Write.contents c.ended.new.out)
    (g.E.Write.contents c.args.err.now) (g.E.Write.contents c.ended.new.err) c.in_ok-came.came c.ended.result
    c.in_ok-came.ensures.out c.in_ok-came.ensures.fault c.ended.ensures.kept c.in_ok-came.ensures.ends c.ended.ensures.line c.ended.ensures.flush

pub returns-in_err-came-clause-whole : goal.returns-in_err-came-clause-whole
returns-in_err-came-clause-whole g c = λ none.
    let found = c.in_err-came.ensures.whole refl in
    let kept : Keeps (g.E.Write.contents c.args.err.now) (g.E.Write.contents c.args.err.now) = search rules in
    (found.0, found.1, kept)
