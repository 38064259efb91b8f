use Rattle.std.proofs.Common.{rules, ◌∙◌, map, ap, refl, subst, sym}
use Rattle.std.specs.Io.KnownBytes.{Keeps}
use Rattle.world_steps.specs.Audit.{IsWhole, books_of}
use Rattle.operator_cli.specs.declared.status.Status.TheVariants.{Refused}
use Rattle.operator_cli.specs.declared.told.CommandReply.TheVariants.{NotWhole}
use Rattle.operator_cli.specs.Audited.{IsPartsText}
use Rattle.operator_cli.specs.CommandReply.{told_line}
use Rattle.operator_cli.proofs.BrokenOff.{unprinted_write}
use Rattle.operator_cli.proofs.PrintLaws.{told_printed}
use Rattle.operator_cli.proofs.audit.refused_parts.Goals as goal

pub returns-then-is_whole-clause-whole : goal.returns-then-is_whole-clause-whole
returns-then-is_whole-clause-whole g c = λ none.
    let whole : IsWhole (map (λ site. site.book) c.args.sites.now) = subst IsWhole (ap books_of c.as_slice.ensures.value ∙ c.in-Ok.ensures)
    (c.if-is_whole.ensures.whole.0 (search rules)) in
    let kept : Keeps (g.W.Write.contents c.args.out.now) (g.W.Write.contents c.args.out.now) = search rules in
    (whole, kept)

pub returns-clause-out : goal.returns-clause-out
returns-clause-out g c =
    let unwhole : IsWhole (map (λ site. site.book) c.args.sites.now) → ⊥ =
    λ whole. (let holds = c.is_whole.ensures.whole.1 (subst IsWhole (sym (ap books_of c.as_slice.ensures.value ∙ c.in-Ok.ensures)) whole) in let fails
    = c.if-is_whole.false in search rules) in
    told_printed (IsPartsText (map (λ site. site.book) c.args.sites.now)) (g.W.Write.contents c.args.out.now) (g.W.Write.contents c.tell.new.out)
    c.tell.result NotWhole
    (unwhole, refl) c.tell.ensures.written c.tell.ensures.status

pub returns-clause-fault : goal.returns-clause-fault
returns-clause-fault g c =
    let unwhole : IsWhole (map (λ site. site.book) c.args.sites.now) → ⊥ =
    λ whole. (let holds = c.is_whole.ensures.whole.1 (subst IsWhole (sym (ap books_of c.as_slice.ensures.value ∙ c.in-Ok.ensures)) whole) in let fails
    = c.if-is_whole.false in search rules) in
    unprinted_write (IsPartsText (map (λ site. site.book) c.args.sites.now)) (g.W.Write.contents c.args.out.now) (g.W.Write.contents c.tell.new.out)
    c.tell.result Refused (told_line NotWhole)
    (unwhole, refl) c.tell.ensures.fault c.tell.ensures.written
