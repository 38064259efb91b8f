use Rattle.std.proofs.Common.{Some, false, true, ◌≡◌, ◌∙◌, ap, sym}
use Rattle.site_desk.proofs.Shown.{same_number, stands}
use Rattle.site_desk.proofs.finish.stands_in.Goals as goal
use Rattle.site_desk.proofs.finish.stands_in.Goals.{then-eq, else-eq}

pub returns-then-is_same_request : goal.returns-then-is_same_request
returns-then-is_same_request c =
    let e = c.in-Some-Asked in
    let r = c.args.receipt.now in
    elim c.if-eq.branch [
      | then-eq w ↦
          stands c.args.book.now.history r e.number e.request e.reply e.field-0-3 c.is_same_reply.result (sym e.ensures ∙ ap Some e.field-0-is)
          (same_number e.number r.number c.eq.result c.eq.ensures w.if-eq.true)
          (w.is_same_request.ensures.0 (sym w.value-is ∙ c.if-is_same_request.true)) c.is_same_reply.ensures
      | else-eq w ↦ let never : false ≡ true = sym w.if-eq.false ∙ sym w.value-is ∙ c.if-is_same_request.true in cc
    ]
