use Rattle.std.proofs.Common.{rules, ◌≡◌, false, None, arith, ap, ◌∙◌}
use Rattle.std.specs.Prelude.{nat_le, length}
use Rattle.request_ledger.specs.Requests.{is_done}
use Rattle.rights_lattice.specs.State.{bottom}
use Rattle.book_core.specs.Decision.{state_of_item}
use Rattle.book_core.specs.History.{kept}
use Rattle.book_core.proofs.Rooms.{room_for_refusal, fresh_refusal}
use Rattle.book_core.proofs.OwnRows.{opened_rights, same_rights}
use Rattle.book_core.proofs.book.Book.plan.Goals as goal

pub returns-then-is_err-clause-memory : goal.returns-then-is_err-clause-memory
returns-then-is_err-clause-memory c is refusal entries numbers =
    let book = c.args.self.now in
    let new : kept book.history c.args.number ≡ None = search rules in
    let room : nat_le book.office.limit (length book.history) ≡ false = search rules in
    let idle = fresh_refusal book.office book.history c.args.number c.args.request.now new room refusal in
    let nothing = c.decide-reply.ensures.idle (ap is_done c.decide-reply.ensures.reply ∙ idle) in
    let empty : c.in-Ok.delta ≡ bottom = c.in-Ok.ensures.delta ∙ ap state_of_item nothing in
    let kept_room = c.reserve.ensures.succeeds
    (room_for_refusal book.room c.args.number c.args.request.now c.decide-reply.result.0 c.in-Ok.delta empty entries numbers) in
    grind (arith, kept_room, c.is_err.ensures.value, c.is_err.ensures.negation, c.if-is_err.true)

pub returns-then-is_same-clause-has_rights : goal.returns-then-is_same-clause-has_rights
returns-then-is_same-clause-has_rights c = opened_rights _ _ c.self.view_is c.self.invariant.legal

pub returns-in-Some-clause-has_rights : goal.returns-in-Some-clause-has_rights
returns-in-Some-clause-has_rights c = opened_rights _ _ c.self.view_is c.self.invariant.legal

pub returns-then-is_full-clause-has_rights : goal.returns-then-is_full-clause-has_rights
returns-then-is_full-clause-has_rights c = opened_rights _ _ c.self.view_is c.self.invariant.legal

pub returns-in_default-delta_of_item-clause-has_rights : goal.returns-in_default-delta_of_item-clause-has_rights
returns-in_default-delta_of_item-clause-has_rights c = opened_rights _ _ c.self.view_is c.self.invariant.legal

pub returns-then-is_err-clause-has_rights : goal.returns-then-is_err-clause-has_rights
returns-then-is_err-clause-has_rights c = same_rights _ _ _ c.self.view_is c.reserve.ensures.unchanged c.self.invariant.legal

pub returns-clause-has_rights : goal.returns-clause-has_rights
returns-clause-has_rights c = same_rights _ _ _ c.self.view_is c.reserve.ensures.unchanged c.self.invariant.legal
