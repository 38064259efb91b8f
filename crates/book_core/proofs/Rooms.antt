-- What room a refusal takes.
use Rattle.std.proofs.Common.{◌≡◌, ℕ, ◌≤◌, false, cond, List, None, length, ap, ◌∙◌, subst, arith}
use Rattle.std.specs.Prelude.{nat_le}
use Rattle.rights_lattice.specs.State.{State, bottom}
use Rattle.request_ledger.specs.declared.request.Request.{Request}
use Rattle.request_ledger.specs.declared.reply.Reply.{Reply}
use Rattle.request_ledger.specs.Requests.{is_done}
use Rattle.book_core.specs.declared.entry.Entry.{Entry}
use Rattle.book_core.specs.declared.entry.Entry.TheVariants.{Asked}
use Rattle.book_core.specs.BookView.{Room, HasRoomFor}
use Rattle.book_core.specs.Decision.{SiteConfig, Full, Fresh, decision, decision_if, reply_to}
use Rattle.book_core.specs.History.{kept}
use Rattle.book_core.specs.Plans.{IsFreshRefusal}
use Rattle.book_core.proofs.Deltas.{lists_of_nothing}

-- an asked entry that adds nothing takes one place and one number
pub room_for_refusal : (room : Room) (number : ℕ) (request : Request) (reply : Reply) (delta : State) → delta ≡ bottom → 1 ≤ room.entries → 1 ≤ room.numbers
    → HasRoomFor room (Asked number request reply delta)
room_for_refusal room number request reply delta is place one = rw is (record {
  for_entry = place;
  for_cells = rw lists_of_nothing.1 (omega arith);
  for_names = rw lists_of_nothing.0 (omega arith);
  for_number = one;
})

-- a new number on a history with room, whose reply adds nothing
pub fresh_refusal : (office : SiteConfig) (h : List Entry) (number : ℕ) (request : Request) → kept h number ≡ None → nat_le office.limit (length h) ≡ false
    → IsFreshRefusal (decision office h number request) → is_done (reply_to office h request) ≡ false
fresh_refusal office h number request new room refusal =
    subst IsFreshRefusal
    (ap (λ o. decision_if o office h request) new ∙ ap (λ b. cond b Full (Fresh (reply_to office h request))) room)
    refusal
