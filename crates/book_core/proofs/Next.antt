-- The entry that asking adds is legal and of the own row; so is the entry that joining adds.
use Rattle.std.proofs.Common.{◌≡◌, ◌≢◌, ℕ, ◌+◌, Bool, true, false, cond, not, ◌&&◌, List, Option, Some, None, refl, ap, ◌∙◌, subst, arith, length, leb-false}
use Rattle.std.specs.Prelude.{nat_le}
use Rattle.std.proofs.lemmas.Bool.{and_parts}
use Rattle.rights_lattice.specs.declared.cell.Cell.{Cell}
use Rattle.rights_lattice.specs.Cell.{owner_of, same_cell, same_event}
use Rattle.rights_lattice.specs.Cells.{Cells, Valued, value_at, all_zero, marks_of}
use Rattle.rights_lattice.specs.State.{State, bottom, is_within}
use Rattle.rights_lattice.proofs.CellLaws.{value_at-raise, value_at-all_zero}
use Rattle.rights_lattice.proofs.SpotLaws.{same_cell_is, value_in-tests}
use Rattle.delta_mutators.specs.Marks.{mark_plus}
use Rattle.request_ledger.specs.declared.request.Request.{Request}
use Rattle.request_ledger.specs.declared.request.Request.TheVariants.{Announce, Release, Sell, Refund, Cede}
use Rattle.request_ledger.specs.declared.reply.Reply.{Reply}
use Rattle.request_ledger.specs.declared.reply.Kept.{Kept}
use Rattle.request_ledger.specs.Requests.{is_done, same_request}
use Rattle.book_core.specs.declared.plan.JoinFault.TheVariants as join_fault
use Rattle.book_core.specs.declared.entry.Entry.{Entry}
use Rattle.book_core.specs.declared.entry.Entry.TheVariants.{Asked}
use Rattle.book_core.specs.History.{delta_of, state_of, kept, sale_of}
use Rattle.book_core.specs.Decision.{SiteConfig, office_after, Change, cell_of, change_of, refund_of, marked, addition_of, delta_for, reply_to, decision_if, entry_if, entry_of_ask, Again, Reused, Full, Fresh}
use Rattle.book_core.specs.Joining.{foreign, is_of_sites, Joins, NothingNew, Refuses, join_if, join_decision}
use Rattle.book_core.specs.Legal.{IsNext, IsNextJoined}
use Rattle.book_core.proofs.OrderTests.{passes}
use Rattle.book_core.proofs.Rows.{own_cell}

marked_foreign : (me : ℕ) (X : Cells) (o : Option Change) (event : List ℕ) (cell : Cell) → owner_of cell ≢ me → value_at (marked me X o).cells event cell ≡ 0
marked_foreign me X None event cell other = value_at-all_zero event cell
marked_foreign me X (Some c) event cell other =
    let m = mark_plus X c.event (cell_of me c.kind) c.amount in
    omega (
      arith,
      value_at-raise all_zero m event cell,
      value_at-all_zero event cell,
      value_in-tests m event cell,
      by_test (same_event event c.event && same_cell cell (cell_of me c.kind)) refl,
    )
  where
    by_test : (b : Bool) → (same_event event c.event && same_cell cell (cell_of me c.kind)) ≡ b
        → cond b (value_at X c.event (cell_of me c.kind) + c.amount) 0 ≡ 0
    by_test false q = refl
    by_test true q =
        let p = and_parts (same_event event c.event) (same_cell cell (cell_of me c.kind)) q in
        absurd (other (ap owner_of (same_cell_is cell (cell_of me c.kind) p.1) ∙ own_cell me c.kind))

addition_foreign : (office : SiteConfig) (h : List Entry) (request : Request) (event : List ℕ) (cell : Cell) → owner_of cell ≢ office.me
    → value_at (addition_of office h request).cells event cell ≡ 0
addition_foreign office h (Announce name) event cell other = value_at-all_zero event cell
addition_foreign office h (Release of n) event cell other = marked_foreign office.me (state_of h).cells (change_of h (Release of n)) event cell other
addition_foreign office h (Sell of n) event cell other = marked_foreign office.me (state_of h).cells (change_of h (Sell of n)) event cell other
addition_foreign office h (Refund sale part) event cell other = marked_foreign office.me (state_of h).cells (refund_of (sale_of h sale) part) event cell other
addition_foreign office h (Cede of to n) event cell other = marked_foreign office.me (state_of h).cells (change_of h (Cede of to n)) event cell other

asked_foreign : (office : SiteConfig) (h : List Entry) (request : Request) (reply : Reply) (event : List ℕ) (cell : Cell) → owner_of cell ≢ office.me
    → value_at (delta_for office h request reply).cells event cell ≡ 0
asked_foreign office h request reply event cell other = by_test (is_done reply)
  where
    by_test : (b : Bool) → value_at (cond b (addition_of office h request) bottom).cells event cell ≡ 0
    by_test true = addition_foreign office h request event cell other
    by_test false = value_at-all_zero event cell

pub record IsOwnNext (office : SiteConfig) (h : List Entry) (entry : Entry) : Type 0 where
  pub next : IsNext office h entry
  pub own : (event : List ℕ) (cell : Cell) → owner_of cell ≢ office.me → value_at (delta_of entry).cells event cell ≡ 0

pub ask_next : (office : SiteConfig) (h : List Entry) (number : ℕ) (request : Request) (entry : Entry) → entry_of_ask office h number request ≡ Some entry
    → IsOwnNext office h entry
ask_next office h number request entry e = by_kept (kept h number) refl e
  where
    new : (b : Bool) → nat_le office.limit (length h) ≡ b → kept h number ≡ None
        → entry_if (cond b Full (Fresh (reply_to office h request))) office h number request ≡ Some entry → IsOwnNext office h entry
    new true q k found = cc
    new false q k found =
        let same : Asked number request (reply_to office h request) (delta_for office h request (reply_to office h request)) ≡ entry = cc in
        subst (IsOwnNext office h) same (record {
          next = record { room = leb-false office.limit (length h) q; new = k; answer = refl; change = refl };
          own = asked_foreign office h request (reply_to office h request);
        })

    again : (b : Bool) (place : ℕ) (reply : Reply) → entry_if (cond b (Again place reply) (Reused place)) office h number request ≡ Some entry
        → IsOwnNext office h entry
    again true place reply found = cc
    again false place reply found = cc

    by_kept : (o : Option Kept) → kept h number ≡ o → entry_if (decision_if o office h request) office h number request ≡ Some entry → IsOwnNext office h entry
    by_kept None q found = new (nat_le office.limit (length h)) refl q found
    by_kept (Some k) q found = again (same_request k.request request) k.place k.reply found

-- a delta that is joined passed each test
pub join_next : (office : SiteConfig) (h : List Entry) (peer : ℕ) (delta : State) → join_decision office h peer delta ≡ Joins → IsNextJoined office h peer delta
join_next office h peer delta e =
    go (is_of_sites (office_after office h) peer delta) (foreign office.me (state_of h).cells (marks_of delta.cells)) (is_within delta (state_of h))
    (nat_le office.limit (length h)) refl refl refl refl e
  where
    go : (a : Bool) (f : Option Valued) (within full : Bool) → is_of_sites (office_after office h) peer delta ≡ a
        → foreign office.me (state_of h).cells (marks_of delta.cells) ≡ f
        → is_within delta (state_of h) ≡ within → nat_le office.limit (length h) ≡ full
        → cond (not a) (Refuses join_fault.UnknownSite) (join_if f within full) ≡ Joins → IsNextJoined office h peer delta
    go false f within full q r s t found = cc
    go true (Some mark) within full q r s t found = cc
    go true None true full q r s t found = cc
    go true None false true q r s t found = cc
    go true None false false q r s t found = passes office h peer delta t q r s

-- a delta that holds nothing new is at or below the state
pub nothing_new : (office : SiteConfig) (h : List Entry) (peer : ℕ) (delta : State) → join_decision office h peer delta ≡ NothingNew
    → is_within delta (state_of h) ≡ true
nothing_new office h peer delta e =
    go (is_of_sites (office_after office h) peer delta) (foreign office.me (state_of h).cells (marks_of delta.cells)) (is_within delta (state_of h))
    (nat_le office.limit (length h)) e
  where
    go : (a : Bool) (f : Option Valued) (within full : Bool) → cond (not a) (Refuses join_fault.UnknownSite) (join_if f within full) ≡ NothingNew
        → within ≡ true
    go false f within full found = cc
    go true (Some mark) within full found = cc
    go true None true full found = refl
    go true None false true found = cc
    go true None false false found = cc
