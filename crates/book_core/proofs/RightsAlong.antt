-- The own rights are not negative after any of the marks of an entry that is next.
use Rattle.std.proofs.Common.{◌≡◌, ℕ, zero, suc, ◌≤◌, Bool, true, false, cond, List, [], ◌∷◌, ◌++◌, length, take, Option, Some, None, refl, sym, ap, ◌∙◌, subst, arith}
use Rattle.std.specs.Prelude.{max}
use Rattle.std.proofs.lemmas.List.{take_all}
use Rattle.rights_lattice.specs.declared.cell.Cell.{Cell}
use Rattle.rights_lattice.specs.declared.cell.Cell.TheVariants.{Gave, Used}
use Rattle.rights_lattice.specs.Cells.{Cells, Valued, value_at, all_zero, raise_all, marks_of, greatest}
use Rattle.rights_lattice.specs.State.{State, bottom}
use Rattle.rights_lattice.proofs.CellLaws.{value_at-raise_all, greatest-marks_of}
use Rattle.rights_lattice.proofs.MissingLaws.{length-marks_of-all_zero, length-marks_of-raise}
use Rattle.rights_lattice.proofs.RightsLaws.{join-marks}
use Rattle.delta_mutators.specs.Marks.{mark_plus}
use Rattle.local_rights.specs.Rights.{HasRights}
use Rattle.request_ledger.specs.declared.request.Request.{Request}
use Rattle.request_ledger.specs.declared.request.Request.TheVariants.{Announce, Release, Sell, Refund, Cede}
use Rattle.request_ledger.specs.declared.reply.Reply.{Reply}
use Rattle.request_ledger.specs.Requests.{is_done}
use Rattle.book_core.specs.declared.entry.Entry.{Entry}
use Rattle.book_core.specs.declared.entry.Entry.TheVariants.{Asked, Joined, Grown}
use Rattle.book_core.specs.History.{delta_of, state_of, sale_of}
use Rattle.book_core.specs.Decision.{SiteConfig, Change, cell_of, change_of, refund_of, marked, addition_of, delta_for}
use Rattle.book_core.specs.Legal.{IsNext, IsLegal}
use Rattle.book_core.specs.BookView.{KeepRights}
use Rattle.book_core.proofs.Histories.{state_of-push, legal_push}
use Rattle.book_core.proofs.Rows.{legal_rights, spent_le, gained_le}

-- what a request adds has one mark at most
none_at_most : length (marks_of all_zero) ≤ 1
none_at_most = omega (arith, length-marks_of-all_zero)

marked_few : (me : ℕ) (X : Cells) (o : Option Change) → length (marks_of (marked me X o).cells) ≤ 1
marked_few me X None = none_at_most
marked_few me X (Some c) = omega (arith, length-marks_of-all_zero, length-marks_of-raise all_zero (mark_plus X c.event (cell_of me c.kind) c.amount))

addition_few : (office : SiteConfig) (h : List Entry) (request : Request) → length (marks_of (addition_of office h request).cells) ≤ 1
addition_few office h (Announce event) = none_at_most
addition_few office h (Release event n) = marked_few office.me (state_of h).cells (change_of h (Release event n))
addition_few office h (Sell event n) = marked_few office.me (state_of h).cells (change_of h (Sell event n))
addition_few office h (Refund sale part) = marked_few office.me (state_of h).cells (refund_of (sale_of h sale) part)
addition_few office h (Cede event to n) = marked_few office.me (state_of h).cells (change_of h (Cede event to n))

delta_few : (office : SiteConfig) (h : List Entry) (request : Request) (reply : Reply) → length (marks_of (delta_for office h request reply).cells) ≤ 1
delta_few office h request reply = by_test (is_done reply)
  where
    by_test : (b : Bool) → length (marks_of (cond b (addition_of office h request) bottom).cells) ≤ 1
    by_test true = addition_few office h request
    by_test false = none_at_most

greatest-take : (ms : List Valued) (count : ℕ) (e : List ℕ) (c : Cell) → greatest (take count ms) e c ≤ greatest ms e c
greatest-take [] zero e c = omega arith
greatest-take [] (suc count) e c = omega arith
greatest-take (m ∷ ms) zero e c = omega arith
greatest-take (m ∷ ms) (suc count) e c = omega (arith, greatest-take ms count e c)

-- none of the marks, or all
asked_along : (office : SiteConfig) (h : List Entry) (entry : Entry) (count : ℕ) (event : List ℕ) → IsLegal office h → IsNext office h entry
    → length (marks_of (delta_of entry).cells) ≤ 1
    → HasRights (raise_all (state_of h).cells (take count (marks_of (delta_of entry).cells))) event office.me
asked_along office h entry zero event legal next few = legal_rights office h legal event
asked_along office h entry (suc count) event legal next few =
    let all : take (suc count) (marks_of (delta_of entry).cells) ≡ marks_of (delta_of entry).cells = take_all (suc count) (marks_of (delta_of entry).cells)
    (omega (arith, few)) in
    let after : (state_of (h ++ entry ∷ [])).cells ≡ raise_all (state_of h).cells (take (suc count) (marks_of (delta_of entry).cells)) =
    ap (λ (s : State). s.cells) (state_of-push h entry) ∙ join-marks (state_of h).cells (delta_of entry).cells ∙ ap (raise_all (state_of h).cells) (sym all) in
    subst (λ (X : Cells). HasRights X event office.me) after (legal_rights office (h ++ entry ∷ []) (legal_push office h entry legal next) event)

-- no mark changes the own row
joined_along : (office : SiteConfig) (h : List Entry) (peer : ℕ) (delta : State) (count : ℕ) (event : List ℕ) → IsLegal office h
    → IsNext office h (Joined peer delta)
    → HasRights (raise_all (state_of h).cells (take count (marks_of delta.cells))) event office.me
joined_along office h peer delta count event legal next =
    let X = (state_of h).cells in
    let ms = marks_of delta.cells in
    let at : (cell : Cell) → value_at (raise_all X (take count ms)) event cell ≡ max (value_at X event cell) (greatest (take count ms) event cell)
    = value_at-raise_all X (take count ms) event in
    let le : (cell : Cell) → greatest (take count ms) event cell ≤ value_at delta.cells event cell = λ cell.
    omega (arith, greatest-take ms count event cell, greatest-marks_of delta.cells event cell) in
    omega (
      arith,
      legal_rights office h legal event,
      spent_le X (raise_all X (take count ms)) event office.me
          (omega (arith, at (Used office.me), le (Used office.me), next.own_row event (Used office.me) refl))
          (λ j ne. omega (arith, at (Gave office.me j), le (Gave office.me j), next.own_row event (Gave office.me j) refl)),
      gained_le X (raise_all X (take count ms)) event office.me (λ cell. omega (arith, at cell)),
    )

along : (office : SiteConfig) (h : List Entry) (entry : Entry) → IsLegal office h → IsNext office h entry
    → KeepRights office.me (state_of h).cells (marks_of (delta_of entry).cells)
along office h (Asked number request reply delta) legal next count event =
    asked_along office h (Asked number request reply delta) count event legal next
    (subst (λ (d : State). length (marks_of d.cells) ≤ 1) (sym next.change) (delta_few office h request reply))
along office h (Joined peer delta) legal next count event = joined_along office h peer delta count event legal next
along office h (Grown sites) legal next count event = asked_along office h (Grown sites) count event legal next none_at_most

pub rights_along : (office : SiteConfig) (h : List Entry) (entry : Entry) (ms : List Valued) (X : Cells) → IsLegal office h → IsNext office h entry
    → X ≡ (state_of h).cells → ms ≡ marks_of (delta_of entry).cells → KeepRights office.me X ms
rights_along office h entry ms X legal next X_is is =
    subst (λ (l : List Valued). KeepRights office.me X l) (sym is)
    (subst (λ (Y : Cells). KeepRights office.me Y (marks_of (delta_of entry).cells)) (sym X_is) (along office h entry legal next))
