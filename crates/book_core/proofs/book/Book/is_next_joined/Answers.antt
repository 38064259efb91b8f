use Rattle.std.proofs.Common.{rules, ◌≡◌, true, false, None, IsSome}
use Rattle.std.specs.Prelude.{nat_le, length}
use Rattle.rights_lattice.specs.Cells.{marks_of}
use Rattle.book_core.specs.History.{state_of}
use Rattle.book_core.specs.Decision.{office_after}
use Rattle.book_core.specs.Joining.{foreign, is_of_sites}
use Rattle.book_core.proofs.OrderTests.{strange, above, fresh}
use Rattle.book_core.proofs.book.Book.is_next_joined.Goals as goal

pub returns-then-not-is_of_sites : goal.returns-then-not-is_of_sites
returns-then-not-is_of_sites c =
    let book = c.args.self.now in
    let out : is_of_sites (office_after book.office book.history) c.args.peer c.args.delta.now ≡ false = search rules in
    strange book.office book.history c.args.peer c.args.delta.now out

pub returns-then-is_some : goal.returns-then-is_some
returns-then-is_some c =
    let book = c.args.self.now in
    let some : IsSome (foreign book.office.me (state_of book.history).cells (marks_of c.args.delta.now.cells)) = search rules in
    above book.office book.history c.args.peer c.args.delta.now some

pub returns : goal.returns
returns c =
    let book = c.args.self.now in
    let room : nat_le book.office.limit (length book.history) ≡ false = search rules in
    let of_sites : is_of_sites (office_after book.office book.history) c.args.peer c.args.delta.now ≡ true = search rules in
    let none : foreign book.office.me (state_of book.history).cells (marks_of c.args.delta.now.cells) ≡ None = search rules in
    fresh book.office book.history c.args.peer c.args.delta.now c.has_all_of.result room of_sites none c.has_all_of.ensures
