-- What an entry that is next leaves as it was: the own row, where it is a delta of a peer, and rights that are not negative.
use Rattle.std.proofs.Common.{◌≡◌, List, [], ◌∷◌, ◌++◌, ap, ◌∙◌, subst, sym}
use Rattle.rights_lattice.specs.Cells.{value_at}
use Rattle.book_core.specs.declared.entry.Entry.{Entry}
use Rattle.book_core.specs.declared.entry.Entry.TheVariants.{Asked, Joined, Grown}
use Rattle.book_core.specs.History.{state_of}
use Rattle.book_core.specs.Legal.{IsNext, IsLegal}
use Rattle.book_core.specs.BookView.{BookView}
use Rattle.book_core.specs.OwnRow.{LeavesOwnRow, HasOwnRights}
use Rattle.book_core.proofs.Rows.{joined_own, grown_at, legal_rights}

-- a delta that is entered leaves the own row
pub entered_own : (old new : BookView) (entry : Entry) → IsNext old.office old.history entry → new.history ≡ old.history ++ entry ∷ []
    → LeavesOwnRow entry old new
entered_own old new (Asked number request reply delta) next is = tt
entered_own old new (Joined peer delta) next is = λ event cell own.
    ap (λ (h : List Entry). value_at (state_of h).cells event cell) is ∙ joined_own old.office.me old.history peer delta next.own_row event cell own
entered_own old new (Grown sites) next is = λ event cell. ap (λ (h : List Entry). value_at (state_of h).cells event cell) is
    ∙ grown_at old.history sites event cell

-- a book whose history is legal has rights
pub own_rights : (book : BookView) → IsLegal book.office book.history → HasOwnRights book
own_rights book legal event = legal_rights book.office book.history legal event

-- so has a book that is opened, and one that shows the same with other room
pub opened_rights : (inside book : BookView) → inside ≡ book → IsLegal inside.office inside.history → HasOwnRights book
opened_rights inside book is legal = subst HasOwnRights is (own_rights inside legal)

pub same_rights : (inside old new : BookView) → inside ≡ old → new ≡ record old { room = new.room } → IsLegal inside.office inside.history → HasOwnRights new
same_rights inside old new is unchanged legal = subst HasOwnRights (sym unchanged) (opened_rights inside old is legal)
