-- What a site leaves: its book, and what was found of it beside what its sessions were given. (Our own.)
use Rattle.std.specs.Prelude.{◌≡◌, ◌≢◌, ◌≤◌, ℕ, nat_le, List, All, count_by, length, Result, Ok, Err}
use Rattle.book_core.specs.BookView.{BookView}
use Rattle.site_desk.specs.declared.answer.Seen.{Seen}
use Rattle.site_desk.specs.declared.finish.FinishFault.{FinishFault}
use Rattle.site_desk.specs.declared.finish.FinishFault.TheVariants.{SeatsOut, Stranger, StrangerSeen}
use Rattle.site_desk.specs.declared.receipt.Receipt.{Receipt}
use Rattle.site_desk.specs.Count.{asked_since}
use Rattle.site_desk.specs.Finish.{FindsFirst, FirstNot, StandsIn, WasSeen}
use Rattle.site_desk.specs.Moments.{IsLater}

-- Where the count began at this length and the seats handed in have this share: it is all that was newly entered since,
-- and all receipts and looks are of the book's history; or the first that is not so.
abbrev pub IsCompared : ℕ → ℕ → BookView → List Receipt → List Seen → Result (Unit {0}) FinishFault → Type 0
IsCompared opening share book receipts looks (Ok _) = (share ≡ asked_since opening book.history) × All (StandsIn book.history) receipts
    × All (WasSeen book.office book.history) looks
IsCompared opening share book receipts looks (Err fault) = FindsFirst book.office book.history (asked_since opening book.history) share receipts looks fault

-- The same without the count: all receipts and looks are of the book's history, or the first is told
-- that is not, or seats are out.
abbrev pub IsFinished : BookView → List Receipt → List Seen → Result (Unit {0}) FinishFault → Type 0
IsFinished book receipts looks (Ok _) = All (StandsIn book.history) receipts × All (WasSeen book.office book.history) looks
IsFinished book receipts looks (Err SeatsOut) = Unit {0}
IsFinished book receipts looks (Err (Stranger k)) = FirstNot (StandsIn book.history) receipts k
IsFinished book receipts looks (Err (StrangerSeen k)) = All (StandsIn book.history) receipts × FirstNot (WasSeen book.office book.history) looks k

-- how many receipts are of entries from this place on
abbrev pub given_since : ℕ → List Receipt → ℕ
given_since opening receipts = count_by (λ r. nat_le opening r.place) receipts

-- What a site that began with this book leaves. Its book is of the same site and limit and counts the same sites, and its
-- history goes on from the one that it began with. Seats are out only where not all sessions were served. Unless they are, no more
-- requests were newly entered than receipts were given of entries from then on.
pub record IsLeftOf (began left : BookView) (AllServed : Type 0) (receipts : List Receipt) (looks : List Seen) (result : Result (Unit {0}) FinishFault) :
    Type 0 where
  pub finished : IsFinished left receipts looks result
  pub whole : AllServed → result ≢ Err SeatsOut
  pub later : IsLater began.office began.history left
  pub entered : result ≢ Err SeatsOut → asked_since (length began.history) left.history ≤ given_since (length began.history) receipts
