-- What the sessions that come to a site leave, and the site with them. (Our own.)
use Rattle.std.specs.Prelude.{◌≡◌, ◌+◌, ◌≤◌, ℕ, List, Vec, All, IsSome, Result, count_by, is_some, length, map}
use Rattle.std.specs.List.{flat_map}
use Rattle.std.specs.declared.io.Read.{Ghosts as Reading}
use Rattle.std.specs.declared.io.Write.{Ghosts as Writing}
use Rattle.book_core.specs.BookView.{BookView}
use Rattle.site_desk.specs.declared.answer.Seen.{Seen}
use Rattle.site_desk.specs.declared.finish.FinishFault.{FinishFault}
use Rattle.site_desk.specs.declared.receipt.Receipt.{Receipt}
use Rattle.site_desk.specs.Seats.{Held, parts_of, shares_of}
use Rattle.site_desk.specs.SiteView.{SiteView}
use Rattle.session_server.specs.declared.peer.Peer.{Peer}
use Rattle.session_server.specs.declared.peer.PeerEnd.{PeerEnd}
use Rattle.session_server.specs.declared.session.Session.{Session}
use Rattle.session_server.specs.declared.session.SessionEnd.{SessionEnd}
use Rattle.session_server.specs.declared.site.Visit.{Visit}
use Rattle.session_server.specs.Exchanged.{AreExchanged}
use Rattle.session_server.specs.Finished.{IsLeftOf, given_since}

-- the visit for which a session is: its number, its reader and its writer
abbrev pub visit_of : {R W L : Type 0} → Session R W L → Visit R W
visit_of s = record { id = s.id; reader = s.reader; writer = s.writer }

-- the seats of sessions
abbrev pub seats_of : {R W L : Type 0} → List (Session R W L) → List Held
seats_of sessions = map (λ s. s.seat) sessions

module _ {R W : Type 0} {r : Reading R} {w : Writing W} where
  -- the visit for which a session was that has ended
  abbrev pub visit_ended : SessionEnd R W r w → Visit R W
  visit_ended e = record { id = e.id; reader = e.reader_began.value; writer = e.writer_began.value }

  -- each of these sessions was served
  abbrev pub AllServed : List (SessionEnd R W r w) → Type 0
  AllServed ends = All (λ e. IsSome e.writer) ends

  -- all receipts, and all looks, that these sessions were given
  abbrev pub receipts_of : List (SessionEnd R W r w) → List Receipt
  receipts_of ends = flat_map (λ e. e.receipts.items) ends

  abbrev pub looks_of : List (SessionEnd R W r w) → List Seen
  looks_of ends = flat_map (λ e. e.seen.items) ends

  -- what a site leaves that began with this book and had these sessions
  abbrev pub IsSiteLeft : BookView → BookView → List (SessionEnd R W r w) → Result (Unit {0}) FinishFault → Type 0
  IsSiteLeft began left ends finished = IsLeftOf began left (AllServed ends) (receipts_of ends) (looks_of ends) finished

  -- The sessions were for these visits, in order. Each end with its writer gave a seat back; where all have it, the seats have the parts that
  -- were handed in. Beyond the shares of those, no more was entered for them than they were given receipts of entries from this place on.
  pub record AreServed {L : Type 0} (opening : ℕ) (sessions : List (Session R W L)) (ends : List (SessionEnd R W r w)) (seats : List Held) : Type 0 where
    pub visits : map visit_ended ends ≡ map visit_of sessions
    pub parts : AllServed ends → parts_of seats ≡ parts_of (seats_of sessions)
    pub count : length seats ≡ count_by (λ e. is_some e.writer) ends
    pub shares : shares_of seats ≤ shares_of (seats_of sessions) + given_since opening (receipts_of ends)

  -- A site of this book ran for so many rounds, with these visits and these links, and left this: its book, the ends of its sessions, what was
  -- found of its book, and the ends of its links.
  pub record HasRun {K Z : Type 0} (rounds : ℕ) (book : BookView) (visits : List (Visit R W)) (peers : List Peer)
      (left : SiteView K × Vec (SessionEnd R W r w) Z × (Result (Unit {0}) FinishFault × Vec PeerEnd Z)) : Type 0 where
    pub visited : map visit_ended left.1.items ≡ visits
    pub left_book : IsSiteLeft book left.0.book left.1.items left.2.0
    pub exchanged : AreExchanged rounds peers left.2.1.items
