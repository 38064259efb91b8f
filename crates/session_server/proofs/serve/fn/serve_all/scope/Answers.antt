use Rattle.std.proofs.Common.{◌≡◌, ◌∙◌, ◌≤◌, ◌+◌, ◌++◌, ℕ, List, [], ap, arith, length, map}
use Rattle.std.specs.Prelude.{count_by, is_some}
use Rattle.std.specs.declared.io.Read.{Ghosts as Reading}
use Rattle.std.specs.declared.io.Write.{Ghosts as Writing}
use Rattle.site_desk.specs.Seats.{Held, parts_of, shares_of}
use Rattle.session_server.specs.declared.session.Session.{Session}
use Rattle.session_server.specs.declared.session.SessionEnd.{SessionEnd}
use Rattle.session_server.specs.Finished.{given_since}
use Rattle.session_server.specs.Visited.{AllServed, AreServed, receipts_of, seats_of, visit_ended, visit_of}
use Rattle.session_server.proofs.serve.fn.serve_all.scope.Goals as goal

-- what is added to no ends and no seats is all
from_none : {R W L : Type 0} {r : Reading R} {w : Writing W} (opening : ℕ) (sessions : List (Session R W L))
    (none ends : List (SessionEnd R W r w)) (no_seats seats : List Held)
    → none ≡ [] → no_seats ≡ [] → map visit_ended ends ≡ map visit_ended none ++ map visit_of sessions
    → (AllServed ends → parts_of seats ≡ parts_of no_seats + parts_of (seats_of sessions))
    → length seats + count_by (λ e. is_some e.writer) none ≡ length no_seats + count_by (λ e. is_some e.writer) ends
    → shares_of seats + given_since opening (receipts_of none)
    ≤ shares_of no_seats + shares_of (seats_of sessions) + given_since opening (receipts_of ends)
    → AreServed opening sessions ends seats
from_none opening sessions none ends no_seats seats no_ends nobody visits parts count shares =
    let no_parts : parts_of no_seats ≡ 0 = ap parts_of nobody in
    let no_shares : shares_of no_seats ≡ 0 = ap shares_of nobody in
    let no_length : length no_seats ≡ 0 = ap length nobody in
    let no_count : count_by (λ e. is_some e.writer) none ≡ 0 = ap (λ l. count_by (λ e. is_some e.writer) l) no_ends in
    let not_given : given_since opening (receipts_of none) ≡ 0 = ap (λ l. given_since opening (receipts_of l)) no_ends in
    record {
      visits = visits ∙ ap (λ l. map visit_ended l ++ map visit_of sessions) no_ends;
      parts = λ all. omega (arith, parts all, no_parts);
      count = omega (arith, count, no_length, no_count);
      shares = omega (arith, shares, no_shares, not_given);
    }

pub returns : goal.returns
returns g c =
    let told = c.serve_from.ensures in
    from_none (length g.L.Opens.began) c.captures.sessions.items c.captures.ends.items c.serve_from.new.ends.items
    c.captures.seats.items c.serve_from.new.seats.items c.requires.2 c.requires.3 told.visits told.parts told.seats told.shares
