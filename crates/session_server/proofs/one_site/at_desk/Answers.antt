use Rattle.std.proofs.Common.{◌∙◌, ◌≤◌, ◌+◌, Err, List, ap, arith, length, rules, subst}
use Rattle.std.specs.Prelude.{◌≢◌}
use Rattle.book_core.specs.declared.entry.Entry.{Entry}
use Rattle.book_core.specs.Decision.{SiteConfig}
use Rattle.site_desk.specs.declared.finish.FinishFault.TheVariants.{SeatsOut}
use Rattle.site_desk.specs.Count.{asked_since}
use Rattle.site_desk.specs.Moments.{IsLater}
use Rattle.site_desk.specs.Seats.{Held, shares_of}
use Rattle.site_desk.specs.SiteView.{SiteInStep}
use Rattle.session_server.specs.Exchanged.{given_at_desk, held_at_desk, refused_at_desk}
use Rattle.session_server.specs.Finished.{given_since}
use Rattle.session_server.specs.Visited.{AreServed, looks_of, receipts_of}
use Rattle.session_server.proofs.Exchanges.{any_held}
use Rattle.session_server.proofs.Sites.{entered_by, finished_by, seats_in}
use Rattle.session_server.proofs.one_site.at_desk.Goals as goal

pub returns : goal.returns
returns g c =
    let opening = length g.L.Opens.began in
    let ends = c.in_ok-sessions-2.sessions.items in
    let served : AreServed opening c.in_ok-sessions.sessions.items ends c.in_ok-sessions-2.seats.items = search rules in
    let none = ap (λ (h : Held). h.count) c.new-desk.ensures in
    let all_parts = ap (λ (h : Held). h.parts) c.new-desk.ensures in
    let book = c.in_ok-book.book.book in
    let share = shares_of c.in_ok-sessions-2.seats.items + c.in_ok-sessions.seat.count in
    let given = given_since opening (receipts_of ends) in
    let within : share ≤ given = omega (arith, served.shares, c.in_ok-sessions.ensures.shares, none) in
    let compared = c.in_ok-book.ensures.compared in
    let in_step = SiteInStep g.K.Keeper in
    let office = g.L.Opens.office in
    let began = g.L.Opens.began in
    record {
      visited = served.visits ∙ c.in_ok-sessions.ensures.visits;
      left_book = record {
        finished = finished_by opening share book (receipts_of ends) (looks_of ends) c.in_ok-book.finished compared;
        whole = λ all. seats_in c.in_ok-book.finished
            (c.in_ok-book.ensures.whole (omega (arith, served.parts all, c.in_ok-sessions.ensures.parts, all_parts, c.requires.parts)));
        later = subst (λ (h : List Entry). IsLater c.args.site.book.book.office h book) c.requires.began
            (subst (λ (o : SiteConfig). IsLater o g.L.Opens.began book) c.requires.office c.in_ok-book.ensures.later);
        entered = subst (λ (h : List Entry). c.in_ok-book.finished ≢ Err SeatsOut
            → asked_since (length h) book.history ≤ given_since (length h) (receipts_of ends)) c.requires.began
            (entered_by opening share given book (receipts_of ends) (looks_of ends) c.in_ok-book.finished compared within);
      };
      exchanged = any_held (held_at_desk office began in_step) (refused_at_desk office began in_step g.K.Keeper.failed)
          (given_at_desk office began in_step) c.args.rounds _ _ (search rules);
    }
