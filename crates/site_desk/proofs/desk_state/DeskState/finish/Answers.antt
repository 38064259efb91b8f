use Rattle.std.proofs.Common.{All, length, ◌≡◌, ◌∙◌, subst, sym}
use Rattle.book_core.specs.BookView.{BookView}
use Rattle.site_desk.specs.Count.{asked_since}
use Rattle.site_desk.specs.Finish.{FirstNot, StandsIn, WasSeen}
use Rattle.site_desk.specs.Seats.{shares_of}
use Rattle.site_desk.proofs.desk_state.DeskState.finish.Goals as goal

pub returns-in-Some-clause-fault : goal.returns-in-Some-clause-fault
returns-in-Some-clause-fault g c =
    let count : shares_of c.args.seats.items ≡ asked_since (length g.L.Opens.began) c.self.inside.book.book.history = sym c.gather.ensures.sum
    ∙ c.if-gather-total.false ∙ c.self.invariant.counted in
    rw (← c.self.view_is) (
      count,
      subst (λ (b : BookView). FirstNot (StandsIn b.history) c.args.receipts.now c.in-Some.at) c.book.ensures.book
          c.in-Some.ensures,
    )

pub returns-in-Some-clause-at_desk : goal.returns-in-Some-clause-at_desk
returns-in-Some-clause-at_desk g c = rw (← c.self.view_is)
    (record { later = c.self.invariant.later; legal = c.book-book.ensures.legal; in_step = c.book-book.ensures.in_step })

pub returns-in-Some-first_stranger_seen-clause-fault : goal.returns-in-Some-first_stranger_seen-clause-fault
returns-in-Some-first_stranger_seen-clause-fault g c =
    let count : shares_of c.args.seats.items ≡ asked_since (length g.L.Opens.began) c.self.inside.book.book.history = sym c.gather.ensures.sum
    ∙ c.if-gather-total.false ∙ c.self.invariant.counted in
    rw (← c.self.view_is) (
      count,
      subst (λ (b : BookView). All (StandsIn b.history) c.args.receipts.now) c.book.ensures.book c.in_default.ensures,
      subst (λ (b : BookView). FirstNot (WasSeen b.office b.history) c.args.looks.now c.in-Some-first_stranger_seen.at) c.book-2.ensures.book
          c.in-Some-first_stranger_seen.ensures,
    )

pub returns-in-Some-first_stranger_seen-clause-at_desk : goal.returns-in-Some-first_stranger_seen-clause-at_desk
returns-in-Some-first_stranger_seen-clause-at_desk g c = rw (← c.self.view_is)
    (record { later = c.self.invariant.later; legal = c.book-book.ensures.legal; in_step = c.book-book.ensures.in_step })

pub returns-clause-receipts : goal.returns-clause-receipts
returns-clause-receipts g c = rw (← c.self.view_is)
    (subst (λ (b : BookView). All (StandsIn b.history) c.args.receipts.now) c.book.ensures.book c.in_default.ensures)

pub returns-clause-looks : goal.returns-clause-looks
returns-clause-looks g c = rw (← c.self.view_is)
    (subst (λ (b : BookView). All (WasSeen b.office b.history) c.args.looks.now) c.book-2.ensures.book c.in_default-first_stranger_seen.ensures)

pub returns-clause-at_desk : goal.returns-clause-at_desk
returns-clause-at_desk g c = rw (← c.self.view_is)
    (record { later = c.self.invariant.later; legal = c.book-book.ensures.legal; in_step = c.book-book.ensures.in_step })
