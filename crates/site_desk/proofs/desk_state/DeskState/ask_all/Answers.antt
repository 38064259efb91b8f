use Rattle.std.proofs.Common.{◌∙◌, ap, length, arith}
use Rattle.book_core.specs.BookView.{BookView}
use Rattle.site_desk.proofs.Batch.{as_many, counted_all, goes_on_from}
use Rattle.site_desk.proofs.desk_state.DeskState.ask_all.Goals as goal

pub give_all-fresh-requires-clause-as_many : goal.give_all-fresh-requires-clause-as_many
give_all-fresh-requires-clause-as_many g c =
    let old = c.self.inside.book.book in
    ap length c.deref.ensures.value ∙ as_many old.office old.history c.ask_all-came.new.self.book.history c.args.requests.now c.in-Ok-came.answers.items
    c.in-Ok-came.ensures.asked.answered

pub overflow_add-self : goal.overflow_add-self
overflow_add-self g c =
    let old = c.self.inside.book.book in
    let new = c.ask_all-came.new.self.book in
    let sum = counted_all old.office (length g.L.Opens.began) c.self.inside.total c.give_all-fresh.result old.history new.history c.args.requests.now
    c.in-Ok-came.answers.items c.deref.result.now
    c.self.invariant.longer c.self.invariant.counted c.deref.ensures.value c.give_all-fresh.ensures.fresh c.in-Ok-came.ensures.asked.answered in
    omega (arith, sum.2, c.len-after.ensures.len, ap (λ (b : BookView). length b.history) c.book-2.ensures.book, c.len-after.type_inv)

pub overflow_add-seat : goal.overflow_add-seat
overflow_add-seat g c =
    let old = c.self.inside.book.book in
    let new = c.ask_all-came.new.self.book in
    let sum = counted_all old.office (length g.L.Opens.began) c.self.inside.total c.give_all-fresh.result old.history new.history c.args.requests.now
    c.in-Ok-came.answers.items c.deref.result.now
    c.self.invariant.longer c.self.invariant.counted c.deref.ensures.value c.give_all-fresh.ensures.fresh c.in-Ok-came.ensures.asked.answered in
    omega (
      arith,
      sum.2,
      c.len-after.ensures.len,
      ap (λ (b : BookView). length b.history) c.book-2.ensures.book,
      c.len-after.type_inv,
      c.audit.ensures.bound,
      c.self.invariant.tallied,
      c.seat.invariant,
    )

pub invariant_of-self-2 : goal.invariant_of-self-2
invariant_of-self-2 g c =
    let old = c.self.inside.book.book in
    let new = c.ask_all-came.new.self.book in
    let asked = c.in-Ok-came.ensures.asked in
    let before = c.self.invariant in
    let sum = counted_all old.office (length g.L.Opens.began) c.self.inside.total c.give_all-fresh.result old.history new.history c.args.requests.now
    c.in-Ok-came.answers.items c.deref.result.now
    before.longer before.counted c.deref.ensures.value c.give_all-fresh.ensures.fresh asked.answered in
    record {
      longer = sum.1;
      counted = sum.0;
      tallied = omega (arith, c.add.ensures.total, c.audit.ensures.total, before.tallied);
      none_back = before.none_back;
      later = record {
        same_office = asked.office ∙ before.later.same_office;
        same_sites = c.ask_all-came.ensures.sites ∙ before.later.same_sites;
        goes_on = goes_on_from old.office g.L.Opens.began old.history new.history c.args.requests.now c.in-Ok-came.answers.items before.longer
            before.later.goes_on asked.answered;
      };
    }

pub returns-clause-stays : goal.returns-clause-stays
returns-clause-stays g c =
    let old = c.self.inside.book.book in
    let new = c.ask_all-came.new.self.book in
    let asked = c.in-Ok-came.ensures.asked in
    let before = c.self.invariant in
    record {
      later = record {
        same_office = asked.office ∙ before.later.same_office;
        same_sites = c.ask_all-came.ensures.sites ∙ before.later.same_sites;
        goes_on = goes_on_from old.office g.L.Opens.began old.history new.history c.args.requests.now c.in-Ok-came.answers.items before.longer
            before.later.goes_on asked.answered;
      };
      legal = c.book-2.ensures.legal;
      in_step = c.book-2.ensures.in_step;
    }
