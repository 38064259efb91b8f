use Rattle.std.proofs.Common.{arith, rules}
use Rattle.site_exchange.proofs.Counts.{count_asked}
use Rattle.site_exchange.proofs.ExchangeLaws.{exchange_entered}
use Rattle.site_desk.specs.SiteView.{entry_in}
use Rattle.site_desk.proofs.Acknowledged.{no_shorter}
use Rattle.site_desk.proofs.Growth.{one_more_if_fresh}
use Rattle.site_desk.proofs.site_book.SiteBook.ask.Goals as goal

pub returns-clause-grown : goal.returns-clause-grown
returns-clause-grown g c =
    let s = c.self.inside in
    let answer = c.answer-answer in
    rw (← c.self.view_is) (one_more_if_fresh answer.result s.book.office s.book.history answer.new.book.history c.args.number c.args.request.now
    answer.ensures.answer answer.ensures.enters.entered)

pub invariant_of-self : goal.invariant_of-self
invariant_of-self g c = (
  record {
    sound = search rules;
    broken = search rules;
    same = search rules;
    rests = search rules;
    acknowledged = λ peer. omega (
      arith,
      c.self.invariant.0.acknowledged peer,
      no_shorter c.answer-answer.result (entry_in c.self.inside.book c.args.number c.args.request.now) c.self.inside.book.history
          c.answer-answer.new.book.history c.answer-answer.ensures.enters.entered c.answer-answer.ensures.enters.unchanged,
    );
    has_rights = search rules;
  },
  exchange_entered c.answer-answer.result c.self.inside.book.office c.answer-answer.new.book.office
      (entry_in c.self.inside.book c.args.number c.args.request.now)
      c.self.inside.book.history c.answer-answer.new.book.history c.self.inside.exchange c.answer-answer.ensures.enters.office
      c.answer-answer.ensures.enters.entered c.answer-answer.ensures.enters.unchanged
      (count_asked c.self.inside.book.office c.self.inside.book.history c.args.number c.args.request.now) c.self.invariant.1,
)
