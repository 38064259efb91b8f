use Rattle.std.proofs.Common.{◌∙◌, ap, arith, rules}
use Rattle.book_core.specs.Decision.{sites_of}
use Rattle.site_desk.specs.Calls.{listed}
use Rattle.site_desk.proofs.Batch.{exchange_asked_all, longer_asked_all, sites_asked_all}
use Rattle.site_desk.proofs.site_book.SiteBook.ask_all.Goals as goal

pub invariant_of-self : goal.invariant_of-self
invariant_of-self g c =
    let s = c.self.inside in
    let all = c.answer_all-asked in
    let enters = all.ensures.enters in (
      record {
        sound = search rules;
        broken = search rules;
        same = search rules;
        rests = search rules;
        acknowledged = λ peer. omega (
          arith,
          c.self.invariant.0.acknowledged peer,
          longer_asked_all (listed all.result) s.book.office s.book.history
              all.new.book.history c.args.requests.now enters.answered enters.unchanged,
        );
        has_rights = search rules;
      },
      exchange_asked_all (listed all.result) s.book.office all.new.book.office s.book.history all.new.book.history c.args.requests.now s.exchange
          enters.office enters.answered enters.unchanged c.self.invariant.1,
    )

pub returns-clause-sites : goal.returns-clause-sites
returns-clause-sites g c =
    let s = c.self.inside in
    let all = c.answer_all-asked in
    let enters = all.ensures.enters in
    rw (← c.self.view_is) (ap (λ o. sites_of o all.new.book.history) enters.office
    ∙ sites_asked_all (listed all.result) s.book.office s.book.history all.new.book.history c.args.requests.now enters.answered enters.unchanged)
