use Rattle.std.proofs.Common.{◌≡◌, ◌∙◌, ◌++◌, ◌∷◌, [], rules}
use Rattle.site_desk.proofs.Batch.{answered_at}
use Rattle.site_desk.proofs.asking_all.answer_each.Goals as goal

pub loop-asked-preserved : goal.loop-asked-preserved
loop-asked-preserved c =
    let before = c.loop-asked.invariant in
    let one = c.answer_ahead-answer in
    let pushed : c.push_reserved.new.self.items ≡ c.loop-asked.answers.items ++ one.result ∷ [] = search rules in
    record {
      office = one.ensures.office ∙ before.office;
      has_rights = one.ensures.has_rights;
      count = search rules;
      room = search rules;
      answered = answered_at c.args.book.now.office c.loop-asked.book.office c.args.book.now.history c.loop-asked.book.history one.new.book.history
          c.args.requests.now c.loop-asked.asked-index c.asked-item.result
          c.loop-asked.answers.items c.push_reserved.new.self.items one.result c.loop-asked-test.true c.asked-item.is before.office pushed before.answered
          one.ensures.answer one.ensures.entered one.ensures.fault one.ensures.unchanged;
    }
