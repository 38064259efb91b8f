use Rattle.std.proofs.Common.{◌≡◌, Ok, Err, refl, subst, sym, ◌∙◌}
use Rattle.std.proofs.lemmas.Bool.{false≢true}
use Rattle.site_desk.specs.declared.fault.AskFault.TheVariants as ask_fault
use Rattle.site_desk.specs.Storing.{IsStoredBy}
use Rattle.site_desk.proofs.Batch.{leaves_asked, no_longer, taken_back}
use Rattle.site_desk.proofs.asking_all.answer_all.Goals as goal

pub store_from-requires : goal.store_from-requires
store_from-requires g c = record {
  begun = subst (IsStoredBy g.K.Keeper c.args.keeper.now)
      (sym (taken_back c.args.book.now.office c.args.book.now.history c.answer_each.new.book.history c.args.requests.now c.answer_each.new.answers.items
      c.len-place.result c.len-place.ensures.len c.answer_each.ensures.answered)) c.requires.stored;
}

pub returns-in-Err-clause-enters : goal.returns-in-Err-clause-enters
returns-in-Err-clause-enters g c =
    let book = c.args.book.now in
    let mid = c.answer_each.new.book.history in
    let answers = c.answer_each.new.answers.items in
    record {
      office = c.rewound.ensures.office ∙ c.answer_each.ensures.office;
      answered = tt;
      unchanged = c.rewound.ensures.history
          ∙ taken_back book.office book.history mid c.args.requests.now answers c.len-place.result c.len-place.ensures.len c.answer_each.ensures.answered;
      fault = (refl, c.requires.stored.sound, c.in-Err.ensures.failed);
      untouched = λ other. absurd (other refl);
      stored = tt;
      still = tt;
      stopped = λ _. leaves_asked book.office book.history mid c.args.requests.now answers c.len-place.result
          (g.K.Keeper.is_trusted c.store_from.new.keeper) (g.K.Keeper.may_leave c.store_from.new.keeper)
          c.len-place.ensures.len c.answer_each.ensures.answered (λ none. false≢true (c.in-Err.ensures.none none).0) c.in-Err.ensures.stopped;
      site = c.store_from.ensures.site;
      trusted = c.store_from.ensures.trusted;
    }

pub returns-in-Ok-store_from-clause-enters : goal.returns-in-Ok-store_from-clause-enters
returns-in-Ok-store_from-clause-enters g c =
    let book = c.args.book.now in
    let answers = c.answer_each.new.answers.items in
    record {
      office = c.answer_each.ensures.office;
      answered = c.answer_each.ensures.answered;
      unchanged = tt;
      fault = tt;
      untouched = tt;
      stored = c.in-Ok-store_from.ensures.stored;
      still = λ none. (c.in-Ok-store_from.ensures.none
          (no_longer book.office book.history c.answer_each.new.book.history c.args.requests.now answers c.len-place.result c.len-place.ensures.len
          c.answer_each.ensures.answered none)).1;
      stopped = λ failed. absurd (let e : Ok answers ≡ Err ask_fault.Store = failed in cc);
      site = c.store_from.ensures.site;
      trusted = c.store_from.ensures.trusted;
    }
