use Rattle.std.proofs.Common.{rules, ◌≡◌, true, List, [], ◌∷◌, ◌++◌, sym, ap, ◌∙◌, subst}
use Rattle.std.proofs.lemmas.Iterator.Consumers.{YieldsList-so_far, YieldsList-turn, YieldsList-end}
use Rattle.std.proofs.lemmas.Iterator.Adapters.{YieldsList-from_vec}
use Rattle.book_core.specs.declared.entry.Entry.{Entry}
use Rattle.book_core.specs.Legal.{IsNext}
use Rattle.book_core.specs.BookView.{BookView}
use Rattle.book_core.proofs.OwnRows.{own_rights}
use Rattle.book_core.proofs.Replays.{legal_empty, legal_entered, all_yielded, at_entry, replay_stops, replay_goes_on, replay_ends}
use Rattle.book_core.proofs.book.Book.replay.Goals as goal

pub loop-entry-init : goal.loop-entry-init
loop-entry-init c = record {
  office = c.new-book.ensures.office;
  history = c.new-book.ensures.history;
  legal = legal_empty _ _ c.new-book.ensures.history;
}

pub returns-then-not-is_next-clause-fault : goal.returns-then-not-is_next-clause-fault
returns-then-not-is_next-clause-fault c =
    let begins = c.into_iter-entry-iterator.ensures.into_iter_gives in
    let road = YieldsList-from_vec {s = c.into_iter-entry-iterator.result} c.args.entries.items begins.0 (begins.1 ∙ c.args.entries.ok.0) in
    let at = at_entry c.args.entries.items c.loop-entry.yielded c.loop-entry.book.history c.in-Some.entry c.loop-entry.invariant.history
    (YieldsList-so_far road c.loop-entry.yielded _ c.loop-entry.yielded_by)
    (YieldsList-turn road c.loop-entry.yielded _ c.loop-entry.yielded_by _ c.next.new.self c.in-Some.entry c.in-Some.is c.next.ensures.steps) in
    let refused : IsNext c.loop-entry.book.office c.loop-entry.book.history c.in-Some.entry → ⊥ =
    λ next. let yes : c.is_next.result ≡ true = c.is_next.ensures.1 next in cc in
    replay_stops _ c.args.entries.items c.in-Some.entry c.loop-entry.book c.len.result at c.loop-entry.invariant.office c.loop-entry.invariant.legal
    refused c.len.ensures.len

pub returns-then-is_err-clause-fault : goal.returns-then-is_err-clause-fault
returns-then-is_err-clause-fault c =
    let begins = c.into_iter-entry-iterator.ensures.into_iter_gives in
    let road = YieldsList-from_vec {s = c.into_iter-entry-iterator.result} c.args.entries.items begins.0 (begins.1 ∙ c.args.entries.ok.0) in
    let at = at_entry c.args.entries.items c.loop-entry.yielded c.loop-entry.book.history c.in-Some.entry c.loop-entry.invariant.history
    (YieldsList-so_far road c.loop-entry.yielded _ c.loop-entry.yielded_by)
    (YieldsList-turn road c.loop-entry.yielded _ c.loop-entry.yielded_by _ c.next.new.self c.in-Some.entry c.in-Some.is c.next.ensures.steps) in
    replay_goes_on _ c.args.entries.items c.in-Some.entry c.loop-entry.book at c.loop-entry.invariant.office c.loop-entry.invariant.legal
    (c.is_next.ensures.0 c.if-not-is_next.false)

pub enter-requires : goal.enter-requires
enter-requires c = record {
  next = subst (λ (b : BookView). IsNext b.office b.history c.in-Some.entry) (sym c.reserve.ensures.unchanged) (c.is_next.ensures.0 c.if-not-is_next.false);
  room = search rules;
}

pub loop-entry-preserved : goal.loop-entry-preserved
loop-entry-preserved c =
    let entry = c.in-Some.entry in
    let office = c.enter.ensures.office ∙ ap (λ (b : BookView). b.office) c.reserve.ensures.unchanged in
    let history = c.enter.ensures.history ∙ ap (λ (b : BookView). b.history ++ entry ∷ []) c.reserve.ensures.unchanged in
    record {
      office = office ∙ c.loop-entry.invariant.office;
      history = history ∙ ap (λ (h : List Entry). h ++ entry ∷ []) c.loop-entry.invariant.history;
      legal = legal_entered c.loop-entry.book c.enter.new.self entry c.loop-entry.invariant.legal (c.is_next.ensures.0 c.if-not-is_next.false) office history;
    }

pub returns-clause-history : goal.returns-clause-history
returns-clause-history c =
    let begins = c.into_iter-entry-iterator.ensures.into_iter_gives in
    let road = YieldsList-from_vec {s = c.into_iter-entry-iterator.result} c.args.entries.items begins.0 (begins.1 ∙ c.args.entries.ok.0) in
    let end = YieldsList-end road c.loop-entry.yielded _ c.loop-entry.yielded_by _ c.next.new.self c.in-None.is c.next.ensures.steps in
    all_yielded _ _ _ c.loop-entry.invariant.history end.0

pub returns-clause-legal : goal.returns-clause-legal
returns-clause-legal c =
    let begins = c.into_iter-entry-iterator.ensures.into_iter_gives in
    let road = YieldsList-from_vec {s = c.into_iter-entry-iterator.result} c.args.entries.items begins.0 (begins.1 ∙ c.args.entries.ok.0) in
    let end = YieldsList-end road c.loop-entry.yielded _ c.loop-entry.yielded_by _ c.next.new.self c.in-None.is c.next.ensures.steps in
    replay_ends _ c.args.entries.items c.loop-entry.book c.loop-entry.invariant.office (all_yielded _ _ _ c.loop-entry.invariant.history end.0)
    c.loop-entry.invariant.legal

pub returns-clause-has_rights : goal.returns-clause-has_rights
returns-clause-has_rights c = own_rights c.loop-entry.book c.loop-entry.invariant.legal
