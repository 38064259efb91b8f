use Rattle.std.proofs.Common.{◌≡◌, length, Some, refl, ◌∙◌, subst}
use Rattle.std.specs.Prelude.{IfOk, slice_get}
use Rattle.std.proofs.lemmas.Option.{slice_get_read}
use Rattle.book_core.specs.History.{interval}
use Rattle.site_exchange.proofs.PendingLaws.{added_set, reached_set, begins_set, pending_set}
use Rattle.site_exchange.proofs.exchange.due.Goals as goal

pub caught_up-requires : goal.caught_up-requires
caught_up-requires c = c.requires.pending c.index_mut.result.now (slice_get_read _ _ _ _ refl c.requires.there c.index_mut.ensures.value)

pub returns-clause-delta : goal.returns-clause-delta
returns-clause-delta c acked begins =
    let found : slice_get c.args.pendings.now.items c.args.place ≡ Some c.index_mut.result.now = slice_get_read _ _ _ _ refl c.requires.there
    c.index_mut.ensures.value in
    subst (λ a. IfOk c.caught_up.result (λ delta. delta ≡ interval c.args.book.now.history a (length c.args.book.now.history)))
    (begins c.args.place c.index_mut.result.now found) c.caught_up.ensures.delta

pub returns-clause-begins : goal.returns-clause-begins
returns-clause-begins c acked begins =
    let found : slice_get c.args.pendings.now.items c.args.place ≡ Some c.index_mut.result.now = slice_get_read _ _ _ _ refl c.requires.there
    c.index_mut.ensures.value in
    begins_set acked c.args.pendings.now.items c.args.place c.caught_up.new.pending begins
    (c.caught_up.ensures.from ∙ begins c.args.place c.index_mut.result.now found)

pub returns-clause-kept : goal.returns-clause-kept
returns-clause-kept c =
    let found : slice_get c.args.pendings.now.items c.args.place ≡ Some c.index_mut.result.now = slice_get_read _ _ _ _ refl c.requires.there
    c.index_mut.ensures.value in
    record {
      pending = λ peer old. pending_set c.args.book.now.history c.args.pendings.now.items c.args.place peer c.caught_up.new.pending
          c.caught_up.ensures.pending old;
      added = added_set c.args.pendings.now.items c.args.place c.index_mut.result.now c.caught_up.new.pending found c.caught_up.ensures.added;
    }

pub returns-clause-reached : goal.returns-clause-reached
returns-clause-reached c =
    let found : slice_get c.args.pendings.now.items c.args.place ≡ Some c.index_mut.result.now = slice_get_read _ _ _ _ refl c.requires.there
    c.index_mut.ensures.value in
    reached_set c.caught_up.result c.args.book.now.history c.args.pendings.now.items c.args.place c.index_mut.result.now c.caught_up.new.pending found
    c.caught_up.ensures.reached
