use Rattle.std.proofs.Common.{◌≡◌, length, Some, max, refl, ap, ◌∙◌, arith}
use Rattle.std.specs.Prelude.{Result, Ok, Err, OnErr, slice_get}
use Rattle.std.proofs.lemmas.Option.{slice_get_read}
use Rattle.site_exchange.proofs.PendingLaws.{added_set, begins_raised, pending_set}
use Rattle.site_exchange.proofs.exchange.forget.Goals as goal

err_for : {A E : Type 0} (r : Result A E) (P : Type 0) → P → OnErr r P
err_for (Ok a) P p = tt
err_for (Err e) P p = p

pub acked-requires-clause-pending : goal.acked-requires-clause-pending
acked-requires-clause-pending c = c.requires.pending c.index_mut.result.now
    (slice_get_read c.args.pendings.now.items (length c.args.pendings.now.items) c.args.place c.index_mut.result.now refl
    (omega (arith, c.if-place-len.false, c.len.ensures)) c.index_mut.ensures.value)

pub returns-clause-begins : goal.returns-clause-begins
returns-clause-begins c acked l begins =
    let found : slice_get c.args.pendings.now.items c.args.place ≡ Some c.index_mut.result.now = slice_get_read c.args.pendings.now.items
    (length c.args.pendings.now.items) c.args.place c.index_mut.result.now refl (omega (arith, c.if-place-len.false, c.len.ensures))
    c.index_mut.ensures.value in
    begins_raised acked c.args.pendings.now.items c.args.place _ c.acked.new.self l begins
    (c.in_ok-acked.ensures.from ∙ ap (λ k. max k c.args.n) (begins c.args.place c.index_mut.result.now found))

pub returns-clause-kept : goal.returns-clause-kept
returns-clause-kept c =
    let found : slice_get c.args.pendings.now.items c.args.place ≡ Some c.index_mut.result.now = slice_get_read c.args.pendings.now.items
    (length c.args.pendings.now.items) c.args.place c.index_mut.result.now refl (omega (arith, c.if-place-len.false, c.len.ensures))
    c.index_mut.ensures.value in
    record {
      pending = λ peer old. pending_set c.args.book.now.history c.args.pendings.now.items c.args.place peer c.acked.new.self c.in_ok-acked.ensures.pending old;
      added = added_set c.args.pendings.now.items c.args.place c.index_mut.result.now c.acked.new.self found (omega (arith, c.in_ok-acked.ensures.upto));
    }

pub returns-in_err-acked-clause-memory : goal.returns-in_err-acked-clause-memory
returns-in_err-acked-clause-memory c =
    let found : slice_get c.args.pendings.now.items c.args.place ≡ Some c.index_mut.result.now = slice_get_read c.args.pendings.now.items
    (length c.args.pendings.now.items) c.args.place c.index_mut.result.now refl (omega (arith, c.if-place-len.false, c.len.ensures))
    c.index_mut.ensures.value in
    err_for c.from_residual.result _ (λ acked begins. omega (arith, c.in_err-acked.ensures.memory.0, begins c.args.place c.index_mut.result.now found))
