use Rattle.std.proofs.Common.{inr, true, false, List, [], ◌∷◌, ◌++◌, length, refl, sym, ap, ◌∙◌, subst, arith, slice_set, Option, Some, Ok, Err}
use Rattle.std.proofs.lemmas.Option.{slice_get_read}
use Rattle.site_exchange.specs.declared.message.Message.{Message}
use Rattle.site_exchange.specs.Taking.{with_given}
use Rattle.site_runs.specs.Moving.{Gave, was_given}
use Rattle.site_runs.specs.Runs.{IsRun, Gives}
use Rattle.site_runs.proofs.Growing.{goes_on}
use Rattle.site_runs.proofs.books.Books.give_next.Goals as goal

pub invariant_of-self-in-Ok-Some : goal.invariant_of-self-in-Ok-Some
invariant_of-self-in-Ok-Some g c =
    let given = c.self.inside.given.items in
    subst (λ (messages : List Message).
    IsRun g.K.Keeper (record { books = slice_set c.self.inside.books.items c.args.site c.give.new.book; given = messages }))
    (ap (with_given given) c.in-Ok-Some.field-0-is ∙ ap (λ (ms : List Message). ms ++ c.in-Ok-Some.message ∷ []) (sym c.reserve.ensures.items)
    ∙ sym c.push_reserved.ensures.items)
    (goes_on g.K.Keeper (record { books = c.self.inside.books.items; given = c.self.inside.given.items }) c.args.site c.index_mut-book.result.now
    (Gives c.args.to (Ok c.in-Ok-Some.field-0)) c.give.new.book c.self.invariant
    (slice_get_read c.self.inside.books.items (length c.self.inside.books.items) c.args.site c.index_mut-book.result.now refl
    (omega (arith, c.if-site-len.false, c.len.ensures)) c.index_mut-book.ensures.value) (c.in-Ok-Some.ensures given))

pub invariant_of-self-in-Ok-None : goal.invariant_of-self-in-Ok-None
invariant_of-self-in-Ok-None g c =
    let given = c.self.inside.given.items in
    subst (λ (messages : List Message).
    IsRun g.K.Keeper (record { books = slice_set c.self.inside.books.items c.args.site c.give.new.book; given = messages }))
    (ap (with_given given) c.in-Ok-None.field-0-is ∙ sym c.reserve.ensures.items)
    (goes_on g.K.Keeper (record { books = c.self.inside.books.items; given = c.self.inside.given.items }) c.args.site c.index_mut-book.result.now
    (Gives c.args.to (Ok c.in-Ok-None.field-0)) c.give.new.book c.self.invariant
    (slice_get_read c.self.inside.books.items (length c.self.inside.books.items) c.args.site c.index_mut-book.result.now refl
    (omega (arith, c.if-site-len.false, c.len.ensures)) c.index_mut-book.ensures.value) (c.in-Ok-None.ensures given))

pub invariant_of-self-in-Err : goal.invariant_of-self-in-Err
invariant_of-self-in-Err g c =
    let given = c.self.inside.given.items in
    subst (λ (messages : List Message).
    IsRun g.K.Keeper (record { books = slice_set c.self.inside.books.items c.args.site c.give.new.book; given = messages })) (sym c.reserve.ensures.items)
    (goes_on g.K.Keeper (record { books = c.self.inside.books.items; given = c.self.inside.given.items }) c.args.site c.index_mut-book.result.now
    (Gives c.args.to (Err c.in-Err.fault)) c.give.new.book c.self.invariant
    (slice_get_read c.self.inside.books.items (length c.self.inside.books.items) c.args.site c.index_mut-book.result.now refl
    (omega (arith, c.if-site-len.false, c.len.ensures)) c.index_mut-book.ensures.value) (c.in-Err.ensures given))

pub returns-in-Ok-Some : goal.returns-in-Ok-Some
returns-in-Ok-Some g c =
    let given = c.self.inside.given.items in
    let books = c.self.inside.books.items in
    let old = c.index_mut-book.result.now in
    let found = slice_get_read books (length books) c.args.site old refl (omega (arith, c.if-site-len.false, c.len.ensures)) c.index_mut-book.ensures.value in
    let listed = ap (with_given given) c.in-Ok-Some.field-0-is ∙ ap (λ (ms : List Message). ms ++ c.in-Ok-Some.message ∷ []) (sym c.reserve.ensures.items)
    ∙ sym c.push_reserved.ensures.items in
    record {
      moves = subst (λ s. Gave g.K.Keeper s c.args.site c.args.to (Some (Ok true))
          (record { books = slice_set books c.args.site c.give.new.book; given = c.push_reserved.new.self.items })) c.self.view_is
          (inr (
            Ok c.in-Ok-Some.field-0,
            sym (ap (λ (o : Option Message). was_given (Ok o)) c.in-Ok-Some.field-0-is),
            (
              old,
              c.give.new.book,
              found,
              c.in-Ok-Some.ensures given,
              λ i. record { books = slice_set books c.args.site c.give.new.book; given = sym listed i },
            ),
          ));
    }

pub returns-in-Ok-None : goal.returns-in-Ok-None
returns-in-Ok-None g c =
    let given = c.self.inside.given.items in
    let books = c.self.inside.books.items in
    let old = c.index_mut-book.result.now in
    let found = slice_get_read books (length books) c.args.site old refl (omega (arith, c.if-site-len.false, c.len.ensures)) c.index_mut-book.ensures.value in
    let listed = ap (with_given given) c.in-Ok-None.field-0-is ∙ sym c.reserve.ensures.items in
    record {
      moves = subst (λ s. Gave g.K.Keeper s c.args.site c.args.to (Some (Ok false))
          (record { books = slice_set books c.args.site c.give.new.book; given = c.reserve.new.self.items })) c.self.view_is
          (inr (
            Ok c.in-Ok-None.field-0,
            sym (ap (λ (o : Option Message). was_given (Ok o)) c.in-Ok-None.field-0-is),
            (
              old,
              c.give.new.book,
              found,
              c.in-Ok-None.ensures given,
              λ i. record { books = slice_set books c.args.site c.give.new.book; given = sym listed i },
            ),
          ));
    }

pub returns-in-Err : goal.returns-in-Err
returns-in-Err g c =
    let given = c.self.inside.given.items in
    let books = c.self.inside.books.items in
    let old = c.index_mut-book.result.now in
    let found = slice_get_read books (length books) c.args.site old refl (omega (arith, c.if-site-len.false, c.len.ensures)) c.index_mut-book.ensures.value in
    let listed = sym c.reserve.ensures.items in
    record {
      moves = subst (λ s. Gave g.K.Keeper s c.args.site c.args.to (Some (Err c.in-Err.fault))
          (record { books = slice_set books c.args.site c.give.new.book; given = c.reserve.new.self.items })) c.self.view_is
          (inr (
            Err c.in-Err.fault,
            refl,
            (
              old,
              c.give.new.book,
              found,
              c.in-Err.ensures given,
              λ i. record { books = slice_set books c.args.site c.give.new.book; given = sym listed i },
            ),
          ));
    }
