use Rattle.std.proofs.Common.{◌≡◌, inr, List, [], ◌∷◌, ◌++◌, length, refl, sym, ap, ◌∙◌, subst, arith, slice_set, Some, Ok, Err}
use Rattle.std.specs.Prelude.{slice_get}
use Rattle.std.proofs.lemmas.Option.{slice_get_read}
use Rattle.site_exchange.specs.declared.message.Message.{Message}
use Rattle.site_exchange.specs.Taking.{with_given}
use Rattle.site_runs.specs.Moving.{Took}
use Rattle.site_runs.specs.Runs.{IsOneOf, IsRun}
use Rattle.site_runs.proofs.Growing.{takes_on}
use Rattle.site_runs.proofs.books.Books.take_given.Goals as goal

pub invariant_of-self-in-Some : goal.invariant_of-self-in-Some
invariant_of-self-in-Some g c =
    let given = c.self.inside.given.items in
    let listed = c.reserve.new.self.items in
    let books = c.self.inside.books.items in
    let old = c.index_mut-book.result.now in
    let message = c.in-Ok.message in
    let same = ap (λ (ms : List Message). length ms) c.reserve.ensures.items in
    let read = slice_get_read listed (length listed) c.args.index c.index.result.now refl
    (omega (arith, c.if-index-len.false, c.len-else-site-len.ensures, same)) c.index.ensures in
    let one : IsOneOf given message
    = (
      c.args.index,
      subst (λ (ms : List Message). slice_get ms c.args.index ≡ Some message) c.reserve.ensures.items
          (read ∙ ap (λ (m : Message). Some m) (sym c.in-Ok.ensures)),
    ) in
    subst (λ (messages : List Message). IsRun g.K.Keeper (record { books = slice_set books c.args.site c.take.new.self; given = messages }))
    (ap (with_given given) (sym c.in-Some.ensures) ∙ ap (λ (ms : List Message). ms ++ c.in-Some.ack ∷ []) (sym c.reserve.ensures.items)
    ∙ sym c.push_reserved.ensures.items)
    (takes_on g.K.Keeper (record { books = books; given = given }) c.args.site old c.take.new.self message (Ok c.in-Ok-take.taken) c.self.invariant
    (slice_get_read books (length books) c.args.site old refl (omega (arith, c.if-site-len.false, c.len.ensures)) c.index_mut-book.ensures.value) one
    c.in-Ok-take.ensures.took)

pub invariant_of-self-in-None : goal.invariant_of-self-in-None
invariant_of-self-in-None g c =
    let given = c.self.inside.given.items in
    let listed = c.reserve.new.self.items in
    let books = c.self.inside.books.items in
    let old = c.index_mut-book.result.now in
    let message = c.in-Ok.message in
    let same = ap (λ (ms : List Message). length ms) c.reserve.ensures.items in
    let read = slice_get_read listed (length listed) c.args.index c.index.result.now refl
    (omega (arith, c.if-index-len.false, c.len-else-site-len.ensures, same)) c.index.ensures in
    let one : IsOneOf given message
    = (
      c.args.index,
      subst (λ (ms : List Message). slice_get ms c.args.index ≡ Some message) c.reserve.ensures.items
          (read ∙ ap (λ (m : Message). Some m) (sym c.in-Ok.ensures)),
    ) in
    subst (λ (messages : List Message). IsRun g.K.Keeper (record { books = slice_set books c.args.site c.take.new.self; given = messages }))
    (ap (with_given given) (sym c.in-None.ensures) ∙ sym c.reserve.ensures.items)
    (takes_on g.K.Keeper (record { books = books; given = given }) c.args.site old c.take.new.self message (Ok c.in-Ok-take.taken) c.self.invariant
    (slice_get_read books (length books) c.args.site old refl (omega (arith, c.if-site-len.false, c.len.ensures)) c.index_mut-book.ensures.value) one
    c.in-Ok-take.ensures.took)

pub invariant_of-self-in-Err : goal.invariant_of-self-in-Err
invariant_of-self-in-Err g c =
    let given = c.self.inside.given.items in
    let listed = c.reserve.new.self.items in
    let books = c.self.inside.books.items in
    let old = c.index_mut-book.result.now in
    let message = c.in-Ok.message in
    let same = ap (λ (ms : List Message). length ms) c.reserve.ensures.items in
    let read = slice_get_read listed (length listed) c.args.index c.index.result.now refl
    (omega (arith, c.if-index-len.false, c.len-else-site-len.ensures, same)) c.index.ensures in
    let one : IsOneOf given message
    = (
      c.args.index,
      subst (λ (ms : List Message). slice_get ms c.args.index ≡ Some message) c.reserve.ensures.items
          (read ∙ ap (λ (m : Message). Some m) (sym c.in-Ok.ensures)),
    ) in
    subst (λ (messages : List Message). IsRun g.K.Keeper (record { books = slice_set books c.args.site c.take.new.self; given = messages }))
    (sym c.reserve.ensures.items)
    (takes_on g.K.Keeper (record { books = books; given = given }) c.args.site old c.take.new.self message (Err c.in-Err.fault) c.self.invariant
    (slice_get_read books (length books) c.args.site old refl (omega (arith, c.if-site-len.false, c.len.ensures)) c.index_mut-book.ensures.value) one
    c.in-Err.ensures.took)

pub returns-in-Some : goal.returns-in-Some
returns-in-Some g c =
    let given = c.self.inside.given.items in
    let listed = c.reserve.new.self.items in
    let books = c.self.inside.books.items in
    let old = c.index_mut-book.result.now in
    let message = c.in-Ok.message in
    let same = ap (λ (ms : List Message). length ms) c.reserve.ensures.items in
    let read = slice_get_read listed (length listed) c.args.index c.index.result.now refl
    (omega (arith, c.if-index-len.false, c.len-else-site-len.ensures, same)) c.index.ensures in
    let one : slice_get given c.args.index ≡ Some message = subst (λ (ms : List Message). slice_get ms c.args.index ≡ Some message) c.reserve.ensures.items
    (read ∙ ap (λ (m : Message). Some m) (sym c.in-Ok.ensures)) in
    let found = slice_get_read books (length books) c.args.site old refl (omega (arith, c.if-site-len.false, c.len.ensures)) c.index_mut-book.ensures.value in
    let all = ap (with_given given) (sym c.in-Some.ensures) ∙ ap (λ (ms : List Message). ms ++ c.in-Some.ack ∷ []) (sym c.reserve.ensures.items)
    ∙ sym c.push_reserved.ensures.items in
    record {
      moves = subst (λ s. Took g.K.Keeper s c.args.site c.args.index (Some (Ok tt))
          (record { books = slice_set books c.args.site c.take.new.self; given = c.push_reserved.new.self.items })) c.self.view_is
          (inr (
            message,
            one,
            Ok c.in-Ok-take.taken,
            refl,
            (
              old,
              c.take.new.self,
              found,
              ((λ _. (c.args.index, one)), c.in-Ok-take.ensures.took),
              λ i. record { books = slice_set books c.args.site c.take.new.self; given = sym all i },
            ),
          ));
    }

pub returns-in-None : goal.returns-in-None
returns-in-None g c =
    let given = c.self.inside.given.items in
    let listed = c.reserve.new.self.items in
    let books = c.self.inside.books.items in
    let old = c.index_mut-book.result.now in
    let message = c.in-Ok.message in
    let same = ap (λ (ms : List Message). length ms) c.reserve.ensures.items in
    let read = slice_get_read listed (length listed) c.args.index c.index.result.now refl
    (omega (arith, c.if-index-len.false, c.len-else-site-len.ensures, same)) c.index.ensures in
    let one : slice_get given c.args.index ≡ Some message = subst (λ (ms : List Message). slice_get ms c.args.index ≡ Some message) c.reserve.ensures.items
    (read ∙ ap (λ (m : Message). Some m) (sym c.in-Ok.ensures)) in
    let found = slice_get_read books (length books) c.args.site old refl (omega (arith, c.if-site-len.false, c.len.ensures)) c.index_mut-book.ensures.value in
    let all = ap (with_given given) (sym c.in-None.ensures) ∙ sym c.reserve.ensures.items in
    record {
      moves = subst (λ s. Took g.K.Keeper s c.args.site c.args.index (Some (Ok tt))
          (record { books = slice_set books c.args.site c.take.new.self; given = c.reserve.new.self.items })) c.self.view_is
          (inr (
            message,
            one,
            Ok c.in-Ok-take.taken,
            refl,
            (
              old,
              c.take.new.self,
              found,
              ((λ _. (c.args.index, one)), c.in-Ok-take.ensures.took),
              λ i. record { books = slice_set books c.args.site c.take.new.self; given = sym all i },
            ),
          ));
    }

pub returns-in-Err : goal.returns-in-Err
returns-in-Err g c =
    let given = c.self.inside.given.items in
    let listed = c.reserve.new.self.items in
    let books = c.self.inside.books.items in
    let old = c.index_mut-book.result.now in
    let message = c.in-Ok.message in
    let same = ap (λ (ms : List Message). length ms) c.reserve.ensures.items in
    let read = slice_get_read listed (length listed) c.args.index c.index.result.now refl
    (omega (arith, c.if-index-len.false, c.len-else-site-len.ensures, same)) c.index.ensures in
    let one : slice_get given c.args.index ≡ Some message = subst (λ (ms : List Message). slice_get ms c.args.index ≡ Some message) c.reserve.ensures.items
    (read ∙ ap (λ (m : Message). Some m) (sym c.in-Ok.ensures)) in
    let found = slice_get_read books (length books) c.args.site old refl (omega (arith, c.if-site-len.false, c.len.ensures)) c.index_mut-book.ensures.value in
    let all = sym c.reserve.ensures.items in
    record {
      moves = subst (λ s. Took g.K.Keeper s c.args.site c.args.index (Some (Err c.in-Err.fault))
          (record { books = slice_set books c.args.site c.take.new.self; given = c.reserve.new.self.items })) c.self.view_is
          (inr (
            message,
            one,
            Err c.in-Err.fault,
            refl,
            (
              old,
              c.take.new.self,
              found,
              ((λ _. (c.args.index, one)), c.in-Err.ensures.took),
              λ i. record { books = slice_set books c.args.site c.take.new.self; given = sym all i },
            ),
          ));
    }
