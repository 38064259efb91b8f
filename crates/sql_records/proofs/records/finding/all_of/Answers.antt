use Rattle.std.proofs.Common.{◌≡◌, ◌⊎◌, inl, inr, refl, sym, subst, ◌∙◌, length, IsSome}
use Rattle.std.proofs.lemmas.Option.{slice_get_read}
use Rattle.sql_records.specs.declared.lookup.FindFault.TheVariants.{Memory}
use Rattle.sql_records.specs.Lookups.{IsFirstUnread, ReadsSome}
use Rattle.sql_records.proofs.OpeningLemmas.{if_err}
use Rattle.sql_records.proofs.records.finding.all_of.Goals as goal

pub returns-in_default-clause-damaged : goal.returns-in_default-clause-damaged
returns-in_default-clause-damaged c =
    inr (record {
      at = c.rows.row-index;
      values = c.row-item.result;
      here = slice_get_read c.args.rows.now (length c.args.rows.now) c.rows.row-index c.row-item.result refl c.rows-test.true c.row-item.is;
      unread = sym c.listed_of.ensures ∙ c.in_default.is;
      before = (c.rows.all.items, c.rows.invariant);
      named = c.damaged.ensures;
    })

pub returns-in_err-push-clause-damaged : goal.returns-in_err-push-clause-damaged
returns-in_err-push-clause-damaged c =
    let rows = c.args.rows.now in
    let read = sym c.listed_of.ensures ∙ c.in-Some.is in
    if_err c.from_residual.result (λ f. ((f ≡ Memory) × ReadsSome rows) ⊎ IsFirstUnread rows f) _ c.from_residual.ensures.1
    (λ f e. inl (
      e,
      record {
        at = c.rows.row-index;
        values = c.row-item.result;
        here = slice_get_read rows (length rows) c.rows.row-index c.row-item.result refl c.rows-test.true c.row-item.is;
        reads = subst IsSome (sym read) refl;
        before = (c.rows.all.items, c.rows.invariant);
      },
    ))
