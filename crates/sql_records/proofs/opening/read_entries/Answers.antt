use Rattle.std.proofs.Common.{◌<◌, inl, length, arith, ap, sym, subst, refl, IsSome, ◌∙◌, ◌++◌, [], ◌∷◌, Err}
use Rattle.sql_records.specs.Rows.{IsOfVersion}
use Rattle.plain_words.proofs.TextLaws.{all_more}
use Rattle.sql_records.proofs.OpeningLemmas.{StopsReading, whole_more, entries_more, fault_at, if_err, wanted_at}
use Rattle.sql_records.proofs.opening.read_entries.Goals as goal

pub returns-in_err-entry-clause-fault : goal.returns-in_err-entry-clause-fault
returns-in_err-entry-clause-fault c =
    let low : c.rows.place < length c.args.rows.now = omega arith in
    if_err c.from_residual.result (StopsReading c.args.read c.args.rows.now) _ c.from_residual.ensures.1
    (λ f e. rw e (fault_at c.args.read c.args.rows.now c.rows.place _ c.in_err-entry.field-0.0 low c.index-rows-place.is c.rows.invariant.whole
    c.in_err-entry.ensures.named (λ h. c.in_err-entry.ensures.damaged (ap Err h)) (λ h. c.in_err-entry.ensures.memory (ap Err h))))

pub returns-in_err-push-clause-fault : goal.returns-in_err-push-clause-fault
returns-in_err-push-clause-fault c =
    let low : c.rows.place < length c.args.rows.now = omega arith in
    let is = c.in_ok-entry.ensures in
    if_err c.from_residual-in_err-push.result (StopsReading c.args.read c.args.rows.now) _ c.from_residual-in_err-push.ensures.1
    (λ f e. inl (
      e,
      (
        c.rows.place,
        wanted_at c.args.read c.args.rows.now c.rows.place _ low c.index-rows-place.is c.rows.invariant.whole is.placed
            is.version (inl (subst IsSome (sym is.reads) refl)),
      ),
    ))

pub rows-preserved : goal.rows-preserved
rows-preserved c =
    let low : c.rows.place < length c.args.rows.now = omega arith in
    let is = c.in_ok-entry.ensures in
    record {
      whole = (
        whole_more c.args.rows.now c.rows.place _ c.in_ok-entry.entry low c.index-rows-place.is c.rows.invariant.whole.0 is.placed is.reads,
        all_more (IsOfVersion c.args.read) c.args.rows.now c.rows.place _ low c.index-rows-place.is c.rows.invariant.whole.1 is.version,
      );
      entries = c.in_ok-push.ensures.items ∙ ap (λ l. l ++ c.in_ok-entry.entry ∷ []) c.rows.invariant.entries
          ∙ sym (entries_more c.args.rows.now c.rows.place _ c.in_ok-entry.entry low c.index-rows-place.is is.reads);
    }
