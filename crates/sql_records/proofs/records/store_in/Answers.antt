use Rattle.std.proofs.Common.{List, ℕ, inl, inr, sym, ap, subst, ◌∙◌, length, arith}
use Rattle.std.proofs.lemmas.Bool.{true≢false}
use Rattle.delta_wire.specs.Grammar.{delta_text}
use Rattle.sql_records.specs.Adding.{FailsToPut}
use Rattle.sql_records.specs.Rows.{HasRoom}
use Rattle.sql_records.proofs.AddingLemmas.{told_put}
use Rattle.sql_records.proofs.records.store_in.Goals as goal
use Rattle.sql_records.proofs.records.store_in.Goals.{then-place-ge-MOST-via-then-place-ge-MOST, then-place-ge-MOST-via-else-place-ge-MOST+then-not-fits}

pub returns-then-place-ge-MOST-clause-runs : goal.returns-then-place-ge-MOST-clause-runs
returns-then-place-ge-MOST-clause-runs g c clean inside =
    elim c.then-place-ge-MOST.branch [
      | then-place-ge-MOST-via-then-place-ge-MOST w ↦ inl (inr (omega (arith, w.if-place-ge-MOST.true)))
      | then-place-ge-MOST-via-else-place-ge-MOST+then-not-fits w ↦ inl (inl (λ room.
          let text = w.deref.ensures ∙ c.in_ok-text.ensures.text ∙ ap delta_text c.delta.ensures in
          let here = subst (λ (t : List ℕ). HasRoom c.args.entry.now (length t)) (sym text) room in
          true≢false (sym (w.fits.ensures.1 here) ∙ w.if-not-fits.true)))
    ]

pub returns-in-Err-clause-runs : goal.returns-in-Err-clause-runs
returns-in-Err-clause-runs g c clean inside =
    let old = c.args.tx.now.conn.now in
    let new = c.insert_in.new.tx.conn.now in
    subst (FailsToPut g.S.Store c.args.place c.args.entry.now old new) (sym c.keep_fault.ensures)
    (told_put g.S.Store c.args.place c.args.entry.now old new c.in-Err.error (c.in-Err.ensures.runs clean inside))
