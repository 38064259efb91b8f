use Rattle.std.proofs.Common.{rules, ℕ, List, inl, inr, sym, ap, subst, ◌∙◌, length, arith}
use Rattle.std.proofs.lemmas.Bool.{true≢false}
use Rattle.sqlite.specs.Held.{state}
use Rattle.delta_wire.specs.Grammar.{delta_text}
use Rattle.sql_records.specs.Rows.{HasRoom}
use Rattle.sql_records.specs.Held.{RecordsView, IsKeepFault}
use Rattle.sql_records.proofs.OpeningLemmas.{leaves_still, rest_count}
use Rattle.sql_records.proofs.KeepLemmas.{told_keep}
use Rattle.sql_records.proofs.records.store.Goals as goal
use Rattle.sql_records.proofs.records.store.Goals.{then-place-ge-MOST-via-then-place-ge-MOST, then-place-ge-MOST-via-else-place-ge-MOST+then-not-fits}

-- where nothing was done

pub returns-in_err-text-clause-stores : goal.returns-in_err-text-clause-stores
returns-in_err-text-clause-stores g c clean =
    let conn = c.args.conn.now in
    record {
      clean = clean;
      more = search rules;
      crash = leaves_still (state g.S.Store conn) c.args.place (c.requires.rest clean)
          (λ db is_open left. g.met.S.Store.settled conn.store db is_open left) c.args.entry.now;
      site = λ meta h. h;
    }

pub returns-then-place-ge-MOST-clause-stores : goal.returns-then-place-ge-MOST-clause-stores
returns-then-place-ge-MOST-clause-stores g c clean =
    let conn = c.args.conn.now in
    record {
      clean = clean;
      more = tt;
      crash = leaves_still (state g.S.Store conn) c.args.place (c.requires.rest clean)
          (λ db is_open left. g.met.S.Store.settled conn.store db is_open left) c.args.entry.now;
      site = λ meta h. h;
    }

pub returns-in-Err-clause-stores : goal.returns-in-Err-clause-stores
returns-in-Err-clause-stores g c clean =
    let it = c.insert.ensures.stores clean in
    record { clean = it.clean; more = tt; crash = it.crash; site = it.site }

pub returns-clause-stores : goal.returns-clause-stores
returns-clause-stores g c clean =
    let it = c.insert.ensures.stores clean in
    let more = it.more in
    record { clean = it.clean; more = search (rules, more); crash = it.crash; site = it.site }

pub returns-then-place-ge-MOST-clause-cause : goal.returns-then-place-ge-MOST-clause-cause
returns-then-place-ge-MOST-clause-cause g c clean =
    let count = rest_count (state g.S.Store c.args.conn.now) c.args.place (c.requires.rest clean) in
    elim c.then-place-ge-MOST.branch [
      | then-place-ge-MOST-via-then-place-ge-MOST w ↦ inl (inr (omega (arith, w.if-place-ge-MOST.true, count)))
      | then-place-ge-MOST-via-else-place-ge-MOST+then-not-fits w ↦ inl (inl (λ room.
          let text = w.deref.ensures ∙ c.in_ok-text.ensures.text ∙ ap delta_text c.delta.ensures in
          let here = subst (λ (t : List ℕ). HasRoom c.args.entry.now (length t)) (sym text) room in
          true≢false (sym (w.fits.ensures.1 here) ∙ w.if-not-fits.true)))
    ]

pub returns-in-Err-clause-cause : goal.returns-in-Err-clause-cause
returns-in-Err-clause-cause g c clean =
    let old : RecordsView g.row.S.Denot = record { conn = c.args.conn.now; failures = 0 } in
    let new : RecordsView g.row.S.Denot = record { conn = c.insert.new.conn; failures = 1 } in
    let is = told_keep g.S.Store old new c.args.entry.now c.args.place c.in-Err.error (c.requires.rest ((c.insert.ensures.stores clean).clean))
    (c.in-Err.ensures.fails clean) in
    subst (IsKeepFault g.S.Store old new c.args.entry.now) (sym c.keep_fault.ensures) is
