use Rattle.std.proofs.Common.{◌∙◌, [], inl, ◌+◌, arith, rules, refl, sym, ap, subst, Err, Ok, IfErr, IsSome, Option, None, Vec, Global}
use Rattle.std.specs.Prelude.{option_copied}
use Rattle.sqlite.specs.State.{HasCleanDisk, FailsToQuery}
use Rattle.sqlite.specs.Held.{state}
use Rattle.sqlite.specs.Given.{GivesOn}
use Rattle.book_core.specs.declared.entry.Entry.{Entry}
use Rattle.sql_records.specs.declared.fault.OpenFault.{OpenFault}
use Rattle.sql_records.specs.Texts.{select_text}
use Rattle.sql_records.specs.Opening.{AreReadFrom, IsHistoryFault, Reads}
use Rattle.sql_records.proofs.OpeningLemmas.{fault_at, if_err, unchanged_twice, wanted_at}
use Rattle.sql_records.proofs.TurnLemmas.{HasTurned, not_in_front, query_fault, survives_on, turn_begins, turn_ends, turn_fails, turn_more, turn_reads, turn_reads_none, turn_stops, turn_undone}
use Rattle.sql_records.proofs.QueryLemmas.{select_undone}
use Rattle.sql_records.proofs.opening.read_in_turn.Goals as goal

-- `search` knows what the borrowed connection is once the rows are dropped

pub returns-in_err-rows-clause-fault : goal.returns-in_err-rows-clause-fault
returns-in_err-rows-clause-fault g c clean =
    let old = state g.S.Store c.args.conn.now in
    let new = state g.S.Store c.query.follows.lender-at-none in
    let held = rw c.in_err-rows.was at c.query.follows.holds-at-none in
    let fails : FailsToQuery select_text [] old new c.in_err-rows.field-0.0 = held.err clean in
    let ours = c.requires (omega (arith, clean, held.survives.clean)) in
    if_err c.from_residual.result _ _ c.from_residual.ensures.1 (λ f e. rw e (inl (query_fault old new c.in_err-rows.field-0.0 ours fails)))

pub returns-in_err-rows-clause-reads : goal.returns-in_err-rows-clause-reads
returns-in_err-rows-clause-reads g c =
    let old = state g.S.Store c.args.conn.now in
    let new = state g.S.Store c.query.follows.lender-at-none in
    let held = rw c.in_err-rows.was at c.query.follows.holds-at-none in
    turn_reads_none g.S.Store c.args.conn.now c.query.follows.lender-at-none c.from_residual.result c.requires held.survives _
    c.from_residual.ensures.1 (λ clean.
    let fails : FailsToQuery select_text [] old new c.in_err-rows.field-0.0 = held.err clean in
    select_undone old new c.in_err-rows.field-0.0 (c.requires (omega (arith, clean, held.survives.clean))) fails)

pub turns-init : goal.turns-init
turns-init g c =
    let made = c.in_ok-rows.ensures in
    record {
      reference = refl;
      survives = made.survives;
      turned = λ clean. rw c.new-entries.ensures.items (turn_begins g.S.Store c.args.read c.args.conn.now _
          (c.requires (omega (arith, clean, made.survives.clean))) (made.begun clean));
    }

pub returns-in_err-advance-clause-fault : goal.returns-in_err-advance-clause-fault
returns-in_err-advance-clause-fault g c =
    let now = c.advance.new.self.conn.now in
    let fault : HasCleanDisk (state g.S.Store now) → IfErr c.from_residual-in_err-advance.result (IsHistoryFault c.args.read
    (state g.S.Store c.args.conn.now) (state g.S.Store now)) = λ clean.
    let kept = c.turns.invariant.survives in
    let turned = c.turns.invariant.turned (omega (arith, clean, c.advance.ensures.survives.clean)) in
    let ours = c.requires (omega (arith, clean, c.advance.ensures.survives.clean, kept.clean)) in
    let fails = c.in_err-advance.ensures.err clean select_text [] turned.rows turned.given in
    if_err c.from_residual-in_err-advance.result _ _ c.from_residual-in_err-advance.ensures.1
    (λ f e. rw e (turn_stops g.S.Store c.args.conn.now c.turns.rows.conn.now now ours turned.same c.in_err-advance.field-0.0 fails c.args.read _ kept)) in
    search rules

pub returns-in_err-advance-clause-reads : goal.returns-in_err-advance-clause-reads
returns-in_err-advance-clause-reads g c =
    let now = c.advance.new.self.conn.now in
    let kept = c.turns.invariant.survives in
    let survives = survives_on (state g.S.Store c.args.conn.now) (state g.S.Store c.turns.rows.conn.now) (state g.S.Store now) _ kept
    c.advance.ensures.survives in
    let reads : Reads g.S.Store c.args.conn.now now c.from_residual-in_err-advance.result =
    turn_reads_none g.S.Store c.args.conn.now now c.from_residual-in_err-advance.result c.requires survives _
    c.from_residual-in_err-advance.ensures.1 (λ clean.
    let turned = c.turns.invariant.turned (omega (arith, clean, c.advance.ensures.survives.clean)) in
    let ours = c.requires (omega (arith, clean, survives.clean)) in
    let fails = c.in_err-advance.ensures.err clean select_text [] turned.rows turned.given in
    turn_undone g.S.Store c.args.conn.now c.turns.rows.conn.now now ours turned.same c.in_err-advance.field-0.0 fails) in
    search rules

pub returns-in_default-clause-entries : goal.returns-in_default-clause-entries
returns-in_default-clause-entries g c =
    let mid = c.turns.rows.conn.now in
    let now = c.advance.new.self.conn.now in
    let answer : HasCleanDisk (state g.S.Store now) → AreReadFrom c.args.read (state g.S.Store c.args.conn.now).now.trees c.turns.entries.items = λ clean.
    let turned = c.turns.invariant.turned (omega (arith, clean, c.advance.ensures.survives.clean)) in
    let ours = c.requires (omega (arith, clean, c.advance.ensures.survives.clean, c.turns.invariant.survives.clean)) in
    let given = subst (λ r. GivesOn g.S.Store select_text [] mid now turned.rows r) (sym c.get.ensures ∙ ap option_copied c.in_default.is)
    (c.in_ok-advance.ensures.ok clean select_text [] turned.rows turned.given) in
    turn_ends g.S.Store c.args.read c.args.conn.now mid now c.turns.place c.turns.entries.items turned (c.in_ok-advance.ensures.same clean) ours given in
    search rules

pub returns-in_err-entry-clause-fault : goal.returns-in_err-entry-clause-fault
returns-in_err-entry-clause-fault g c =
    let mid = c.turns.rows.conn.now in
    let now = c.advance.new.self.conn.now in
    let row = c.in-Some.row.now in
    let fault : HasCleanDisk (state g.S.Store now) → IfErr c.from_residual-in_err-entry.result (IsHistoryFault c.args.read
    (state g.S.Store c.args.conn.now) (state g.S.Store now)) = λ clean.
    let turned = c.turns.invariant.turned (omega (arith, clean, c.advance.ensures.survives.clean)) in
    let ours = c.requires (omega (arith, clean, c.advance.ensures.survives.clean, c.turns.invariant.survives.clean)) in
    let given = subst (λ r. GivesOn g.S.Store select_text [] mid now turned.rows r) (sym c.get.ensures ∙ ap option_copied c.in-Some.is)
    (c.in_ok-advance.ensures.ok clean select_text [] turned.rows turned.given) in
    let first = not_in_front c.turns.place row (sym c.is_in_front.ensures ∙ c.if-is_in_front.false) in
    let is = c.in_err-entry.ensures in
    if_err c.from_residual-in_err-entry.result _ _ c.from_residual-in_err-entry.ensures.1
    (λ f e. rw e (turn_fails g.S.Store c.args.read c.args.conn.now mid now c.turns.place c.turns.entries.items turned
    (c.in_ok-advance.ensures.same clean) row c.in_err-entry.field-0.0 ours given first
    (λ rows low at whole. fault_at c.args.read rows c.turns.place row c.in_err-entry.field-0.0 low at whole is.named (λ h. is.damaged (ap Err h))
    (λ h. is.memory (ap Err h))))) in
    search rules

pub returns-in_err-push-clause-fault : goal.returns-in_err-push-clause-fault
returns-in_err-push-clause-fault g c =
    let mid = c.turns.rows.conn.now in
    let now = c.advance.new.self.conn.now in
    let row = c.in-Some.row.now in
    let fault : HasCleanDisk (state g.S.Store now) → IfErr c.from_residual-in_err-push.result (IsHistoryFault c.args.read
    (state g.S.Store c.args.conn.now) (state g.S.Store now)) = λ clean.
    let turned = c.turns.invariant.turned (omega (arith, clean, c.advance.ensures.survives.clean)) in
    let ours = c.requires (omega (arith, clean, c.advance.ensures.survives.clean, c.turns.invariant.survives.clean)) in
    let given = subst (λ r. GivesOn g.S.Store select_text [] mid now turned.rows r) (sym c.get.ensures ∙ ap option_copied c.in-Some.is)
    (c.in_ok-advance.ensures.ok clean select_text [] turned.rows turned.given) in
    let first = not_in_front c.turns.place row (sym c.is_in_front.ensures ∙ c.if-is_in_front.false) in
    let is = c.in_ok-entry.ensures in
    if_err c.from_residual-in_err-push.result _ _ c.from_residual-in_err-push.ensures.1
    (λ f e. rw e (turn_fails g.S.Store c.args.read c.args.conn.now mid now c.turns.place c.turns.entries.items turned
    (c.in_ok-advance.ensures.same clean) row _ ours given first
    (λ rows low at whole. inl (
      refl,
      (
        c.turns.place,
        wanted_at c.args.read rows c.turns.place row low at whole is.placed is.version
            (inl (subst IsSome (sym is.reads) refl)),
      ),
    )))) in
    search rules

pub returns-in_err-push-clause-reads : goal.returns-in_err-push-clause-reads
returns-in_err-push-clause-reads g c =
    let mid = c.turns.rows.conn.now in
    let now = c.advance.new.self.conn.now in
    let survives = survives_on (state g.S.Store c.args.conn.now) (state g.S.Store mid) (state g.S.Store now) _ c.turns.invariant.survives
    c.advance.ensures.survives in
    let reads : Reads g.S.Store c.args.conn.now now c.from_residual-in_err-push.result =
    turn_reads g.S.Store c.args.conn.now now c.from_residual-in_err-push.result c.requires survives (λ clean.
    let turned = c.turns.invariant.turned (omega (arith, clean, c.advance.ensures.survives.clean)) in
    unchanged_twice (state g.S.Store c.args.conn.now) (state g.S.Store mid) (state g.S.Store now) turned.same (c.in_ok-advance.ensures.same clean)) in
    search rules

pub turns-preserved : goal.turns-preserved
turns-preserved g c =
    let mid = c.turns.rows.conn.now in
    let now = c.advance.new.self.conn.now in
    let is = c.in_ok-entry.ensures in
    record {
      reference = c.advance.ensures.same_reference ∙ c.turns.invariant.reference;
      survives = survives_on (state g.S.Store c.args.conn.now) (state g.S.Store mid) (state g.S.Store now) _ c.turns.invariant.survives
          c.advance.ensures.survives;
      turned = λ clean.
          let turned = c.turns.invariant.turned (omega (arith, clean, c.advance.ensures.survives.clean)) in
          let given = subst (λ r. GivesOn g.S.Store select_text [] mid now turned.rows r) (sym c.get.ensures ∙ ap option_copied c.in-Some.is)
          (c.in_ok-advance.ensures.ok clean select_text [] turned.rows turned.given) in
          subst (HasTurned g.S.Store c.args.read c.args.conn.now now (c.turns.place + 1)) (sym c.in_ok-push.ensures.items)
          (turn_more g.S.Store c.args.read c.args.conn.now mid now c.turns.place c.turns.entries.items turned (c.in_ok-advance.ensures.same clean)
          c.in-Some.row.now c.in_ok-entry.entry given is.placed is.reads is.version);
    }

pub returns-clause-reads : goal.returns-clause-reads
returns-clause-reads g c =
    let mid = c.turns.rows.conn.now in
    let reads : Reads {T = Option (Vec Entry Global)} {F = OpenFault} g.S.Store c.args.conn.now mid (Ok None) =
    turn_reads g.S.Store c.args.conn.now mid (Ok None) c.requires c.turns.invariant.survives (λ clean. (c.turns.invariant.turned clean).same) in
    search rules
