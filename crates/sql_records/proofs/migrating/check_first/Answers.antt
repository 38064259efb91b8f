use Rattle.std.proofs.Common.{◌≡◌, inr, false, IsTrue, length, refl, sym, subst, ◌∙◌}
use Rattle.std.proofs.lemmas.Result.{IfErr-weaker}
use Rattle.std.proofs.lemmas.Bool.{not-true}
use Rattle.sqlite.specs.Held.{state}
use Rattle.sql_records.specs.Layout.{IsOurs}
use Rattle.sql_records.specs.Held.{history_in}
use Rattle.sql_records.proofs.OpeningLemmas.{opened, on_ok}
use Rattle.sql_records.proofs.MigrateLemmas.{unfit, no_history}
use Rattle.sql_records.proofs.migrating.check_first.Goals as goal

pub returns-in-Ok-clause-rest : goal.returns-in-Ok-clause-rest
returns-in-Ok-clause-rest g c clean =
    let first = state g.S.Store c.args.conn.now in
    let last = state g.S.Store c.read_as.new.conn in
    let autocommit : IsTrue c.is_autocommit-is_settled.result = c.if-not-is_settled.false in
    let outside : c.args.conn.now.in_transaction ≡ false = not-true _ (sym c.is_autocommit-is_settled.ensures.value ∙ autocommit) in
    on_ok c.check_history.result _
    (opened first last (length (history_in first.now.trees)) (c.in-Ok.ensures.reads.same clean) outside
    (c.is_autocommit-is_settled.ensures.settled autocommit) c.read_as.ensures.live c.in-Ok.ensures.schema
    (c.in-Ok.ensures.read clean).entries_are.0.0 refl)

pub returns-in-Ok-clause-fault : goal.returns-in-Ok-clause-fault
returns-in-Ok-clause-fault g c clean =
    let old = state g.S.Store c.args.conn.now in
    let new = state g.S.Store c.read_as.new.conn in
    let autocommit : IsTrue c.is_autocommit-is_settled.result = c.if-not-is_settled.false in
    let outside : c.args.conn.now.in_transaction ≡ false = not-true _ (sym c.is_autocommit-is_settled.ensures.value ∙ autocommit) in
    IfErr-weaker c.check_history.result _ _ (λ fault it. inr (
      outside,
      inr (
        c.in-Ok.ensures.schema,
        no_history old new c.in-Ok.meta c.in-Ok.entries.items it.0 fault (c.in-Ok.ensures.reads.same clean)
            (record {
              numbers = (c.in-Ok.ensures.read clean).meta_is;
              within = c.in-Ok.ensures.numbers;
              whole = (c.in-Ok.ensures.read clean).entries_are.0;
            }) ((c.in-Ok.ensures.read clean).entries_are.1) it.1 it.2,
      ),
    )) c.check_history.ensures.fault

pub returns-in-Err-clause-fault : goal.returns-in-Err-clause-fault
returns-in-Err-clause-fault g c clean =
    let autocommit : IsTrue c.is_autocommit-is_settled.result = c.if-not-is_settled.false in
    let outside : c.args.conn.now.in_transaction ≡ false = not-true _ (sym c.is_autocommit-is_settled.ensures.value ∙ autocommit) in
    unfit g.S.Store c.args.conn.now c.read_as.new.conn c.is_ours-are_ours.result c.in-Err.fault c.told_as.result outside
    (λ is. subst IsOurs c.schema.ensures.value (c.is_ours-are_ours.ensures.0 is))
    (λ ours. c.is_ours-are_ours.ensures.1 (subst IsOurs (sym c.schema.ensures.value) ours)) (λ foreign. c.in-Err.ensures.foreign foreign outside clean)
    (c.in-Err.ensures.fault clean) c.told_as.ensures
