use Rattle.std.proofs.Common.{◌∙◌, [], Ok, arith, refl, rules, subst, sym}
use Rattle.sqlite.specs.Held.{state}
use Rattle.sqlite.specs.State.{QueriesRow}
use Rattle.paired_records.specs.Marks.{Says, ask_text, names_in}
use Rattle.paired_records.proofs.marks.pairing_of.Goals as goal

-- `search` knows what the borrowed connection is once its transaction has ended

pub returns-in-Ok-clause-says : goal.returns-in-Ok-clause-says
returns-in-Ok-clause-says g c =
    let says : Says g.S.Store c.args.conn.now c.rollback.new.self.0 (names_in c.in-Ok.row) = (
      sym c.is_one_of_two-is_marked.ensures ∙ c.if-not-is_marked.false,
      λ clean. (
        c.ask.new.tx.conn.now,
        c.in-Ok.row,
        refl,
        subst (λ b. QueriesRow ask_text [] (state g.S.Store b) (state g.S.Store c.ask.new.tx.conn.now) (Ok c.in-Ok.row)) c.transaction-tx.ensures.begun
            (c.in-Ok.ensures.row (omega (arith, c.rollback.ensures.survives.clean, clean))),
      ),
    ) in
    search rules
