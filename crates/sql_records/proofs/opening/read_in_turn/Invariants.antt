use Rattle.std.proofs.Common.{◌≡◌, []}
use Rattle.sqlite.specs.State.{HasCleanDisk, Survives, CommitsShowing}
use Rattle.sqlite.specs.Held.{state}
use Rattle.sql_records.specs.Texts.{select_text}
use Rattle.sql_records.proofs.TurnLemmas.{HasTurned}
use Rattle.sql_records.proofs.opening.read_in_turn.Given as goal

abbrev pub invariant-turns : goal.invariant-turns
invariant-turns g l =
    let old = state g.S.Store l.fn.conn in
    let now = state g.S.Store l.rows.conn.now in
    record {
      reference : l.rows.conn.ghost_name ≡ l.initial.rows.conn.ghost_name;
      survives : Survives old now (CommitsShowing select_text [] old);
      turned : HasCleanDisk now → HasTurned g.S.Store l.fn.read l.fn.conn l.rows.conn.now l.place l.entries.items;
    }
