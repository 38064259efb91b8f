use Rattle.std.proofs.Common.{true, ◌≡◌, ◌+◌, ◌≤◌, ◌++◌, List, take}
use Rattle.sqlite.specs.Effect.{Database}
use Rattle.sqlite.specs.State.{HasCleanDisk, Survives}
use Rattle.sqlite.specs.Held.{state}
use Rattle.book_core.specs.declared.entry.Entry.{Entry}
use Rattle.sql_records.specs.Adding.{inserting}
use Rattle.sql_records.specs.Held.{IsAdding, most}
use Rattle.sql_records.specs.Making.{RunInTurn}
use Rattle.sql_records.proofs.records.store_each.Given as goal

-- those before were added
abbrev pub invariant-loop-entry : goal.invariant-loop-entry
invariant-loop-entry g l = record {
  same : l.tx.conn.ghost_name ≡ l.initial.tx.conn.ghost_name;
  next : l.next ≡ l.place + l.entry-index;
  low : l.next ≤ most;
  survives : Survives (state g.S.Store l.initial.tx.conn.now) (state g.S.Store l.tx.conn.now) (λ _. ⊥);
  runs : HasCleanDisk (state g.S.Store l.tx.conn.now) → (state g.S.Store l.initial.tx.conn.now).in_transaction ≡ true
      → RunInTurn g.S.Store (inserting l.place (take l.entry-index l.entries)) l.initial.tx.conn.now l.tx.conn.now;
  adds : HasCleanDisk (state g.S.Store l.tx.conn.now) → (begun : Database) (added : List Entry)
      → IsAdding begun (state g.S.Store l.initial.tx.conn.now) l.place added
      → IsAdding begun (state g.S.Store l.tx.conn.now) l.next (added ++ take l.entry-index l.entries);
}
