use Rattle.sqlite.specs.Held.{state}
use Rattle.sql_records.proofs.UndoneLemmas.{on_err}
use Rattle.sql_records.proofs.VersionLemmas.{leaves_either, stays_as, migrated, rests, leaves_list, leaves_numbers}
use Rattle.sql_records.proofs.migrating.set_version.Goals as goal

pub returns-clause-rest : goal.returns-clause-rest
returns-clause-rest g c =
    rests (state g.S.Store c.args.conn.now) (state g.S.Store c.execute.new.self) c.requires.rest c.requires.legal c.execute.ensures.survives
    c.in_ok-execute.field-0 c.in_ok-execute.ensures.runs

pub returns-clause-set : goal.returns-clause-set
returns-clause-set g c =
    migrated (state g.S.Store c.args.conn.now) (state g.S.Store c.execute.new.self) c.requires.rest c.requires.legal c.execute.ensures.survives
    c.in_ok-execute.field-0 c.in_ok-execute.ensures.runs

pub returns-clause-leaves : goal.returns-clause-leaves
returns-clause-leaves g c clean =
    leaves_list (state g.S.Store c.args.conn.now) (state g.S.Store c.execute.new.self) c.requires.rest c.requires.legal c.execute.ensures.survives
    c.in_ok-execute.field-0 c.in_ok-execute.ensures.runs clean
    (λ db is_open left. g.met.S.Store.settled c.execute.new.self.store db is_open left) (λ is_open. g.met.S.Store.stays c.execute.new.self.store is_open)

pub returns-clause-site : goal.returns-clause-site
returns-clause-site g c clean =
    leaves_numbers (state g.S.Store c.args.conn.now) (state g.S.Store c.execute.new.self) c.requires.rest c.requires.legal c.execute.ensures.survives
    c.in_ok-execute.field-0 c.in_ok-execute.ensures.runs clean
    (λ db is_open left. g.met.S.Store.settled c.execute.new.self.store db is_open left)

pub returns-clause-crash : goal.returns-clause-crash
returns-clause-crash g c =
    leaves_either (state g.S.Store c.args.conn.now) (state g.S.Store c.execute.new.self) c.requires.rest c.requires.legal c.execute.ensures.survives

pub returns-in_err-execute-clause-crash : goal.returns-in_err-execute-clause-crash
returns-in_err-execute-clause-crash g c =
    leaves_either (state g.S.Store c.args.conn.now) (state g.S.Store c.execute.new.self) c.requires.rest c.requires.legal c.execute.ensures.survives

pub returns-in_err-execute-clause-as_before : goal.returns-in_err-execute-clause-as_before
returns-in_err-execute-clause-as_before g c clean =
    on_err c.from_residual.result _
    (stays_as (state g.S.Store c.args.conn.now) (state g.S.Store c.execute.new.self) c.requires.rest c.requires.legal c.execute.ensures.survives _
    (c.in_err-execute.ensures.runs clean) clean)
