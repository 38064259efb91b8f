use Rattle.std.proofs.Common.{length, rules}
use Rattle.sqlite.specs.Held.{state}
use Rattle.sql_records.specs.Held.{history_in}
use Rattle.sql_records.proofs.OpeningLemmas.{if_err}
use Rattle.sql_records.proofs.MigrateLemmas.{unset}
use Rattle.sql_records.proofs.VersionLemmas.{same_entries}
use Rattle.sql_records.proofs.records.Records.migrate.Goals as goal

pub returns : goal.returns
returns g c =
    record {
      busy = search rules;
      schema = search rules;
      first = search rules;
      set = search rules;
      rest = λ clean. c.in_ok-set_version.ensures.rest clean (length (history_in (state g.S.Store c.args.conn.now).now.trees))
          (c.in_ok-check_first.ensures.rest (c.set_version.ensures.clean clean));
      leaves = search rules;
      site = search rules;
      crash = search rules;
      either = search rules;
      reads = λ outside is_open clean. same_entries (state g.S.Store c.args.conn.now).now.trees (state g.S.Store c.set_version.new.conn)
          (search (rules, outside, is_open, clean));
      refused = search rules;
      as_before = search rules;
      fault = search rules;
      limit = search rules;
      clean = search rules;
    }

pub returns-in_err-check_first : goal.returns-in_err-check_first
returns-in_err-check_first g c =
    record {
      busy = search rules;
      schema = search rules;
      first = search rules;
      set = search rules;
      rest = search rules;
      leaves = search rules;
      site = search rules;
      crash = search rules;
      either = search rules;
      reads = λ outside is_open clean. same_entries (state g.S.Store c.args.conn.now).now.trees (state g.S.Store c.check_first.new.conn)
          (search (rules, outside, is_open, clean));
      refused = search rules;
      as_before = search rules;
      fault = search rules;
      limit = search rules;
      clean = search rules;
    }

pub returns-in_err-set_version : goal.returns-in_err-set_version
returns-in_err-set_version g c =
    record {
      busy = search rules;
      schema = search rules;
      first = search rules;
      set = search rules;
      rest = search rules;
      leaves = search rules;
      site = search rules;
      crash = search rules;
      either = search rules;
      reads = λ outside is_open clean. same_entries (state g.S.Store c.args.conn.now).now.trees (state g.S.Store c.set_version.new.conn)
          (search (rules, outside, is_open, clean));
      refused = search rules;
      as_before = search rules;
      fault = λ clean. if_err c.from_residual-in_err-set_version.result _ _ c.from_residual-in_err-set_version.ensures.1
          (λ f e. rw e (unset g.S.Store c.args.conn.now c.check_first.new.conn c.set_version.new.conn c.in_err-set_version.field-0.0
          c.in_ok-check_first.ensures.schema
          (c.in_ok-check_first.ensures.reads.same (c.set_version.ensures.clean clean)) (c.in_err-set_version.ensures.fails clean)));
      limit = search rules;
      clean = search rules;
    }
