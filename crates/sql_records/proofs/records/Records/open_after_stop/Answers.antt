use Rattle.std.proofs.Common.{refl}
use Rattle.sqlite.specs.Held.{state}
use Rattle.sql_records.specs.declared.version.Version.TheVariants.{Second}
use Rattle.sql_records.proofs.OpeningLemmas.{one_meta}
use Rattle.sql_records.proofs.StopLemmas.{after_stop}
use Rattle.sql_records.proofs.records.Records.open_after_stop.Goals as goal

pub returns-in_default-clause-opens : goal.returns-in_default-clause-opens
returns-in_default-clause-opens g c = (c.args.conn, λ clean meta site opens. tt)

pub returns-in-Ok-clause-found : goal.returns-in-Ok-clause-found
returns-in-Ok-clause-found g c clean =
    let was = (c.in-Ok.ensures.opened.read clean).clean in
    let read = c.in-Ok.ensures.opened.read clean in
    record { db = (state g.S.Store c.in-Some.again).now.trees; left = c.in-Some.ensures.left was; site = read.holds; reads = read.found }

pub returns-in-Ok-clause-numbers : goal.returns-in-Ok-clause-numbers
returns-in-Ok-clause-numbers g c clean meta site =
    let was = (c.in-Ok.ensures.opened.read clean).clean in
    let db = (state g.S.Store c.in-Some.again).now.trees in
    one_meta Second _ meta db (c.in-Ok.ensures.opened.read clean).holds.numbers (site db (c.in-Some.ensures.left was)).numbers

pub returns-in-Err-clause-opens : goal.returns-in-Err-clause-opens
returns-in-Err-clause-opens g c =
    let h = c.in-Err.ensures.fault.found c.in-Some.ensures.fresh.autocommit in (
      h.0,
      λ clean meta site opens.
          let both = h.1 clean in
          let first = state g.S.Store c.in-Some.again in
          let left = c.in-Some.ensures.left both.0 in
          after_stop first (state g.S.Store h.0) meta (site first.now.trees left) (c.in-Some.ensures.sound both.0) (opens _ (first.now.trees, left, refl))
          c.in-Err.fault both.1,
    )

pub returns-in-Err-clause-fault : goal.returns-in-Err-clause-fault
returns-in-Err-clause-fault g c =
    let h = c.in-Err.ensures.fault.found c.in-Some.ensures.fresh.autocommit in
    record {
      again = c.in-Some.again;
      is_new = c.in-Some.ensures.fresh;
      after = h.0;
      found = λ clean. let both = h.1 clean in (c.in-Some.ensures.left both.0, c.in-Some.ensures.sound both.0, both.1);
      foreign = λ strange. c.in-Err.ensures.fault.foreign strange c.in-Some.ensures.fresh.autocommit;
    }
