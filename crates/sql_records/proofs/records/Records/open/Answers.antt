use Rattle.std.proofs.Common.{arith, ◌≡◌, false, length, ap, ◌∙◌, sym, subst, IsTrue, Some, refl, true}
use Rattle.std.proofs.lemmas.Bool.{false≢true, not-false, not-true}
use Rattle.sqlite.specs.Tree.{Trees}
use Rattle.sql_records.specs.Opened.{CannotOpen}
use Rattle.sqlite.specs.Held.{state}
use Rattle.sqlite.specs.Effect.{Database}
use Rattle.sql_records.specs.declared.version.Version.TheVariants.{Second}
use Rattle.sql_records.specs.Layout.{HasMeta}
use Rattle.sql_records.specs.Held.{history_in, rows_in}
use Rattle.sql_records.proofs.RowLemmas.{read_from}
use Rattle.sql_records.proofs.OpeningLemmas.{opened, leaves_only, leaves_site, one_meta, if_err}
use Rattle.sql_records.proofs.records.Records.open.Goals as goal

pub invariant_of-records : goal.invariant_of-records
invariant_of-records g c _ clean =
    let first = state g.S.Store c.args.conn in
    let last = state g.S.Store c.read_records.new.conn in
    let autocommit : IsTrue c.is_autocommit-is_settled.result = c.if-not-is_settled.false in
    let outside : c.args.conn.in_transaction ≡ false = not-true _ (sym c.is_autocommit-is_settled.ensures.value ∙ autocommit) in
    let count : c.len.result ≡ length (history_in first.now.trees) = omega
    (arith, c.in_ok-entries.entries.ok.0, ap length ((c.in_ok-entries.ensures.read clean).entries_are.1)) in
    opened first last c.len.result (c.in_ok-entries.ensures.reads.same clean) outside (c.is_autocommit-is_settled.ensures.settled autocommit)
    c.read_records.ensures.live c.in_ok-entries.ensures.schema (c.in_ok-entries.ensures.read clean).entries_are.0.0 count

pub returns-clause-opened : goal.returns-clause-opened
returns-clause-opened g c =
    let first = state g.S.Store c.args.conn in
    let last = state g.S.Store c.read_records.new.conn in
    let entries = c.in_ok-entries.ensures in
    let autocommit : IsTrue c.is_autocommit-is_settled.result = c.if-not-is_settled.false in
    let outside : c.args.conn.in_transaction ≡ false = not-true _ (sym c.is_autocommit-is_settled.ensures.value ∙ autocommit) in
    let settled = λ (db : Trees) (is_open : IsTrue last.is_open) (left : last.may_leave db). g.met.S.Store.settled c.read_records.new.conn.store db is_open
    left in
    record {
      sound = refl;
      limit = c.read_records.ensures.reads.limit;
      settled = outside;
      ours = entries.schema;
      numbers = entries.numbers;
      read = λ clean.
          let same = entries.reads.same clean in
          let now = same.0.now_is in
          let count : c.len.result ≡ length (history_in first.now.trees) = omega
          (arith, c.in_ok-entries.entries.ok.0, ap length ((entries.read clean).entries_are.1)) in
          let rest = opened first last c.len.result same outside (c.is_autocommit-is_settled.ensures.settled autocommit) c.read_records.ensures.live
          entries.schema (entries.read clean).entries_are.0.0 count in
          let meta_is = subst (λ (d : Database). HasMeta c.in_ok-entries.meta d.trees) (sym now) (entries.read clean).meta_is in
          record {
            clean = c.read_records.ensures.reads.clean clean;
            unchanged = same;
            same = now;
            autocommit = same.0.mode ∙ outside;
            entries_are = (entries.read clean).entries_are.1 ∙ ap (λ (d : Database). history_in d.trees) (sym now);
            found = read_from 0 (rows_in first.now.trees) (entries.read clean).entries_are.0.0 ∙ ap Some (sym ((entries.read clean).entries_are.1));
            holds = record {
              schema = c.args.conn.schema;
              ours = entries.schema;
              sound = (c.read_records.ensures.live same.0.was_open).0;
              numbers = (entries.read clean).meta_is;
              within = entries.numbers;
            };
            meta_is = meta_is;
            given = λ meta has. one_meta Second _ meta first.now.trees (entries.read clean).meta_is has;
            site = leaves_site last c.len.result rest settled _ entries.numbers meta_is;
            leaves = leaves_only last c.len.result rest settled (λ is_open. g.met.S.Store.stays c.read_records.new.conn.store is_open);
          };
    }

pub returns-then-not-is_settled-clause-fault : goal.returns-then-not-is_settled-clause-fault
returns-then-not-is_settled-clause-fault g c =
    let busy : c.args.conn.in_transaction ≡ true = not-false _ (sym c.is_autocommit-is_settled.ensures.value ∙ c.if-not-is_settled.true) in
    record { busy = λ _. refl; found = λ free. absurd (false≢true (sym free ∙ busy)); foreign = λ _ free. absurd (false≢true (sym free ∙ busy)) }

pub returns-in_err-entries-clause-fault : goal.returns-in_err-entries-clause-fault
returns-in_err-entries-clause-fault g c =
    let first = c.args.conn in
    let after = c.read_records.new.conn in
    let free : first.in_transaction ≡ false = not-true _ (sym c.is_autocommit-is_settled.ensures.value ∙ c.if-not-is_settled.false) in
    if_err c.from_residual.result (CannotOpen g.S.Store first) _ c.from_residual.ensures.1 (λ f e. record {
      busy = λ busy. absurd (false≢true (sym free ∙ busy));
      found = λ _. (after, λ clean. rw e (c.read_records.ensures.reads.clean clean, c.in_err-entries.ensures.fault clean));
      foreign = λ strange _. (after, λ clean. rw e (c.in_err-entries.ensures.foreign strange free clean));
    })
