use Rattle.std.proofs.Common.{◌≡◌, List, inl, inr, false, ◌∙◌, ap, sym, subst, subst₂}
use Rattle.std.proofs.lemmas.Bool.{cases_Bool}
use Rattle.sqlite.specs.State.{HasCleanDisk, IsUnchanged}
use Rattle.sqlite.specs.Held.{Held, state}
use Rattle.book_core.specs.declared.entry.Entry.{Entry}
use Rattle.book_core.specs.Decision.{SiteConfig}
use Rattle.book_core.specs.Legal.{IsLegal}
use Rattle.book_core.specs.Replay.{IsReplayFault}
use Rattle.history_keeper.specs.declared.meta.Meta.{Meta}
use Rattle.sql_records.specs.Held.{IsOf, IsTrusted, LeavesSite, MayLeave, RecordsView, MayLeaveIn, history_in, kept_in}
use Rattle.history_keeper.specs.Keeping.{LeavesOnly}
use Rattle.history_keeper.specs.Meta.{office_of}
use Rattle.sql_records.specs.Layout.{HasMeta}
use Rattle.operator_cli.proofs.opening.open_book.Goals as goal

pub returns-in-Ok-start-clause-opened : goal.returns-in-Ok-start-clause-opened
returns-in-Ok-start-clause-opened g c =
    let G = g.S.Store in
    let conn = c.args.conn in
    let started = c.in-Ok-start.ensures.started in
    let is = sym started.keeper_is in
    let entries = λ (trusted : IsTrusted G c.in-Ok.opened.0). started.history ∙ (c.in-Ok.ensures.opened.read trusted).entries_are
    ∙ ap (λ store. history_in store.trees) (c.in-Ok.ensures.opened.read trusted).same in
    let office = λ (trusted : IsTrusted G c.in-Ok.opened.0) (meta : Meta) (has : HasMeta meta (state G conn).now.trees). started.office
    ∙ ap office_of ((c.in-Ok.ensures.opened.read trusted).given meta has) in
    record {
      unclosed = started.opened;
      sound = ap (λ (k : RecordsView g.row.S.Denot). k.failures) started.keeper_is ∙ c.in-Ok.ensures.opened.sound;
      settled = c.in-Ok.ensures.opened.settled;
      limit = ap (λ (k : RecordsView g.row.S.Denot). k.conn.step_limit) started.keeper_is ∙ c.in-Ok.ensures.opened.limit;
      book = λ clean.
          let trusted = subst (IsTrusted G) started.keeper_is clean in
          record {
            ours = (_, (c.in-Ok.ensures.opened.read trusted).holds.numbers);
            office = office trusted;
            history = entries trusted;
            legal = λ meta has. subst₂ IsLegal (office trusted meta has) (entries trusted) c.in-Ok-start.ensures.legal;
            fresh = started.acknowledged;
            unclosed = started.opened;
          };
      kept = subst (λ (k : RecordsView g.row.S.Denot). IsTrusted G k → kept_in G k ≡ history_in (state G conn).now.trees) is
          (λ trusted. ap (λ store. history_in store.trees) (c.in-Ok.ensures.opened.read trusted).same);
      rests = subst (λ (k : RecordsView g.row.S.Denot). IsTrusted G k → LeavesOnly (kept_in G k) (MayLeave G k)) is
          (λ trusted. (c.in-Ok.ensures.opened.read trusted).leaves);
      site = subst (λ (k : RecordsView g.row.S.Denot). IsTrusted G k → (meta : Meta) → HasMeta meta (state G conn).now.trees → IsOf G k meta) is
          (λ trusted meta has. subst (IsOf G c.in-Ok.opened.0) ((c.in-Ok.ensures.opened.read trusted).given meta has)
          (c.in-Ok.ensures.opened.read trusted).site);
      same = subst (λ (k : RecordsView g.row.S.Denot). IsTrusted G k → (state G k.conn).now ≡ (state G conn).now) is
          (λ trusted. (c.in-Ok.ensures.opened.read trusted).same);
      unchanged = subst (λ (k : RecordsView g.row.S.Denot). IsTrusted G k → IsUnchanged (state G conn) (state G k.conn)) is
          (λ trusted. (c.in-Ok.ensures.opened.read trusted).unchanged);
      autocommit = subst (λ (k : RecordsView g.row.S.Denot). IsTrusted G k → (state G k.conn).in_transaction ≡ false) is
          (λ trusted. (c.in-Ok.ensures.opened.read trusted).autocommit);
      clean = subst (λ (k : RecordsView g.row.S.Denot). IsTrusted G k → HasCleanDisk (state G conn)) is
          (λ trusted. (c.in-Ok.ensures.opened.read trusted).clean);
    }

pub returns-in-Err-clause-fault : goal.returns-in-Err-clause-fault
returns-in-Err-clause-fault g c = record {
  cause = c.in-Err.fault;
  told = c.of_open_fault.ensures;
  found = elim (cases_Bool c.args.conn.in_transaction) [
    | inl busy ↦ inl (busy, (let is = c.in-Err.ensures.fault.busy busy in cc))
    | inr free ↦ inr (free, c.in-Err.ensures.fault.found free)
  ];
  foreign = c.in-Err.ensures.fault.foreign;
}

pub returns-in-Err-start-clause-fault : goal.returns-in-Err-start-clause-fault
returns-in-Err-start-clause-fault g c =
    let back = c.close.ensures ∙ ap (λ (k : RecordsView g.row.S.Denot). k.conn) c.in-Err-start.ensures.fault.0 in
    record {
      cause = c.in-Err-start.fault;
      told = c.of_replay_fault.ensures;
      same = λ clean. ap (λ (h : Held g.row.S.Denot). (state g.S.Store h).now) back
          ∙ (c.in-Ok.ensures.opened.read (subst (λ (h : Held g.row.S.Denot). HasCleanDisk (state g.S.Store h)) back clean)).same;
      settled = λ clean. ap (λ (h : Held g.row.S.Denot). (state g.S.Store h).in_transaction) back
          ∙ (c.in-Ok.ensures.opened.read (subst (λ (h : Held g.row.S.Denot). HasCleanDisk (state g.S.Store h)) back clean)).autocommit
          ∙ sym c.in-Ok.ensures.opened.settled;
      rests = λ clean.
          let trusted = subst (λ (h : Held g.row.S.Denot). HasCleanDisk (state g.S.Store h)) back clean in
          subst₂ (λ (list : List Entry) (h : Held g.row.S.Denot). LeavesOnly list (MayLeaveIn (state g.S.Store h)))
          (ap (λ store. history_in store.trees) (c.in-Ok.ensures.opened.read trusted).same) (sym back) (c.in-Ok.ensures.opened.read trusted).leaves;
      ours = λ clean. (_, (c.in-Ok.ensures.opened.read (subst (λ (h : Held g.row.S.Denot). HasCleanDisk (state g.S.Store h)) back clean)).holds.numbers);
      site = λ clean meta has.
          let trusted = subst (λ (h : Held g.row.S.Denot). HasCleanDisk (state g.S.Store h)) back clean in
          subst₂ (λ (h : Held g.row.S.Denot) (m : Meta). LeavesSite (state g.S.Store h) m) (sym back)
          ((c.in-Ok.ensures.opened.read trusted).given meta has) (c.in-Ok.ensures.opened.read trusted).site;
      found = λ clean meta has.
          let trusted = subst (λ (h : Held g.row.S.Denot). HasCleanDisk (state g.S.Store h)) back clean in
          subst₂ (λ (office : SiteConfig) (entries : List Entry). IsReplayFault office entries c.in-Err-start.fault)
          (ap office_of ((c.in-Ok.ensures.opened.read trusted).given meta has))
          ((c.in-Ok.ensures.opened.read trusted).entries_are ∙ ap (λ store. history_in store.trees) (c.in-Ok.ensures.opened.read trusted).same)
          c.in-Err-start.ensures.fault.1;
    }
