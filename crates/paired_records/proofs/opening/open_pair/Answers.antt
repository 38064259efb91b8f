use Rattle.std.proofs.Common.{◌∙◌, Some, ap, inr, refl, rules, subst, sym}
use Rattle.sql_records.specs.Held.{RecordsView}
use Rattle.mirrored_records.specs.Mirrored.{IsOpened, MirrorView}
use Rattle.paired_records.specs.Pairs.{AreMarked, AreRead, RefusesPair, pair}
use Rattle.paired_records.specs.declared.opening.PairFault.TheVariants.{OtherSite, Replay}
use Rattle.paired_records.proofs.PairLemmas.{other_meta, pair_book, read_of, refused_by_mirror, refused_with, same_meta}
use Rattle.paired_records.proofs.opening.open_pair.Goals as goal

pub returns-in-Err-open-clause-refused : goal.returns-in-Err-open-clause-refused
returns-in-Err-open-clause-refused g c = (
  (search rules, search rules),
  inr (c.in-Err-open.ensures.fault, refl, (c.in-Ok.read.0, c.in-Ok.read.1.items, c.in-Ok.read.2, c.in-Ok.ensures.opened, ap Some c.close.ensures)),
)

pub returns-then-ne-clause-refused : goal.returns-then-ne-clause-refused
returns-then-ne-clause-refused g c =
    let read : AreRead g.S.Store c.args.first c.args.second =
    read_of g.S.Store c.args.first c.args.second c.in-Ok.read.0 c.in-Ok-open.read.0 c.in-Ok.read.1.items c.in-Ok-open.read.1.items
    c.in-Ok.read.2 c.in-Ok-open.read.2 c.in-Ok.ensures.opened c.in-Ok-open.ensures.opened in
    let marked : AreMarked g.S.Store c.args.first c.args.second = (search rules, search rules) in
    refused_with g.S.Store c.args.first c.args.second g.W.Survivor.is_first c.refusal.result c.in-Ok.read.0.conn c.in-Ok-open.read.0.conn OtherSite
    c.refusal.ensures (marked, (read, other_meta c.in-Ok.read.2 c.in-Ok-open.read.2 (sym c.ne.ensures ∙ c.if-ne.true), refl, refl))

pub returns-in-Err-open-2-clause-refused : goal.returns-in-Err-open-2-clause-refused
returns-in-Err-open-2-clause-refused g c =
    let read : AreRead g.S.Store c.args.first c.args.second =
    read_of g.S.Store c.args.first c.args.second c.in-Ok.read.0 c.in-Ok-open.read.0 c.in-Ok.read.1.items c.in-Ok-open.read.1.items
    c.in-Ok.read.2 c.in-Ok-open.read.2 c.in-Ok.ensures.opened c.in-Ok-open.ensures.opened in
    let marked : AreMarked g.S.Store c.args.first c.args.second = (search rules, search rules) in
    let back = refused_by_mirror g.S.Store c.args.first c.args.second read (same_meta c.in-Ok.read.2 c.in-Ok-open.read.2 (sym c.ne.ensures ∙ c.if-ne.false))
    marked g.W.Survivor.is_first c.in-Err-open-2.fault c.in-Err-open-2.first c.in-Err-open-2.second c.in-Err-open-2.ensures.differs
    c.in-Err-open-2.ensures.short in
    refused_with g.S.Store c.args.first c.args.second g.W.Survivor.is_first c.refusal-in-Err-open-2.result c.in-Err-open-2.first.conn
    c.in-Err-open-2.second.conn c.from.result c.refusal-in-Err-open-2.ensures
    (subst (RefusesPair g.S.Store c.args.first c.args.second g.W.Survivor.is_first (Some c.in-Err-open-2.first.conn) (Some c.in-Err-open-2.second.conn))
    (sym c.from.ensures) back)

pub returns-in-Ok-start-clause-opened : goal.returns-in-Ok-start-clause-opened
returns-in-Ok-start-clause-opened g c =
    let read : AreRead g.S.Store c.args.first c.args.second =
    read_of g.S.Store c.args.first c.args.second c.in-Ok.read.0 c.in-Ok-open.read.0 c.in-Ok.read.1.items c.in-Ok-open.read.1.items
    c.in-Ok.read.2 c.in-Ok-open.read.2 c.in-Ok.ensures.opened c.in-Ok-open.ensures.opened in
    let marked : AreMarked g.S.Store c.args.first c.args.second = (search rules, search rules) in
    pair_book g.S.Store c.args.first c.args.second read (same_meta c.in-Ok.read.2 c.in-Ok-open.read.2 (sym c.ne.ensures ∙ c.if-ne.false))
    g.W.Survivor.is_first c.in-Ok-open-2.opened.1.items c.in-Ok-open-2.opened.0 c.in-Ok-start.book c.in-Ok-open-2.ensures.opened
    c.in-Ok-open-2.ensures.longer c.in-Ok-open-2.ensures.trusted c.in-Ok-start.ensures.started.opened c.in-Ok-start.ensures.started.history
    c.in-Ok-start.ensures.started.office c.in-Ok-start.ensures.started.acknowledged c.in-Ok-start.ensures.started.keeper_is
    c.in-Ok-start.ensures.started.rests c.in-Ok-start.ensures.legal marked

pub returns-in-Err-start-clause-refused : goal.returns-in-Err-start-clause-refused
returns-in-Err-start-clause-refused g c =
    let read : AreRead g.S.Store c.args.first c.args.second =
    read_of g.S.Store c.args.first c.args.second c.in-Ok.read.0 c.in-Ok-open.read.0 c.in-Ok.read.1.items c.in-Ok-open.read.1.items
    c.in-Ok.read.2 c.in-Ok-open.read.2 c.in-Ok.ensures.opened c.in-Ok-open.ensures.opened in
    let marked : AreMarked g.S.Store c.args.first c.args.second = (search rules, search rules) in
    let back : MirrorView (RecordsView g.row.S.Denot) (RecordsView g.row.S.Denot) = c.in-Err-start.mirror in
    let opened : IsOpened (pair g.S.Store g.W.Survivor.is_first) (record { first = read.one; second = read.other; failures = 0 }) back
    c.in-Ok-open-2.opened.1.items =
    subst (λ m. IsOpened (pair g.S.Store g.W.Survivor.is_first) (record { first = read.one; second = read.other; failures = 0 }) m
    c.in-Ok-open-2.opened.1.items) (sym c.in-Err-start.ensures.fault.0) c.in-Ok-open-2.ensures.opened in
    refused_with g.S.Store c.args.first c.args.second g.W.Survivor.is_first c.refusal-in-Err-start.result c.into_parts-first.result.0.conn
    c.into_parts-first.result.1.conn (Replay c.in-Err-start.fault) c.refusal-in-Err-start.ensures (
      marked,
      (
        read,
        same_meta c.in-Ok.read.2 c.in-Ok-open.read.2 (sym c.ne.ensures ∙ c.if-ne.false),
        (
          c.in-Ok-open-2.opened.1.items,
          back,
          ap (λ p. Some p.0.conn) c.into_parts-first.ensures,
          ap (λ p. Some p.1.conn) c.into_parts-first.ensures,
          opened,
          c.in-Ok-open-2.ensures.longer,
          c.in-Err-start.ensures.fault.1,
        ),
      ),
    )
