use Rattle.std.proofs.Common.{arith}
use Rattle.site_desk.specs.Finish.{WasSeen}
use Rattle.site_desk.proofs.Shown.{all_more, all_of}
use Rattle.site_desk.proofs.finish.first_stranger_seen.Goals as goal

pub loop-at-preserved : goal.loop-at-preserved
loop-at-preserved c = record {
  seen = all_more (WasSeen c.args.book.now.office c.args.book.now.history) c.args.looks.now c.loop-at.at c.index-looks-at.result c.loop-at.invariant.seen
      c.loop-at-test.true c.index-looks-at.is (c.was_seen.ensures.seen.0 c.if-not-was_seen.false);
  walked = c.was_seen.ensures.walked;
}

pub returns : goal.returns
returns c = all_of (WasSeen c.args.book.now.office c.args.book.now.history) c.args.looks.now c.loop-at.at (omega (arith, c.loop-at-test.false))
    c.loop-at.invariant.seen
