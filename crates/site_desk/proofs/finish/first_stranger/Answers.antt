use Rattle.std.proofs.Common.{arith}
use Rattle.site_desk.specs.Finish.{StandsIn}
use Rattle.site_desk.proofs.Shown.{all_more, all_of}
use Rattle.site_desk.proofs.finish.first_stranger.Goals as goal

pub loop-at-preserved : goal.loop-at-preserved
loop-at-preserved c =
    all_more (StandsIn c.args.book.now.history) c.args.receipts.now c.loop-at.at c.index-receipts-at.result c.loop-at.invariant c.loop-at-test.true
    c.index-receipts-at.is (c.stands_in.ensures.0 c.if-not-stands_in.false)

pub returns : goal.returns
returns c = all_of (StandsIn c.args.book.now.history) c.args.receipts.now c.loop-at.at (omega (arith, c.loop-at-test.false)) c.loop-at.invariant
