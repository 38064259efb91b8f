use Rattle.mirrored_records.proofs.BringLemmas.{short_piece}
use Rattle.mirrored_records.proofs.opening.bring_piece.Goals as goal

pub returns-clause-short : goal.returns-clause-short
returns-clause-short g c =
    short_piece g.K.Keeper c.args.keeper.now c.append_all.new.self c.append_all.result c.args.place c.args.end c.args.whole.now c.requires.within.0
    c.requires.begun
    (c.append_all.ensures.stopped c.requires.sound) (c.append_all.ensures.counted c.requires.sound) c.append_all.ensures.site c.append_all.ensures.trusted
