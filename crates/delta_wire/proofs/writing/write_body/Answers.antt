use Rattle.std.proofs.Common.{refl, ◌++◌, codes}
use Rattle.delta_wire.specs.Grammar.{delta_text}
use Rattle.plain_words.proofs.WriteLaws.{Writes-err}
use Rattle.delta_wire.proofs.Prefixes.{two_failed, two_written}
use Rattle.delta_wire.proofs.writing.write_body.Goals as goal

pub returns-in_err-write_items-clause-text : goal.returns-in_err-write_items-clause-text
returns-in_err-write_items-clause-text g c =
    Writes-err _ _ c.from_residual.result _ c.from_residual.ensures.0
    (two_failed _ _ (delta_text c.args.delta.now ++ codes "end\n") (delta_text c.args.delta.now) (codes "end\n") refl c.in_err-write_items.ensures.text)

pub returns-clause-text : goal.returns-clause-text
returns-clause-text g c = two_written _ _ _ c.write_bytes.result (delta_text c.args.delta.now ++ codes "end\n") (delta_text c.args.delta.now)
    (codes "end\n") refl c.in_ok-write_items.ensures.text c.write_bytes.ensures
