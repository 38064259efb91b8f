use Rattle.rights_lattice.specs.Cells.{marks_of}
use Rattle.delta_wire.specs.Grammar.{delta_text}
use Rattle.delta_wire.specs.Parts.{names_text, marks_text}
use Rattle.std.proofs.Common.{refl}
use Rattle.plain_words.proofs.WriteLaws.{Writes-err}
use Rattle.delta_wire.proofs.Prefixes.{two_failed, two_written, fits_after, whole_items}
use Rattle.delta_wire.proofs.writing.write_items.Goals as goal

pub returns-in_err-write_names-clause-text : goal.returns-in_err-write_names-clause-text
returns-in_err-write_names-clause-text g c =
    let S = c.args.delta.now in
    Writes-err _ _ c.from_residual.result _ c.from_residual.ensures.0
    (two_failed _ _ (delta_text S) (names_text c.names.result.now) (marks_text (marks_of S.cells))
    (whole_items S c.names.result.now (marks_of S.cells) c.names.ensures refl) c.in_err-write_names.ensures.text)

pub returns-clause-text : goal.returns-clause-text
returns-clause-text g c =
    let S = c.args.delta.now in
    two_written _ _ _ c.write_marks.result (delta_text S) (names_text c.names.result.now) (marks_text c.marks.result.now)
    (whole_items S c.names.result.now c.marks.result.now c.names.ensures c.marks.ensures) c.in_ok-write_names.ensures.text c.write_marks.ensures.text

pub returns-clause-fits : goal.returns-clause-fits
returns-clause-fits g c = fits_after c.write_marks.result c.names.result.now c.marks.result.now c.args.delta.now c.names.ensures c.marks.ensures
    c.in_ok-write_names.ensures.fits c.write_marks.ensures.fits
