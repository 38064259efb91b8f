use Rattle.std.proofs.Common.{ap, ◌∙◌}
use Rattle.desk_lines.specs.Grammar.{request_line, session_text}
use Rattle.desk_lines.specs.Reading.{session_line_of}
use Rattle.desk_lines.proofs.SessionLaws.{request_reads}
use Rattle.desk_lines.proofs.request_lines.request_text.Goals as goal

pub returns-clause-read : goal.returns-clause-read
unfolding request_line session_text
returns-clause-read c =
    ap session_line_of c.request_words.ensures.value ∙ request_reads c.args.number c.args.request c.request_words.ensures.fits.0 c.request_words.ensures.fits.1
