use Rattle.std.proofs.Common.{◌-◌, ◌≤◌}
use Rattle.std.specs.Io.KnownBytes.{Consumes}
use Rattle.arrayvec.specs.ArrayVec.{array_vec_len}
use Rattle.plain_words.specs.Input.{longest_line}
use Rattle.plain_words.proofs.LineLaws.{HasNoBreak}
use Rattle.plain_words.proofs.lines.next_line.Given as goal

abbrev pub invariant-bytes : goal.invariant-bytes
invariant-bytes g l = HasNoBreak l.line.items × (array_vec_len l.line ≤ longest_line)
    × Consumes (g.R.Read.remaining l.fn.reader) (g.R.Read.remaining l.reader) l.line.items

abbrev pub decreases-bytes : goal.decreases-bytes
decreases-bytes g l = longest_line - array_vec_len l.line
