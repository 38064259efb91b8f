use Rattle.std.proofs.Common.{◌-◌, ◌≤◌}
use Rattle.std.specs.Io.KnownBytes.{Consumes}
use Rattle.arrayvec.specs.ArrayVec.{array_vec_len}
use Rattle.plain_words.specs.Input.{longest_line}
use Rattle.plain_words.proofs.LineLaws.{HasNoBreak}
use Rattle.operator_cli.proofs.visiting.hear.Given as goal

abbrev pub invariant-bytes : goal.invariant-bytes
invariant-bytes g l = HasNoBreak l.line.items × (array_vec_len l.line ≤ longest_line)
    × Consumes (g.A.Read.remaining l.fn.answers) (g.A.Read.remaining l.answers) l.line.items

abbrev pub decreases-bytes : goal.decreases-bytes
decreases-bytes g l = longest_line - array_vec_len l.line
