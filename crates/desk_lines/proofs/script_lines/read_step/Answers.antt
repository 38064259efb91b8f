use Rattle.std.proofs.Common.{ap, ◌∙◌, rules}
use Rattle.desk_lines.specs.Reading.{line_of}
use Rattle.desk_lines.proofs.ReadingLaws.{line_takes, line_reads}
use Rattle.desk_lines.proofs.script_lines.read_step.Goals as goal

pub returns-in-Some-clause-found : goal.returns-in-Some-clause-found
returns-in-Some-clause-found c = line_takes c.args.bytes.now c.in-Some.line (search rules)

pub returns-in-Some-clause-only : goal.returns-in-Some-clause-only
returns-in-Some-clause-only c = λ l fits e. let read = ap line_of e ∙ line_reads l fits in cc

pub returns-in-None-clause-only : goal.returns-in-None-clause-only
returns-in-None-clause-only c = λ l fits e. let read = ap line_of e ∙ line_reads l fits in absurd cc
