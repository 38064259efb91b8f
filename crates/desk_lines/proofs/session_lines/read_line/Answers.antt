use Rattle.std.proofs.Common.{ap, ◌∙◌, rules}
use Rattle.desk_lines.specs.Reading.{session_line_of}
use Rattle.desk_lines.proofs.SessionLaws.{session_takes, session_reads}
use Rattle.desk_lines.proofs.session_lines.read_line.Goals as goal

pub returns-in-Some-clause-found : goal.returns-in-Some-clause-found
returns-in-Some-clause-found c = session_takes c.args.bytes.now c.in-Some.line (search rules)

pub returns-in-Some-clause-only : goal.returns-in-Some-clause-only
returns-in-Some-clause-only c = λ l fits e. let read = ap session_line_of e ∙ session_reads l fits in cc

pub returns-in-None-clause-only : goal.returns-in-None-clause-only
returns-in-None-clause-only c = λ l fits e. let read = ap session_line_of e ∙ session_reads l fits in absurd cc
