use Rattle.std.proofs.Common.{ap, ◌∙◌, rules}
use Rattle.live_office.specs.Lines.{office_line_of}
use Rattle.live_office.proofs.OfficeLines.{office_reads, office_takes}
use Rattle.live_office.proofs.office_line.read_office_line.Goals as goal

pub returns-in-Some-clause-found : goal.returns-in-Some-clause-found
returns-in-Some-clause-found c = office_takes c.args.bytes.now c.in-Some.line (search rules)

pub returns-in-Some-clause-only : goal.returns-in-Some-clause-only
returns-in-Some-clause-only c = λ l fits e. let read = ap office_line_of e ∙ office_reads l fits in cc

pub returns-in-None-clause-only : goal.returns-in-None-clause-only
returns-in-None-clause-only c = λ l fits e. let read = ap office_line_of e ∙ office_reads l fits in absurd cc
