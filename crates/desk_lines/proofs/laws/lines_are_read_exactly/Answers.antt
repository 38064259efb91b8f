use Rattle.std.proofs.Common.{codes, refl, lit<}
use Rattle.rights_lattice.specs.Limits.{most_sites}
use Rattle.book_core.specs.Limits.{greatest_limit}
use Rattle.desk_lines.proofs.SessionLaws.{session_takes, session_reads}
use Rattle.desk_lines.proofs.ReadingLaws.{line_takes, line_reads, named_takes, named_reads}
use Rattle.desk_lines.proofs.laws.lines_are_read_exactly.Goals as goal

pub returns-clause-session_lines : goal.returns-clause-session_lines
returns-clause-session_lines c = session_reads

pub returns-clause-only_session_lines : goal.returns-clause-only_session_lines
returns-clause-only_session_lines c = session_takes

pub returns-clause-lines : goal.returns-clause-lines
returns-clause-lines c = line_reads

pub returns-clause-only_lines : goal.returns-clause-only_lines
returns-clause-only_lines c = line_takes

pub returns-clause-sites : goal.returns-clause-sites
returns-clause-sites c = λ n h. named_reads (codes "sites") most_sites n (lit< tt) refl h.0 h.1

pub returns-clause-only_sites : goal.returns-clause-only_sites
returns-clause-only_sites c = λ bytes n e. named_takes (codes "sites") most_sites bytes n (lit< tt) e

pub returns-clause-limits : goal.returns-clause-limits
returns-clause-limits c = λ n h. named_reads (codes "limit") greatest_limit n (lit< tt) refl h.0 h.1

pub returns-clause-only_limits : goal.returns-clause-only_limits
returns-clause-only_limits c = λ bytes n e. named_takes (codes "limit") greatest_limit bytes n (lit< tt) e
