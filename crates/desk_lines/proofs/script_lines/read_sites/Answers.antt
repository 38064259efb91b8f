use Rattle.std.proofs.Common.{Some, rules, refl, lit<, codes}
use Rattle.rights_lattice.specs.Limits.{most_sites}
use Rattle.desk_lines.proofs.ReadingLaws.{named_exactly}
use Rattle.desk_lines.proofs.script_lines.read_sites.Goals as goal

pub returns-in_err-count-clause-only : goal.returns-in_err-count-clause-only
returns-in_err-count-clause-only c = (named_exactly (codes "sites") most_sites c.args.bytes.now _ (lit< tt) refl (search rules)).1

pub returns-clause-found : goal.returns-clause-found
returns-clause-found c = (named_exactly (codes "sites") most_sites c.args.bytes.now (Some c.in_ok-sites.sites) (lit< tt) refl (search rules)).0

pub returns-clause-only : goal.returns-clause-only
returns-clause-only c = (named_exactly (codes "sites") most_sites c.args.bytes.now (Some c.in_ok-sites.sites) (lit< tt) refl (search rules)).1
