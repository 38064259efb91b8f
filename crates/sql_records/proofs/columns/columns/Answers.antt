use Rattle.std.proofs.Common.{rules}
use Rattle.sql_records.proofs.columns.columns.Goals as goal
use Rattle.sql_records.proofs.EntryBack.{grown_text}

pub returns-in-Grown-clause-columns : goal.returns-in-Grown-clause-columns
returns-in-Grown-clause-columns c =
    let empty = grown_text c.in-Grown.sites c.args.entry.now c.args.text.now c.in-Grown.is c.requires.text in
    search rules
