use Rattle.std.proofs.Common.{◌≡◌, rules, List, [], Option, Some, None, unwrap_or, codes, ap, ◌∙◌}
use Rattle.clap.specs.Words.{Row, Text, all_of, found_of, rows_of}
use Rattle.rights_lattice.specs.Limits.{most_sites}
use Rattle.operator_cli.specs.Orders.{at_most, copies_in, texts_of}
use Rattle.operator_cli.proofs.orders.copies_of.Goals as goal

from : (rows : List Row) (o : Option (List Text)) → o ≡ all_of (codes "COPY") rows → at_most most_sites (unwrap_or o []) ≡ copies_in rows
unfolding copies_in
from rows o is = ap (λ p. at_most most_sites (unwrap_or p [])) is

pub returns-in-Some : goal.returns-in-Some
returns-in-Some c = c.names_of.ensures ∙ from (rows_of (found_of c.args.values.now)) (Some (texts_of c.in-Some.words.now)) c.in-Some.ensures

pub returns-in-None : goal.returns-in-None
returns-in-None c = let none = from (rows_of (found_of c.args.values.now)) None c.in-None.ensures in search (rules, none)
