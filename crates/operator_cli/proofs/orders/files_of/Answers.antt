use Rattle.std.proofs.Common.{◌≡◌, ℕ, List, Option, Some, None, codes, ap, ◌∙◌}
use Rattle.clap.specs.Words.{Row, Text, all_of, found_of, rows_of}
use Rattle.plain_words.specs.Words.{◌>>=◌}
use Rattle.operator_cli.specs.Orders.{at_most, files_in, texts_of}
use Rattle.operator_cli.proofs.orders.files_of.Goals as goal

from : (most : ℕ) (rows : List Row) (o : Option (List Text)) → o ≡ all_of (codes "FILE") rows → (o >>= at_most most) ≡ files_in most rows
unfolding files_in
from most rows o is = ap (λ p. p >>= at_most most) is

pub returns-in_err-words : goal.returns-in_err-words
returns-in_err-words c =
    let none : None ≡ files_in c.args.most (rows_of (found_of c.args.values.now)) = from c.args.most (rows_of (found_of c.args.values.now)) None
    c.in_err-words.ensures in
    rw c.from_residual.ensures none

pub returns : goal.returns
returns c =
    c.names_of.ensures ∙ from c.args.most (rows_of (found_of c.args.values.now)) (Some (texts_of c.in_ok-words.words.now)) c.in_ok-words.ensures
