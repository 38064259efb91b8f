use Rattle.std.proofs.Common.{rules}
use Rattle.std.specs.Cmp.Rules.{comparing}
use Rattle.std.proofs.lemmas.Slice.Eq.{slice_eq-Decides, bytes_eq-Decides}
use Rattle.book_core.proofs.book.replaying.are_marks.Goals as goal

pub returns : goal.returns
returns c = slice_eq-Decides (λ a b. search (rules, comparing, bytes_eq-Decides)) _ _ _ c.eq.ensures
