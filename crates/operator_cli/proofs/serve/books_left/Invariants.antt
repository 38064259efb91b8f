use Rattle.std.proofs.Common.{◌≡◌, map, take}
use Rattle.world_steps.specs.Audit.{books_of}
use Rattle.operator_cli.proofs.serve.books_left.Given as goal

abbrev pub invariant-loop-end : goal.invariant-loop-end
invariant-loop-end g l = books_of l.books.items ≡ map (λ e. e.book.book) (take l.end-index l.ends)
