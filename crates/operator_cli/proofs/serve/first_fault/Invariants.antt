use Rattle.std.proofs.Common.{◌≡◌, drop}
use Rattle.std.specs.Prelude.{map}
use Rattle.operator_cli.specs.Serving.{end_fault, first_of_all}
use Rattle.operator_cli.proofs.serve.first_fault.Given as goal

abbrev pub invariant-loop-end : goal.invariant-loop-end
invariant-loop-end g l = first_of_all (map (λ e. end_fault e.finished e.book) l.ends) ≡ first_of_all
    (map (λ e. end_fault e.finished e.book) (drop l.end-index l.ends))
