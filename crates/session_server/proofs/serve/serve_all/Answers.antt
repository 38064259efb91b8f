use Rattle.std.proofs.Common.{arith, rules}
use mir.Syntax.{of_param}
use denote.Exit.{unseen}
use denote.Param.Send.{Quiet-if}
use Rattle.session_server.proofs.serve.serve_all.Goals as goal

-- there is room for all, and what the closure takes along may go to other threads
pub scoped-requires : goal.scoped-requires
scoped-requires g c =
    let b = c.type_bounds in
    record {
      at = λ a. (
        (
          omega (arith, c.in_ok-ends.ensures.len, c.in_ok-ends.ensures.capacity, c.len.ensures),
          omega (arith, c.in_ok-seats.ensures.len, c.in_ok-seats.ensures.capacity, c.len-2.ensures),
          c.in_ok-ends.ensures.items,
          c.in_ok-seats.ensures.items,
        ),
        (
          record { owned = b.send-R.owned; leaving = λ k. Quiet-if (k (of_param 1)) unseen unseen (λ x w. tt) (λ x w. tt) },
          record { owned = b.send-W.owned; leaving = λ k. Quiet-if (k (of_param 2)) unseen unseen (λ x w. tt) (λ x w. tt) },
          record { owned = b.send-K.owned; leaving = λ k. Quiet-if (k (of_param 3)) unseen unseen (λ x w. tt) (λ x w. tt) },
          record { owned = b.send-L.owned; leaving = λ k. Quiet-if (k (of_param 4)) unseen unseen (λ x w. tt) (λ x w. tt) },
          search rules,
          search rules,
          search rules,
        ),
      );
    }
