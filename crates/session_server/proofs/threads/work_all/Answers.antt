use Rattle.std.proofs.Common.{arith, rules}
use mir.Syntax.{of_param}
use denote.Exit.{unseen}
use denote.Param.Send.{Quiet-if}
use Rattle.session_server.proofs.threads.work_all.Goals as goal

-- there is room for all, and what the closure takes along may go to other threads
pub scoped-requires : goal.scoped-requires
scoped-requires g c =
    let b = c.type_bounds in
    record {
      at = λ a. (
        (omega (arith, c.in_ok-done.ensures.len, c.in_ok-done.ensures.capacity, c.len.ensures), c.in_ok-done.ensures.items, c.requires.work, c.requires.keeps),
        (
          record { owned = b.send-J.owned; leaving = λ k. Quiet-if (k (of_param 1)) unseen unseen (λ x w. tt) (λ x w. tt) },
          record { owned = b.send-A.owned; leaving = λ k. Quiet-if (k (of_param 3)) unseen unseen (λ x w. tt) (λ x w. tt) },
          record { owned = b.send-B.owned; leaving = λ k. Quiet-if (k (of_param 4)) unseen unseen (λ x w. tt) (λ x w. tt) },
          record { owned = b.send-C.owned; leaving = λ k. Quiet-if (k (of_param 5)) unseen unseen (λ x w. tt) (λ x w. tt) },
          search rules,
          search rules,
        ),
      );
    }
