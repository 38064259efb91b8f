use Rattle.std.proofs.Common.{◌≡◌, ℕ, ◌≤◌, List, length, get_or}
use Rattle.book_core.specs.declared.entry.Entry.{Entry}
use Rattle.site_exchange.specs.Pendings.{BeginAtAcked, IsPendingIn, KeepAdded}
use Rattle.site_exchange.proofs.exchange.reach.Given as goal

abbrev pub invariant-loop-peer : goal.invariant-loop-peer
invariant-loop-peer l = record {
  reached : length l.pendings.items ≡ l.peer;
  begins : BeginAtAcked l.acked l.fn.pendings.items → BeginAtAcked l.acked l.pendings.items;
  pending : (h : List Entry) (peer : ℕ) → get_or l.acked peer 0 ≤ length h → IsPendingIn h l.fn.pendings.items peer → IsPendingIn h l.pendings.items peer;
  added : KeepAdded l.fn.pendings.items l.pendings.items;
}
