use Rattle.std.proofs.Common.{◌≡◌, take}
use Rattle.std.specs.List.{flat_map}
use Rattle.session_server.proofs.one_site.told.Given as goal

abbrev pub invariant-loop-session : goal.invariant-loop-session
invariant-loop-session g l = record {
  receipts : l.receipts.items ≡ flat_map (λ e. e.receipts.items) (take l.session-index l.sessions.items);
  looks : l.seen.items ≡ flat_map (λ e. e.seen.items) (take l.session-index l.sessions.items);
}
