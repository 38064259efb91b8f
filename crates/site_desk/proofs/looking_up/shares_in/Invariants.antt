use Rattle.std.proofs.Common.{◌≡◌, map}
use Rattle.std.specs.List.{range_with_len}
use Rattle.book_core.specs.History.{state_of}
use Rattle.site_desk.specs.Shares.{share_of}
use Rattle.site_desk.proofs.looking_up.shares_in.Given as goal

abbrev pub invariant-sites : goal.invariant-sites
invariant-sites l = l.rows.items ≡ map (share_of (state_of l.book.history).cells l.event) (range_with_len 0 l.number)
