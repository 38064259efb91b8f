-- What requests and replies are. (Our own.)
use Rattle.std.specs.Prelude.{Bool, true, false, ◌&&◌, ◌==◌, nat_eq}
use Rattle.std.specs.Option.{option_eq}
use Rattle.rights_lattice.specs.Cell.{same_event}
use Rattle.request_ledger.specs.declared.request.Request.{Request}
use Rattle.request_ledger.specs.declared.request.Request.TheVariants.{Announce, Release, Sell, Refund, Cede}
use Rattle.request_ledger.specs.declared.reply.Reply.{Reply}
use Rattle.request_ledger.specs.declared.reply.Reply.TheVariants.{Done}

abbrev pub is_done : Reply → Bool
is_done Done = true
is_done _ = false

-- whether two requests are the same
abbrev pub same_request : Request → Request → Bool
same_request (Announce e) (Announce f) = same_event e f
same_request (Release e n) (Release f m) = same_event e f && (n == m)
same_request (Sell e n) (Sell f m) = same_event e f && (n == m)
same_request (Refund s p) (Refund t q) = (s == t) && option_eq nat_eq p q
same_request (Cede e i n) (Cede f j m) = same_event e f && (i == j) && (n == m)
same_request _ _ = false
