use Rattle.live_office.proofs.Rows.{Row}
use Rattle.live_office.proofs.ahead.requests_in.Given as goal

abbrev pub invariant-lines : goal.invariant-lines
invariant-lines l = Row l.fn.bytes l.rest l.row.requests.items
