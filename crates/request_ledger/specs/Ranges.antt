-- What each part of a request may be. (Our own.)
use Rattle.std.specs.Prelude.{ℕ, Option, Some, None}
use Rattle.rights_lattice.specs.EventName.{IsEventName}
use Rattle.rights_lattice.specs.Cells.{IsValue}
use Rattle.rights_lattice.specs.Limits.{IsSite}
use Rattle.request_ledger.specs.declared.request.Request.{Request}
use Rattle.request_ledger.specs.declared.request.Request.TheVariants.{Announce, Release, Sell, Refund, Cede}

-- a part of a sale, where one is given
abbrev pub IsPart : Option ℕ → Type 0
IsPart None = Unit {0}
IsPart (Some n) = IsValue n

abbrev pub IsRequest : Request → Type 0
IsRequest (Announce e) = IsEventName e
IsRequest (Release e a) = IsEventName e × IsValue a
IsRequest (Sell e a) = IsEventName e × IsValue a
IsRequest (Refund s part) = IsValue s × IsPart part
IsRequest (Cede e to a) = IsEventName e × IsValue a × IsSite to
