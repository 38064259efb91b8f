-- What a session at a desk leaves. (Our own.)
use Rattle.std.specs.Prelude.{◌≡◌, ℕ, List, [], Option, Result, Err}
use Rattle.site_desk.specs.declared.answer.Seen.{Seen}
use Rattle.site_desk.specs.declared.receipt.Receipt.{Receipt}
use Rattle.site_desk.specs.Seats.{Held}
use Rattle.session_server.specs.declared.fault.Ended.{Ended}
use Rattle.session_server.specs.declared.fault.TalkFault.{TalkFault}
use Rattle.session_server.specs.declared.fault.TalkFault.TheVariants.{NotStarted}
use Rattle.session_server.specs.SeatStep.{SeatStep, seated}
use Rattle.session_server.specs.Session.{Talked}

-- A session that a seat answered, which had been given nothing before: what was read and written, and the receipts and looks that the steps added.
abbrev pub Served : Option (List ℕ) → Option (List ℕ) → Option (List ℕ) → Result Ended TalkFault → List Receipt → List Seen → Type 0
Served input old new result receipts looks =
    (opening : ℕ) × (first last : Held) × Talked (SeatStep opening) input old new (seated first [] []) (seated last receipts looks) result

-- no thread was started for it
abbrev pub IsNotStarted : Result Ended TalkFault → List Receipt → List Seen → Type 0
IsNotStarted result receipts looks = (result ≡ Err NotStarted) × (receipts ≡ []) × (looks ≡ [])
