-- What an office does to spare its history. (Our own.)
use Rattle.std.specs.Prelude.{◌≡◌, ◌⊎◌, ℕ, Bool, true, false, List, [], ◌∷◌, ◌++◌, Some, None, codes, if◌then◌else◌, ◌==◌}
use Rattle.std.specs.Fmt.{decimal}
use Rattle.request_ledger.specs.declared.request.Request.{Request}
use Rattle.request_ledger.specs.declared.request.Request.TheVariants.{Refund, Cede}
use Rattle.site_desk.specs.Moments.{IsReserved, IsShortage}
use Rattle.live_office.specs.declared.sparing.Sparing.{Sparing}
use Rattle.live_office.specs.declared.sparing.Spared.{Spared}
use Rattle.live_office.specs.declared.sparing.Spared.TheVariants.{Low, Reserved}
use Rattle.live_office.specs.Admissible.{Admissible, SomeAdmissible}

-- what brings seats back or passes them on may use the entries that are kept
abbrev pub uses_reserve : Request → Bool
uses_reserve (Refund sale part) = true
uses_reserve (Cede event n to) = true
uses_reserve _ = false

-- why an office that spares its history so does not ask a request: some admissible book has no reply under its number, and less than
-- it asks for, or no entry that is free for it
abbrev pub IsSpared : {K : Type 0} → Admissible K → Sparing → ℕ → Request → Spared → Type 0
IsSpared d sparing number request (Low left) = (sparing.tells_low ≡ true) × SomeAdmissible d (IsShortage number request (Some left))
IsSpared d sparing number request Reserved = (uses_reserve request ≡ false) × SomeAdmissible d (IsReserved number sparing.reserve)

-- why it is asked: there is no reserve, or the request may use it, or some admissible book is closed, has a reply under its number or more
-- entries free; and where `low` is told, some admissible book would not refuse it for want of seats
pub record IsNotSpared {K : Type 0} (d : Admissible K) (sparing : Sparing) (number : ℕ) (request : Request) : Type 0 where
  pub free : (sparing.reserve ≡ 0) ⊎ ((uses_reserve request ≡ true) ⊎ SomeAdmissible d (λ site. ¬ IsReserved number sparing.reserve site))
  pub enough : (sparing.tells_low ≡ false) ⊎ SomeAdmissible d (IsShortage number request None)

-- the line that says so
abbrev pub spared_text : Spared → List ℕ
spared_text (Low left) = codes "low " ++ decimal left ++ 10 ∷ []
spared_text Reserved = codes "history-full" ++ 10 ∷ []

-- how many entries are kept, at the end of a status
abbrev pub reserve_text : ℕ → List ℕ
reserve_text reserve = if reserve == 0 then [] else codes " reserve " ++ decimal reserve
