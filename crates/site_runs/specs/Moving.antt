-- What a call of books at their places makes of them. (Our own.)
use Rattle.std.specs.Prelude.{◌≡◌, ◌⊎◌, ℕ, ◌≤◌, Bool, true, false, List, [], ◌∷◌, ◌++◌, length, slice_get, Option, Some, None, Result, Ok, Err}
use Rattle.site_exchange.specs.declared.message.Message.{Message}
use Rattle.site_exchange.specs.declared.message.TakeFault.{TakeFault}
use Rattle.site_exchange.specs.declared.message.TakeFault.TheVariants as take
use Rattle.site_desk.specs.declared.answer.Taken.{Taken}
use Rattle.site_desk.specs.declared.fault.NextFault.{NextFault}
use Rattle.site_desk.specs.declared.fault.NextFault.TheVariants as next
use Rattle.site_desk.specs.Calls.{Keeping}
use Rattle.site_desk.specs.SiteView.{SiteView}
use Rattle.book_core.specs.declared.entry.Entry.{Entry}
use Rattle.history_keeper.specs.declared.meta.Meta.{Meta}
use Rattle.history_keeper.specs.Meta.{office_of}
use Rattle.site_desk.specs.Storing.{IsStarted}
use Rattle.book_core.specs.declared.plan.ReplayFault.{ReplayFault}
use Rattle.site_runs.specs.Runs.{Call, Gives, Happens, Moves, Restarts, Sites, Takes}

-- there is no such site, and nothing changed
abbrev pub IsNoSite : {K : Type 0} → Sites K → ℕ → Sites K → Type 0
IsNoSite old site now = (length old.books ≤ site) × (now ≡ old)

-- A new site was started at the next place, over this keeper; or its count leaves it out, or it could not be, and nothing changed.
abbrev pub Added : {K : Type 0} → Keeping K → Sites K → K → ℕ → ℕ → Option (Result (Unit {0}) ReplayFault) → Sites K → Type 0
Added k old keeper sites limit None now = (sites ≤ length old.books) × (now ≡ old)
Added {K} k old keeper sites limit (Some (Ok done)) now =
    (site : SiteView K) × IsStarted k keeper [] (record { me = length old.books; sites = sites; limit = limit }) site
    × (now ≡ record { books = old.books ++ site ∷ []; given = old.given })
Added k old keeper sites limit (Some (Err fault)) now = now ≡ old

-- the site was called, and answered so
abbrev pub Called : {K R : Type 0} → Keeping K → Sites K → ℕ → (R → Call) → Option R → Sites K → Type 0
Called k old site call None now = IsNoSite old site now
Called k old site call (Some answer) now = Moves k old site (call answer) now

abbrev pub was_given : Result (Option Message) NextFault → Result Bool NextFault
was_given (Ok (Some message)) = Ok true
was_given (Ok None) = Ok false
was_given (Err fault) = Err fault

-- the site gave what was due to the other, and it is told whether anything was; or there was no memory for it in the list, and nothing changed
abbrev pub Gave : {K : Type 0} → Keeping K → Sites K → ℕ → ℕ → Option (Result Bool NextFault) → Sites K → Type 0
Gave k old site to None now = IsNoSite old site now
Gave k old site to (Some told) now =
    ((told ≡ Err next.Memory) × (now ≡ old))
    ⊎ ((answer : Result (Option Message) NextFault) × (told ≡ was_given answer) × Moves k old site (Gives to answer) now)

abbrev pub was_taken : Result Taken TakeFault → Result (Unit {0}) TakeFault
was_taken (Ok taken) = Ok tt
was_taken (Err fault) = Err fault

-- the site took the message at this place among those given; or there was no memory for its copy or in the list, and nothing changed
abbrev pub Took : {K : Type 0} → Keeping K → Sites K → ℕ → ℕ → Option (Result (Unit {0}) TakeFault) → Sites K → Type 0
Took k old site index None now = ((length old.books ≤ site) ⊎ (length old.given ≤ index)) × (now ≡ old)
Took k old site index (Some told) now =
    ((told ≡ Err take.Memory) × (now ≡ old))
    ⊎ ((message : Message) × (slice_get old.given index ≡ Some message) × (answer : Result Taken TakeFault) × (told ≡ was_taken answer)
    × Moves k old site (Takes message answer) now)

-- a crash of this site, between its calls, may leave these entries
abbrev pub MayLeave : {K : Type 0} → Keeping K → SiteView K → List Entry → Meta → Type 0
MayLeave k old entries meta = k.is_trusted old.keeper × k.may_leave old.keeper (Some entries) × (old.book.office ≡ office_of meta)

-- the site is a start of each one that may have left these entries
abbrev pub IsRestart : {K : Type 0} → Keeping K → List Entry → Meta → SiteView K → Type 0
IsRestart {K} k entries meta new = (given : List Message) (old : SiteView K) → MayLeave k old entries meta → Happens k given old Restarts new

-- the site was started again, or could not be and is as it was
abbrev pub StartedAgain : {K : Type 0} → Keeping K → Sites K → ℕ → Option (Result (Unit {0}) ReplayFault) → Sites K → Type 0
StartedAgain k old site None now = IsNoSite old site now
StartedAgain k old site (Some (Ok done)) now = Moves k old site Restarts now
StartedAgain k old site (Some (Err fault)) now = now ≡ old
