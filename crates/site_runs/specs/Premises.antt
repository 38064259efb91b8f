-- That premises of never oversold are needed: without one of them sums can fail. (Our own.)
use Rattle.std.specs.Prelude.{◌≡◌, ℕ, List, [], ◌++◌, slice_get, Some}
use Rattle.rights_lattice.specs.State.{AtOrBelow}
use Rattle.book_core.specs.declared.entry.Entry.{Entry}
use Rattle.book_core.specs.declared.entry.Entry.TheVariants.{Joined}
use Rattle.book_core.specs.BookView.{BookView}
use Rattle.book_core.specs.Books.{AreNotOversold}
use Rattle.book_core.specs.History.{state_of}
use Rattle.book_core.specs.Legal.{IsLegal}
use Rattle.site_exchange.specs.declared.message.Message.{Message}
use Rattle.site_desk.specs.Calls.{Keeping, TakeCall}
use Rattle.site_desk.specs.SiteView.{SiteView}
use Rattle.world_steps.specs.Sites.{AreSites}
use Rattle.world_steps.specs.Entered.{AreAdded, AreEmpty}
use Rattle.site_runs.specs.Runs.{AreNew, Call, CallAt, Happens, NotOversold, Restarts, RunsBy, Sites, Starts, Takes}

-- a keeper of which nothing is known
abbrev pub no_store : Keeping (Unit {0})
no_store = record { failed = λ _. 0; is_trusted = λ _. ⊥; kept = λ _. []; may_leave = λ _ _. ⊥; is_of = λ _ _. ⊥ }

-- what a call makes of a site, where the messages that it takes need have been given by no site
abbrev pub HappensForged : {K : Type 0} → Keeping K → List Message → SiteView K → Call → SiteView K → Type 0
HappensForged k given old (Takes message answer) new = TakeCall k old new message answer
HappensForged k given old call new = Happens k given old call new

-- Some run with a forged message oversells.
abbrev pub ForgedMessagesOversell : Type 0
ForgedMessagesOversell =
    ((calls : List (CallAt (Unit {0}))) (begin end : Sites (Unit {0})) → AreNew no_store begin → RunsBy (HappensForged no_store) calls begin end
    → NotOversold end) → ⊥

-- what a call makes of a site, where a start may go on from an older copy of its records
abbrev pub HappensOfCopies : {K : Type 0} → Keeping K → List Message → SiteView K → Call → SiteView K → Type 0
HappensOfCopies k given old Restarts new = (older : List Entry) × (newer : List Entry) × (old.book.history ≡ older ++ newer) × Starts k old new older
HappensOfCopies k given old call new = Happens k given old call new

-- Some run that goes on from an older copy of a site, beside what the newer one gave, oversells.
abbrev pub TwoCopiesOversell : Type 0
TwoCopiesOversell =
    ((calls : List (CallAt (Unit {0}))) (begin end : Sites (Unit {0})) → AreNew no_store begin → RunsBy (HappensOfCopies no_store) calls begin end
    → NotOversold end) → ⊥

-- Legal histories whose deltas may be added as `May` says are never oversold.
abbrev pub NeverOversellIf : (List BookView → Entry → Type 0) → Type 0
NeverOversellIf May = (entries : List (ℕ × Entry)) (begin end : List BookView) → AreEmpty begin → AreAdded May entries begin end → AreSites end
    → AreNotOversold end

-- Some legal histories oversell if a delta need be nothing that its sender had.
abbrev pub ForgedDeltasOversell : Type 0
ForgedDeltasOversell = NeverOversellIf (λ books entry. Unit {0}) → ⊥

-- a peer's delta is at or below what some legal history of that peer has, be it the one that it ends with or another
abbrev pub WasHeldOnce : List BookView → Entry → Type 0
WasHeldOnce books (Joined peer delta) =
    (sender copy : BookView) × (slice_get books peer ≡ Some sender) × (copy.office ≡ sender.office) × IsLegal copy.office copy.history
    × AtOrBelow delta (state_of copy.history)
WasHeldOnce books _ = Unit {0}

-- Some legal histories oversell if a delta may be of another history of its sender, as after a copy of its file went on beside it.
abbrev pub SecondHistoriesOversell : Type 0
SecondHistoriesOversell = NeverOversellIf WasHeldOnce → ⊥
