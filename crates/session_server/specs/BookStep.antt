-- How the book of a site answers the lines of a session. (Our own.)
use Rattle.std.specs.Prelude.{◌≡◌, ℕ, Bool, if◌then◌else◌, List, Result, Ok, Err}
use Rattle.rights_lattice.specs.State.{knows}
use Rattle.local_rights.specs.OpenSeats.{view_in}
use Rattle.book_core.specs.BookView.{BookView}
use Rattle.book_core.specs.Decision.{own_left}
use Rattle.book_core.specs.History.{state_of}
use Rattle.request_ledger.specs.declared.request.Request.{Request}
use Rattle.history_keeper.specs.Keeping.{LeavesEither}
use Rattle.site_desk.specs.declared.answer.Answer.{Answer}
use Rattle.site_desk.specs.declared.fault.AskFault.{AskFault}
use Rattle.site_desk.specs.declared.fault.AskFault.TheVariants as ask
use Rattle.site_desk.specs.declared.fault.LookFault.{LookFault}
use Rattle.site_desk.specs.declared.fault.LookFault.TheVariants as look
use Rattle.site_desk.specs.Calls.{AskCall, Keeping}
use Rattle.site_desk.specs.SiteView.{SiteView, entry_in}
use Rattle.desk_lines.specs.declared.line.Line.{Line}
use Rattle.desk_lines.specs.declared.line.Line.TheVariants.{Ask, Left, Totals as TotalsOf, Quit}
use Rattle.desk_lines.specs.declared.answered.Answered.{Answered}
use Rattle.desk_lines.specs.declared.answered.Answered.TheVariants.{Kept, LeftIs, TotalsAre, NotKnown, Refused}

-- what is answered where a request came to this
abbrev pub answered_of : Result Answer AskFault → Answered
answered_of (Ok answer) = Kept answer.reply
answered_of (Err fault) = Refused fault

-- A stop leaves the history of a book that this request closed, with the request's entry at the end or without, as far as its keeper is to be trusted.
abbrev pub IsLeftAt : {K : Type 0} → Keeping K → SiteView K → ℕ → Request → Type 0
IsLeftAt k s number request = k.is_trusted s.keeper → LeavesEither s.book.history (entry_in s.book number request) (k.may_leave s.keeper)

-- a request was asked once, and this is the answer to it
abbrev pub AnswersAsk : {K : Type 0} → Keeping K → SiteView K → SiteView K → ℕ → Request → Answered → Type 0
AnswersAsk k old new number request answered = (result : Result Answer AskFault) × AskCall k old new number request result × (answered ≡ answered_of result)

-- what is answered where nothing is shown
abbrev pub not_shown : LookFault → Answered
not_shown look.Closed = Refused ask.Closed
not_shown look.Unknown = NotKnown

-- the answer to a look at an event, where this is what the history shows of it
abbrev pub look_answer : Bool → BookView → List ℕ → Answered → Answered
look_answer closed book event shown = if closed then Refused ask.Closed else if knows (state_of book.history).names event then shown else NotKnown

abbrev pub shown_left : BookView → List ℕ → Answered
shown_left book event = LeftIs (own_left book.office book.history event)

abbrev pub shown_totals : BookView → List ℕ → Answered
shown_totals book event = TotalsAre (view_in (state_of book.history).cells event)

-- A step of a book: the answer to what a line asks, and the site behind it. The last line asks nothing.
abbrev pub BookStep : {K : Type 0} → Keeping K → SiteView K → Line → Answered → SiteView K → Type 0
BookStep k old (Ask number request) answered new = AnswersAsk k old new number request answered
BookStep k old (Left event) answered new = (new ≡ old) × (answered ≡ look_answer old.closed old.book event (shown_left old.book event))
BookStep k old (TotalsOf event) answered new = (new ≡ old) × (answered ≡ look_answer old.closed old.book event (shown_totals old.book event))
BookStep k old Quit answered new = (new ≡ old) × (answered ≡ NotKnown)
