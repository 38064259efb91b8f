-- Which books may stand at a desk, and what it may tell of them. (Our own.)
use Rattle.std.specs.Prelude.{◌≡◌, ℕ, true, List, Option}
use Rattle.book_core.specs.declared.entry.Entry.{Entry}
use Rattle.book_core.specs.Decision.{SiteConfig}
use Rattle.history_keeper.specs.declared.keeper.Keeper.{Ghosts}
use Rattle.site_desk.specs.Moments.{AtOneMoment}
use Rattle.site_desk.specs.SiteView.{SiteInStep, SiteView}
use Rattle.session_server.specs.SeatStep.{Telling, told_at}

-- a desk's site and initial history, which books agree with their store, and how often a store failed
pub record Admissible (K : Type 0) : Type 1 where
  pub office : SiteConfig
  pub began : List Entry
  pub in_step : SiteView K → Type 0
  pub failed : K → ℕ

abbrev pub admissible : {K : Type 0} → SiteConfig → List Entry → Ghosts K → Admissible K
admissible office began k = record { office = office; began = began; in_step = SiteInStep k; failed = k.failed }

-- it holds of some book that may stand at the desk
abbrev pub SomeAdmissible : {K : Type 0} → Admissible K → (SiteView K → Type 0) → Type 0
SomeAdmissible d Holds = AtOneMoment d.office d.began d.in_step Holds

-- some book that may stand at the desk is closed, as after its store failed
abbrev pub IsShut : {K : Type 0} → Admissible K → Type 0
IsShut {K} d = SomeAdmissible d (λ (s : SiteView K). s.closed ≡ true)

-- what the desk may tell a session
abbrev pub telling : {K : Type 0} → Admissible K → Telling
telling d = told_at d.office d.began d.failed d.in_step
