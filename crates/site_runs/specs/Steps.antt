-- Runs of the books of sites are lists of steps. (Our own.)
use Rattle.std.specs.Prelude.{◌≡◌, ℕ, ◌≤◌, List, [], get_or, length, Some, slice_get}
use Rattle.rights_lattice.specs.Sums.{max_sites}
use Rattle.book_core.specs.History.{state_of}
use Rattle.site_desk.specs.SiteView.{SiteView, site_of}
use Rattle.world_steps.specs.declared.step.Step.{Step}
use Rattle.world_steps.specs.World as world
use Rattle.world_steps.specs.World.{World, begun, history_at, office_at, run, site_numbered}
use Rattle.world_steps.specs.Promises.{HoldsPromises}
use Rattle.site_desk.specs.Calls.{Keeping}
use Rattle.site_runs.specs.Runs.{AreNew, CallAt, Runs, Sites}

-- the world has the histories, the acknowledged numbers, the limits, the counts and the messages of the sites, and no other history
pub record Shows {K : Type 0} (w : World) (s : Sites K) : Type 0 where
  pub few : length s.books ≤ max_sites
  pub count : world.count w ≡ max_sites
  pub site : (i : ℕ) (site : SiteView K) → slice_get s.books i ≡ Some site → site_numbered w i ≡ site_of site
  pub office : (i : ℕ) (site : SiteView K) → slice_get s.books i ≡ Some site → office_at w i ≡ site.book.office
  pub others : (i : ℕ) → length s.books ≤ i → history_at w i ≡ []
  pub sent : w.sent ≡ s.given

-- some steps of sites that are begun lead to a world that shows these sites
pub record AreSteps {K : Type 0} (s : Sites K) : Type 0 where
  pub limits : List ℕ
  pub counts : List ℕ
  pub are : world.AreBegun limits counts
  pub few : length limits ≤ max_sites
  pub steps : List Step
  pub shows : Shows (run steps (begun limits counts)) s

-- Each run is a list of steps.
abbrev pub RunsAreSteps : {K : Type 0} → Keeping K → Type 0
RunsAreSteps {K} k = (calls : List (CallAt K)) (begin end : Sites K) → AreNew k begin → Runs k calls begin end → AreSteps end

-- So each promise holds of a world that shows the sites at the end of each run.
abbrev pub RunsKeepPromises : {K : Type 0} → Keeping K → Type 0
RunsKeepPromises {K} k = (calls : List (CallAt K)) (begin end : Sites K) → AreNew k begin → Runs k calls begin end → (w : World) × Shows w end × HoldsPromises w

-- Two sites that each count all of the other's history as acknowledged know the same.
abbrev pub BooksAgreeOnceAcknowledged : {K : Type 0} → Keeping K → Type 0
BooksAgreeOnceAcknowledged {K} k =
    (calls : List (CallAt K)) (begin end : Sites K) → AreNew k begin → Runs k calls begin end
    → (i j : ℕ) (a b : SiteView K) → slice_get end.books i ≡ Some a → slice_get end.books j ≡ Some b
    → get_or a.acked j 0 ≡ length a.book.history → get_or b.acked i 0 ≡ length b.book.history → state_of a.book.history ≡ state_of b.book.history
