-- A run goes on.
use Rattle.std.proofs.Common.{◌≡◌, ℕ, List, [], ◌∷◌, ◌++◌, Some, refl, sym, subst}
use Rattle.std.specs.Prelude.{slice_get, Result}
use Rattle.site_exchange.specs.declared.message.Message.{Message}
use Rattle.site_exchange.specs.declared.message.TakeFault.{TakeFault}
use Rattle.site_desk.specs.declared.answer.Taken.{Taken}
use Rattle.site_desk.specs.SiteView.{SiteView}
use Rattle.site_desk.specs.Calls.{Keeping, TakeCall}
use Rattle.site_runs.specs.Runs.{CallAt, Sites, Happens, Runs, IsOneOf, IsRun, Moves, Takes, NotOversold, moved, Call}
use Rattle.site_runs.proofs.Sums.{books_never_oversold}

runs_push : {K : Type 0} (k : Keeping K) (calls : List (CallAt K)) (begin s : Sites K) (e : CallAt K) (old : SiteView K) → Runs k calls begin s
    → slice_get s.books e.site ≡ Some old → Happens k s.given old e.call e.after
    → Runs k (calls ++ e ∷ []) begin (moved s e)
runs_push k [] begin s e old runs found h = subst (λ b. Runs k (e ∷ []) b (moved s e)) runs (old, found, h, refl)
runs_push k (x ∷ calls) begin s e old runs found h = (runs.0, runs.1, runs.2, runs_push k calls (moved begin x) s e old runs.3 found h)

pub goes_on : {K : Type 0} (k : Keeping K) (s : Sites K) (i : ℕ) (old : SiteView K) (call : Call) (new : SiteView K) → IsRun k s
    → slice_get s.books i ≡ Some old → Happens k s.given old call new
    → IsRun k (moved s (record { site = i; call = call; after = new }))
goes_on k s i old call new run found h = (
  run.0,
  run.1,
  run.2 ++ record { site = i; call = call; after = new } ∷ [],
  runs_push k run.2 run.0 s (record { site = i; call = call; after = new })
      old run.3 found h,
)

-- a message given, taken once more
pub takes_on : {K : Type 0} (k : Keeping K) (s : Sites K) (i : ℕ) (old new : SiteView K) (message : Message) (answer : Result Taken TakeFault) → IsRun k s
    → slice_get s.books i ≡ Some old → IsOneOf s.given message
    → TakeCall k old new message answer → IsRun k (moved s (record { site = i; call = Takes message answer; after = new }))
takes_on k s i old new message answer run found one took = goes_on k s i old (Takes message answer) new run found ((λ _. one), took)

pub run_not_oversold : {K : Type 0} (k : Keeping K) (s : Sites K) → IsRun k s → NotOversold s
run_not_oversold k s run = books_never_oversold k run.2 run.0 s run.1 run.3

-- a call at one of the sites of a run is one more of the run
pub moves_on : {K : Type 0} (k : Keeping K) (s : Sites K) (i : ℕ) (call : Call) (now : Sites K) → IsRun k s → Moves k s i call now → IsRun k now
moves_on k s i call now run m = subst (IsRun k) (sym m.4) (goes_on k s i m.0 call m.1 run m.2 m.3)
