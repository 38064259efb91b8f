-- What contracts see of a site's book over its keeper. (Our own.)
use Rattle.std.specs.Prelude.{◌≡◌, ℕ, ◌≤◌, Bool, true, false, List, length, get_or, Option, refl}
use Rattle.std.specs.Coded.{Coded, code_by, coded×, coded_ℕ, coded_bool, coded_list}
use Rattle.request_ledger.specs.declared.request.Request.{Request}
use Rattle.book_core.specs.declared.entry.Entry.{Entry}
use Rattle.book_core.specs.BookCode.{coded_book}
use Rattle.book_core.specs.BookView.{BookView}
use Rattle.book_core.specs.Decision.{Decision, decision, entry_of_ask}
use Rattle.book_core.specs.Growing.{GrowDecision, entry_of_grow, grow_decision}
use Rattle.book_core.specs.OwnRow.{HasOwnRights}
use Rattle.site_exchange.specs.declared.message.Message.{Message}
use Rattle.site_exchange.specs.Exchange.{SitePart, Verdict, verdict}
use Rattle.history_keeper.specs.declared.keeper.Keeper.{Ghosts}
use Rattle.history_keeper.specs.Keeping.{LeavesOnly}

-- the book, what each peer has acknowledged of it, its keeper, and whether it takes nothing more
pub record SiteView (K : Type 0) : Type 0 where
  pub book : BookView
  pub acked : List ℕ
  pub keeper : K
  pub closed : Bool

abbrev pub coded_view : {K : Type 0} → Coded K → Coded (SiteView K)
coded_view {K} keeper =
    code_by ((BookView × List ℕ) × (K × Bool)) (coded× (coded× coded_book (coded_list coded_ℕ)) (coded× keeper coded_bool))
    (λ s. ((s.book, s.acked), (s.keeper, s.closed))) (λ p. record { book = p.0.0; acked = p.0.1; keeper = p.1.0; closed = p.1.1 }) (λ _. refl)

-- an open book's keeper has not failed and, where it is trusted, keeps the history, which is what a stop leaves; a closed one's
-- has failed once; closed or not, no peer has acknowledged more than there is, and own rights are not negative
pub record IsInStep (closed : Bool) (failed : ℕ) (is_trusted : Type 0) (kept : List Entry) (may_leave : Option (List Entry) → Type 0) (acked : List ℕ)
    (book : BookView) : Type 0 where
  pub sound : closed ≡ false → failed ≡ 0
  pub broken : closed ≡ true → failed ≡ 1
  pub same : closed ≡ false → is_trusted → book.history ≡ kept
  pub rests : closed ≡ false → is_trusted → LeavesOnly book.history may_leave
  pub acknowledged : (peer : ℕ) → get_or acked peer 0 ≤ length book.history
  pub has_rights : HasOwnRights book

-- the same of a site, by what its keeper says of itself
abbrev pub SiteInStep : {K : Type 0} → Ghosts K → SiteView K → Type 0
SiteInStep k s = IsInStep s.closed (k.failed s.keeper) (k.is_trusted s.keeper) (k.kept s.keeper) (k.may_leave s.keeper) s.acked s.book

-- the history, and what each peer has acknowledged of it
abbrev pub site_of : {K : Type 0} → SiteView K → SitePart
site_of s = record { history = s.book.history; acked = s.acked }

-- what the book decides on a request, and the entry that the request adds, if any
abbrev pub decision_in : BookView → ℕ → Request → Decision
decision_in book number request = decision book.office book.history number request

abbrev pub entry_in : BookView → ℕ → Request → Option Entry
entry_in book number request = entry_of_ask book.office book.history number request

-- what it does with a count of sites, and the entry that growing adds, if any
abbrev pub grow_decision_in : BookView → ℕ → GrowDecision
grow_decision_in book sites = grow_decision book.office book.history sites

abbrev pub growth_in : BookView → ℕ → Option Entry
growth_in book sites = entry_of_grow book.office book.history sites

-- what the book does with a message
abbrev pub verdict_in : BookView → Message → Verdict
verdict_in book message = verdict book.office book.history message
