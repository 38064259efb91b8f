-- What contracts see of a keeper in memory. (Our own.)
use Rattle.std.specs.Prelude.{◌≡◌, ◌≤◌, ◌-◌, ◌++◌, ◌∷◌, [], ℕ, List, Option, Some, None, if◌then◌else◌, refl}
use Rattle.std.specs.Coded.{Coded, code_by, coded×, coded_ℕ, coded_list, coded_option}
use Rattle.book_core.specs.BookCode.{coded_entry}
use Rattle.book_core.specs.declared.entry.Entry.{Entry}
use Rattle.history_keeper.specs.contracts.list_keeper.Failing as failing
use Rattle.history_keeper.specs.declared.list_keeper.Failing.{Failing}

pub record ListView : Type 0 where
  pub kept : List Entry
  pub failures : ℕ
  pub failing : Option Failing

abbrev pub coded_list_view : Coded ListView
coded_list_view =
    code_by ((List Entry × ℕ) × Option Failing) (coded× (coded× (coded_list coded_entry) coded_ℕ) (coded_option failing.the_row.coded))
    (λ l. ((l.kept, l.failures), l.failing)) (λ p. record { kept = p.0.0; failures = p.0.1; failing = p.1 }) (λ _. refl)

-- the next append is to fail
abbrev pub FailsNext : Option Failing → Type 0
FailsNext None = ⊥
FailsNext (Some failing) = failing.append ≤ 1

-- one append later
abbrev pub one_less : Option Failing → Option Failing
one_less None = None
one_less (Some failing) = Some (record failing { append = failing.append - 1 })

-- with these entries more, one append later
abbrev pub appended : ListView → List Entry → ListView
appended old entries = record old { kept = old.kept ++ entries; failing = one_less old.failing }

-- no append had failed, and these entries are kept too
abbrev pub AppendsAll : ListView → List Entry → ListView → Type 0
AppendsAll old entries new = (old.failures ≡ 0) × (new ≡ appended old entries)

-- what is kept once an append failed that was to fail: these entries too, where they are stored
abbrev pub left_by_all : Option Failing → List Entry → List Entry → List Entry
left_by_all None kept entries = kept
left_by_all (Some failing) kept entries = if failing.is_stored then kept ++ entries else kept

-- the same of one entry
abbrev pub left_by : Option Failing → List Entry → Entry → List Entry
left_by failing kept entry = left_by_all failing kept (entry ∷ [])
