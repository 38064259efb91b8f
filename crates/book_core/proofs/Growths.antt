-- The decision on a count of sites, from its tests, and the entry that growing adds.
use Rattle.std.proofs.Common.{◌≡◌, ℕ, ◌≤◌, ◌<◌, Bool, true, false, cond, List, length, Some, None, refl, ap, ◌∙◌, subst, leb-true, leb-false}
use Rattle.std.specs.Prelude.{nat_le}
use Rattle.std.proofs.lemmas.Bool.{lt-leb}
use Rattle.rights_lattice.specs.Limits.{most_sites}
use Rattle.rights_lattice.proofs.CellLaws.{value_at-all_zero}
use Rattle.book_core.specs.declared.entry.Entry.{Entry}
use Rattle.book_core.specs.declared.entry.Entry.TheVariants.{Grown}
use Rattle.book_core.specs.Decision.{SiteConfig, sites_of}
use Rattle.book_core.specs.Growing.{GrowDecision, Grows, NotMore, Full, grow_decision, grown_if, entry_of_grow}
use Rattle.book_core.specs.Legal.{IsNextGrown}
use Rattle.book_core.proofs.Next.{IsOwnNext}

by_room : (office : SiteConfig) (h : List Entry) (sites : ℕ) → sites_of office h < sites
    → grow_decision office h sites ≡ cond (nat_le office.limit (length h)) Full Grows
by_room office h sites more = ap (λ b. cond b NotMore (cond (nat_le office.limit (length h)) Full Grows)) (lt-leb sites (sites_of office h) more)

pub full : (office : SiteConfig) (h : List Entry) (sites : ℕ) → sites_of office h < sites → nat_le office.limit (length h) ≡ true
    → grow_decision office h sites ≡ Full
full office h sites more is = by_room office h sites more ∙ ap (λ b. cond b Full Grows) is

pub grows : (office : SiteConfig) (h : List Entry) (sites : ℕ) → sites_of office h < sites → nat_le office.limit (length h) ≡ false
    → grow_decision office h sites ≡ Grows
grows office h sites more room = by_room office h sites more ∙ ap (λ b. cond b Full Grows) room

-- a growth passed each test
pub grow_next : (office : SiteConfig) (h : List Entry) (sites : ℕ) → grow_decision office h sites ≡ Grows → sites ≤ most_sites → IsNextGrown office h sites
grow_next office h sites is few = by_tests (nat_le sites (sites_of office h)) (nat_le office.limit (length h)) refl refl is
  where
    by_tests : (a b : Bool) → nat_le sites (sites_of office h) ≡ a → nat_le office.limit (length h) ≡ b → cond a NotMore (cond b Full Grows) ≡ Grows
        → IsNextGrown office h sites
    by_tests true b p q e = cc
    by_tests false true p q e = cc
    by_tests false false p q e = record { room = leb-false office.limit (length h) q; more = leb-false sites (sites_of office h) p; few = few }

-- and so did the entry that growing adds, which adds no cell
pub grow_own_next : (office : SiteConfig) (h : List Entry) (sites : ℕ) (entry : Entry) → entry_of_grow office h sites ≡ Some entry → IsOwnNext office h entry
grow_own_next office h sites entry e = by_count (nat_le sites most_sites) refl e
  where
    by_decision : sites ≤ most_sites → (d : GrowDecision) → grow_decision office h sites ≡ d → grown_if d sites ≡ Some entry → IsOwnNext office h entry
    by_decision few Grows is found =
        let same : Grown sites ≡ entry = cc in
        subst (IsOwnNext office h) same (record { next = grow_next office h sites is few; own = λ event cell other. value_at-all_zero event cell })
    by_decision few NotMore is found = cc
    by_decision few Full is found = cc

    by_count : (b : Bool) → nat_le sites most_sites ≡ b → cond b (grown_if (grow_decision office h sites) sites) None ≡ Some entry → IsOwnNext office h entry
    by_count true few found = by_decision (leb-true sites most_sites few) (grow_decision office h sites) refl found
    by_count false few found = cc
