-- A history: its state and its intervals (RR-7506, JPDC 2018), what it keeps under each number, the count of sites, and
-- its names (our own).
use Rattle.std.specs.Prelude.{ℕ, ◌+◌, ◌-◌, Option, List, [], ◌∷◌, take, drop}
use Rattle.std.specs.List.{fold}
use Rattle.rights_lattice.specs.State.{State, bottom, join, names_in_order}
use Rattle.request_ledger.specs.declared.reply.Kept.{Kept}
use Rattle.request_ledger.specs.declared.reply.SaleState.{SaleState}
use Rattle.request_ledger.specs.Ledger.{KeptByNumber, kept_under, sale_under}
use Rattle.event_catalogue.specs.Catalogue.{with_new}
use Rattle.book_core.specs.declared.entry.Entry.{Entry}
use Rattle.book_core.specs.declared.entry.Entry.TheVariants.{Asked, Joined, Grown}

-- the delta of an entry
abbrev pub delta_of : Entry → State
delta_of (Asked number request reply delta) = delta
delta_of (Joined peer delta) = delta
delta_of (Grown sites) = bottom

-- the join of the deltas
abbrev pub state_of : List Entry → State
state_of [] = bottom
state_of (entry ∷ entries) = join (delta_of entry) (state_of entries)

-- the join of the deltas of the entries a up to but not b
abbrev pub interval : List Entry → ℕ → ℕ → State
interval h a b = state_of (take (b - a) (drop a h))

-- what the asked entries keep, where they stand from this place on
abbrev pub asked_from : ℕ → List Entry → KeptByNumber
asked_from place [] = []
asked_from place (Asked number request reply delta ∷ entries) =
    (number, record { place = place; request = request; reply = reply }) ∷ asked_from (place + 1) entries
asked_from place (Joined peer delta ∷ entries) = asked_from (place + 1) entries
asked_from place (Grown sites ∷ entries) = asked_from (place + 1) entries

abbrev pub asked : List Entry → KeptByNumber
asked h = asked_from 0 h

-- the kept place, request and reply of a number
abbrev pub kept : List Entry → ℕ → Option Kept
kept h number = kept_under (asked h) number

-- the sale under a number that was done
abbrev pub sale_of : List Entry → ℕ → Option SaleState
sale_of h number = sale_under (asked h) number

-- the count of sites after an entry
abbrev pub sites_after : ℕ → Entry → ℕ
sites_after before (Asked number request reply delta) = before
sites_after before (Joined peer delta) = before
sites_after before (Grown sites) = sites

-- the names of a history, by first appearance
abbrev pub names_known : List Entry → List (List ℕ)
names_known h = fold (λ known entry. with_new known (names_in_order (delta_of entry).names)) [] h
