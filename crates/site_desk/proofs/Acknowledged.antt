-- What peers have acknowledged.
use Rattle.std.proofs.Common.{◌≡◌, ℕ, ◌≤◌, zero, suc, max, List, [], ◌∷◌, Option, Some, None, length, get_or, set, ap, arith, length-append}
use Rattle.std.specs.Prelude.{Result, Ok, Err, OnOk, OnErr}
use Rattle.rights_lattice.specs.Sums.{max_sites}
use Rattle.book_core.specs.declared.entry.Entry.{Entry}
use Rattle.site_exchange.specs.Exchange.{zeros}
use Rattle.site_exchange.specs.Taking.{extended}
use Rattle.site_desk.proofs.EventTables.{none_at}

-- at first no peer has acknowledged anything
pub none_acknowledged : (peer len : ℕ) → get_or zeros peer 0 ≤ len
none_acknowledged peer len = omega (arith, none_at max_sites peer)

-- and never more than there is
pub raised_within : (acked : List ℕ) (by n len : ℕ) → ((peer : ℕ) → get_or acked peer 0 ≤ len) → n ≤ len → (peer : ℕ)
    → get_or (set acked by (max (get_or acked by 0) n)) peer 0 ≤ len
raised_within [] by n len within le peer = omega arith
raised_within (x ∷ xs) zero n len within le zero = let first : x ≤ len = within 0 in omega (arith, first, le)
raised_within (x ∷ xs) zero n len within le (suc peer) = within (suc peer)
raised_within (x ∷ xs) (suc by) n len within le zero = within 0
raised_within (x ∷ xs) (suc by) n len within le (suc peer) = raised_within xs by n len (λ p. within (suc p)) le peer

grown_by : (entry : Option Entry) (h : List Entry) → length h ≤ length (extended entry h)
grown_by None h = omega arith
grown_by (Some entry) h = omega (arith, length-append h (entry ∷ []))

-- a history that an input was entered in, or that stayed as it was, is as long as before or longer
pub no_shorter : {A F : Type 0} (came : Result A F) (entry : Option Entry) (old new : List Entry) → OnOk came (new ≡ extended entry old)
    → OnErr came (new ≡ old) → length old ≤ length new
no_shorter (Ok a) entry old new entered same = omega (arith, grown_by entry old, ap length entered)
no_shorter (Err f) entry old new entered same = omega (arith, ap length same)
