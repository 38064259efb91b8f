-- The rows of shares, site by site, and the names of events, one by one.
use Rattle.std.proofs.Common.{◌≡◌, ◌∙◌, ap, ℕ, ◌+◌, List, [], ◌∷◌, ◌++◌, Some, map, take, arith}
use Rattle.std.specs.Prelude.{slice_get}
use Rattle.std.specs.List.{range_with_len}
use Rattle.std.proofs.lemmas.List.{take_more}
use Rattle.std.proofs.lemmas.List.FromFn.{map-range_with_len_more}
use Rattle.std.proofs.lemmas.Option.{get_or_from_slice_get, slice_get_within}
use Rattle.rights_lattice.specs.Cells.{Cells}
use Rattle.site_desk.specs.Shares.{share_of}

-- one site more
pub one_more : (X : Cells) (event : List ℕ) (n : ℕ) →
    map (share_of X event) (range_with_len 0 (n + 1)) ≡ map (share_of X event) (range_with_len 0 n) ++ share_of X event n ∷ []
one_more X event n = map-range_with_len_more (share_of X event) 0 n n (omega arith)

-- one name more
pub next_name : (names : List (List ℕ)) (k : ℕ) (name : List ℕ) → slice_get names k ≡ Some name →
    take (k + 1) names ≡ take k names ++ name ∷ []
next_name names k name found =
    take_more names k [] (slice_get_within names k name found)
    ∙ ap (λ (n : List ℕ). take k names ++ n ∷ []) (get_or_from_slice_get names k name [] found)
