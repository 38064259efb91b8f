-- The shares of all sites add up to the open seats.
use Rattle.std.proofs.Common.{◌≡◌, ℕ, zero, suc, ◌+◌, ◌-◌, ◌<◌, ◌≤◌, Bool, true, false, cond, List, [], ◌∷◌, map, get_or, slice_get, Some, None, refl, sym, ap, subst, ◌∙◌, arith}
use Rattle.std.specs.Prelude.{nat_le, sum}
use Rattle.std.specs.List.{AllByRecursion, range_with_len}
use Rattle.std.proofs.lemmas.Bool.Decides.{nat_tests}
use Rattle.std.proofs.lemmas.List.FromFn.{get_or-map-range_with_len, get_or-range_with_len, length-map-range_with_len, length-range_with_len, sum_by-map-range_with_len_more}
use Rattle.std.proofs.lemmas.List.Elements.{recursion_from_All, All-from_recursion}
use Rattle.std.proofs.lemmas.Option.{same_Some, slice_get_read}
use Rattle.rights_lattice.specs.declared.cell.Cell.TheVariants.{Gave, Used, Back}
use Rattle.rights_lattice.specs.Cells.{Cells, value_at}
use Rattle.rights_lattice.specs.RightsView.{IsWithin}
use Rattle.rights_lattice.specs.Sums.{max_sites, sum_below}
use Rattle.local_rights.specs.Rights.{HasRights, IsPosition, ceded_in, gained, left_of, refunded_in, released_in, sold_in, spent}
use Rattle.local_rights.specs.OpenSeats.{is_position, open_seats_in}
use Rattle.local_rights.specs.Shares.{share_in}
use Rattle.local_rights.proofs.PositionLaws.{holds, open_at, position_of_test}
use Rattle.local_rights.proofs.Sums.{sum_below-add, sum_below_same, sum_below_swap}
use Rattle.local_rights.proofs.Within.{given_by, got_by, position_below, refunded_by, released_by, sold_by}
use Rattle.book_core.specs.Decision.{sites_of}
use Rattle.book_core.specs.History.{state_of}
use Rattle.book_core.proofs.Histories.{legal_sites}
use Rattle.book_core.proofs.Rows.{legal_rights}
use Rattle.site_desk.specs.declared.answer.SiteShare.{SiteShare}
use Rattle.site_desk.specs.Shares.{share_of, shares_in}
use Rattle.world_steps.proofs.Seats.{legal_within}
use Rattle.site_runs.specs.Shares.{AddUpTo, OwnShareIsLeft, SharesAddUp}

tested : (a b : ℕ) → nat_le a b ≡ true → a ≤ b
tested a b h = grind (arith, nat_tests)

some_apart : (xs ys : List ℕ) → map Some xs ≡ map Some ys → xs ≡ ys
some_apart [] [] h = refl
some_apart [] (y ∷ ys) h = absurd cc
some_apart (x ∷ xs) [] h = absurd cc
some_apart (x ∷ xs) (y ∷ ys) h =
    let first : x ≡ y = cc in
    let others : map Some xs ≡ map Some ys = cc in
    ap (λ z. z ∷ xs) first ∙ ap (λ zs. y ∷ zs) (some_apart xs ys others)

-- ---- the numbers below n, one by one and as a list

each_listed : (n : ℕ) (P : ℕ → Type 0) → ((i : ℕ) → i < n → P i) → AllByRecursion P (range_with_len 0 n)
each_listed n P each = recursion_from_All P (range_with_len 0 n) (λ i d low.
    let l : i < n = omega (arith, low, length-range_with_len 0 n) in
    let is : get_or (range_with_len 0 n) i d ≡ i = omega (arith, get_or-range_with_len 0 n i d l) in
    subst P (sym is) (each i l))

each_of_list : (n : ℕ) (P : ℕ → Type 0) → AllByRecursion P (range_with_len 0 n) → (i : ℕ) → i < n → P i
each_of_list n P all i l =
    let is : get_or (range_with_len 0 n) i 0 ≡ i = omega (arith, get_or-range_with_len 0 n i 0 l) in
    subst P is (All-from_recursion P (range_with_len 0 n) all i 0 (omega (arith, l, length-range_with_len 0 n)))

sum_of_list : (n : ℕ) (f : ℕ → ℕ) → sum (map f (range_with_len 0 n)) ≡ sum_below n f
sum_of_list zero f = refl
sum_of_list (suc n) f =
    let next : suc n ≡ n + 1 = omega arith in
    ap (λ k. sum (map f (range_with_len 0 k))) next ∙ sum_by-map-range_with_len_more (λ x. x) f 0 n n (omega arith) ∙ ap (λ k. k + f n) (sum_of_list n f)

module _ (X : Cells) (event : List ℕ) where
  -- ---- the share of a site, and its rights

  share_is : (i : ℕ) → HasRights X event i → share_in X event i ≡ Some (left_of X event i)
  share_is i has = ap (λ b. cond b (Some (left_of X event i)) None) (holds (spent X event i) (gained X event i) has)

  has_share : (i x : ℕ) → share_in X event i ≡ Some x → HasRights X event i
  has_share i x is = by_test (nat_le (spent X event i) (gained X event i)) refl
    where
      by_test : (b : Bool) → nat_le (spent X event i) (gained X event i) ≡ b → HasRights X event i
      by_test true t = tested (spent X event i) (gained X event i) t
      by_test false f =
          let none : share_in X event i ≡ None = ap (λ b. cond b (Some (left_of X event i)) None) f in
          absurd (let clash = sym none ∙ is in cc)

  lefts_are : (sites : List ℕ) → AllByRecursion (HasRights X event) sites → map (λ (row : SiteShare). row.left) (map (share_of X event) sites) ≡ map
      Some (map (left_of X event) sites)
  lefts_are [] all = refl
  lefts_are (i ∷ sites) all =
      ap (λ o. o ∷ map (λ (row : SiteShare). row.left) (map (share_of X event) sites)) (share_is i all.0) ∙ ap (λ l. Some (left_of X event i) ∷ l)
      (lefts_are sites all.1)

  have_lefts : (sites lefts : List ℕ) → map (λ (row : SiteShare). row.left) (map (share_of X event) sites) ≡ map Some lefts → AllByRecursion
      (HasRights X event) sites
  have_lefts [] lefts h = tt
  have_lefts (i ∷ sites) [] h = absurd cc
  have_lefts (i ∷ sites) (x ∷ lefts) h =
      let first : share_in X event i ≡ Some x = cc in
      let others : map (λ (row : SiteShare). row.left) (map (share_of X event) sites) ≡ map Some lefts = cc in
      (has_share i x first, have_lefts sites lefts others)

  -- ---- what is left at the sites below n, as their view has no others

  module _ (n : ℕ) (within : IsWithin n X) (few : n ≤ max_sites) where
    all_spent : sum_below n (spent X event) ≡ sum_below n (λ i. sum_below n (λ j. ceded_in X event i j)) + sold_in X event
    all_spent =
        let each = sum_below_same n (spent X event) (λ i. sum_below n (λ j. ceded_in X event i j) + value_at X event (Used i))
        (λ i l. ap (λ k. k + value_at X event (Used i)) (given_by n n X event i within (omega arith) few)) in
        omega (
          arith,
          each,
          sum_below-add n (λ i. sum_below n (λ j. ceded_in X event i j)) (λ i. value_at X event (Used i)),
          sold_by n n X event within (omega arith) few,
        )

    all_gained : sum_below n (gained X event) ≡ released_in X event + sum_below n (λ i. sum_below n (λ j. ceded_in X event j i)) + refunded_in X event
    all_gained =
        let each = sum_below_same n (gained X event) (λ i. value_at X event (Gave i i) + sum_below n (λ j. ceded_in X event j i) + value_at X event (Back i))
        (λ i l. ap (λ k. value_at X event (Gave i i) + k + value_at X event (Back i)) (got_by n n X event i within (omega arith) few)) in
        omega (
          arith,
          each,
          sum_below-add n (λ i. value_at X event (Gave i i) + sum_below n (λ j. ceded_in X event j i)) (λ i. value_at X event (Back i)),
          sum_below-add n (λ i. value_at X event (Gave i i)) (λ i. sum_below n (λ j. ceded_in X event j i)),
          released_by n n X event within (omega arith) few,
          refunded_by n n X event within (omega arith) few,
        )

    all_left : ((i : ℕ) → i < n → HasRights X event i) → sum_below n (left_of X event) ≡ released_in X event + refunded_in X event - sold_in X event
    all_left each =
        let back = sum_below_same n (λ i. left_of X event i + spent X event i) (gained X event) (λ i l. omega (arith, each i l)) in
        omega (arith, back, sum_below-add n (left_of X event) (spent X event), all_spent, all_gained, sum_below_swap n n (λ i j. ceded_in X event i j))

    position_of_open : (seats : ℕ) → open_seats_in X event ≡ Some seats → IsPosition X event
    position_of_open seats is = by_test (is_position X event) refl
      where
        by_test : (b : Bool) → is_position X event ≡ b → IsPosition X event
        by_test true t = position_of_test n X event few within t
        by_test false f =
            let none : open_seats_in X event ≡ None = ap (λ b. cond b (Some (released_in X event + refunded_in X event - sold_in X event)) None) f in
            absurd (let clash = sym none ∙ is in cc)

    total : ((i : ℕ) → i < n → HasRights X event i) → sum (map (left_of X event) (range_with_len 0 n)) ≡ released_in X event + refunded_in X event -
        sold_in X event
    total each = sum_of_list n (left_of X event) ∙ all_left each

    pub add_up : (seats : ℕ) → open_seats_in X event ≡ Some seats → AddUpTo seats (map (share_of X event) (range_with_len 0 n))
    add_up seats is =
        let position = position_of_open seats is in
        let seats_are : released_in X event + refunded_in X event - sold_in X event ≡ seats = same_Some _ _ (sym (open_at X event position) ∙ is) in (
          map (left_of X event) (range_with_len 0 n),
          lefts_are (range_with_len 0 n) (each_listed n (HasRights X event) (λ i l. position i)),
          total (λ i l. position i) ∙ seats_are,
        )

    pub are_open : (seats : ℕ) → AddUpTo seats (map (share_of X event) (range_with_len 0 n)) → open_seats_in X event ≡ Some seats
    are_open seats h =
        let all = have_lefts (range_with_len 0 n) h.0 h.1 in
        let each = each_of_list n (HasRights X event) all in
        let lefts : h.0 ≡ map (left_of X event) (range_with_len 0 n) = some_apart h.0 _ (sym h.1 ∙ lefts_are (range_with_len 0 n) all) in
        open_at X event (position_below n X event within each) ∙ ap Some (sym (total each) ∙ ap sum (sym lefts) ∙ h.2)

pub shares_add_up : SharesAddUp
shares_add_up book event seats site =
    let X = (state_of book.history).cells in
    let n = sites_of book.office book.history in
    let within : IsWithin n X = legal_within book.office book.history site.own site.legal in
    (add_up X event n within site.few seats, are_open X event n within site.few seats)

pub own_share_is_left : OwnShareIsLeft
own_share_is_left book event site =
    let X = (state_of book.history).cells in
    let n = sites_of book.office book.history in
    let me = book.office.me in
    let low : me < n = omega (arith, site.own, legal_sites book.office book.history site.legal) in
    let row = share_of X event me in
    let there : slice_get (shares_in book event) me ≡ Some row =
    slice_get_read (shares_in book event) n me row (sym (length-map-range_with_len (share_of X event) 0 n)) low
    (sym (get_or-map-range_with_len (share_of X event) 0 n me me row low (omega arith))) in
    (row, there, share_is X event me (legal_rights book.office book.history site.legal event))
