-- What the sites sold by their own books.
use Rattle.std.proofs.Common.{◌≡◌, inl, inr, ℕ, zero, suc, ◌≤◌, ◌<◌, List, [], ◌∷◌, ◌++◌, Some, refl, sym, ap, ◌∙◌, subst, arith, length, get_or, map, take, append-nil}
use Rattle.std.specs.Prelude.{slice_get}
use Rattle.std.proofs.Math.Seq.{take-length}
use Rattle.std.proofs.lemmas.Bool.{cases_lt}
use Rattle.std.proofs.lemmas.List.{length-map}
use Rattle.rights_lattice.specs.State.{AtOrBelow}
use Rattle.rights_lattice.proofs.StateLaws.{same_states}
use Rattle.book_core.specs.declared.entry.Entry.{Entry}
use Rattle.book_core.specs.BookView.{BookView}
use Rattle.book_core.specs.Books.{operations_in}
use Rattle.book_core.specs.History.{state_of}
use Rattle.book_core.specs.Operations.{Operation, operations, operations_below, outstanding, released, sold, refunded}
use Rattle.site_exchange.specs.Exchange.{SitePart}
use Rattle.site_desk.specs.SiteView.{SiteView}
use Rattle.world_steps.specs.World.{World, begun, run, count, history_at, site_numbered, state_at}
use Rattle.world_steps.proofs.Promised as promised
use Rattle.world_steps.proofs.Reached.{few_from, sound_from}
use Rattle.site_desk.specs.Calls.{Keeping}
use Rattle.site_runs.specs.Runs.{BooksNeverOversold, NotOversold, Sites, books_in}
use Rattle.site_runs.specs.Steps.{AreSteps, BooksAgreeOnceAcknowledged, RunsKeepPromises, Shows}
use Rattle.site_runs.proofs.Listing.{runs_are_steps}

below_same : (n : ℕ) (g h : ℕ → List Entry) → ((i : ℕ) → i < n → g i ≡ h i) → operations_below n g ≡ operations_below n h
below_same zero g h same = refl
below_same (suc n) g h same = λ k. below_same n g h (λ i l. same i (omega (arith, l))) k ++ operations n (same n (omega arith) k)

below_more : (m n : ℕ) (h : ℕ → List Entry) → n ≤ m → ((i : ℕ) → n ≤ i → h i ≡ []) → operations_below m h ≡ operations_below n h
below_more zero n h le none = let e : n ≡ 0 = omega (arith, le) in ap (λ j. operations_below j h) (sym e)
below_more (suc m) n h le none = elim (cases_lt m n) [
  | inl l ↦ let e : n ≡ suc m = omega (arith, le, l) in ap (λ j. operations_below j h) (sym e)
  | inr g ↦ ap (λ (x : List Entry). operations_below m h ++ operations m x) (none m g) ∙ append-nil (operations_below m h) ∙ below_more m n h g none
]

there : {A : Type 0} (xs : List A) (k : ℕ) → k < length xs → (x : A) × (slice_get xs k ≡ Some x)
there [] k l = absurd (omega arith)
there (x ∷ xs) zero l = (x, refl)
there (x ∷ xs) (suc k) l = there xs k (omega (arith, l))

read : {K : Type 0} (books : List (SiteView K)) (i : ℕ) (x : SiteView K) → slice_get books i ≡ Some x
    → get_or (map (λ (b : BookView). b.history) (map (λ (s : SiteView K). s.book) books)) i [] ≡ x.book.history
read [] i x found = cc
read {K} (b ∷ books) zero x found = let same : b ≡ x = cc in ap (λ (s : SiteView K). s.book.history) same
read (b ∷ books) (suc i) x found = read books i x found

pub same_operations : {K : Type 0} (w : World) (s : Sites K) → Shows w s → operations_below (count w) (history_at w) ≡ operations_in (books_in s)
same_operations {K} w s shows =
    below_more (count w) (length s.books) (history_at w) (omega (arith, shows.few, shows.count)) shows.others
    ∙ below_same (length s.books) (history_at w) ((λ j. get_or (map (λ (b : BookView). b.history) (books_in s)) j [])) (λ i l. at i (there s.books i l))
    ∙ ap (λ n. operations_below n ((λ j. get_or (map (λ (b : BookView). b.history) (books_in s)) j []))) (sym (length-map s.books (λ (x : SiteView K). x.book)))
  where
    at : (i : ℕ) → (x : SiteView K) × (slice_get s.books i ≡ Some x) → history_at w i ≡ get_or (map (λ (b : BookView). b.history) (books_in s)) i []
    at i found = ap (λ (p : SitePart). p.history) (shows.site i found.0 found.1) ∙ sym (read s.books i found.0 found.1)

pub steps_never_oversell : {K : Type 0} (s : Sites K) → AreSteps s → NotOversold s
steps_never_oversell s are event =
    let w : World = run are.steps (begun are.limits are.counts) in
    let sound = sound_from are.limits are.counts are.steps are.are in
    let few = few_from are.limits are.counts are.steps are.are are.few in
    let same = same_operations w s are.shows in (
      subst (λ (os : List Operation). outstanding event os ≤ released event os) same (promised.never_oversold w sound few event),
      subst (λ (os : List Operation). refunded event os ≤ sold event os) same (promised.refunds_within_sales w sound event),
    )

pub books_never_oversold : {K : Type 0} (k : Keeping K) → BooksNeverOversold k
books_never_oversold k calls begin end are runs = steps_never_oversell end (runs_are_steps k calls begin end are runs)

pub runs_keep_promises : {K : Type 0} (k : Keeping K) → RunsKeepPromises k
runs_keep_promises k calls begin end are runs =
    let list = runs_are_steps k calls begin end are runs in
    let w : World = run list.steps (begun list.limits list.counts) in
    let sound = sound_from list.limits list.counts list.steps list.are in
    let few = few_from list.limits list.counts list.steps list.are list.few in (
      w,
      list.shows,
      record {
        never_oversold = promised.never_oversold w sound few;
        refunds_within_sales = promised.refunds_within_sales w sound;
        no_seat_is_lost = promised.no_seat_is_lost w sound few;
        operations_are_distinct = promised.operations_are_distinct w;
        views_below_owners = promised.views_below_owners w sound;
        deltas_below_owners = promised.deltas_below_owners w sound;
        rows_are_versions = promised.rows_are_versions w sound;
        joins_are_causal = promised.joins_are_causal w sound;
        acknowledged_is_held = promised.acknowledged_is_held w sound;
        acks_are_true = promised.acks_are_true w sound;
        agree_once_acknowledged = promised.agree_once_acknowledged w sound;
        rights_not_negative = promised.views_are_positions w sound;
        views_not_oversold = promised.views_not_oversold w sound;
        counted_are_there = promised.counted_are_there w sound;
        receivers_are_there = promised.receivers_are_there w sound;
      },
    )

-- what is acknowledged of a site is held by the other: all of it, by each of the two
pub books_agree_once_acknowledged : {K : Type 0} (k : Keeping K) → BooksAgreeOnceAcknowledged k
books_agree_once_acknowledged {K} k calls begin end are runs i j a b here there all_by_j all_by_i =
    same_states (state_of a.book.history) (state_of b.book.history) (λ s. omega (arith, held i j a b here there all_by_j s, held j i b a there here all_by_i s))
  where
    held : (i j : ℕ) (a b : SiteView K) → slice_get end.books i ≡ Some a → slice_get end.books j ≡ Some b → get_or a.acked j 0 ≡ length a.book.history
        → AtOrBelow (state_of a.book.history) (state_of b.book.history)
    held i j a b here there all =
        let kept = runs_keep_promises k calls begin end are runs in
        subst (λ (h : List Entry). AtOrBelow (state_of h) (state_of b.book.history)) (ap (λ n. take n a.book.history) all ∙ take-length a.book.history)
        (subst (λ (p : SitePart). AtOrBelow (state_at p.history (get_or p.acked j 0)) (state_of b.book.history)) (kept.1.site i a here)
        (subst (λ (p : SitePart). AtOrBelow (state_at (history_at kept.0 i) (get_or (site_numbered kept.0 i).acked j 0)) (state_of p.history))
        (kept.1.site j b there)
        (kept.2.acknowledged_is_held i j)))
