-- Sites before any call, as a world that is begun: those that are not there are empty.
use Rattle.std.proofs.Common.{◌≡◌, ◌⊎◌, inl, inr, ℕ, zero, suc, ◌-◌, ◌≤◌, ◌<◌, List, [], ◌∷◌, ◌++◌, Some, refl, sym, ap, ◌∙◌, arith, length, get_or, map, replicate, length-append}
use Rattle.std.specs.Prelude.{slice_get}
use Rattle.std.proofs.lemmas.Bool.{cases_lt}
use Rattle.std.proofs.lemmas.List.{length-replicate, length-map, get_or-append_right, get_or-replicate, get_or_past}
use Rattle.rights_lattice.specs.Sums.{max_sites}
use Rattle.site_exchange.specs.Exchange.{SitePart}
use Rattle.site_desk.specs.SiteView.{SiteView}
use Rattle.world_steps.specs.World.{AreBegun, begun, no_site}
use Rattle.site_desk.specs.Calls.{Keeping}
use Rattle.site_runs.specs.Runs.{Sites, AreNew}
use Rattle.site_runs.specs.Steps.{Shows}

-- a number of each site, and another for each number that no site has
abbrev pub padded : {K : Type 0} → (SiteView K → ℕ) → ℕ → List (SiteView K) → List ℕ
padded f d books = map f books ++ replicate (max_sites - length books) d

length-padded : {K : Type 0} (f : SiteView K → ℕ) (d : ℕ) (books : List (SiteView K)) → length books ≤ max_sites → length (padded f d books) ≡ max_sites
length-padded f d books few = omega (
  arith,
  few,
  length-append (map f books) (replicate (max_sites - length books) d),
  length-map books f,
  length-replicate (max_sites - length books) d,
)

read : {K : Type 0} (f : SiteView K → ℕ) (books : List (SiteView K)) (pad : List ℕ) (i : ℕ) (x : SiteView K) → slice_get books i ≡ Some x
    → get_or (map f books ++ pad) i 0 ≡ f x
read f [] pad i x found = cc
read f (b ∷ books) pad zero x found = let same : b ≡ x = cc in ap f same
read f (b ∷ books) pad (suc i) x found = read f books pad i x found

read_past : {K : Type 0} (f : SiteView K → ℕ) (d : ℕ) (books : List (SiteView K)) (i : ℕ) → length books ≤ i → i < max_sites → get_or (padded f d books) i 0 ≡ d
read_past f d books i past l =
    get_or-append_right (map f books) (replicate (max_sites - length books) d) (length books) i 0 (length-map books f) past
    ∙ get_or-replicate (max_sites - length books) (i - length books) d 0 (omega (arith, past, l))

there : {A : Type 0} (xs : List A) (k : ℕ) → k < length xs → (x : A) × (slice_get xs k ≡ Some x)
there [] k l = absurd (omega arith)
there (x ∷ xs) zero l = (x, refl)
there (x ∷ xs) (suc k) l = there xs k (omega (arith, l))

empty_at : (n i : ℕ) → get_or (replicate n no_site) i no_site ≡ no_site
empty_at zero i = refl
empty_at (suc n) zero = refl
empty_at (suc n) (suc i) = empty_at n i

abbrev pub limit_in : {K : Type 0} → SiteView K → ℕ
limit_in site = site.book.office.limit

abbrev pub count_in : {K : Type 0} → SiteView K → ℕ
count_in site = site.book.office.sites

abbrev pub limits_of : {K : Type 0} → List (SiteView K) → List ℕ
limits_of books = padded limit_in 0 books

abbrev pub counts_of : {K : Type 0} → List (SiteView K) → List ℕ
counts_of books = padded count_in max_sites books

pub are_begun : {K : Type 0} (k : Keeping K) (s : Sites K) → AreNew k s → AreBegun (limits_of s.books) (counts_of s.books)
are_begun {K} k s are =
    let each : length (counts_of s.books) ≡ length (limits_of s.books) = length-padded count_in max_sites s.books are.few
    ∙ sym (length-padded limit_in 0 s.books are.few) in
    record {
      each = each;
      own = λ i l. own_at i (omega (arith, l, length-padded limit_in 0 s.books are.few)) (cases_lt (length s.books) i);
      few = λ i. few_at i (cases_lt (length s.books) i) (cases_lt max_sites i);
    }
  where
    own_there : (i : ℕ) → i < max_sites → (x : SiteView K) × (slice_get s.books i ≡ Some x) → i < get_or (counts_of s.books) i 0
    own_there i l found = omega (
      arith,
      (are.each i found.0 found.1).own,
      read count_in s.books (replicate (max_sites - length s.books) max_sites) i
          found.0 found.1,
    )

    own_at : (i : ℕ) → i < max_sites → (length s.books < i) ⊎ (i ≤ length s.books) → i < get_or (counts_of s.books) i 0
    own_at i l c = elim (cases_lt i (length s.books)) [
      | inl b ↦ own_there i l (there s.books i b)
      | inr p ↦ omega (arith, l, read_past count_in max_sites s.books i p l)
    ]

    few_there : (i : ℕ) → (x : SiteView K) × (slice_get s.books i ≡ Some x) → get_or (counts_of s.books) i 0 ≤ max_sites
    few_there i found = omega (
      arith,
      (are.each i found.0 found.1).few,
      read count_in s.books (replicate (max_sites - length s.books) max_sites) i found.0
          found.1,
    )

    few_at : (i : ℕ) → (length s.books < i) ⊎ (i ≤ length s.books) → (max_sites < i) ⊎ (i ≤ max_sites)
        → get_or (counts_of s.books) i 0 ≤ length (limits_of s.books)
    few_at i c d = elim (cases_lt i (length s.books)) [
      | inl b ↦ omega (arith, few_there i (there s.books i b), length-padded limit_in 0 s.books are.few)
      | inr p ↦ elim (cases_lt i max_sites) [
        | inl l ↦ omega (arith, read_past count_in max_sites s.books i p l, length-padded limit_in 0 s.books are.few)
        | inr q ↦ omega (arith, get_or_past (counts_of s.books) i 0 (omega (arith, q, length-padded count_in max_sites s.books are.few)))
      ]
    ]

pub shows_begun : {K : Type 0} (k : Keeping K) (s : Sites K) → AreNew k s → Shows (begun (limits_of s.books) (counts_of s.books)) s
shows_begun {K} k s are =
    let whole : length (limits_of s.books) ≡ max_sites = length-padded limit_in 0 s.books are.few in
    record {
      few = are.few;
      count = length-replicate (length (limits_of s.books)) no_site ∙ whole;
      site = λ i x found. empty_at (length (limits_of s.books)) i
          ∙ sym (λ j. record { history = (are.each i x found).history j; acked = (are.each i x found).acked j });
      office = λ i x found j. record {
        me = sym (are.each i x found).me j;
        sites = read count_in s.books (replicate (max_sites - length s.books) max_sites) i x found j;
        limit = read limit_in s.books (replicate (max_sites - length s.books) 0) i x found j;
      };
      others = λ i past. ap (λ (p : SitePart). p.history) (empty_at (length (limits_of s.books)) i);
      sent = sym are.none;
    }

pub few_begun : {K : Type 0} (k : Keeping K) (s : Sites K) → AreNew k s → length (limits_of s.books) ≤ max_sites
few_begun k s are = omega (arith, length-padded limit_in 0 s.books are.few)
