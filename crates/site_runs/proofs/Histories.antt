-- Legal histories that oversell: site 1 joins five seats that site 0 never had, or that only a copy of site 0 gave away, and sells them.
use Rattle.std.proofs.Common.{◌≡◌, ℕ, zero, suc, ◌≤◌, lit≤, lit<, List, [], ◌∷◌, Some, refl, sym, ap, subst, arith}
use Rattle.std.specs.Prelude.{◌<◌, slice_get}
use Rattle.rights_lattice.specs.State.{AtOrBelow, State}
use Rattle.rights_lattice.specs.Sums.{max_sites}
use Rattle.request_ledger.specs.declared.reply.Reply.TheVariants.{Done}
use Rattle.request_ledger.specs.declared.request.Request.{Request}
use Rattle.request_ledger.specs.declared.request.Request.TheVariants.{Announce, Cede, Release}
use Rattle.book_core.specs.declared.entry.Entry.{Entry}
use Rattle.book_core.specs.declared.entry.Entry.TheVariants.{Asked, Joined}
use Rattle.book_core.specs.BookView.{BookView}
use Rattle.book_core.specs.Decision.{Decision, Fresh, decision, delta_for, entry_if, entry_of_ask, sites_of}
use Rattle.book_core.specs.History.{state_of}
use Rattle.book_core.specs.Legal.{IsLegal}
use Rattle.book_core.proofs.Histories.{legal_push}
use Rattle.book_core.proofs.Next.{ask_next, join_next}
use Rattle.book_core.proofs.Replays.{legal_empty}
use Rattle.world_steps.specs.Sites.{AreSites, StandsAt}
use Rattle.world_steps.specs.Entered.{AreAdded, AreEmpty}
use Rattle.site_runs.specs.Premises.{ForgedDeltasOversell, SecondHistoriesOversell, WasHeldOnce}
use Rattle.site_runs.proofs.Copying.{announced, announces, ceded, cedes, released, releases, resold, says_ceded, sells_again}
use Rattle.site_runs.proofs.Examples.{first, five_given, gala, last, may_join, office, said, sale, sells_five, site_with, with_done}

abbrev book_with : ℕ → List Entry → BookView
book_with me h = (site_with me h).book

abbrev books : List Entry → List Entry → List BookView
books h g = book_with 0 h ∷ book_with 1 g ∷ []

abbrev done : ℕ → List Entry → ℕ → Request → Entry
done me h number request = Asked number request Done (delta_for (office me) h request Done)

-- a request that is done makes a legal history longer by one
with_done_legal : (me : ℕ) (h : List Entry) (number : ℕ) (request : Request) → decision (office me) h number request ≡ Fresh Done → IsLegal (office me) h
    → IsLegal (office me) (with_done me h number request)
with_done_legal me h number request fresh legal =
    let enters : entry_of_ask (office me) h number request ≡ Some (done me h number request) = ap
    (λ (d : Decision). entry_if d (office me) h number request) fresh in
    legal_push (office me) h (done me h number request) legal (ask_next (office me) h number request (done me h number request) enters).next

none_legal : (me : ℕ) → IsLegal (office me) []
none_legal me = legal_empty (office me) [] refl

first_legal : IsLegal (office 1) first
first_legal = legal_push (office 1) [] (Joined 0 (said five_given)) (none_legal 1) (join_next (office 1) [] 0 (said five_given) may_join)

last_legal : IsLegal (office 1) last
last_legal = with_done_legal 1 first 1 sale sells_five first_legal

released_legal : IsLegal (office 0) released
released_legal = with_done_legal 0 announced 2 (Release gala 5) releases (with_done_legal 0 [] 1 (Announce gala) announces (none_legal 0))

resold_legal : IsLegal (office 0) resold
resold_legal = with_done_legal 0 released 3 sale sells_again released_legal

ceded_legal : IsLegal (office 0) ceded
ceded_legal = with_done_legal 0 released 3 (Cede gala 1 5) cedes released_legal

are_empty : AreEmpty (books [] [])
are_empty = record { numbered = numbered; empty = empty }
  where
    numbered : (k : ℕ) (book : BookView) → slice_get (books [] []) k ≡ Some book → book.office.me ≡ k
    numbered zero book found = let same : book_with 0 [] ≡ book = cc in ap (λ (b : BookView). b.office.me) (sym same)
    numbered (suc zero) book found = let same : book_with 1 [] ≡ book = cc in ap (λ (b : BookView). b.office.me) (sym same)
    numbered (suc (suc k)) book found = cc

    empty : (k : ℕ) (book : BookView) → slice_get (books [] []) k ≡ Some book → book.history ≡ []
    empty zero book found = let same : book_with 0 [] ≡ book = cc in ap (λ (b : BookView). b.history) (sym same)
    empty (suc zero) book found = let same : book_with 1 [] ≡ book = cc in ap (λ (b : BookView). b.history) (sym same)
    empty (suc (suc k)) book found = cc

-- what holds of both books holds of each
each_book : (Holds : ℕ → BookView → Type 0) (h g : List Entry) → Holds 0 (book_with 0 h) → Holds 1 (book_with 1 g)
    → (k : ℕ) (book : BookView) → slice_get (books h g) k ≡ Some book → Holds k book
each_book Holds h g a b zero book found = let same : book_with 0 h ≡ book = cc in subst (Holds 0) same a
each_book Holds h g a b (suc zero) book found = let same : book_with 1 g ≡ book = cc in subst (Holds 1) same b
each_book Holds h g a b (suc (suc k)) book found = cc

are_sites : (h g : List Entry) → sites_of (office 0) h ≡ 2 → sites_of (office 1) g ≡ 2 → IsLegal (office 0) h → IsLegal (office 1) g → AreSites (books h g)
unfolding max_sites
are_sites h g two_h two_g legal_h legal_g = record {
  few = lit≤ tt;
  whole = each_book (λ k book. StandsAt k 2 book) h g (record { site = refl; count = omega (arith, two_h) })
      (record { site = refl; count = omega (arith, two_g) });
  own = each_book (λ k book. book.office.me < book.office.sites) h g (lit< tt) (lit< tt);
  legal = each_book (λ k book. IsLegal book.office book.history) h g legal_h legal_g;
}

-- five are outstanding, of none
pub forged_deltas_oversell : ForgedDeltasOversell
forged_deltas_oversell never =
    let entries : List (ℕ × Entry) = (1, Joined 0 (said five_given)) ∷ (1, done 1 first 1 sale) ∷ [] in
    let sums = never entries (books [] []) (books [] last) are_empty (book_with 1 [], refl, tt, (book_with 1 first, refl, tt, refl))
    (are_sites [] last refl refl (none_legal 0) last_legal) gala in
    let over : 5 ≤ 0 = sums.0 in
    absurd (omega (arith, over))

-- what the copy of site 0 gave, it had
gave : AtOrBelow (said five_given) (state_of ceded)
gave = subst (λ (s : State). AtOrBelow (said five_given) s) (sym says_ceded.state) (λ spot. omega arith)

abbrev twice : List (ℕ × Entry)
twice = (0, done 0 [] 1 (Announce gala)) ∷ (0, done 0 announced 2 (Release gala 5)) ∷ (0, done 0 released 3 sale) ∷ (1, Joined 0 (said five_given))
    ∷ (1, done 1 first 1 sale) ∷ []

sold_twice : AreAdded WasHeldOnce twice (books [] []) (books resold last)
sold_twice = (
  book_with 0 [],
  refl,
  tt,
  (
    book_with 0 announced,
    refl,
    tt,
    (
      book_with 0 released,
      refl,
      tt,
      (
        book_with 1 [],
        refl,
        (book_with 0 resold, book_with 0 ceded, refl, refl, ceded_legal, gave),
        (book_with 1 first, refl, tt, refl),
      ),
    ),
  ),
)

-- ten are outstanding, of five
pub second_histories_oversell : SecondHistoriesOversell
second_histories_oversell never =
    let sums = never twice (books [] []) (books resold last) are_empty sold_twice (are_sites resold last refl refl resold_legal last_legal) gala in
    let over : 10 ≤ 5 = sums.0 in
    absurd (omega (arith, over))
