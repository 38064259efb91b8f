-- A run with two copies of a site that sells the same seats twice: site 0 gives its five seats to site 1, goes on from a copy in which it had not,
-- and sells them, and site 1 sells them too.
use Rattle.std.proofs.Common.{◌≡◌, ℕ, ◌+◌, ◌≤◌, lit≤, Bool, cond, not, List, [], ◌∷◌, ◌++◌, Some, Ok, refl, sym, ap, ◌∙◌, arith}
use Rattle.std.specs.Prelude.{IsTrue}
use Rattle.rights_lattice.specs.declared.cell.Cell.{Cell}
use Rattle.rights_lattice.specs.declared.cell.Cell.TheVariants.{Gave, Used}
use Rattle.rights_lattice.specs.Cells.{Valued, all_zero, greatest, value_at}
use Rattle.rights_lattice.specs.Marks.{AreMarks, are_rising_marks}
use Rattle.rights_lattice.specs.State.{at, join, Name, At, Spot}
use Rattle.rights_lattice.specs.Sums.{max_sites}
use Rattle.rights_lattice.proofs.CellLaws.{greatest-append, value_at-all_zero, value_at-raise}
use Rattle.rights_lattice.proofs.MarkLaws.{cells_of-none, names_of-one, value_at-cells_of}
use Rattle.rights_lattice.proofs.StateLaws.{at-join, join-bottom, knows-no_names, same_states}
use Rattle.delta_mutators.specs.Items.{item_state}
use Rattle.delta_mutators.specs.declared.delta.Item.TheVariants as item
use Rattle.request_ledger.specs.declared.reply.Reply.{Reply}
use Rattle.request_ledger.specs.declared.reply.Reply.TheVariants.{CellFull, Done, Known, Unknown}
use Rattle.request_ledger.specs.declared.request.Request.{Request}
use Rattle.request_ledger.specs.declared.request.Request.TheVariants.{Announce, Cede, Release}
use Rattle.book_core.specs.declared.entry.Entry.{Entry}
use Rattle.book_core.specs.Decision.{Fresh, decision, delta_for}
use Rattle.book_core.specs.History.{state_of}
use Rattle.book_core.proofs.Histories.{state_of-push}
use Rattle.book_core.specs.declared.entry.Entry.TheVariants.{Asked}
use Rattle.site_exchange.specs.declared.message.Message.TheVariants.{Ack, Delta}
use Rattle.site_exchange.specs.Exchange.{next}
use Rattle.site_desk.specs.SiteView.{site_of}
use Rattle.site_runs.specs.Premises.{HappensOfCopies, TwoCopiesOversell, no_store}
use Rattle.site_runs.specs.Runs.{Asks, CallAt, Gives, Restarts, RunsBy, Sites, Starts}
use Rattle.site_runs.proofs.Examples.{Says, answer, are_new, asks, first, five, five_given, gala, has_room, known, last, left_by, may_spend, message, office, said, sale, sells, site_with, sites, takes, takes_and_sells, value_is, with_done}

-- one more mark at the end
says_more : (ms : List Valued) (m : Valued) → IsTrue (are_rising_marks ms) → AreMarks ms → IsTrue (are_rising_marks (ms ++ m ∷ [])) → AreMarks (ms ++ m ∷ [])
    → join (said ms) (item_state (item.Cell m)) ≡ said (ms ++ m ∷ [])
says_more ms m rising marks more_rising more_marks = same_states _ _ each
  where
    each : (s : Spot) → at (join (said ms) (item_state (item.Cell m))) s ≡ at (said (ms ++ m ∷ [])) s
    each (Name n) = omega (arith, at-join (said ms) (item_state (item.Cell m)) (Name n), ap {B = ℕ} (λ b. cond b 1 0) (knows-no_names n))
    each (At e c) = omega (
      arith,
      at-join (said ms) (item_state (item.Cell m)) (At e c),
      value_at-raise all_zero m e c,
      value_at-all_zero e c,
      value_at-cells_of ms rising marks e c,
      value_at-cells_of (ms ++ m ∷ []) more_rising more_marks e c,
      greatest-append ms (m ∷ []) e c,
    )

-- a request that adds five to a cell that is 0
says_done : (h : List Entry) (ms : List Valued) (number : ℕ) (request : Request) (cell : Cell)
    → Says h ms → greatest ms gala cell ≡ 0
    → delta_for (office 0) h request Done ≡ item_state (item.Cell (record { event = gala; cell = cell; value = value_at (state_of h).cells gala cell + 5 }))
    → IsTrue (are_rising_marks (ms ++ five cell ∷ [])) → AreMarks (ms ++ five cell ∷ []) → Says (with_done 0 h number request) (ms ++ five cell ∷ [])
says_done h ms number request cell says none delta rising marks = record {
  state =
      state_of-push h (Asked number request Done (delta_for (office 0) h request Done))
      ∙ (λ i. join (says.state i) (delta i))
      ∙ (λ i. join (said ms) (item_state (item.Cell (record { event = gala; cell = cell; value = (value_is h ms says cell ∙ none) i + 5 }))))
      ∙ says_more ms (five cell) says.rising says.marks rising marks;
  rising = rising;
  marks = marks;
}

abbrev pub announced : List Entry
announced = with_done 0 [] 1 (Announce gala)

abbrev pub released : List Entry
released = with_done 0 announced 2 (Release gala 5)

abbrev pub ceded : List Entry
ceded = with_done 0 released 3 (Cede gala 1 5)

says_announced : Says announced []
says_announced = record { state = join-bottom _ ∙ (λ i. record { cells = sym cells_of-none i; names = sym (names_of-one gala) i }); rising = refl; marks = tt }

says_released : Says released (five (Gave 0 0) ∷ [])
says_released = says_done announced [] 2 (Release gala 5) (Gave 0 0) says_announced refl refl refl (lit≤ tt, tt)

pub says_ceded : Says ceded five_given
says_ceded = says_done released (five (Gave 0 0) ∷ []) 3 (Cede gala 1 5) (Gave 0 1) says_released refl refl refl (lit≤ tt, (lit≤ tt, tt))

pub announces : decision (office 0) [] 1 (Announce gala) ≡ Fresh Done
announces = ap (λ known. Fresh (cond known Known Done)) (knows-no_names gala)

abbrev if_released : Bool → Bool → Reply
if_released is_known full = cond (not is_known) Unknown (cond full CellFull Done)

pub releases : decision (office 0) announced 2 (Release gala 5) ≡ Fresh Done
releases =
    let room = has_room announced [] (Gave 0 0) says_announced refl in
    λ i. Fresh (if_released (known announced [] says_announced i) (room i))

five_left : left_by 0 (λ c. greatest (five (Gave 0 0) ∷ []) gala c) ≡ 5
unfolding max_sites
five_left = refl

pub cedes : decision (office 0) released 3 (Cede gala 1 5) ≡ Fresh Done
cedes = ap Fresh (may_spend 0 released (five (Gave 0 0) ∷ []) (Gave 0 1) says_released five_left refl)

gives : Some message ≡ next 0 (site_of (site_with 0 ceded)) 1
unfolding max_sites
gives = ap (λ X. Some (Delta 0 1 3 X)) (sym says_ceded.state)

-- the older copy: before the cession
starts : Starts no_store (site_with 0 ceded) (site_with 0 released) released
starts = record { history = refl; office = refl; acked = refl; opened = refl; rests = λ trusted. absurd trusted }

abbrev newer : List Entry
newer = Asked 3 (Cede gala 1 5) Done (delta_for (office 0) released (Cede gala 1 5) Done) ∷ []

abbrev pub resold : List Entry
resold = with_done 0 released 3 sale

pub sells_again : decision (office 0) released 3 sale ≡ Fresh Done
sells_again = ap Fresh (may_spend 0 released (five (Gave 0 0) ∷ []) (Used 0) says_released five_left refl)

-- site 0 releases five seats and cedes them to site 1
abbrev asked : List (CallAt (Unit {0})) → List (CallAt (Unit {0}))
asked rest =
    record { site = 0; call = Asks 1 (Announce gala) (Ok (answer 0)); after = site_with 0 announced }
    ∷ record { site = 0; call = Asks 2 (Release gala 5) (Ok (answer 1)); after = site_with 0 released }
    ∷ record { site = 0; call = Asks 3 (Cede gala 1 5) (Ok (answer 2)); after = site_with 0 ceded }
    ∷ rest

-- it gives the message, goes on from a copy of before the cession, and sells; and so does site 1
abbrev copied : List (CallAt (Unit {0}))
copied =
    record { site = 0; call = Gives 1 (Ok (Some message)); after = site_with 0 ceded }
    ∷ record { site = 0; call = Restarts; after = site_with 0 released }
    ∷ record { site = 0; call = Asks 3 sale (Ok (answer 2)); after = site_with 0 resold }
    ∷ takes_and_sells

abbrev end : Sites (Unit {0})
end = sites resold last (message ∷ Ack 1 0 3 ∷ [])

sold : RunsBy (HappensOfCopies no_store) takes_and_sells (sites resold [] (message ∷ [])) end
sold = (site_with 1 [], refl, ((λ _. (0, refl)), takes), (site_with 1 first, refl, sells, refl))

goes_on : RunsBy (HappensOfCopies no_store) copied (sites ceded [] []) end
goes_on = (
  site_with 0 ceded,
  refl,
  record { same = refl; due = (refl, gives); fault = tt },
  (
    site_with 0 ceded,
    refl,
    (released, newer, refl, starts),
    (site_with 0 released, refl, asks 0 released 3 sale sells_again, sold),
  ),
)

runs : RunsBy (HappensOfCopies no_store) (asked copied) (sites [] [] []) end
runs = (
  site_with 0 [],
  refl,
  asks 0 [] 1 (Announce gala) announces,
  (
    site_with 0 announced,
    refl,
    asks 0 announced 2 (Release gala 5) releases,
    (site_with 0 released, refl, asks 0 released 3 (Cede gala 1 5) cedes, goes_on),
  ),
)

-- ten are outstanding, of five
pub two_copies_oversell : TwoCopiesOversell
two_copies_oversell never =
    let sums = never (asked copied) (sites [] [] []) end are_new runs gala in
    let over : 10 ≤ 5 = sums.0 in
    absurd (omega (arith, over))
