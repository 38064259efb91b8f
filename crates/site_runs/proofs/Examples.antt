-- Two new sites, and what the runs that oversell have in common: site 1 takes a message of five seats and sells them.
use Rattle.std.proofs.Common.{◌≡◌, inl, inr, ℕ, zero, suc, ◌+◌, ◌-◌, lit≤, lit<, Bool, true, false, cond, not, ◌&&◌, ◌==◌, List, [], ◌∷◌, ◌++◌, length, Option, Some, Ok, refl, sym, ap, ◌∙◌, subst}
use Rattle.std.specs.Prelude.{◌<◌, IsTrue, nat_le, nat_lt, slice_get}
use Rattle.std.specs.List.{list_all}
use Rattle.rights_lattice.specs.declared.cell.Cell.{Cell}
use Rattle.rights_lattice.specs.declared.cell.Cell.TheVariants.{Gave, Used, Back}
use Rattle.rights_lattice.specs.Cells.{Valued, greatest, greatest_value, marks_of, value_at}
use Rattle.rights_lattice.specs.Marks.{AreMarks, are_rising_marks, cells_of, names_of}
use Rattle.rights_lattice.specs.RightsView.{are_within}
use Rattle.rights_lattice.specs.State.{State, bottom, is_within, knows, no_names}
use Rattle.rights_lattice.specs.Sums.{max_sites, sum_below}
use Rattle.rights_lattice.proofs.MarkLaws.{knows-names_of, marks_of-cells_of, names_in_order-names_of, value_at-cells_of}
use Rattle.rights_lattice.proofs.StateLaws.{join-bottom, knows-no_names}
use Rattle.request_ledger.specs.declared.reply.Reply.{Reply}
use Rattle.request_ledger.specs.declared.reply.Reply.TheVariants.{CellFull, Done, Short, Unknown}
use Rattle.request_ledger.specs.declared.request.Request.{Request}
use Rattle.request_ledger.specs.declared.request.Request.TheVariants.{Sell}
use Rattle.book_core.specs.declared.entry.Entry.{Entry}
use Rattle.book_core.specs.declared.entry.Entry.TheVariants.{Asked, Joined}
use Rattle.book_core.specs.declared.plan.JoinFault.TheVariants.{UnknownSite}
use Rattle.book_core.specs.Decision.{Decision, Fresh, SiteConfig, decision, delta_for, entry_if, entry_of_ask, is_full, own_left}
use Rattle.book_core.specs.History.{state_of}
use Rattle.book_core.specs.Joining as join
use Rattle.book_core.specs.Joining.{JoinDecision, foreign, join_decision, join_if}
use Rattle.site_exchange.specs.declared.message.Message.{Message}
use Rattle.site_exchange.specs.declared.message.Message.TheVariants.{Ack, Delta}
use Rattle.site_exchange.specs.Exchange as exchange
use Rattle.site_exchange.specs.Exchange.{SitePart, Verdict, verdict, verdict_of, zeros}
use Rattle.site_exchange.specs.Taking.{extended, site_after}
use Rattle.site_desk.specs.declared.answer.Answer.{Answer}
use Rattle.site_desk.specs.declared.answer.Taken.TheVariants as taken
use Rattle.site_desk.specs.Answers.{IsAnswer}
use Rattle.site_desk.specs.Calls.{AskCall, SiteCall, TakeCall}
use Rattle.site_desk.specs.SiteView.{SiteView, site_of}
use Rattle.site_runs.specs.Premises.{no_store}
use Rattle.site_runs.specs.Runs.{AreNew, Asks, CallAt, IsNew, Sites, Takes}

abbrev pub Site : Type 0
Site = SiteView (Unit {0})

abbrev pub gala : List ℕ
gala = 103 ∷ []

abbrev pub five : Cell → Valued
five cell = record { event = gala; cell = cell; value = 5 }

-- the event and these marks
abbrev pub said : List Valued → State
said ms = record { cells = cells_of ms; names = names_of (gala ∷ []) }

-- site 0 released five seats, and gave them to site 1
abbrev pub five_given : List Valued
five_given = five (Gave 0 0) ∷ five (Gave 0 1) ∷ []

abbrev pub message : Message
message = Delta 0 1 3 (said five_given)

abbrev pub office : ℕ → SiteConfig
office me = record { me = me; sites = 2; limit = 10 }

abbrev pub site_with : ℕ → List Entry → Site
site_with me h = record {
  book = record { office = office me; history = h; room = record { entries = 0; cells = 0; names = 0; numbers = 0 } };
  acked = zeros;
  keeper = tt;
  closed = false;
}

-- what the history says
pub record Says (h : List Entry) (ms : List Valued) : Type 0 where
  pub state : state_of h ≡ said ms
  pub rising : IsTrue (are_rising_marks ms)
  pub marks : AreMarks ms

pub value_is : (h : List Entry) (ms : List Valued) → Says h ms → (c : Cell) → value_at (state_of h).cells gala c ≡ greatest ms gala c
value_is h ms says c = ap (λ (X : State). value_at X.cells gala c) says.state ∙ value_at-cells_of ms says.rising says.marks gala c

pub known : (h : List Entry) (ms : List Valued) → Says h ms → knows (state_of h).names gala ≡ true
known h ms says = ap (λ (X : State). knows X.names gala) says.state ∙ knows-names_of (gala ∷ []) refl gala

abbrev pub left_by : ℕ → (Cell → ℕ) → ℕ
left_by me f =
    (f (Gave me me) + sum_below max_sites (λ j. cond (j == me) 0 (f (Gave j me))) + f (Back me)) -
    (sum_below max_sites (λ j. cond (me == j) 0 (f (Gave me j))) + f (Used me))

left_is : (me : ℕ) (h : List Entry) (ms : List Valued) → Says h ms → own_left (office me) h gala ≡ left_by me (λ c. greatest ms gala c)
left_is me h ms says = λ i. left_by me (λ c. value_is h ms says c i)

pub has_room : (h : List Entry) (ms : List Valued) (cell : Cell) → Says h ms → greatest ms gala cell ≡ 0 → is_full (state_of h).cells gala cell 5 ≡ false
has_room h ms cell says none = ap (λ n. nat_lt greatest_value (n + 5)) (value_is h ms says cell ∙ none)

abbrev pub replied : Bool → ℕ → Bool → Reply
replied is_known left full = cond (not is_known) Unknown (cond (nat_lt left 5) (Short left) (cond full CellFull Done))

-- of five seats left, five may be sold or ceded
pub may_spend : (me : ℕ) (h : List Entry) (ms : List Valued) (cell : Cell) → Says h ms → left_by me (λ c. greatest ms gala c) ≡ 5 → greatest ms gala cell ≡ 0
    → replied (knows (state_of h).names gala) (own_left (office me) h gala) (is_full (state_of h).cells gala cell 5) ≡ Done
may_spend me h ms cell says five_left none = λ i. replied (known h ms says i) ((left_is me h ms says ∙ five_left) i) (has_room h ms cell says none i)

-- a call of an open site that is answered
good_call : {T F : Type 0} (me : ℕ) (h g : List Entry) (entry : Option Entry) (due : SitePart) (closed store : F) (answer : T) → site_of (site_with me g) ≡ due
    → SiteCall no_store (site_with me h) (site_with me g) entry due closed store (Ok answer)
good_call me h g entry due closed store answer made = record {
  office = refl;
  made = made;
  unchanged = tt;
  shut = (λ h. cc, λ h. cc);
  closes = (λ h. cc, λ h. elim h [ inl p ↦ p | inr q ↦ cc ]);
  untouched = tt;
  stored = λ _ trusted. absurd trusted;
  rests = λ _ trusted. absurd trusted;
  stopped = λ h trusted. absurd trusted;
  site = λ trusted. absurd trusted;
  trusted = λ trusted. trusted;
}

abbrev pub answer : ℕ → Answer
answer place = record { reply = Done; place = place; fresh = true }

-- the history with this request, done
abbrev pub with_done : ℕ → List Entry → ℕ → Request → List Entry
with_done me h number request = h ++ Asked number request Done (delta_for (office me) h request Done) ∷ []

pub asks : (me : ℕ) (h : List Entry) (number : ℕ) (request : Request) → decision (office me) h number request ≡ Fresh Done
    → AskCall no_store (site_with me h) (site_with me (with_done me h number request)) number request (Ok (answer (length h)))
asks me h number request fresh =
    let enters : entry_of_ask (office me) h number request ≡ Some (Asked number request Done (delta_for (office me) h request Done)) =
    ap (λ (d : Decision). entry_if d (office me) h number request) fresh in
    record {
      call = good_call me h (with_done me h number request) _ _ _ _ (answer (length h)) (λ i. record { history = extended (sym enters i) h; acked = zeros });
      answer = subst (λ (d : Decision). IsAnswer d (length h) (answer (length h))) (sym fresh) refl;
      fault = tt;
      again = λ kept. cc;
      refused = tt;
    }

abbrev decided : List Valued → Bool → JoinDecision
decided ms within = cond (not (nat_lt 0 2 && not (0 == 1) && are_within 2 ms)) (join.Refuses UnknownSite)
    (join_if (foreign 1 bottom.cells ms) within (nat_le 10 0))

is_new : is_within (said five_given) bottom ≡ false
is_new =
    (λ i. list_all (λ name. knows no_names name) (names_in_order-names_of (gala ∷ []) refl i)
    && list_all (λ m. nat_le m.value (value_at bottom.cells m.event m.cell)) (marks_of (said five_given).cells))
    ∙ (λ i. (knows-no_names gala i && true) && list_all (λ m. nat_le m.value (value_at bottom.cells m.event m.cell)) (marks_of (said five_given).cells))

pub may_join : join_decision (office 1) [] 0 (said five_given) ≡ join.Joins
may_join = λ i. decided (marks_of-cells_of five_given refl (lit≤ tt, (lit≤ tt, tt)) i) (is_new i)

joins : verdict (office 1) [] message ≡ exchange.Joins
joins = ap verdict_of may_join

-- the history of site 1 with the message, and then with the sale
abbrev pub first : List Entry
first = Joined 0 (said five_given) ∷ []

abbrev pub sale : Request
sale = Sell gala 5

abbrev pub last : List Entry
last = with_done 1 first 1 sale

pub takes : TakeCall no_store (site_with 1 []) (site_with 1 first) message (Ok (taken.Joined (Ack 1 0 3)))
takes = record {
  call = good_call 1 [] first _ _ _ _ (taken.Joined (Ack 1 0 3)) (ap (λ (v : Verdict). site_after v message (site_of (site_with 1 []))) (sym joins));
  taken = (joins, refl);
  fault = tt;
  still = λ other. absurd (other joins);
  again = λ other. absurd (other joins);
  known = λ same. let both : exchange.Joins ≡ exchange.NothingNew = sym joins ∙ same in cc;
  refused = tt;
}

says_first : Says first five_given
says_first = record { state = join-bottom (said five_given); rising = refl; marks = (lit≤ tt, (lit≤ tt, tt)) }

five_left : left_by 1 (λ c. greatest five_given gala c) ≡ 5
unfolding max_sites
five_left = refl

pub sells_five : decision (office 1) first 1 sale ≡ Fresh Done
sells_five = ap Fresh (may_spend 1 first five_given (Used 1) says_first five_left refl)

pub sells : AskCall no_store (site_with 1 first) (site_with 1 last) 1 sale (Ok (answer 1))
sells = asks 1 first 1 sale sells_five

abbrev pub sites : List Entry → List Entry → List Message → Sites (Unit {0})
sites h g given = record { books = site_with 0 h ∷ site_with 1 g ∷ []; given = given }

-- site 1 takes the message and sells
abbrev pub takes_and_sells : List (CallAt (Unit {0}))
takes_and_sells =
    record { site = 1; call = Takes message (Ok (taken.Joined (Ack 1 0 3))); after = site_with 1 first }
    ∷ record { site = 1; call = Asks 1 sale (Ok (answer 1)); after = site_with 1 last }
    ∷ []

new_site : (me : ℕ) → me < 2 → IsNew no_store me (site_with me [])
unfolding max_sites
new_site me own = record { me = refl; own = own; few = lit≤ tt; history = refl; acked = refl; opened = refl; rests = λ trusted. absurd trusted }

pub are_new : AreNew no_store (sites [] [] [])
unfolding max_sites
are_new = record { few = lit≤ tt; each = each; none = refl }
  where
    each : (i : ℕ) (site : Site) → slice_get (sites [] [] []).books i ≡ Some site → IsNew no_store i site
    each zero site found = let same : site_with 0 [] ≡ site = cc in subst (IsNew no_store 0) same (new_site 0 (lit< tt))
    each (suc zero) site found = let same : site_with 1 [] ≡ site = cc in subst (IsNew no_store 1) same (new_site 1 (lit< tt))
    each (suc (suc i)) site found = cc
