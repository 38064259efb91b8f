-- Along a legal history local rights stay not negative, and the own cells are the sums of the operations.
use Rattle.std.proofs.Common.{◌≡◌, ◌≢◌, ℕ, ◌+◌, ◌≤◌, max, Bool, true, false, cond, ◌&&◌, List, [], ◌∷◌, ◌++◌, Option, Some, None, refl, sym, ap, ◌∙◌, subst, arith, length, eq-eqb, ne_eqb, ltb-false, append-nil}
use Rattle.std.specs.Prelude.{◌==◌}
use Rattle.std.proofs.lemmas.Bool.{eqb-false, and_right, and_parts, and_from}
use Rattle.std.proofs.lemmas.List.Sums.{sum_by-append}
use Rattle.rights_lattice.specs.declared.cell.Cell.{Cell}
use Rattle.rights_lattice.specs.declared.cell.Cell.TheVariants.{Gave, Used, Back}
use Rattle.rights_lattice.specs.Cell.{owner_of, same_cell, same_event}
use Rattle.rights_lattice.specs.Cells.{Cells, value_at, all_zero, RowAtOrBelow}
use Rattle.rights_lattice.specs.State.{State, bottom, At}
use Rattle.rights_lattice.specs.Sums.{max_sites, sum_below}
use Rattle.rights_lattice.proofs.CellLaws.{value_at-raise, value_at-all_zero}
use Rattle.rights_lattice.proofs.SpotLaws.{same_event_is, same_cell_is, value_in-tests}
use Rattle.delta_mutators.specs.Marks.{mark_plus}
use Rattle.local_rights.specs.Rights.{ceded_in, gained, spent, left_of}
use Rattle.local_rights.proofs.KeptLaws.{part_le}
use Rattle.local_rights.proofs.Sums.{sum_below_le, sum_below-zero, sum_raised}
use Rattle.request_ledger.specs.declared.request.Request.{Request}
use Rattle.request_ledger.specs.declared.request.Request.TheVariants.{Announce, Release, Sell, Refund, Cede}
use Rattle.request_ledger.specs.declared.reply.Reply.{Reply}
use Rattle.request_ledger.specs.declared.reply.Reply.TheVariants.{Unknown, Short, ToSelf, NoSite}
use Rattle.request_ledger.specs.declared.reply.SaleState.{SaleState}
use Rattle.request_ledger.specs.Requests.{is_done}
use Rattle.book_core.specs.declared.entry.Entry.{Entry}
use Rattle.book_core.specs.declared.entry.Entry.TheVariants.{Asked, Joined, Grown}
use Rattle.book_core.specs.History.{state_of, sale_of}
use Rattle.book_core.specs.Decision.{SiteConfig, Kind, Releasing, Selling, Refunding, Ceding, Change, cell_of, change_of, refund_of, marked, addition_of, delta_for, reply_to, own_left}
use Rattle.book_core.specs.Legal.{IsNext, IsLegal}
use Rattle.book_core.specs.Operations.{operations, operation_of, operation_if, counted, total, same_kind}
use Rattle.book_core.proofs.Histories.{at-push, operations_push, legal_along}

-- what an accepted change adds to a cell
abbrev pub gain : ℕ → Option Change → List ℕ → Cell → ℕ
gain me None event cell = 0
gain me (Some c) event cell = cond (same_event event c.event && same_cell cell (cell_of me c.kind)) c.amount 0

-- joining the mark of a change adds its amount
pub marked_at : (me : ℕ) (X : Cells) (o : Option Change) (event : List ℕ) (cell : Cell)
    → max (value_at X event cell) (value_at (marked me X o).cells event cell) ≡ value_at X event cell + gain me o event cell
marked_at me X None event cell = omega (arith, value_at-all_zero event cell)
marked_at me X (Some c) event cell =
    let m = mark_plus X c.event (cell_of me c.kind) c.amount in
    omega (
      arith,
      value_at-raise all_zero m event cell,
      value_at-all_zero event cell,
      value_in-tests m event cell,
      by_test (same_event event c.event && same_cell cell (cell_of me c.kind)) refl,
    )
  where
    by_test : (b : Bool) → (same_event event c.event && same_cell cell (cell_of me c.kind)) ≡ b
        → max (value_at X event cell) (cond b (value_at X c.event (cell_of me c.kind) + c.amount) 0) ≡ value_at X event cell + cond b c.amount 0
    by_test false q = omega arith
    by_test true q =
        let p = and_parts (same_event event c.event) (same_cell cell (cell_of me c.kind)) q in
        let here : value_at X event cell ≡ value_at X c.event (cell_of me c.kind) =
        ap (λ e. value_at X e cell) (same_event_is event c.event p.0) ∙ ap (λ d. value_at X c.event d) (same_cell_is cell (cell_of me c.kind) p.1) in
        omega arith

-- so does joining what a request adds
pub addition_at : (office : SiteConfig) (h : List Entry) (request : Request) (event : List ℕ) (cell : Cell)
    → max (value_at (state_of h).cells event cell) (value_at (addition_of office h request).cells event cell) ≡ value_at (state_of h).cells event cell +
    gain office.me (change_of h request) event cell
addition_at office h (Announce name) event cell = omega (arith, value_at-all_zero event cell)
addition_at office h (Release of n) event cell = marked_at office.me (state_of h).cells (change_of h (Release of n)) event cell
addition_at office h (Sell of n) event cell = marked_at office.me (state_of h).cells (change_of h (Sell of n)) event cell
addition_at office h (Refund sale part) event cell = marked_at office.me (state_of h).cells (refund_of (sale_of h sale) part) event cell
addition_at office h (Cede of to n) event cell = marked_at office.me (state_of h).cells (change_of h (Cede of to n)) event cell

-- the change of an asked entry, where it was accepted
abbrev pub accepted : List Entry → Request → Reply → Option Change
accepted h request reply = cond (is_done reply) (change_of h request) None

-- an asked entry adds the amount of its change to its cell
pub asked_at : (office : SiteConfig) (h : List Entry) (number : ℕ) (request : Request) (reply : Reply) (event : List ℕ) (cell : Cell)
    → value_at (state_of (h ++ Asked number request reply (delta_for office h request reply) ∷ [])).cells event cell ≡ value_at (state_of h).cells event
    cell + gain office.me (accepted h request reply) event cell
asked_at office h number request reply event cell =
    at-push h (Asked number request reply (delta_for office h request reply)) (At event cell) ∙ by_test (is_done reply)
  where
    by_test : (b : Bool)
        → max (value_at (state_of h).cells event cell) (value_at (cond b (addition_of office h request) bottom).cells event cell)
        ≡ value_at (state_of h).cells event cell + gain office.me (cond b (change_of h request) None) event cell
    by_test true = addition_at office h request event cell
    by_test false = omega (arith, value_at-all_zero event cell)

-- what an accepted change adds to the sum of a kind
abbrev pub share : Kind → List ℕ → Option Change → ℕ
share kind event None = 0
share kind event (Some c) = cond (same_event event c.event && same_kind kind c.kind) c.amount 0

total_if : (me place : ℕ) (kind : Kind) (event : List ℕ) (o : Option Change) → total kind event (operation_if me place o) ≡ share kind event o
total_if me place kind event None = refl
total_if me place kind event (Some c) = omega arith

pub asked_total : (me : ℕ) (h : List Entry) (number : ℕ) (request : Request) (reply : Reply) (delta : State) (kind : Kind) (event : List ℕ)
    → total kind event (operations me (h ++ Asked number request reply delta ∷ [])) ≡ total kind event (operations me h) + share kind event
    (accepted h request reply)
asked_total me h number request reply delta kind event =
    ap (total kind event) (operations_push me h (Asked number request reply delta))
    ∙ sum_by-append (counted kind event) (operations me h) (operation_of me h (Asked number request reply delta))
    ∙ ap (λ n. total kind event (operations me h) + n) (by_test (is_done reply))
  where
    by_test : (b : Bool) → total kind event (cond b (operation_if me (length h) (change_of h request)) []) ≡ share kind event
        (cond b (change_of h request) None)
    by_test true = total_if me (length h) kind event (change_of h request)
    by_test false = refl

-- what a site may do: sell and cede within its rights, and cede to another
abbrev pub IsAllowed : ℕ → Cells → Kind → List ℕ → ℕ → Type 0
IsAllowed me x Releasing event amount = Unit {0}
IsAllowed me x Refunding event amount = Unit {0}
IsAllowed me x Selling event amount = amount ≤ left_of x event me
IsAllowed me x (Ceding to) event amount = (to ≢ me) × (amount ≤ left_of x event me)

abbrev pub Allowed : ℕ → Cells → Option Change → Type 0
Allowed me x None = Unit {0}
Allowed me x (Some c) = IsAllowed me x c.kind c.event c.amount

-- a reply behind a refusal is done only where the refusal doesn't apply
pub past : (b : Bool) (refusal reply : Reply) → is_done refusal ≡ false → is_done (cond b refusal reply) ≡ true → (b ≡ false) × (is_done reply ≡ true)
past true refusal reply refused h = cc
past false refusal reply refused h = (refl, h)

pub done_allowed : (office : SiteConfig) (h : List Entry) (request : Request) → is_done (reply_to office h request) ≡ true
    → Allowed office.me (state_of h).cells (change_of h request)
done_allowed office h (Announce event) e = tt
done_allowed office h (Release event seats) e = tt
done_allowed office h (Refund sale part) e = of_sale (sale_of h sale)
  where
    of_sale : (o : Option SaleState) → Allowed office.me (state_of h).cells (refund_of o part)
    of_sale None = tt
    of_sale (Some sale) = tt
done_allowed office h (Sell event seats) e =
    let known = past _ Unknown _ refl e in
    let enough = past _ (Short (own_left office h event)) _ refl known.1 in
    ltb-false (own_left office h event) seats enough.0
done_allowed office h (Cede event to seats) e =
    let known = past _ Unknown _ refl e in
    let other = past _ ToSelf _ refl known.1 in
    let site = past _ NoSite _ refl other.1 in
    let enough = past _ (Short (own_left office h event)) _ refl site.1 in
    (eqb-false to office.me other.0, ltb-false (own_left office h event) seats enough.0)

-- a legal asked entry is allowed
pub asked_allowed : (office : SiteConfig) (h : List Entry) (request : Request) (reply : Reply) → reply ≡ reply_to office h request
    → Allowed office.me (state_of h).cells (accepted h request reply)
asked_allowed office h request reply answer = by_test (is_done reply) refl
  where
    by_test : (b : Bool) → is_done reply ≡ b → Allowed office.me (state_of h).cells (cond b (change_of h request) None)
    by_test true q = done_allowed office h request (ap is_done (sym answer) ∙ q)
    by_test false q = tt

ceded_le : (x y : Cells) (event : List ℕ) (i j : ℕ) → (j ≢ i → (value_at y event (Gave i j)) ≤ (value_at x event (Gave i j)))
    → ceded_in y event i j ≤ ceded_in x event i j
ceded_le x y event i j h = by_test (i == j) refl
  where
    by_test : (b : Bool) → (i == j) ≡ b → cond b 0 ((value_at y event (Gave i j))) ≤ cond b 0 ((value_at x event (Gave i j)))
    by_test true q = omega arith
    by_test false q = h (λ e. eqb-false i j q (sym e))

-- a state with no more in the cells that consume, and no less elsewhere, keeps rights not negative
pub spent_le : (x y : Cells) (event : List ℕ) (i : ℕ) → (value_at y event (Used i)) ≤ (value_at x event (Used i))
    → ((j : ℕ) → j ≢ i → (value_at y event (Gave i j)) ≤ (value_at x event (Gave i j))) → spent y event i ≤ spent x event i
spent_le x y event i used gave = omega
    (arith, used, sum_below_le max_sites (λ j. ceded_in y event i j) (λ j. ceded_in x event i j) (λ j l. ceded_le x y event i j (gave j)))

pub gained_le : (x y : Cells) (event : List ℕ) (i : ℕ) → ((cell : Cell) → (value_at x event cell) ≤ (value_at y event cell))
    → gained x event i ≤ gained y event i
gained_le x y event i more =
    omega (
      arith,
      more (Gave i i),
      more (Back i),
      sum_below_le max_sites (λ j. ceded_in x event j i) (λ j. ceded_in y event j i)
          (λ j l. ceded_le y x event j i (λ _. more (Gave j i))),
    )

pub miss : (b c : Bool) (a : ℕ) → c ≡ false → cond (b && c) a 0 ≡ 0
miss true c a q = ap (λ t. cond t a 0) q
miss false c a q = refl

-- y is x after an allowed change
abbrev pub After : ℕ → Cells → Option Change → Cells → Type 0
After me x o y = (event : List ℕ) (cell : Cell) → (value_at y event cell) ≡ (value_at x event cell) + gain me o event cell

spent_by_kind : (me : ℕ) (x y : Cells) (kind : Kind) (of : List ℕ) (amount : ℕ)
    → ((event : List ℕ) (cell : Cell)
    → (value_at y event cell) ≡ (value_at x event cell) + gain me (Some (record { kind = kind; event = of; amount = amount })) event cell)
    → IsAllowed me x kind of amount
    → (event : List ℕ) → spent x event me ≤ gained x event me → event ≡ of → spent y event me ≤ gained x event me
spent_by_kind me x y Releasing of amount step may event before same =
    omega (
      arith,
      before,
      spent_le x y event me
          (omega (arith, step event (Used me), miss (same_event event of) false amount refl))
          (λ j ne. omega (
            arith,
            step event (Gave me j),
            miss (same_event event of) ((me == me) && (j == me)) amount (and_right (me == me) (j == me) (ne_eqb j me ne)),
          )),
    )
spent_by_kind me x y Refunding of amount step may event before same =
    omega (
      arith,
      before,
      spent_le x y event me
          (omega (arith, step event (Used me), miss (same_event event of) false amount refl))
          (λ j ne. omega (arith, step event (Gave me j), miss (same_event event of) false amount refl)),
    )
spent_by_kind me x y Selling of amount step may event before same =
    let gave : sum_below max_sites (λ j. ceded_in y event me j) ≤ sum_below max_sites (λ j. ceded_in x event me j) =
    sum_below_le max_sites _ _ (λ j l. ceded_le x y event me j (λ ne. omega (arith, step event (Gave me j), miss (same_event event of) false amount refl))) in
    let used : (value_at y event (Used me)) ≤ (value_at x event (Used me)) + amount =
    omega (arith, step event (Used me), part_le (same_event event of && (me == me)) amount) in
    let enough : amount ≤ left_of x event me = subst (λ e. amount ≤ left_of x e me) (sym same) may in
    omega (arith, before, gave, used, enough)
spent_by_kind me x y (Ceding to) of amount step may event before same =
    let gave : sum_below max_sites (λ j. ceded_in y event me j) ≤ sum_below max_sites (λ j. ceded_in x event me j) + amount =
    sum_raised max_sites (λ j. ceded_in x event me j) (λ j. ceded_in y event me j) to amount
    (λ j ne. ceded_le x y event me j
    (λ _. omega (
      arith,
      step event (Gave me j),
      miss (same_event event of) ((me == me) && (j == to)) amount (and_right (me == me) (j == to) (ne_eqb j to ne)),
    )))
    (ceded_more (me == to) (omega (arith, step event (Gave me to), part_le (same_event event of && ((me == me) && (to == to))) amount))) in
    let used : (value_at y event (Used me)) ≤ (value_at x event (Used me)) =
    omega (arith, step event (Used me), miss (same_event event of) false amount refl) in
    let enough : amount ≤ left_of x event me = subst (λ e. amount ≤ left_of x e me) (sym same) may.1 in
    omega (arith, before, gave, used, enough)
  where
    ceded_more : (b : Bool) → (value_at y event (Gave me to)) ≤ (value_at x event (Gave me to)) + amount
        → cond b 0 ((value_at y event (Gave me to))) ≤ cond b 0 ((value_at x event (Gave me to))) + amount
    ceded_more true h = omega arith
    ceded_more false h = h

-- what is at or below for all cells of the event keeps rights not negative
rights_same : (me : ℕ) (x y : Cells) (event : List ℕ) → ((cell : Cell) → (value_at y event cell) ≡ (value_at x event cell))
    → spent x event me ≤ gained x event me → spent y event me ≤ gained y event me
rights_same me x y event same before =
    omega (
      arith,
      before,
      spent_le x y event me (omega (arith, same (Used me))) (λ j ne. omega (arith, same (Gave me j))),
      gained_le x y event me (λ cell. omega (arith, same cell)),
    )

-- an allowed change keeps rights not negative
pub rights_after : (me : ℕ) (x y : Cells) (o : Option Change) → After me x o y → Allowed me x o
    → (event : List ℕ) → spent x event me ≤ gained x event me → spent y event me ≤ gained y event me
rights_after me x y None step may event before = rights_same me x y event (λ cell. omega (arith, step event cell)) before
rights_after me x y (Some c) step may event before = by_test (same_event event c.event) refl
  where
    by_test : (b : Bool) → same_event event c.event ≡ b → spent y event me ≤ gained y event me
    by_test false q =
        rights_same me x y event (λ cell. step event cell ∙ ap (λ b. (value_at x event cell) + cond (b && same_cell cell (cell_of me c.kind)) c.amount 0) q
        ∙ omega arith) before
    by_test true q =
        omega (
          arith,
          spent_by_kind me x y c.kind c.event c.amount step may event before (same_event_is event c.event q),
          gained_le x y event me (λ cell. omega (arith, step event cell)),
        )

-- a delta with no more on the own row than the state leaves that row
pub joined_own : (me : ℕ) (h : List Entry) (peer : ℕ) (delta : State) → RowAtOrBelow me delta.cells (state_of h).cells → (event : List ℕ) (cell : Cell)
    → owner_of cell ≡ me
    → (value_at (state_of (h ++ Joined peer delta ∷ [])).cells event cell) ≡ (value_at (state_of h).cells event cell)
joined_own me h peer delta row event cell own = omega (arith, at-push h (Joined peer delta) (At event cell), row event cell own)

-- a growth leaves each cell
pub grown_at : (h : List Entry) (sites : ℕ) (event : List ℕ) (cell : Cell)
    → value_at (state_of (h ++ Grown sites ∷ [])).cells event cell ≡ value_at (state_of h).cells event cell
grown_at h sites event cell = omega (arith, at-push h (Grown sites) (At event cell), value_at-all_zero event cell)

zero_le : (b : Bool) (v : ℕ) → v ≡ 0 → cond b 0 v ≤ 0
zero_le true v h = omega arith
zero_le false v h = omega (arith, h)

-- local rights are never negative
pub legal_rights : (office : SiteConfig) (h : List Entry) → IsLegal office h → (event : List ℕ)
    → spent (state_of h).cells event office.me ≤ gained (state_of h).cells event office.me
legal_rights office = legal_along office (λ h. (event : List ℕ) → spent (state_of h).cells event office.me ≤ gained (state_of h).cells event office.me)
    (λ event. omega (
      arith,
      value_at-all_zero event (Used office.me),
      sum_below_le max_sites (λ j. ceded_in (state_of []).cells event office.me j) (λ _. 0)
          (λ j l. zero_le (office.me == j) _ (value_at-all_zero event (Gave office.me j))),
      sum_below-zero max_sites,
    ))
    more
  where
    more : (h : List Entry) (entry : Entry) → ((event : List ℕ) → spent (state_of h).cells event office.me ≤ gained (state_of h).cells event office.me)
        → IsNext office h entry
        → (event : List ℕ) → spent (state_of (h ++ entry ∷ [])).cells event office.me ≤ gained (state_of (h ++ entry ∷ [])).cells event office.me
    more h (Asked number request reply delta) before next event =
        rw next.change (rights_after office.me (state_of h).cells
        (state_of (h ++ Asked number request reply (delta_for office h request reply) ∷ [])).cells (accepted h request reply)
        (asked_at office h number request reply) (asked_allowed office h request reply next.answer) event (before event))
    more h (Joined peer delta) before next event =
        omega (
          arith,
          before event,
          spent_le (state_of h).cells (state_of (h ++ Joined peer delta ∷ [])).cells event office.me
              (omega (arith, joined_own office.me h peer delta next.own_row event (Used office.me) refl))
              (λ j ne. omega (arith, joined_own office.me h peer delta next.own_row event (Gave office.me j) refl)),
          gained_le (state_of h).cells (state_of (h ++ Joined peer delta ∷ [])).cells event office.me
              (λ cell. omega (arith, at-push h (Joined peer delta) (At event cell))),
        )
    more h (Grown sites) before next event =
        rights_same office.me (state_of h).cells (state_of (h ++ Grown sites ∷ [])).cells event (grown_at h sites event) (before event)

-- a site cedes to others only
abbrev pub IsProper : ℕ → Kind → Type 0
IsProper me (Ceding to) = to ≢ me
IsProper me _ = Unit {0}

-- the own cells tell the kinds apart
own_cells : (me : ℕ) (k l : Kind) → IsProper me k → IsProper me l → same_cell (cell_of me k) (cell_of me l) ≡ same_kind k l
own_cells me Releasing Releasing p q = and_from (me == me) (me == me) (eq-eqb me me refl) (eq-eqb me me refl)
own_cells me Releasing (Ceding to) p q = and_right (me == me) (me == to) (ne_eqb me to (λ e. q (sym e)))
own_cells me (Ceding to) Releasing p q = and_right (me == me) (to == me) (ne_eqb to me p)
own_cells me (Ceding i) (Ceding j) p q = ap (λ b. b && (i == j)) (eq-eqb me me refl)
own_cells me Selling Selling p q = eq-eqb me me refl
own_cells me Refunding Refunding p q = eq-eqb me me refl
own_cells me Releasing Selling p q = refl
own_cells me Releasing Refunding p q = refl
own_cells me Selling Releasing p q = refl
own_cells me Selling Refunding p q = refl
own_cells me Selling (Ceding to) p q = refl
own_cells me Refunding Releasing p q = refl
own_cells me Refunding Selling p q = refl
own_cells me Refunding (Ceding to) p q = refl
own_cells me (Ceding to) Selling p q = refl
own_cells me (Ceding to) Refunding p q = refl

allowed_proper : (me : ℕ) (x : Cells) (k : Kind) (event : List ℕ) (amount : ℕ) → IsAllowed me x k event amount → IsProper me k
allowed_proper me x Releasing event amount h = tt
allowed_proper me x Selling event amount h = tt
allowed_proper me x Refunding event amount h = tt
allowed_proper me x (Ceding to) event amount h = h.0

gain_share : (me : ℕ) (x : Cells) (o : Option Change) → Allowed me x o → (k : Kind) → IsProper me k → (event : List ℕ)
    → gain me o event (cell_of me k) ≡ share k event o
gain_share me x None may k p event = refl
gain_share me x (Some c) may k p event =
    ap (λ b. cond (same_event event c.event && b) c.amount 0) (own_cells me k c.kind p (allowed_proper me x c.kind c.event c.amount may))

pub own_cell : (me : ℕ) (k : Kind) → owner_of (cell_of me k) ≡ me
own_cell me Releasing = refl
own_cell me Selling = refl
own_cell me Refunding = refl
own_cell me (Ceding to) = refl

-- each own cell is the sum of the operations of its kind
pub legal_cells : (office : SiteConfig) (h : List Entry) → IsLegal office h → (k : Kind) → IsProper office.me k → (event : List ℕ)
    → (value_at (state_of h).cells event (cell_of office.me k)) ≡ total k event (operations office.me h)
legal_cells office = legal_along office (λ h. (k : Kind) → IsProper office.me k → (event : List ℕ)
    → (value_at (state_of h).cells event (cell_of office.me k)) ≡ total k event (operations office.me h))
    (λ k p event. value_at-all_zero event (cell_of office.me k))
    more
  where
    more : (h : List Entry) (entry : Entry)
        → ((k : Kind) → IsProper office.me k → (event : List ℕ)
        → (value_at (state_of h).cells event (cell_of office.me k)) ≡ total k event (operations office.me h)) → IsNext office h entry
        → (k : Kind) → IsProper office.me k → (event : List ℕ)
        → (value_at (state_of (h ++ entry ∷ [])).cells event (cell_of office.me k)) ≡ total k event (operations office.me (h ++ entry ∷ []))
    more h (Asked number request reply delta) before next k p event =
        rw next.change (
        asked_at office h number request reply event (cell_of office.me k)
        ∙ omega (
          arith,
          before k p event,
          asked_total office.me h number request reply (delta_for office h request reply) k event,
          gain_share office.me (state_of h).cells (accepted h request reply) (asked_allowed office h request reply next.answer) k p event,
        ))
    more h (Joined peer delta) before next k p event =
        joined_own office.me h peer delta next.own_row event (cell_of office.me k) (own_cell office.me k)
        ∙ before k p event
        ∙ sym (ap (total k event) (operations_push office.me h (Joined peer delta) ∙ append-nil (operations office.me h)))
    more h (Grown sites) before next k p event =
        grown_at h sites event (cell_of office.me k)
        ∙ before k p event
        ∙ sym (ap (total k event) (operations_push office.me h (Grown sites) ∙ append-nil (operations office.me h)))
