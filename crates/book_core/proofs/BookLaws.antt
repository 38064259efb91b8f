-- What opening and entering keep.
use Rattle.std.proofs.Common.{◌≡◌, ℕ, ◌+◌, ◌≤◌, ◌<◌, Bool, true, false, cond, not, List, [], ◌∷◌, ◌++◌, Option, Some, None, refl, sym, ap, ◌∙◌, subst, arith, leb-false, length}
use Rattle.std.specs.Prelude.{nat_le, ◌==◌, IsSomeAnd}
use Rattle.rights_lattice.specs.declared.cell.Cell.TheVariants.{Used, Back}
use Rattle.rights_lattice.specs.Cells.{Cells, Valued, greatest_value, value_at, all_zero, raise_all, marks_of, greatest}
use Rattle.rights_lattice.specs.Cells as cells
use Rattle.rights_lattice.specs.State.{State, bottom, knows, names_in_order}
use Rattle.rights_lattice.specs.RightsView.{IsCellOf, IsWithin}
use Rattle.rights_lattice.proofs.CellLaws.{greatest-marks_of}
use Rattle.rights_lattice.proofs.RightsLaws.{within_zero, within_raise, join-marks}
use Rattle.delta_mutators.specs.Marks.{mark_plus}
use Rattle.request_ledger.specs.declared.request.Request.{Request}
use Rattle.request_ledger.specs.declared.request.Request.TheVariants.{Announce, Release, Sell, Refund, Cede}
use Rattle.request_ledger.specs.declared.reply.Reply.{Reply}
use Rattle.request_ledger.specs.declared.reply.Reply.TheVariants.{Done, Unknown, ToSelf, NoSite}
use Rattle.request_ledger.specs.declared.reply.SaleState.{SaleState}
use Rattle.request_ledger.specs.Requests.{is_done}
use Rattle.request_ledger.specs.Ledger.{KeptByNumber, kept_under, rest_of, amount_back, IsRefundable}
use Rattle.event_catalogue.specs.Catalogue.{with_new}
use Rattle.book_core.specs.declared.entry.Entry.{Entry}
use Rattle.book_core.specs.declared.entry.Entry.TheVariants.{Asked, Joined, Grown}
use Rattle.book_core.specs.History.{delta_of, state_of, asked, asked_from, sale_of, sites_after}
use Rattle.book_core.specs.Decision.{SiteConfig, sites_of, Change, cell_of, change_of, refund_of, marked, addition_of, delta_for, refund_reply, reply_to}
use Rattle.book_core.specs.Legal.{IsNext, IsLegal}
use Rattle.book_core.specs.BookView.{MarksAreWithin, IsInOrder, IsUnkept, KeepsRefunds}
use Rattle.book_core.proofs.Histories.{state_of-push, sites_of-push, legal_push}
use Rattle.book_core.proofs.NameLaws.{names_of-push}
use Rattle.book_core.proofs.Kept.{asked-push}
use Rattle.book_core.proofs.Refunds.{refund_fits, done_within}

-- one more cell takes at most one place of the room
pub room_left : (b : Bool) (old new len i : ℕ) → old ≤ new + cond b 1 0 → len ≤ old + i → len ≤ new + (i + 1)
room_left true old new len i p q = omega arith
room_left false old new len i p q = omega arith

-- the cell of a change is of sites below the count
abbrev IsOfSites : ℕ → ℕ → Option Change → Type 0
IsOfSites me n None = Unit {0}
IsOfSites me n (Some c) = IsCellOf n (cell_of me c.kind)

past_sites : (unknown self past : Bool) (r : Reply) → is_done (cond unknown Unknown (cond self ToSelf (cond past NoSite r))) ≡ true → past ≡ false
past_sites true self past r h = cc
past_sites false true past r h = cc
past_sites false false true r h = cc
past_sites false false false r h = refl

done_of_sites : (office : SiteConfig) (h : List Entry) (request : Request) → office.me < sites_of office h → is_done (reply_to office h request) ≡ true
    → IsOfSites office.me (sites_of office h) (change_of h request)
done_of_sites office h (Announce event) me e = tt
done_of_sites office h (Release event n) me e = (me, me)
done_of_sites office h (Sell event n) me e = me
done_of_sites office h (Refund sale part) me e = of_sale (sale_of h sale)
  where
    of_sale : (o : Option SaleState) → IsOfSites office.me (sites_of office h) (refund_of o part)
    of_sale None = tt
    of_sale (Some sale) = me
done_of_sites office h (Cede event to n) me e =
    (me, leb-false (sites_of office h) to (past_sites (not (knows (state_of h).names event)) (to == office.me) (nat_le (sites_of office h) to) _ e))

marked_within : (me n : ℕ) (X : Cells) (o : Option Change) → IsOfSites me n o → IsWithin n (marked me X o).cells
marked_within me n X None of = within_zero n
marked_within me n X (Some c) of = within_raise n all_zero (mark_plus X c.event (cell_of me c.kind) c.amount) (within_zero n) of

addition_within : (office : SiteConfig) (n : ℕ) (h : List Entry) (request : Request) → IsOfSites office.me n (change_of h request)
    → IsWithin n (addition_of office h request).cells
addition_within office n h (Announce event) of = within_zero n
addition_within office n h (Release event m) of = marked_within office.me n (state_of h).cells (change_of h (Release event m)) of
addition_within office n h (Sell event m) of = marked_within office.me n (state_of h).cells (change_of h (Sell event m)) of
addition_within office n h (Refund sale part) of = marked_within office.me n (state_of h).cells (refund_of (sale_of h sale) part) of
addition_within office n h (Cede event to m) of = marked_within office.me n (state_of h).cells (change_of h (Cede event to m)) of

delta_within : (office : SiteConfig) (h : List Entry) (request : Request) (reply : Reply) → office.me < sites_of office h → reply ≡ reply_to office h request
    → IsWithin (sites_of office h) (delta_for office h request reply).cells
delta_within office h request reply me answer = by_test (is_done reply) refl
  where
    by_test : (b : Bool) → is_done reply ≡ b → IsWithin (sites_of office h) (cond b (addition_of office h request) bottom).cells
    by_test true q = addition_within office (sites_of office h) h request (done_of_sites office h request me (ap is_done (sym answer) ∙ q))
    by_test false q = within_zero (sites_of office h)

-- what is legal next names sites below the count so far
pub next_within : (office : SiteConfig) (h : List Entry) (entry : Entry) → office.me < sites_of office h → IsNext office h entry
    → IsWithin (sites_of office h) (delta_of entry).cells
next_within office h (Asked number request reply delta) me next =
    subst (λ (d : State). IsWithin (sites_of office h) d.cells) (sym next.change) (delta_within office h request reply me next.answer)
next_within office h (Joined peer delta) me next = next.sites
next_within office h (Grown sites) me next = within_zero (sites_of office h)

pub marks_within : (office : SiteConfig) (h : List Entry) (entry : Entry) (ms : List Valued) → office.me < sites_of office h → IsNext office h entry
    → ms ≡ marks_of (delta_of entry).cells → MarksAreWithin (sites_of office h) ms
marks_within office h entry ms me next is e c some =
    next_within office h entry me next e c
    (subst (λ (n : ℕ). 1 ≤ n) (ap (λ (l : List Valued). greatest l e c) is ∙ greatest-marks_of (delta_of entry).cells e c) some)

pub entered : (office : SiteConfig) (h : List Entry) (entry : Entry) (n m : ℕ) (X Y : Cells) (ns ms : List (List ℕ)) (kept_before kept_after : KeptByNumber)
    → IsInOrder office h n X ns kept_before → IsNext office h entry
    → m ≡ sites_after n entry
    → Y ≡ raise_all X (marks_of (delta_of entry).cells)
    → ms ≡ with_new ns (names_in_order (delta_of entry).names)
    → kept_after ≡ kept_before ++ asked_from (length h) (entry ∷ [])
    → IsInOrder office (h ++ entry ∷ []) m Y ms kept_after
entered office h entry n m X Y ns ms kept_before kept_after before next m_is Y_is ms_are kept_is = record {
  me_is_site = before.me_is_site;
  legal = legal_push office h entry before.legal next;
  sites_are = m_is ∙ ap (λ k. sites_after k entry) before.sites_are ∙ sym (sites_of-push office h entry);
  cells_are = Y_is ∙ sym (join-marks X (delta_of entry).cells) ∙ ap (λ (Z : Cells). cells.join Z (delta_of entry).cells) before.cells_are
      ∙ sym (ap (λ (s : State). s.cells) (state_of-push h entry));
  names_are = ms_are ∙ ap (λ (known : List (List ℕ)). with_new known (names_in_order (delta_of entry).names)) before.names_are ∙ sym (names_of-push h entry);
  kept_are = kept_is ∙ ap (λ (es : KeptByNumber). es ++ asked_from (length h) (entry ∷ [])) before.kept_are ∙ sym (asked-push h entry);
}

pub opening : (office : SiteConfig) (h : List Entry) (sites : ℕ) (cells : Cells) (names : List (List ℕ)) (ledger : KeptByNumber)
    → office.me < office.sites → h ≡ [] → sites ≡ office.sites → cells ≡ all_zero → names ≡ [] → ledger ≡ [] → IsInOrder office h sites cells names ledger
opening office h sites cells names ledger me h_is sites_is cells_is names_is ledger_is =
    subst (λ (x : List Entry). IsInOrder office x sites cells names ledger) (sym h_is)
    (record {
      me_is_site = me;
      legal = λ k entry found. cc;
      sites_are = sites_is;
      cells_are = cells_is;
      names_are = names_is;
      kept_are = ledger_is;
    })

-- the number of an entry that is next is new
pub unkept : (office : SiteConfig) (h : List Entry) (entry : Entry) (es : KeptByNumber) → es ≡ asked h → IsNext office h entry → IsUnkept es entry
unkept office h (Asked number request reply delta) es is next = ap (λ (xs : KeptByNumber). kept_under xs number) is ∙ next.new
unkept office h (Joined peer delta) es is next = tt
unkept office h (Grown sites) es is next = tt

refundable : (h : List Entry) (request : Request) (reply : Reply) → (office : SiteConfig) → reply ≡ reply_to office h request
    → IsRefundable (asked h) request reply
refundable h (Refund sale part) Done office answer = of_sale (sale_of h sale) answer
  where
    of_sale : (o : Option SaleState) → Done ≡ refund_reply o part → IsSomeAnd o (λ state. amount_back part state ≤ rest_of state)
    of_sale None d = cc
    of_sale (Some state) d = done_within part state d
refundable h _ _ office answer = tt

-- a refund that is next and done is of a sale that is kept and gives back no more than is left of it
pub keeps_refunds : (office : SiteConfig) (h : List Entry) (entry : Entry) (es : KeptByNumber) → es ≡ asked h → IsNext office h entry → KeepsRefunds es entry
keeps_refunds office h (Asked number request reply delta) es is next =
    subst (λ (xs : KeptByNumber). IsRefundable xs request reply) (sym is) (refundable h request reply office next.answer)
keeps_refunds office h (Joined peer delta) es is next = tt
keeps_refunds office h (Grown sites) es is next = tt

-- a refund's mark is not above the greatest value
pub refund_room : (office : SiteConfig) (h : List Entry) (number : ℕ) (sale : SaleState) (X : Cells) → IsLegal office h → sale_of h number ≡ Some sale
    → X ≡ (state_of h).cells
    → value_at X sale.event (Used office.me) ≤ greatest_value → value_at X sale.event (Back office.me) + rest_of sale ≤ greatest_value
refund_room office h number sale X legal found is most =
    omega (
      arith,
      most,
      refund_fits office h number sale legal found,
      ap (λ Y. value_at Y sale.event (Used office.me)) is,
      ap (λ Y. value_at Y sale.event (Back office.me)) is,
    )
