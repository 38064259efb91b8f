use Rattle.std.proofs.Common.{◌≡◌, ◌<◌, ◌≤◌, ◌-◌, ℕ, arith, vec_len, vec_capacity, subst, sym, ap, ◌∙◌, ◌++◌, ◌∷◌, [], List, length, rules}
use Rattle.event_catalogue.specs.Catalogue.{with_new}
use Rattle.rights_lattice.specs.Cells.{raise_all, marks_of}
use Rattle.rights_lattice.specs.State.{State, names_in_order}
use Rattle.local_rights.specs.Rights.{HasRights}
use Rattle.book_core.specs.declared.entry.Entry.{Entry}
use Rattle.book_core.specs.Decision.{SiteConfig, sites_of}
use Rattle.book_core.specs.History.{asked_from, delta_of, sites_after, state_of}
use Rattle.book_core.specs.Legal.{IsNext, IsLegal}
use Rattle.book_core.specs.BookView.{BookView, MarksAreWithin, IsInOrder, Room, Spends, numbers_in}
use Rattle.book_core.proofs.Histories.{legal_push, legal_sites, next_sites}
use Rattle.book_core.proofs.Rows.{legal_rights}
use Rattle.book_core.proofs.OwnRows.{entered_own}
use Rattle.book_core.proofs.RightsAlong.{rights_along}
use Rattle.book_core.proofs.BookLaws.{marks_within, entered, unkept, keeps_refunds}
use Rattle.book_core.proofs.book.Book.enter.Goals as goal

pub raise_marks-requires-clause-in_range : goal.raise_marks-requires-clause-in_range
raise_marks-requires-clause-in_range c =
    let fields = c.self.inside in
    let office : SiteConfig = record { me = fields.rights.me; sites = fields.first; limit = fields.limit } in
    let next : IsNext office fields.history.items c.planned.inside.entry =
    subst (λ (b : BookView). IsNext b.office b.history c.planned.inside.entry) (sym c.self.view_is)
    (subst (λ (x : Entry). IsNext c.args.self.now.office c.args.self.now.history x) (sym c.planned.view_is) c.requires.next) in
    let me : office.me < sites_of office fields.history.items = omega
    (arith, c.self.invariant.me_is_site, legal_sites office fields.history.items c.self.invariant.legal) in
    subst (λ (n : ℕ). MarksAreWithin n c.marks.result.now) (sym c.self.invariant.sites_are)
    (marks_within office fields.history.items c.planned.inside.entry c.marks.result.now me next
    (c.marks.ensures ∙ ap (λ (d : State). marks_of d.cells) c.delta.ensures))

pub raise_marks-requires-clause-not_negative : goal.raise_marks-requires-clause-not_negative
raise_marks-requires-clause-not_negative c =
    let fields = c.self.inside in
    let office : SiteConfig = record { me = fields.rights.me; sites = fields.first; limit = fields.limit } in
    let next : IsNext office fields.history.items c.planned.inside.entry =
    subst (λ (b : BookView). IsNext b.office b.history c.planned.inside.entry) (sym c.self.view_is)
    (subst (λ (x : Entry). IsNext c.args.self.now.office c.args.self.now.history x) (sym c.planned.view_is) c.requires.next) in
    rights_along office fields.history.items c.planned.inside.entry c.marks.result.now fields.rights.cells c.self.invariant.legal next
    c.self.invariant.cells_are
    (c.marks.ensures ∙ ap (λ (d : State). marks_of d.cells) c.delta.ensures)

pub keep-requires-clause-new : goal.keep-requires-clause-new
keep-requires-clause-new c =
    let fields = c.self.inside in
    let office : SiteConfig = record { me = fields.rights.me; sites = fields.first; limit = fields.limit } in
    let next : IsNext office fields.history.items c.planned.inside.entry =
    subst (λ (b : BookView). IsNext b.office b.history c.planned.inside.entry) (sym c.self.view_is)
    (subst (λ (x : Entry). IsNext c.args.self.now.office c.args.self.now.history x) (sym c.planned.view_is) c.requires.next) in
    unkept office fields.history.items c.planned.inside.entry fields.ledger.entries c.self.invariant.kept_are next

pub keep-requires-clause-refund : goal.keep-requires-clause-refund
keep-requires-clause-refund c =
    let fields = c.self.inside in
    let office : SiteConfig = record { me = fields.rights.me; sites = fields.first; limit = fields.limit } in
    let next : IsNext office fields.history.items c.planned.inside.entry =
    subst (λ (b : BookView). IsNext b.office b.history c.planned.inside.entry) (sym c.self.view_is)
    (subst (λ (x : Entry). IsNext c.args.self.now.office c.args.self.now.history x) (sym c.planned.view_is) c.requires.next) in
    keeps_refunds office fields.history.items c.planned.inside.entry fields.ledger.entries c.self.invariant.kept_are next

pub widen-requires : goal.widen-requires
widen-requires c =
    let fields = c.self.inside in
    let office : SiteConfig = record { me = fields.rights.me; sites = fields.first; limit = fields.limit } in
    let entry = c.planned.inside.entry in
    let next : IsNext office fields.history.items entry =
    subst (λ (b : BookView). IsNext b.office b.history entry) (sym c.self.view_is)
    (subst (λ (x : Entry). IsNext c.args.self.now.office c.args.self.now.history x) (sym c.planned.view_is) c.requires.next) in
    let so_far : c.raise_marks.new.rights.sites ≡ sites_of office fields.history.items = c.raise_marks.ensures.sites ∙ c.self.invariant.sites_are in
    subst (λ (n : ℕ). n ≤ sites_after n entry) (sym so_far) (next_sites office fields.history.items entry next)

pub invariant_of-self : goal.invariant_of-self
invariant_of-self c =
    let fields = c.self.inside in
    let office : SiteConfig = record { me = fields.rights.me; sites = fields.first; limit = fields.limit } in
    let entry = c.planned.inside.entry in
    let rights = c.widen.new.rights in
    let next : IsNext office fields.history.items entry =
    subst (λ (b : BookView). IsNext b.office b.history entry) (sym c.self.view_is)
    (subst (λ (x : Entry). IsNext c.args.self.now.office c.args.self.now.history x) (sym c.planned.view_is) c.requires.next) in
    let sites : rights.sites ≡ sites_after fields.rights.sites entry = c.widen.ensures.sites
    ∙ ap (λ (n : ℕ). sites_after n entry) c.raise_marks.ensures.sites in
    let cells : rights.cells ≡ raise_all fields.rights.cells (marks_of (delta_of entry).cells) =
    c.widen.ensures.cells ∙ c.raise_marks.ensures.cells
    ∙ ap (raise_all fields.rights.cells) (c.marks.ensures ∙ ap (λ (d : State). marks_of d.cells) c.delta.ensures) in
    let names : c.join.new.self.names ≡ with_new fields.names.names (names_in_order (delta_of entry).names) =
    c.join.ensures.names ∙ ap (with_new fields.names.names) (c.names.ensures ∙ ap (λ (d : State). names_in_order d.names) c.delta-2.ensures) in
    let kept : c.keep.new.ledger.entries ≡ fields.ledger.entries ++ asked_from (length fields.history.items) (entry ∷ []) =
    c.keep.ensures.entries ∙ ap (λ (place : ℕ). fields.ledger.entries ++ asked_from place (entry ∷ [])) (search rules) in
    let after = entered office fields.history.items entry fields.rights.sites rights.sites fields.rights.cells rights.cells fields.names.names
    c.join.new.self.names fields.ledger.entries c.keep.new.ledger.entries c.self.invariant next sites cells names kept in
    subst (λ (l : List Entry). IsInOrder (record { me = rights.me; sites = fields.first; limit = fields.limit }) l rights.sites rights.cells
    c.join.new.self.names c.keep.new.ledger.entries) (sym c.push_reserved.ensures.items)
    (subst (λ (n : ℕ). IsInOrder (record { me = n; sites = fields.first; limit = fields.limit }) (fields.history.items ++ entry ∷ []) rights.sites
    rights.cells c.join.new.self.names c.keep.new.ledger.entries) (sym (c.widen.ensures.me ∙ c.raise_marks.ensures.me)) after)

pub returns-clause-own_row : goal.returns-clause-own_row
returns-clause-own_row c =
    let book = c.args.self.now in
    entered_own book _ c.args.planned c.requires.next
    (
    c.push_reserved.ensures.items
    ∙ ap (λ (b : BookView). b.history ++ c.planned.inside.entry ∷ []) c.self.view_is
    ∙ ap (λ (entry : Entry). book.history ++ entry ∷ []) c.planned.view_is
    )

pub returns-clause-has_rights : goal.returns-clause-has_rights
returns-clause-has_rights c =
    let fields = c.self.inside in
    let office : SiteConfig = record { me = fields.rights.me; sites = fields.first; limit = fields.limit } in
    let entry = c.planned.inside.entry in
    let next : IsNext office fields.history.items entry =
    subst (λ (b : BookView). IsNext b.office b.history entry) (sym c.self.view_is)
    (subst (λ (x : Entry). IsNext c.args.self.now.office c.args.self.now.history x) (sym c.planned.view_is) c.requires.next) in
    let legal : IsLegal office c.push_reserved.new.self.items =
    subst (λ (h : List Entry). IsLegal office h) (sym c.push_reserved.ensures.items)
    (legal_push office fields.history.items entry c.self.invariant.legal next) in
    λ event. subst (λ (me : ℕ). HasRights (state_of c.push_reserved.new.self.items).cells event me) (sym (c.widen.ensures.me ∙ c.raise_marks.ensures.me))
    (legal_rights office c.push_reserved.new.self.items legal event)

pub returns-clause-spent : goal.returns-clause-spent
returns-clause-spent c =
    let entry = c.args.planned in
    let marks : c.marks.result.now ≡ marks_of (delta_of entry).cells = c.marks.ensures
    ∙ ap (λ (d : State). marks_of d.cells) (c.delta.ensures ∙ ap delta_of c.planned.view_is) in
    let names : c.names.result.now ≡ names_in_order (delta_of entry).names = c.names.ensures
    ∙ ap (λ (d : State). names_in_order d.names) (c.delta-2.ensures ∙ ap delta_of c.planned.view_is) in
    let numbers : numbers_in c.planned.inside.entry ≡ numbers_in entry = ap numbers_in c.planned.view_is in
    let new : Room = record {
      entries = vec_capacity c.push_reserved.new.self - vec_len c.push_reserved.new.self;
      cells = c.widen.new.rights.room;
      names = c.join.new.self.room;
      numbers = c.keep.new.ledger.room;
    } in
    subst (λ (r : Room). Spends entry r new) (ap (λ (b : BookView). b.room) c.self.view_is) (record {
      entries = search rules;
      cells = omega (arith, c.raise_marks.ensures.room, c.widen.ensures.room, ap length marks);
      names = omega (arith, c.join.ensures.room, ap length names);
      numbers = omega (arith, c.keep.ensures.room, numbers);
    })
