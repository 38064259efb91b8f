use Rattle.std.proofs.Common.{◌≡◌, ◌≤◌, ℕ, zero, suc, List, [], ◌∷◌, map, inl, inr, Ok, Err, refl, sym, ap, ◌∙◌, subst}
use Rattle.local_rights.specs.declared.seat_totals.Totals.{Totals}
use Rattle.book_core.specs.BookView.{BookView}
use Rattle.world_steps.specs.declared.auditing.AuditFault.{AuditFault}
use Rattle.world_steps.specs.declared.auditing.AuditFault.TheVariants as audit
use Rattle.world_steps.specs.Audit.{IsFirstAhead, IsWhole, books_of, events_in, totals_in}
use Rattle.book_core.specs.Books.{AreNotOversold}
use Rattle.operator_cli.specs.declared.told.CommandReply.{CommandReply}
use Rattle.operator_cli.specs.declared.told.CommandReply.TheVariants.{NotWhole, Ahead}
use Rattle.operator_cli.specs.CommandReply.{ended_by_audit, told_line, told_status}
use Rattle.operator_cli.specs.Audited.{AreWithinSales, IsAuditText}
use Rattle.operator_cli.proofs.BrokenOff.{unprinted_write}
use Rattle.operator_cli.proofs.PrintLaws.{told_printed}
use Rattle.operator_cli.proofs.audit.print_audit.Goals as goal

-- sums of books that are not oversold
sums : (books : List BookView) → AreNotOversold books → (events : List (List ℕ)) → AreWithinSales (map (λ event. (event, totals_in books event)) events)
sums books fine [] k sum found = cc
sums books fine (event ∷ events) zero sum found =
    let same : ◌≡◌ {A = List ℕ × Totals} (event, totals_in books event) sum = cc in
    subst (λ (s : List ℕ × Totals). s.1.refunded ≤ s.1.sold) same (fine event).1
sums books fine (event ∷ events) (suc k) sum found = sums books fine events k sum found

-- what is told is the first that stands in the way
tells : (books : List BookView) (fault : AuditFault) (told : CommandReply) → ended_by_audit fault ≡ Ok told → (fault ≡ audit.NotWhole → IsWhole books → ⊥)
    → ((v o : ℕ) → fault ≡ audit.Ahead v o → IsWhole books × IsFirstAhead books v o) → IsAuditText books (told_status told) (told_line told)
tells books audit.NotWhole told is none ahead =
    let same : NotWhole ≡ told = cc in
    subst (λ t. IsAuditText books (told_status t) (told_line t)) same (inl (none refl, refl))
tells books (audit.Ahead v o) told is none ahead =
    let same : Ahead v o ≡ told = cc in
    let found = ahead v o refl in
    subst (λ t. IsAuditText books (told_status t) (told_line t)) same (inr (v, o, found.0, found.1, refl))
tells books audit.Memory told is none ahead = cc

pub write_sums-requires : goal.write_sums-requires
write_sums-requires g c =
    let books = books_of c.args.books.now in
    subst AreWithinSales (sym (c.as_slice.ensures.value ∙ c.in-Ok.ensures.lines)) (sums books c.in-Ok.ensures.not_oversold (events_in books))

pub returns-in_ok-ended_by_audit-in-Err-clause-out : goal.returns-in_ok-ended_by_audit-in-Err-clause-out
returns-in_ok-ended_by_audit-in-Err-clause-out g c =
    let books = books_of c.args.books.now in
    let told = c.in_ok-ended_by_audit-in-Err.field-0 in
    told_printed (IsAuditText books) (g.W.Write.contents c.args.out.now) (g.W.Write.contents c.tell.new.out) c.tell.result told
    (tells books c.in-Err.fault told (sym c.ended_by_audit.ensures ∙ c.in_ok-ended_by_audit-in-Err.was) (λ e. c.in-Err.ensures.not_whole.0 (ap Err e))
    (λ v o e. c.in-Err.ensures.ahead v o (ap Err e)))
    c.tell.ensures.written c.tell.ensures.status

pub returns-in_ok-ended_by_audit-in-Err-clause-fault : goal.returns-in_ok-ended_by_audit-in-Err-clause-fault
returns-in_ok-ended_by_audit-in-Err-clause-fault g c =
    let books = books_of c.args.books.now in
    let told = c.in_ok-ended_by_audit-in-Err.field-0 in
    unprinted_write (IsAuditText books) (g.W.Write.contents c.args.out.now) (g.W.Write.contents c.tell.new.out) c.tell.result (told_status told)
    (told_line told)
    (tells books c.in-Err.fault told (sym c.ended_by_audit.ensures ∙ c.in_ok-ended_by_audit-in-Err.was) (λ e. c.in-Err.ensures.not_whole.0 (ap Err e))
    (λ v o e. c.in-Err.ensures.ahead v o (ap Err e)))
    c.tell.ensures.fault c.tell.ensures.written
