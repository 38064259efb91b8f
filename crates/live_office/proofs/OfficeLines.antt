-- The two laws of a line of an office: what is read is spelled so, and what is spelled so is read.
use Rattle.std.proofs.Common.{◌≡◌, ℕ, cond, List, [], ◌∷◌, Option, Some, None, refl, sym, ap, subst, ◌∙◌, inl, inr, codes}
use Rattle.std.specs.Str.{bytes_eq}
use Rattle.std.specs.Fmt.{decimal}
use Rattle.std.specs.List.{slice_split, join_with_byte}
use Rattle.std.proofs.lemmas.Bool.{cases_Bool}
use Rattle.std.proofs.lemmas.Slice.Eq.{bytes_eq-Decides}
use Rattle.std.proofs.lemmas.List.Splits.{join_with_byte-slice_split}
use Rattle.std.proofs.lemmas.Option.{same_Some}
use Rattle.rights_lattice.specs.Cells.{IsValue}
use Rattle.rights_lattice.specs.EventName.{IsEventName}
use Rattle.rights_lattice.specs.Limits.{IsSite}
use Rattle.request_ledger.specs.Words.{verb_of}
use Rattle.plain_words.specs.Words.{first_word, is_space, ended}
use Rattle.plain_words.proofs.WordLaws.{split_join, bind_some, word_found, ended_found}
use Rattle.delta_wire.specs.Fields.{event_at, natural_at, site_at}
use Rattle.delta_wire.proofs.FieldLaws.{event_again, event_at_found, site_again, site_at_found, site_lacks_space, value_again, value_at_found, value_lacks_space}
use Rattle.delta_wire.proofs.Names.{name_lacks_space}
use Rattle.desk_lines.specs.declared.line.Line.{Line}
use Rattle.desk_lines.specs.Grammar.{session_text}
use Rattle.desk_lines.specs.Requests.{request_from}
use Rattle.desk_lines.specs.Reading.{ask_line_in, asked_in, session_line_of}
use Rattle.desk_lines.proofs.SessionLaws.{session_reads, session_takes}
use Rattle.live_office.specs.declared.office_line.OfficeLine.{OfficeLine}
use Rattle.live_office.specs.declared.office_line.OfficeLine.TheVariants as office_line
use Rattle.live_office.specs.Grammar.{IsOfficeLine, office_line_text, office_words}
use Rattle.live_office.specs.Lines.{close_in, events_in, export_in, find_in, import_in, list_in, office_line_of, own_after, own_in, session_or_own, shares_in, site_in, status_in}

-- the words are those of the line
abbrev Spells : List (List ℕ) → OfficeLine → Type 0
Spells words l = (words ≡ office_words l) × IsOfficeLine l

export_found : (words : List (List ℕ)) (l : OfficeLine) → export_in words ≡ Some l → Spells (codes "export" ∷ words) l
unfolding export_in
export_found words l e =
    let a = bind_some (site_at words) (λ s. ended (office_line.Export s.0) s.1) l e in
    let p = site_at_found words a.0 a.1 in
    let z = ended_found (office_line.Export a.0.0) l a.0.1 a.2 in
    subst (Spells (codes "export" ∷ words)) z.1 (ap (λ (t : List (List ℕ)). codes "export" ∷ t) (p.0 ∙ ap (λ (t : List (List ℕ)). decimal a.0.0 ∷ t) z.0), p.1)

import_found : (words : List (List ℕ)) (l : OfficeLine) → import_in words ≡ Some l → Spells (codes "import" ∷ words) l
unfolding import_in
import_found words l e =
    let z = ended_found office_line.Import l words e in
    subst (Spells (codes "import" ∷ words)) z.1 (ap (λ (t : List (List ℕ)). codes "import" ∷ t) z.0, tt)

find_found : (words : List (List ℕ)) (l : OfficeLine) → find_in words ≡ Some l → Spells (codes "find" ∷ words) l
unfolding find_in
find_found words l e =
    let a = bind_some (natural_at words) (λ n. ended (office_line.Find n.0) n.1) l e in
    let p = value_at_found words a.0 a.1 in
    let z = ended_found (office_line.Find a.0.0) l a.0.1 a.2 in
    subst (Spells (codes "find" ∷ words)) z.1 (ap (λ (t : List (List ℕ)). codes "find" ∷ t) (p.0 ∙ ap (λ (t : List (List ℕ)). decimal a.0.0 ∷ t) z.0), p.1)

list_found : (words : List (List ℕ)) (l : OfficeLine) → list_in words ≡ Some l → Spells (codes "list" ∷ words) l
unfolding list_in
list_found words l e =
    let a = bind_some (event_at words) (λ v. ended (office_line.List v.0) v.1) l e in
    let p = event_at_found words a.0 a.1 in
    let z = ended_found (office_line.List a.0.0) l a.0.1 a.2 in
    subst (Spells (codes "list" ∷ words)) z.1 (ap (λ (t : List (List ℕ)). codes "list" ∷ t) (p.0 ∙ ap (λ (t : List (List ℕ)). a.0.0 ∷ t) z.0), p.1)

events_found : (words : List (List ℕ)) (l : OfficeLine) → events_in words ≡ Some l → Spells (codes "events" ∷ words) l
unfolding events_in
events_found words l e =
    let z = ended_found office_line.Events l words e in
    subst (Spells (codes "events" ∷ words)) z.1 (ap (λ (t : List (List ℕ)). codes "events" ∷ t) z.0, tt)

shares_found : (words : List (List ℕ)) (l : OfficeLine) → shares_in words ≡ Some l → Spells (codes "shares" ∷ words) l
unfolding shares_in
shares_found words l e =
    let a = bind_some (event_at words) (λ v. ended (office_line.Shares v.0) v.1) l e in
    let p = event_at_found words a.0 a.1 in
    let z = ended_found (office_line.Shares a.0.0) l a.0.1 a.2 in
    subst (Spells (codes "shares" ∷ words)) z.1 (ap (λ (t : List (List ℕ)). codes "shares" ∷ t) (p.0 ∙ ap (λ (t : List (List ℕ)). a.0.0 ∷ t) z.0), p.1)

status_found : (words : List (List ℕ)) (l : OfficeLine) → status_in words ≡ Some l → Spells (codes "status" ∷ words) l
unfolding status_in
status_found words l e =
    let z = ended_found office_line.Status l words e in
    subst (Spells (codes "status" ∷ words)) z.1 (ap (λ (t : List (List ℕ)). codes "status" ∷ t) z.0, tt)

site_found : (words : List (List ℕ)) (l : OfficeLine) → site_in words ≡ Some l → Spells (codes "site" ∷ words) l
unfolding site_in
site_found words l e =
    let z = ended_found office_line.Site l words e in
    subst (Spells (codes "site" ∷ words)) z.1 (ap (λ (t : List (List ℕ)). codes "site" ∷ t) z.0, tt)

close_found : (words : List (List ℕ)) (l : OfficeLine) → close_in words ≡ Some l → Spells (codes "close" ∷ words) l
unfolding close_in
close_found words l e =
    let z = ended_found office_line.Close l words e in
    subst (Spells (codes "close" ∷ words)) z.1 (ap (λ (t : List (List ℕ)). codes "close" ∷ t) z.0, tt)

-- a line whose first word is this one, or another
this_or : (this word : List ℕ) (words : List (List ℕ)) (here other : Option OfficeLine) (l : OfficeLine) → (here ≡ Some l → Spells (this ∷ words) l)
    → (other ≡ Some l → Spells (word ∷ words) l)
    → cond (bytes_eq word this) here other ≡ Some l → Spells (word ∷ words) l
this_or this word words here other l f g e = elim (cases_Bool (bytes_eq word this)) [
  | inl same ↦ let chosen : here ≡ Some l = rw same at e in subst (λ (w : List ℕ). Spells (w ∷ words) l) (sym ((bytes_eq-Decides word this).0 same)) (f chosen)
  | inr differs ↦ let chosen : other ≡ Some l = rw differs at e in g chosen
]

after_found : (word : List ℕ) (words : List (List ℕ)) (l : OfficeLine) → own_after word words ≡ Some l → Spells (word ∷ words) l
after_found word words l e =
    this_or (codes "export") word words (export_in words) _ l (export_found words l)
    (this_or (codes "import") word words (import_in words) _ l (import_found words l)
    (this_or (codes "find") word words (find_in words) _ l (find_found words l)
    (this_or (codes "list") word words (list_in words) _ l (list_found words l)
    (this_or (codes "events") word words (events_in words) _ l (events_found words l)
    (this_or (codes "shares") word words (shares_in words) _ l (shares_found words l)
    (this_or (codes "status") word words (status_in words) _ l (status_found words l)
    (this_or (codes "site") word words (site_in words) _ l (site_found words l)
    (this_or (codes "close") word words (close_in words) None l (close_found words l) (λ n. absurd cc))))))))) e

own_found : (words : List (List ℕ)) (l : OfficeLine) → own_in words ≡ Some l → Spells words l
unfolding own_in
own_found words l e =
    let a = bind_some (first_word words) (λ w. own_after w.0 w.1) l e in
    let r = after_found a.0.0 a.0.1 l a.2 in
    (word_found words a.0 a.1 ∙ r.0, r.1)

-- what is read is spelled so
pub office_takes : (bytes : List ℕ) (l : OfficeLine) → office_line_of bytes ≡ Some l → IsOfficeLine l × (bytes ≡ office_line_text l)
unfolding office_line_text session_text
office_takes bytes l e = either (session_line_of bytes) refl e
  where
    either : (o : Option Line) → session_line_of bytes ≡ o → session_or_own o (slice_split is_space bytes) ≡ Some l
        → IsOfficeLine l × (bytes ≡ join_with_byte 32 (office_words l))
    either (Some line) is h = subst (λ (m : OfficeLine). IsOfficeLine m × (bytes ≡ join_with_byte 32 (office_words m)))
        (same_Some (office_line.Session line) l h) (session_takes bytes line is)
    either None is h =
        let f = own_found (slice_split is_space bytes) l h in
        (f.1, sym (join_with_byte-slice_split 32 bytes) ∙ ap (join_with_byte 32) f.0)

-- ---- back

-- no session has these words
no_export : (to : ℕ) → asked_in (codes "export" ∷ decimal to ∷ []) ≡ None
unfolding asked_in ask_line_in request_from verb_of
no_export to = refl

no_find : (number : ℕ) → asked_in (codes "find" ∷ decimal number ∷ []) ≡ None
unfolding asked_in ask_line_in request_from verb_of
no_find number = refl

no_list : (event : List ℕ) → asked_in (codes "list" ∷ event ∷ []) ≡ None
unfolding asked_in ask_line_in request_from verb_of
no_list event = refl

no_shares : (event : List ℕ) → asked_in (codes "shares" ∷ event ∷ []) ≡ None
unfolding asked_in ask_line_in request_from verb_of
no_shares event = refl

export_splits : (to : ℕ) → IsSite to → slice_split is_space (join_with_byte 32 (codes "export" ∷ decimal to ∷ [])) ≡ codes "export" ∷ decimal to ∷ []
export_splits to h = split_join (codes "export") (decimal to ∷ []) refl (site_lacks_space to h, tt)

find_splits : (number : ℕ) → IsValue number → slice_split is_space (join_with_byte 32 (codes "find" ∷ decimal number ∷ [])) ≡ codes "find" ∷ decimal number ∷ []
find_splits number h = split_join (codes "find") (decimal number ∷ []) refl (value_lacks_space number h, tt)

list_splits : (event : List ℕ) → IsEventName event → slice_split is_space (join_with_byte 32 (codes "list" ∷ event ∷ [])) ≡ codes "list" ∷ event ∷ []
list_splits event h = split_join (codes "list") (event ∷ []) refl (name_lacks_space event h, tt)

shares_splits : (event : List ℕ) → IsEventName event → slice_split is_space (join_with_byte 32 (codes "shares" ∷ event ∷ [])) ≡ codes "shares" ∷ event ∷ []
shares_splits event h = split_join (codes "shares") (event ∷ []) refl (name_lacks_space event h, tt)

export_again : (to : ℕ) → IsSite to → own_in (codes "export" ∷ decimal to ∷ []) ≡ Some (office_line.Export to)
unfolding own_in export_in
export_again to h = rw (site_again to [] h) refl

find_again : (number : ℕ) → IsValue number → own_in (codes "find" ∷ decimal number ∷ []) ≡ Some (office_line.Find number)
unfolding own_in find_in
find_again number h = rw (value_again number [] h) refl

list_again : (event : List ℕ) → IsEventName event → own_in (codes "list" ∷ event ∷ []) ≡ Some (office_line.List event)
unfolding own_in list_in
list_again event h = rw (event_again event [] h) refl

shares_again : (event : List ℕ) → IsEventName event → own_in (codes "shares" ∷ event ∷ []) ≡ Some (office_line.Shares event)
unfolding own_in shares_in
shares_again event h = rw (event_again event [] h) refl

-- a line of the office alone that has these words
own_reads : (words : List (List ℕ)) (l : OfficeLine) → slice_split is_space (join_with_byte 32 words) ≡ words → asked_in words ≡ None → own_in words ≡ Some l
    → session_or_own (asked_in (slice_split is_space (join_with_byte 32 words))) (slice_split is_space (join_with_byte 32 words)) ≡ Some l
own_reads words l splits none again =
    ap (λ (ws : List (List ℕ)). session_or_own (asked_in ws) ws) splits ∙ ap (λ (o : Option Line). session_or_own o words) none ∙ again

-- what is spelled so is read
pub office_reads : (l : OfficeLine) → IsOfficeLine l → office_line_of (office_line_text l) ≡ Some l
unfolding office_line_text session_text own_in import_in events_in site_in status_in close_in asked_in ask_line_in request_from verb_of
office_reads (office_line.Session line) h = ap (λ (o : Option Line). session_or_own o (slice_split is_space (session_text line))) (session_reads line h)
office_reads (office_line.Export to) h = own_reads (codes "export" ∷ decimal to ∷ []) (office_line.Export to) (export_splits to h) (no_export to)
    (export_again to h)
office_reads office_line.Import h = refl
office_reads (office_line.Find number) h = own_reads (codes "find" ∷ decimal number ∷ []) (office_line.Find number) (find_splits number h) (no_find number)
    (find_again number h)
office_reads (office_line.List event) h = own_reads (codes "list" ∷ event ∷ []) (office_line.List event) (list_splits event h) (no_list event)
    (list_again event h)
office_reads office_line.Events h = refl
office_reads (office_line.Shares event) h = own_reads (codes "shares" ∷ event ∷ []) (office_line.Shares event) (shares_splits event h) (no_shares event)
    (shares_again event h)
office_reads office_line.Status h = refl
office_reads office_line.Site h = refl
office_reads office_line.Close h = refl
