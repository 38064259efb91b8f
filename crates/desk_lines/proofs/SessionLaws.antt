-- The two laws of a session line: what is read is spelled so, and what is spelled so is read.
use Rattle.std.proofs.Common.{◌≡◌, ℕ, true, false, cond, List, [], ◌∷◌, Option, Some, refl, sym, ap, subst, ◌∙◌, inl, inr, codes}
use Rattle.std.specs.Str.{bytes_eq}
use Rattle.std.specs.Fmt.{decimal}
use Rattle.std.specs.List.{slice_split, join_with_byte}
use Rattle.std.proofs.lemmas.Bool.{cases_Bool}
use Rattle.std.proofs.lemmas.Slice.Eq.{bytes_eq-Decides}
use Rattle.std.proofs.lemmas.List.Splits.{join_with_byte-slice_split}
use Rattle.std.proofs.lemmas.Option.{same_Some}
use Rattle.rights_lattice.specs.EventName.{IsEventName}
use Rattle.request_ledger.specs.declared.request.Request.{Request}
use Rattle.request_ledger.specs.declared.request.Request.TheVariants.{Announce, Release, Sell, Refund, Cede}
use Rattle.request_ledger.specs.declared.verb.Verb.{Verb}
use Rattle.request_ledger.specs.declared.verb.Verb.TheVariants as verb
use Rattle.request_ledger.specs.Words.{verb_word, request_verb}
use Rattle.plain_words.specs.Words.{first_word, is_space, ended}
use Rattle.plain_words.proofs.WordLaws.{lacks_space, split_join, bind_some, word_found, ended_found}
use Rattle.delta_wire.specs.Fields.{event_at}
use Rattle.rights_lattice.specs.Cells.{IsValue}
use Rattle.delta_wire.proofs.FieldLaws.{event_at_found, event_again}
use Rattle.delta_wire.proofs.Names.{name_lacks_space}
use Rattle.desk_lines.specs.declared.line.Line.{Line}
use Rattle.desk_lines.specs.declared.line.Line.TheVariants.{Ask, Left, Totals, Quit}
use Rattle.request_ledger.specs.Ranges.{IsRequest}
use Rattle.desk_lines.specs.Grammar.{request_words, operands, session_words, session_text, request_line, IsSessionLine}
use Rattle.desk_lines.specs.Requests.{request_from}
use Rattle.desk_lines.specs.Reading.{left_line_in, totals_line_in, ask_line_in, asked_after, asked_in, session_line_of}
use Rattle.desk_lines.proofs.RequestLaws.{request_from_found, request_from_again, request_lacks}

-- the words are those of the line
abbrev pub SpellsSession : List (List ℕ) → Line → Type 0
SpellsSession words l = (words ≡ session_words l) × IsSessionLine l

ask_found : (word : List ℕ) (words : List (List ℕ)) (l : Line) → ask_line_in word words ≡ Some l → SpellsSession (word ∷ words) l
unfolding ask_line_in
ask_found word words l e =
    let a = bind_some (request_from word words) (λ n. Some (Ask n.0 n.1)) l e in
    let p = request_from_found word words a.0 a.1 in
    subst (SpellsSession (word ∷ words)) (same_Some (Ask a.0.0 a.0.1) l a.2) (p.0, (p.1, p.2))

left_found : (words : List (List ℕ)) (l : Line) → left_line_in words ≡ Some l → SpellsSession (codes "left" ∷ words) l
unfolding left_line_in
left_found words l e =
    let a = bind_some (event_at words) (λ v. ended (Left v.0) v.1) l e in
    let p = event_at_found words a.0 a.1 in
    let z = ended_found (Left a.0.0) l a.0.1 a.2 in
    subst (SpellsSession (codes "left" ∷ words)) z.1 (ap (λ (t : List (List ℕ)). codes "left" ∷ t) (p.0 ∙ ap (λ (t : List (List ℕ)). a.0.0 ∷ t) z.0), p.1)

totals_found : (words : List (List ℕ)) (l : Line) → totals_line_in words ≡ Some l → SpellsSession (codes "totals" ∷ words) l
unfolding totals_line_in
totals_found words l e =
    let a = bind_some (event_at words) (λ v. ended (Totals v.0) v.1) l e in
    let p = event_at_found words a.0 a.1 in
    let z = ended_found (Totals a.0.0) l a.0.1 a.2 in
    subst (SpellsSession (codes "totals" ∷ words)) z.1 (ap (λ (t : List (List ℕ)). codes "totals" ∷ t) (p.0 ∙ ap (λ (t : List (List ℕ)). a.0.0 ∷ t) z.0), p.1)

-- a line whose first word is one of the two that look, and else one that asks
look_or : (look : List ℕ) (word : List ℕ) (words : List (List ℕ)) (here other : Option Line) (l : Line) → (here ≡ Some l → SpellsSession (look ∷ words) l)
    → (other ≡ Some l → SpellsSession (word ∷ words) l)
    → cond (bytes_eq word look) here other ≡ Some l → SpellsSession (word ∷ words) l
look_or look word words here other l f g e = elim (cases_Bool (bytes_eq word look)) [
  | inl same ↦ let chosen : here ≡ Some l = rw same at e in subst (λ (w : List ℕ). SpellsSession (w ∷ words) l) (sym ((bytes_eq-Decides word look).0 same))
      (f chosen)
  | inr differs ↦ let chosen : other ≡ Some l = rw differs at e in g chosen
]

after_found : (word : List ℕ) (words : List (List ℕ)) (l : Line) → asked_after word words ≡ Some l → SpellsSession (word ∷ words) l
after_found word words l e =
    look_or (codes "left") word words (left_line_in words) _ l (left_found words l)
    (look_or (codes "totals") word words (totals_line_in words) (ask_line_in word words) l (totals_found words l) (ask_found word words l)) e

pub asked_found : (words : List (List ℕ)) (l : Line) → asked_in words ≡ Some l → SpellsSession words l
unfolding asked_in
asked_found words l e =
    let a = bind_some (first_word words) (λ w. asked_after w.0 w.1) l e in
    let r = after_found a.0.0 a.0.1 l a.2 in
    (word_found words a.0 a.1 ∙ r.0, r.1)

-- what is read is spelled so
pub session_takes : (bytes : List ℕ) (l : Line) → session_line_of bytes ≡ Some l → IsSessionLine l × (bytes ≡ session_text l)
unfolding session_text
session_takes bytes l e = elim (cases_Bool (bytes_eq bytes (codes "quit"))) [
  | inl same ↦ let chosen : Some Quit ≡ Some l = rw same at e in
      subst (λ (m : Line). IsSessionLine m × (bytes ≡ join_with_byte 32 (session_words m))) (same_Some Quit l chosen)
      (tt, (bytes_eq-Decides bytes (codes "quit")).0 same)
  | inr other ↦ let chosen : asked_in (slice_split is_space bytes) ≡ Some l = rw other at e in
      let f = asked_found (slice_split is_space bytes) l chosen in
      (f.1, sym (join_with_byte-slice_split 32 bytes) ∙ ap (join_with_byte 32) f.0)
]

-- ---- back

-- no verb of a request is a word that looks
ask_follows : (v : Verb) (words : List (List ℕ)) → asked_after (verb_word v) words ≡ ask_line_in (verb_word v) words
ask_follows verb.Announce words = refl
ask_follows verb.Release words = refl
ask_follows verb.Sell words = refl
ask_follows verb.Refund words = refl
ask_follows verb.Cede words = refl

pub ask_again : (n : ℕ) (q : Request) → IsValue n → IsRequest q → asked_in (request_words n q) ≡ Some (Ask n q)
unfolding asked_in ask_line_in
ask_again n q h g = rw (ask_follows (request_verb q) (decimal n ∷ operands q), request_from_again n q h g) refl

pub left_again : (e : List ℕ) → IsEventName e → asked_in (codes "left" ∷ e ∷ []) ≡ Some (Left e)
unfolding asked_in left_line_in
left_again e h = rw (event_again e [] h) refl

pub totals_again : (e : List ℕ) → IsEventName e → asked_in (codes "totals" ∷ e ∷ []) ≡ Some (Totals e)
unfolding asked_in totals_line_in
totals_again e h = rw (event_again e [] h) refl

request_splits : (n : ℕ) (q : Request) → IsValue n → IsRequest q → slice_split is_space (join_with_byte 32 (request_words n q)) ≡ request_words n q
request_splits n q h g = let l = request_lacks n q h g in split_join (verb_word (request_verb q)) (decimal n ∷ operands q) l.0 l.1

look_splits : (word e : List ℕ) → lacks_space word ≡ true → IsEventName e → slice_split is_space (join_with_byte 32 (word ∷ e ∷ [])) ≡ word ∷ e ∷ []
look_splits word e lacks h = split_join word (e ∷ []) lacks (name_lacks_space e h, tt)

-- no request is spelled `quit`
no_request_quits : (n : ℕ) (q : Request) → bytes_eq (join_with_byte 32 (request_words n q)) (codes "quit") ≡ false
no_request_quits n (Announce e) = refl
no_request_quits n (Release e a) = refl
no_request_quits n (Sell e a) = refl
no_request_quits n (Refund s part) = refl
no_request_quits n (Cede e to a) = refl

-- what is spelled so is read
pub session_reads : (l : Line) → IsSessionLine l → session_line_of (session_text l) ≡ Some l
unfolding session_text
session_reads (Ask n q) h = rw (no_request_quits n q, request_splits n q h.0 h.1) (ask_again n q h.0 h.1)
session_reads (Left e) h = ap asked_in (look_splits (codes "left") e refl h) ∙ left_again e h
session_reads (Totals e) h = ap asked_in (look_splits (codes "totals") e refl h) ∙ totals_again e h
session_reads Quit h = refl

-- so is the line of a request
pub request_reads : (n : ℕ) (q : Request) → IsValue n → IsRequest q → session_line_of (request_line n q) ≡ Some (Ask n q)
unfolding request_line
request_reads n q h g = session_reads (Ask n q) (h, g)
