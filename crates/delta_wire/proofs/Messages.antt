-- The two laws of messages, and that no text goes on to be another's.
use Rattle.std.proofs.Common.{subst, ◌≡◌, ℕ, ◌+◌, Bool, true, false, cond, List, [], ◌∷◌, ◌++◌, length, Option, Some, None, Result, Ok, Err, refl, sym, ap, ◌∙◌, inl, inr, codes, append_assoc}
use Rattle.std.specs.Prelude.{IfOk}
use Rattle.std.specs.List.{slice_split, AllByRecursion}
use Rattle.std.specs.Str.{bytes_eq}
use Rattle.std.proofs.lemmas.Bool.{cases_Bool, cond-true, cond-false}
use Rattle.std.proofs.lemmas.List.{append-nil}
use Rattle.std.proofs.lemmas.Slice.Eq.{bytes_eq-Decides}
use Rattle.rights_lattice.specs.State.{State}
use Rattle.site_exchange.specs.declared.message.Message.{Message}
use Rattle.site_exchange.specs.declared.message.Message.TheVariants.{Delta, Ack}
use Rattle.delta_wire.specs.declared.items_end.Ending.TheVariants.{AtEndLine}
use Rattle.delta_wire.specs.declared.fault.WireFault.{WireFault}
use Rattle.delta_wire.specs.declared.fault.WireFault.TheVariants.{BadLine, Trailing}
use Rattle.delta_wire.specs.declared.header.Header.{Header}
use Rattle.delta_wire.specs.declared.header.Purpose.{Purpose}
use Rattle.delta_wire.specs.declared.header.Purpose.TheVariants as purpose
use Rattle.rights_lattice.specs.Limits.{IsSite}
use Rattle.delta_wire.specs.Grammar.{items_of, header_line, delta_lines, message_lines, message_text, IsUpto, IsMessage}
use Rattle.delta_wire.specs.Items.{all_names, all_marks}
use Rattle.delta_wire.specs.Reading.{purpose_text, header_of}
use Rattle.plain_words.specs.Input.{is_line_break}
use Rattle.delta_wire.specs.Wire.{Gives, is_over, items_from, delta_from_text, ack_from, with_delta, for_purpose, after_header, message_from, message_of}
use Rattle.delta_wire.specs.TextLaws.{NoTextIsAPrefix, MessagesHaveTheirOwnTexts, DeltasHaveTheirOwnTexts}
use Rattle.plain_words.proofs.LineLaws.{first_part}
use Rattle.delta_wire.proofs.LineLaws.{header_found, header_again}
use Rattle.delta_wire.proofs.Breaks.{Lacks, header_lacks, split_lines, text_of_lines}
use Rattle.delta_wire.proofs.Texts.{over_is, ok_is, cond_ok, spelled_delta, read_delta_lines, made_again, lines_lack, delta_again}

abbrev Read : Type 0
Read = Result Message WireFault

-- what was read is spelled so, line by line
abbrev Spelled : List (List ℕ) → Message → Type 0
Spelled pieces m = IsMessage m × (pieces ≡ message_lines m ++ [] ∷ [])

ack_found : (k m : Message) (pieces : List (List ℕ)) → ack_from k pieces ≡ Ok m → (k ≡ m) × (pieces ≡ codes "end" ∷ [] ∷ [])
ack_found k m [] e = absurd cc
ack_found k m (last ∷ []) e = absurd cc
ack_found k m (line ∷ next ∷ more) e = elim (cases_Bool (bytes_eq line (codes "end"))) [
  | inl t ↦
      let c = cond_ok (is_over (next ∷ more)) k m Trailing (sym (cond-true (bytes_eq line (codes "end")) _ _ t) ∙ e) in (
        c.1,
        ap (λ (l : List ℕ). l ∷ next ∷ more) ((bytes_eq-Decides line (codes "end")).0 t)
            ∙ ap (λ (r : List (List ℕ)). codes "end" ∷ r) (over_is (next ∷ more) c.0),
      )
  | inr other ↦ let bad : ◌≡◌ {A = Read} (Err (BadLine 2)) (Ok m) = sym (cond-false (bytes_eq line (codes "end")) _ _ other) ∙ e in absurd cc
]

with_delta_found : (h : Header) (r : Result State WireFault) (m : Message) → with_delta h r ≡ Ok m → (S : State) × (r ≡ Ok S) × (Delta h.by h.to h.upto S ≡ m)
with_delta_found h (Ok S) m e = (S, refl, ok_is (Delta h.by h.to h.upto S) m e)
with_delta_found h (Err f) m e = absurd cc

delta_spelled : (h : Header) (line : List ℕ) (pieces : List (List ℕ)) (m : Message) → line ≡ header_line (codes "delta") h.by h.to h.upto
    → IsSite h.by × IsSite h.to × IsUpto h.upto
    → with_delta h (items_from AtEndLine 2 [] [] pieces) ≡ Ok m → Spelled (line ∷ pieces) m
delta_spelled h line pieces m is f e =
    let w = with_delta_found h (items_from AtEndLine 2 [] [] pieces) m e in
    let g = spelled_delta AtEndLine 2 pieces w.0 w.1 in
    subst (Spelled (line ∷ pieces)) w.2 (
      (f.0, f.1, f.2, g.0),
      (λ k. is k ∷ g.1 k) ∙ ap (λ (t : List (List ℕ)). header_line (codes "delta") h.by h.to h.upto ∷ t)
          (sym (append_assoc (delta_lines w.0) (codes "end" ∷ []) ([] ∷ []))),
    )

ack_spelled : (h : Header) (line : List ℕ) (pieces : List (List ℕ)) (m : Message) → line ≡ header_line (codes "ack") h.by h.to h.upto
    → IsSite h.by × IsSite h.to × IsUpto h.upto
    → ack_from (Ack h.by h.to h.upto) pieces ≡ Ok m → Spelled (line ∷ pieces) m
ack_spelled h line pieces m is f e =
    let w = ack_found (Ack h.by h.to h.upto) m pieces e in
    subst (Spelled (line ∷ pieces)) w.0 (f, λ k. is k ∷ w.1 k)

purpose_spelled : (p : Purpose) (h : Header) (line : List ℕ) (pieces : List (List ℕ)) (m : Message) → line ≡ header_line (purpose_text p) h.by h.to h.upto
    → IsSite h.by × IsSite h.to × IsUpto h.upto
    → for_purpose p h pieces ≡ Ok m → Spelled (line ∷ pieces) m
purpose_spelled purpose.Delta h line pieces m is f e = delta_spelled h line pieces m is f e
purpose_spelled purpose.Ack h line pieces m is f e = ack_spelled h line pieces m is f e

header_spelled : (o : Option Header) (line : List ℕ) (pieces : List (List ℕ)) (m : Message) → header_of line ≡ o → after_header o pieces ≡ Ok m
    → Spelled (line ∷ pieces) m
header_spelled None line pieces m is e = absurd cc
header_spelled (Some h) line pieces m is e =
    let f = header_found line h is in
    purpose_spelled h.purpose h line pieces m f.0 (f.1, f.2, f.3) e

message_spelled : (pieces : List (List ℕ)) (m : Message) → message_from pieces ≡ Ok m → Spelled pieces m
message_spelled [] m e = absurd cc
message_spelled (last ∷ []) m e = absurd cc
message_spelled (line ∷ next ∷ more) m e = header_spelled (header_of line) line (next ∷ more) m refl e

pub message_found : (bytes : List ℕ) (m : Message) → message_of bytes ≡ Ok m → IsMessage m × (bytes ≡ message_text m)
message_found bytes m e =
    let w = message_spelled (slice_split is_line_break bytes) m e in
    (w.0, text_of_lines bytes (message_lines m) w.1)

pub is_found : (bytes : List ℕ) (r : Read) → Gives r (message_of bytes) → IfOk r (λ m. IsMessage m × (bytes ≡ message_text m))
is_found bytes (Ok m) given = message_found bytes m given
is_found bytes (Err e) given = tt

-- ---- back, with what may follow

-- at the end of a message: what follows decides
abbrev at_end : Message → List (List ℕ) → Read
at_end m rest = cond (is_over rest) (Ok m) (Err Trailing)

with_cond : (h : Header) (b : Bool) (S : State) → with_delta h (cond b (Ok S) (Err Trailing)) ≡ cond b (Ok (Delta h.by h.to h.upto S)) (Err Trailing)
with_cond h true S = refl
with_cond h false S = refl

end_read : (n : ℕ) (ns : List (List ℕ)) (S : State) (next : List ℕ) (more : List (List ℕ))
    → items_from AtEndLine (n + length (items_of S)) (all_names (items_of S)) (all_marks (items_of S)) (codes "end" ∷ next ∷ more) ≡ cond
    (is_over (next ∷ more)) (Ok S) (Err Trailing)
unfolding items_from
end_read n ns S next more = ap (λ (T : State). cond (is_over (next ∷ more)) (Ok T) (Err Trailing)) (made_again S)

line_more : (line : List ℕ) (lines : List (List ℕ)) (next : List ℕ) (more : List (List ℕ))
    → (x : List ℕ) × (xs : List (List ℕ)) × (lines ++ line ∷ next ∷ more ≡ x ∷ xs)
line_more line [] next more = (line, next ∷ more, refl)
line_more line (l ∷ lines) next more = (l, lines ++ line ∷ next ∷ more, refl)

from_header : (line : List ℕ) (pieces : List (List ℕ)) (x : List ℕ) (xs : List (List ℕ)) (h : Header) → pieces ≡ x ∷ xs → header_of line ≡ Some h
    → message_from (line ∷ pieces) ≡ for_purpose h.purpose h pieces
from_header line pieces x xs h is found =
    ap (λ (p : List (List ℕ)). message_from (line ∷ p)) is ∙ ap (λ (o : Option Header). after_header o (x ∷ xs)) found ∙ ap (for_purpose h.purpose h) (sym is)

read_pieces : (m : Message) (next : List ℕ) (more : List (List ℕ)) → IsMessage m → message_from (message_lines m ++ next ∷ more) ≡ at_end m (next ∷ more)
read_pieces (Delta by to upto S) next more f =
    let h : Header = record { purpose = purpose.Delta; by = by; to = to; upto = upto } in
    let w = line_more (codes "end") (delta_lines S) next more in
    ap (λ (t : List (List ℕ)). message_from (header_line (codes "delta") by to upto ∷ t)) (append_assoc (delta_lines S) (codes "end" ∷ []) (next ∷ more))
    ∙ from_header (header_line (codes "delta") by to upto) (delta_lines S ++ codes "end" ∷ next ∷ more) w.0 w.1 h w.2
    (header_again purpose.Delta by to upto f.0 f.1 f.2)
    ∙ ap (with_delta h) (read_delta_lines AtEndLine 2 S (codes "end") (next ∷ more) f.3 ∙ end_read 2 [] S next more)
    ∙ with_cond h (is_over (next ∷ more)) S
read_pieces (Ack by to upto) next more f =
    let h : Header = record { purpose = purpose.Ack; by = by; to = to; upto = upto } in
    from_header (header_line (codes "ack") by to upto) (codes "end" ∷ next ∷ more) (codes "end") (next ∷ more) h refl
    (header_again purpose.Ack by to upto f.0 f.1 f.2)

lacks_end : (lines : List (List ℕ)) → AllByRecursion Lacks lines → AllByRecursion Lacks (lines ++ codes "end" ∷ [])
lacks_end [] h = (refl, tt)
lacks_end (line ∷ lines) h = (h.0, lacks_end lines h.1)

message_lacks : (m : Message) → IsMessage m → AllByRecursion Lacks (message_lines m)
message_lacks (Delta by to upto S) f = (header_lacks purpose.Delta by to upto f.0 f.1 f.2, lacks_end (delta_lines S) (lines_lack (items_of S) f.3))
message_lacks (Ack by to upto) f = (header_lacks purpose.Ack by to upto f.0 f.1 f.2, (refl, tt))

-- a message's text is read, and what follows it decides
read_text : (m : Message) (rest : List ℕ) → IsMessage m → message_of (message_text m ++ rest) ≡ at_end m (slice_split is_line_break rest)
read_text m rest f =
    let w = first_part is_line_break rest in
    ap message_from (split_lines (message_lines m) rest (message_lacks m f))
    ∙ ap (λ (p : List (List ℕ)). message_from (message_lines m ++ p)) w.2
    ∙ read_pieces m w.0 w.1 f
    ∙ ap (at_end m) (sym w.2)

pub message_again : (m : Message) → IsMessage m → message_of (message_text m) ≡ Ok m
message_again m f = ap message_of (sym (append-nil (message_text m))) ∙ read_text m [] f

nothing_left : (rest : List ℕ) → is_over (slice_split is_line_break rest) ≡ true → rest ≡ []
nothing_left rest e = text_of_lines rest [] (over_is (slice_split is_line_break rest) e)

pub no_text_is_a_prefix : NoTextIsAPrefix
no_text_is_a_prefix m k rest f g e =
    let read = sym (read_text m rest f) ∙ ap message_of (sym e) ∙ message_again k g in
    let c = cond_ok (is_over (slice_split is_line_break rest)) m k Trailing read in
    (nothing_left rest c.0, sym c.1)

pub messages_have_their_own_texts : MessagesHaveTheirOwnTexts
messages_have_their_own_texts m k f g e = ok_is m k (sym (message_again m f) ∙ ap message_of e ∙ message_again k g)

pub deltas_have_their_own_texts : DeltasHaveTheirOwnTexts
deltas_have_their_own_texts S T f g e = ok_is S T (sym (delta_again S f) ∙ ap delta_from_text e ∙ delta_again T g)
