-- An entry is read back from its columns.
use Rattle.std.proofs.Common.{◌≡◌, ℕ, ◌≤◌, ◌<◌, ◌^◌, pos, false, List, [], length, Option, Some, None, refl, ap, ◌∙◌, arith}
use Rattle.std.specs.Prelude.{IfSome}
use Rattle.std.specs.Result.{result_ok}
use Rattle.std.proofs.lemmas.Bool.{and_from, le-leb, cond-true}
use Rattle.sqlite.specs.declared.types.Value.TheVariants.{Int, Text}
use Rattle.rights_lattice.specs.Cells.{greatest_value, IsValue}
use Rattle.rights_lattice.specs.Limits.{greatest_site, most_sites, IsSite}
use Rattle.rights_lattice.specs.State.{State, bottom}
use Rattle.rights_lattice.specs.EventName.{IsEventName}
use Rattle.request_ledger.specs.Ranges.{IsPart, IsRequest}
use Rattle.request_ledger.specs.declared.request.Request.{Request}
use Rattle.request_ledger.specs.declared.request.Request.TheVariants.{Announce, Release, Sell, Refund, Cede}
use Rattle.request_ledger.specs.declared.reply.Reply.{Reply}
use Rattle.request_ledger.specs.declared.verb.Verb.TheVariants as verb
use Rattle.request_ledger.specs.Words.{verb_word, request_verb, reply_word, reply_number}
use Rattle.request_ledger.proofs.WordLaws.{verb_again, reply_again}
use Rattle.book_core.specs.declared.entry.Entry.{Entry}
use Rattle.book_core.specs.declared.entry.Entry.TheVariants.{Asked, Joined, Grown}
use Rattle.book_core.proofs.Deltas.{lists_of_nothing}
use Rattle.book_core.specs.History.{delta_of as added}
use Rattle.delta_wire.specs.Grammar.{most_bytes, IsDelta, delta_text}
use Rattle.rights_lattice.proofs.EventLaws.{name_of_again}
use Rattle.delta_wire.proofs.Texts.{delta_again}
use Rattle.delta_mutators.specs.Lists.{state_from}
use Rattle.delta_wire.specs.Wire.{items_from}
use Rattle.sql_records.specs.Rows.{event_column, amount_column, target_column, number_column, rest_column, columns_of, HasReplyColumns, IsStorable, number_within, positive_in, site_in, event_in, verb_in, announce_of, release_of, sell_of, part_in, refund_in_columns, cede_of, request_in, rest_in, reply_in, delta_in, asked_of, joined_of, is_grow, grown_of, entry_of}

pub within_back : (low high n : ℕ) → low ≤ n → n ≤ high → number_within low high (Int (pos n)) ≡ Some n
within_back low high n p q = cond-true _ _ _ (and_from _ _ (le-leb _ _ p) (le-leb _ _ q))

pub value_back : (n : ℕ) → IsValue n → positive_in (Int (pos n)) ≡ Some n
value_back n h = within_back 1 greatest_value n h.0 h.1

pub site_back : (n : ℕ) → IsSite n → site_in (Int (pos n)) ≡ Some n
site_back n h = within_back 0 greatest_site n (omega arith) h

event_back : (e : List ℕ) → IsEventName e → event_in (Text e) ≡ Some e
unfolding event_in
event_back e h = name_of_again e h

part_back : (part : Option ℕ) → IsPart part → part_in (number_column part) ≡ Some part
unfolding part_in
part_back None h = refl
part_back (Some n) h = rw (value_back n h) refl

pub request_back : (r : Request) → IsRequest r → request_in (Text (verb_word (request_verb r))) (event_column r) (amount_column r) (target_column r) ≡ Some r
unfolding request_in verb_in announce_of release_of sell_of refund_in_columns cede_of
request_back (Announce e) h = rw (verb_again verb.Announce, event_back e h) refl
request_back (Release e n) h = rw (verb_again verb.Release, event_back e h.0, value_back n h.1) refl
request_back (Sell e n) h = rw (verb_again verb.Sell, event_back e h.0, value_back n h.1) refl
request_back (Refund sale part) h = rw (verb_again verb.Refund, value_back sale h.0, part_back part h.1) refl
request_back (Cede e to n) h = rw (verb_again verb.Cede, event_back e h.0, value_back n h.1, site_back to h.2) refl

rest_back : (number : Option ℕ) → IfSome number (λ n. n < 2 ^ 63) → rest_in (number_column number) ≡ Some number
unfolding rest_in
rest_back None h = refl
rest_back (Some n) h = rw (within_back 0 9223372036854775807 n (omega arith) (omega (arith, h))) refl

pub reply_back : (r : Reply) → HasReplyColumns r → reply_in (Text (reply_word r)) (rest_column r) ≡ Some r
unfolding reply_in
reply_back r h = rw (rest_back (reply_number r) h) (reply_again r)

delta_back : (S : State) → IsDelta S → length (delta_text S) ≤ most_bytes → delta_in (Text (delta_text S)) ≡ Some S
unfolding delta_in
delta_back S h short = cond-true _ _ _ (le-leb _ _ short) ∙ ap result_ok (delta_again S h)

nothing_written : delta_text bottom ≡ []
nothing_written = rw (lists_of_nothing.0, lists_of_nothing.1) refl

-- the text of a growth's delta
pub grown_text : (sites : ℕ) (entry : Entry) (text : List ℕ) → entry ≡ Grown sites → text ≡ delta_text (added entry) → text ≡ []
grown_text sites entry text is told = told ∙ ap (λ e. delta_text (added e)) is ∙ nothing_written

none_back : delta_in (Text []) ≡ Some (state_from [] [])
unfolding delta_in items_from
none_back = refl

-- the word of a request is not that of a growth
asks : (r : Request) → is_grow (Text (verb_word (request_verb r))) ≡ false
asks (Announce e) = refl
asks (Release e n) = refl
asks (Sell e n) = refl
asks (Refund sale part) = refl
asks (Cede e to n) = refl

-- what was written for an entry is read as that entry
pub entry_back : (at : ℕ) (entry : Entry) → IsStorable entry → entry_of (columns_of at entry) ≡ Some entry
unfolding entry_of asked_of joined_of grown_of
entry_back at (Asked number request reply delta) h = rw
    (delta_back delta h.3 h.4, asks request, value_back number h.0, request_back request h.1, reply_back reply h.2) refl
entry_back at (Joined peer delta) h = rw (delta_back delta h.1 h.2, site_back peer h.0) refl
entry_back at (Grown sites) h = rw (none_back, within_back 1 most_sites sites h.0 h.1) refl
