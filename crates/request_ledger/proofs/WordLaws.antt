-- The word of a verb is its own, and so is the word of a reply with its number.
use Rattle.std.proofs.Common.{◌≡◌, ℕ, List, [], ◌∷◌, Some, refl, ap, ◌∙◌, inl, inr}
use Rattle.std.specs.Str.{bytes_eq}
use Rattle.std.specs.List.{find}
use Rattle.std.proofs.lemmas.Bool.{cases_Bool}
use Rattle.std.proofs.lemmas.Slice.Eq.{bytes_eq-Decides}
use Rattle.request_ledger.specs.declared.verb.Verb.{Verb}
use Rattle.request_ledger.specs.declared.verb.Verb.TheVariants as verb
use Rattle.request_ledger.specs.declared.reply.Reply.{Reply}
use Rattle.request_ledger.specs.declared.reply.Reply.TheVariants.{Done, Known, Unknown, Short, CellFull, NoSale, Refunded, TooMany, ToSelf, NoSite}
use Rattle.request_ledger.specs.Words.{verb_word, verb_of, verbs, reply_word, reply_number, reply_of}

-- what is found has the word
found_has_word : {A : Type 0} (word : A → List ℕ) (w : List ℕ) (xs : List A) (x : A) → find (λ y. bytes_eq w (word y)) xs ≡ Some x → w ≡ word x
found_has_word word w [] x e = absurd cc
found_has_word word w (y ∷ xs) x e = elim (cases_Bool (bytes_eq w (word y))) [
  | inl same ↦ let chosen : Some y ≡ Some x = rw same at e in (bytes_eq-Decides w (word y)).0 same ∙ ap word (let is : y ≡ x = cc in is)
  | inr other ↦ let chosen : find (λ y. bytes_eq w (word y)) xs ≡ Some x = rw other at e in found_has_word word w xs x chosen
]

-- a verb is read from its word
pub verb_again : (v : Verb) → verb_of (verb_word v) ≡ Some v
unfolding verb_of
verb_again verb.Announce = refl
verb_again verb.Release = refl
verb_again verb.Sell = refl
verb_again verb.Refund = refl
verb_again verb.Cede = refl

-- and from no other
pub verb_found : (w : List ℕ) (v : Verb) → verb_of w ≡ Some v → w ≡ verb_word v
unfolding verb_of
verb_found w v e = found_has_word verb_word w verbs v e

-- a reply is read from its word and its number
pub reply_again : (r : Reply) → reply_of (reply_word r) (reply_number r) ≡ Some r
unfolding reply_of
reply_again Done = refl
reply_again Known = refl
reply_again Unknown = refl
reply_again (Short left) = refl
reply_again CellFull = refl
reply_again NoSale = refl
reply_again Refunded = refl
reply_again (TooMany rest) = refl
reply_again ToSelf = refl
reply_again NoSite = refl
