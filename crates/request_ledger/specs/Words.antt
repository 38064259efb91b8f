-- The words of requests and of replies, each once. (Our own.)
use Rattle.std.specs.Prelude.{◌≡◌, ℕ, List, [], ◌∷◌, Option, Some, None, codes}
use Rattle.std.specs.List.{find}
use Rattle.std.specs.Str.{bytes_eq}
use Rattle.request_ledger.specs.declared.verb.Verb.{Verb}
use Rattle.request_ledger.specs.declared.verb.Verb.TheVariants.{Announce, Release, Sell, Refund, Cede}
use Rattle.request_ledger.specs.declared.request.Request.{Request}
use Rattle.request_ledger.specs.declared.request.Request.TheVariants as request
use Rattle.request_ledger.specs.declared.reply.Reply.{Reply}
use Rattle.request_ledger.specs.declared.reply.Reply.TheVariants.{Done, Known, Unknown, Short, CellFull, NoSale, Refunded, TooMany, ToSelf, NoSite}

-- the word that says what is asked
abbrev pub verb_word : Verb → List ℕ
verb_word Announce = codes "announce"
verb_word Release = codes "release"
verb_word Sell = codes "sell"
verb_word Refund = codes "refund"
verb_word Cede = codes "cede"

abbrev pub verbs : List Verb
verbs = Announce ∷ Release ∷ Sell ∷ Refund ∷ Cede ∷ []

-- the verb that has this word
unfoldable pub verb_of : List ℕ → Option Verb
verb_of word = find (λ v. bytes_eq word (verb_word v)) verbs

abbrev pub request_verb : Request → Verb
request_verb (request.Announce event) = Announce
request_verb (request.Release event amount) = Release
request_verb (request.Sell event amount) = Sell
request_verb (request.Refund sale part) = Refund
request_verb (request.Cede event to amount) = Cede

-- the first word of the line that tells a reply
abbrev pub reply_word : Reply → List ℕ
reply_word Done = codes "done"
reply_word Known = codes "known"
reply_word Unknown = codes "unknown"
reply_word (Short left) = codes "short"
reply_word CellFull = codes "full-cell"
reply_word NoSale = codes "no-sale"
reply_word Refunded = codes "refunded"
reply_word (TooMany rest) = codes "too-many"
reply_word ToSelf = codes "to-self"
reply_word NoSite = codes "no-site"

-- the number behind it
abbrev pub reply_number : Reply → Option ℕ
reply_number (Short left) = Some left
reply_number (TooMany rest) = Some rest
reply_number _ = None

-- the replies with this number, or those without one
abbrev pub replies_with : Option ℕ → List Reply
replies_with (Some seats) = Short seats ∷ TooMany seats ∷ []
replies_with None = Done ∷ Known ∷ Unknown ∷ CellFull ∷ NoSale ∷ Refunded ∷ ToSelf ∷ NoSite ∷ []

-- the reply that has this word and this number
unfoldable pub reply_of : List ℕ → Option ℕ → Option Reply
reply_of word number = find (λ r. bytes_eq word (reply_word r)) (replies_with number)

-- a reply that has this word and this number is what was found
abbrev pub FindsEach : List ℕ → Option ℕ → Option Reply → Type 0
FindsEach word number found = (r : Reply) → word ≡ reply_word r → number ≡ reply_number r → found ≡ Some r
