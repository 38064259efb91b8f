-- Reading a request from left to right. (Our own.)
use Rattle.std.specs.Prelude.{ℕ, List, Option, Some, None, if◌then◌else◌}
use Rattle.request_ledger.specs.declared.request.Request.{Request}
use Rattle.request_ledger.specs.declared.request.Request.TheVariants.{Announce, Release, Sell, Refund, Cede}
use Rattle.request_ledger.specs.declared.verb.Verb.{Verb}
use Rattle.request_ledger.specs.declared.verb.Verb.TheVariants as verb
use Rattle.request_ledger.specs.Words.{verb_of}
use Rattle.plain_words.specs.Words.{ended, is_nil, ◌>>=◌}
use Rattle.delta_wire.specs.Fields.{event_at, site_at, natural_at}

-- an event and an amount
unfoldable pub sized_at : List (List ℕ) → Option ((List ℕ × ℕ) × List (List ℕ))
sized_at words = do
  e ← event_at words
  a ← natural_at e.1
  Some ((e.0, a.0), a.1)

-- All the words that are left.
unfoldable pub announce_at : List (List ℕ) → Option Request
announce_at words = do
  e ← event_at words
  ended (Announce e.0) e.1

unfoldable pub release_at : List (List ℕ) → Option Request
release_at words = do
  x ← sized_at words
  ended (Release x.0.0 x.0.1) x.1

unfoldable pub sell_at : List (List ℕ) → Option Request
sell_at words = do
  x ← sized_at words
  ended (Sell x.0.0 x.0.1) x.1

-- an amount, and no word behind it
unfoldable pub last_amount_at : List (List ℕ) → Option (Option ℕ)
last_amount_at words = do
  a ← natural_at words
  ended (Some a.0) a.1

-- the part of a sale: none where no word is left
unfoldable pub part_at : List (List ℕ) → Option (Option ℕ)
part_at words = if is_nil words then Some None else last_amount_at words

unfoldable pub refund_at : List (List ℕ) → Option Request
refund_at words = do
  s ← natural_at words
  part ← part_at s.1
  Some (Refund s.0 part)

unfoldable pub cede_at : List (List ℕ) → Option Request
cede_at words = do
  x ← sized_at words
  to ← site_at x.1
  ended (Cede x.0.0 to.0 x.0.1) to.1

-- a request with this verb, after its number
abbrev pub request_at : Verb → List (List ℕ) → Option Request
request_at verb.Announce words = announce_at words
request_at verb.Release words = release_at words
request_at verb.Sell words = sell_at words
request_at verb.Refund words = refund_at words
request_at verb.Cede words = cede_at words

-- a request with this verb, and its number
unfoldable pub numbered_at : Verb → List (List ℕ) → Option (ℕ × Request)
numbered_at v words = do
  n ← natural_at words
  q ← request_at v n.1
  Some (n.0, q)

-- a request that begins with this word, and its number
unfoldable pub request_from : List ℕ → List (List ℕ) → Option (ℕ × Request)
request_from word words = do
  v ← verb_of word
  numbered_at v words
