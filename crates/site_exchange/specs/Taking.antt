-- A site after it was asked, grew, took a message, or started anew. (Our own.)
use Rattle.std.specs.Prelude.{◌≡◌, ◌⊎◌, ℕ, ◌<◌, max, Bool, if◌then◌else◌, List, [], ◌∷◌, ◌++◌, set, get_or, Option, Some, None}
use Rattle.book_core.specs.declared.entry.Entry.{Entry}
use Rattle.site_exchange.specs.declared.message.Message.{Message}
use Rattle.site_exchange.specs.declared.message.Message.TheVariants.{Delta, Ack}
use Rattle.site_exchange.specs.Exchange.{SitePart, zeros, Verdict, Joins, NothingNew, Acks, Refuses, ack_for, taken_if}

-- a history with this entry, if any, at its end
abbrev pub extended : Option Entry → List Entry → List Entry
extended None h = h
extended (Some entry) h = h ++ entry ∷ []

-- a site with this entry, if any, at the end of its history
abbrev pub with_entry : Option Entry → SitePart → SitePart
with_entry entry site = record { history = extended entry site.history; acked = site.acked }

-- what peers have acknowledged, once this one acknowledges so many entries: the greater of the old number and this
abbrev pub acked_upto : List ℕ → ℕ → ℕ → List ℕ
acked_upto acked peer upto = set acked peer (max (get_or acked peer 0) upto)

-- the site with this acknowledgement taken
abbrev pub with_ack : Message → SitePart → SitePart
with_ack (Ack by to upto) site = record { history = site.history; acked = acked_upto site.acked by upto }
with_ack (Delta by to upto delta) site = site

-- the site after it took a message
abbrev pub site_after : Verdict → Message → SitePart → SitePart
site_after Joins message site = with_entry (taken_if Joins message) site
site_after NothingNew message site = site
site_after Acks message site = with_ack message site
site_after (Refuses fault) message site = site

-- the message acknowledges more than its sender had acknowledged
abbrev pub IsRaising : SitePart → Message → Type 0
IsRaising site (Ack by to upto) = get_or site.acked by 0 < upto
IsRaising site (Delta by to upto delta) = ⊥

-- taking a message may want memory where its delta is joined, or where it raises what its sender had acknowledged
abbrev pub MayTake : Verdict → SitePart → Message → Type 0
MayTake v site message = (v ≡ Joins) ⊎ ((v ≡ Acks) × IsRaising site message)

-- what a site gives back for a message
abbrev pub ack_due : Verdict → Message → Option Message
ack_due Joins message = ack_for message
ack_due NothingNew message = ack_for message
ack_due Acks message = None
ack_due (Refuses fault) message = None

-- the site started anew from its history: nothing counts as acknowledged
abbrev pub restarted : SitePart → SitePart
restarted site = record { history = site.history; acked = zeros }

-- the site stopped in the midst of an input and started anew, with the entry that the input adds where it was stored
abbrev pub stopped_with : Option Entry → Bool → SitePart → SitePart
stopped_with entry stored site = restarted (if stored then with_entry entry site else site)

-- the messages with this one, if any, at their end
abbrev pub with_given : List Message → Option Message → List Message
with_given given None = given
with_given given (Some message) = given ++ message ∷ []
