-- What an exchange leaves of the links to a peer. (That a replica acknowledges what it joined: JPDC 2018; the links: our own.)
use Rattle.std.specs.Prelude.{◌≡◌, ℕ, ◌+◌, ◌≤◌, false, All, List, [], ◌∷◌, ◌++◌, length, Some, Ok, Err, ◌⊎◌}
use Rattle.std.specs.List.{AllZip}
use Rattle.book_core.specs.declared.entry.Entry.{Entry}
use Rattle.book_core.specs.Decision.{SiteConfig}
use Rattle.site_exchange.specs.declared.message.Message.{Message}
use Rattle.site_exchange.specs.declared.message.TakeFault.{TakeFault}
use Rattle.site_exchange.specs.Exchange.{ack_for, receiver}
use Rattle.site_desk.specs.Calls.{Keeping}
use Rattle.site_desk.specs.Moments.{AtOneMoment, HoldsDelta, Opening, Sends, Takes}
use Rattle.site_desk.specs.SiteView.{SiteInStep, SiteView}
use Rattle.session_server.specs.declared.peer.Peer.{Peer}
use Rattle.session_server.specs.declared.peer.PeerEnd.{PeerEnd}
use Rattle.session_server.specs.declared.sending.Outgoing.{Outgoing}
use Rattle.session_server.specs.declared.sending.OutgoingEnd.{OutgoingEnd}
use Rattle.session_server.specs.declared.receiving.Incoming.{Incoming}
use Rattle.session_server.specs.declared.receiving.IncomingEnd.{IncomingEnd}

-- the first list is the second with some elements left out
abbrev pub IsSubsequence : {X : Type 0} → List X → List X → Type 0
IsSubsequence [] ys = Unit {0}
IsSubsequence (x ∷ xs) [] = ⊥
IsSubsequence (x ∷ xs) (y ∷ ys) = ((x ≡ y) × IsSubsequence xs ys) ⊎ IsSubsequence (x ∷ xs) ys

-- what a message brings is held, or it is refused
abbrev pub IsHeldOrRefused : (Message → Type 0) → (Message → Type 0) → Message → Type 0
IsHeldOrRefused Holds Refuses message = Holds message ⊎ Refuses message

-- Since there were these messages more came, each of which is held or refused.
pub record AreHeldOrRefused (Holds Refuses : Message → Type 0) (came came_now : List Message) : Type 0 where
  pub got : List Message
  pub more_came : came_now ≡ came ++ got
  pub each : All (IsHeldOrRefused Holds Refuses) got

-- Since there were these messages, more came, each held or refused, and more were sent: what was sent acknowledges, in their order,
-- some of those that came, each of which is held; and with those that were counted as refused they are no more than came.
pub record Acknowledges (Holds Refuses : Message → Type 0) (came sent : List Message) (refused : ℕ) (came_now sent_now : List Message) : Type 0 where
  pub met : AreHeldOrRefused Holds Refuses came came_now
  pub taken : List Message
  pub put : List Message
  pub more_sent : sent_now ≡ sent ++ put
  pub among : IsSubsequence taken met.got
  pub held : All Holds taken
  pub due : AllZip (λ message ack. ack_for message ≡ Some ack) taken put
  pub counted : length put + refused ≤ length met.got

-- where nothing is said of what is held or refused, and of what is given for a peer
abbrev pub AnyMessage : Message → Type 0
AnyMessage message = Unit {0}

abbrev pub AnyGiven : ℕ → Message → Type 0
AnyGiven to message = Unit {0}

-- some open book that may stand at the desk has the delta that the message brings, if it brings one
abbrev pub held_at_desk : {K : Type 0} → SiteConfig → List Entry → (SiteView K → Type 0) → Message → Type 0
held_at_desk office began InStep message = AtOneMoment office began InStep (HoldsDelta message)

-- some book that may stand at the desk refuses the message, or might want memory for it
abbrev pub refused_at_desk : {K : Type 0} → SiteConfig → List Entry → (SiteView K → Type 0) → (K → ℕ) → Message → Type 0
refused_at_desk office began InStep failed message = (fault : TakeFault) × AtOneMoment office began InStep (Takes failed message (Err fault))

-- some open book that may stand at the desk has this message due to that peer
abbrev pub given_at_desk : {K : Type 0} → SiteConfig → List Entry → (SiteView K → Type 0) → ℕ → Message → Type 0
given_at_desk office began InStep to message = AtOneMoment office began InStep (Sends to (Ok (Some message)))

-- Since there were these messages, no more than so many were sent, each of them to this site, and given for it.
pub record SentTo (Gives : ℕ → Message → Type 0) (to most : ℕ) (sent sent_now : List Message) : Type 0 where
  pub put : List Message
  pub more_sent : sent_now ≡ sent ++ put
  pub for_it : All (λ m. receiver m ≡ to) put
  pub given : All (Gives to) put
  pub few : length put ≤ most

-- The ends are those of the peer's links. What was sent was given for the peer, no more than a message for each round; what was
-- sent back acknowledges what came and is held, what came is held or refused, and no more acknowledgements were refused than came.
pub record Exchanged (Holds Refuses : Message → Type 0) (Gives : ℕ → Message → Type 0) (rounds : ℕ) (peer : Peer) (end : PeerEnd) : Type 0 where
  pub to : end.to ≡ peer.to
  pub delta_tx : end.delta_tx.link ≡ peer.delta_tx.link
  pub ack_tx : end.ack_tx.link ≡ peer.ack_tx.link
  pub delta_rx : end.delta_rx.link ≡ peer.delta_rx.link
  pub ack_rx : end.ack_rx.link ≡ peer.ack_rx.link
  pub sent : SentTo Gives peer.to rounds peer.delta_tx.messages end.delta_tx.messages
  pub acks_met : AreHeldOrRefused Holds Refuses peer.ack_rx.messages end.ack_rx.messages
  pub acks_counted : length peer.ack_rx.messages + end.acks_refused ≤ length end.ack_rx.messages
  pub acknowledged : Acknowledges Holds Refuses peer.delta_rx.messages peer.ack_tx.messages end.deltas_refused end.delta_rx.messages end.ack_tx.messages

-- the ends are those of the links to these peers, one by one
abbrev pub AreExchanged : ℕ → List Peer → List PeerEnd → Type 0
AreExchanged rounds peers ends = AllZip (Exchanged AnyMessage AnyMessage AnyGiven rounds) peers ends

-- the same, where a desk over such a keeper, of such a count, held, refused and gave what went through them
abbrev pub AreExchangedAt : {K : Type 0} → Keeping K → Opening → ℕ → List Peer → List PeerEnd → Type 0
AreExchangedAt k l rounds peers ends =
    let in_step = SiteInStep k in
    AllZip (Exchanged (held_at_desk l.office l.began in_step) (refused_at_desk l.office l.began in_step k.failed) (given_at_desk l.office l.began in_step)
    rounds) peers ends

-- what goes to a peer, and what comes from it
abbrev pub outgoing : Peer → Outgoing
outgoing peer = record { to = peer.to; tx = peer.delta_tx; is_gone = false }

abbrev pub incoming : Peer → Incoming
incoming peer = record { delta_rx = peer.delta_rx; ack_tx = peer.ack_tx; ack_rx = peer.ack_rx }

-- a link on which no more than so many messages were sent, each given for its peer
pub record SentMore (Gives : ℕ → Message → Type 0) (most : ℕ) (before after : Outgoing) : Type 0 where
  pub to : after.to ≡ before.to
  pub link : after.tx.link ≡ before.tx.link
  pub put : SentTo Gives before.to most before.tx.messages after.tx.messages

-- the end of a link, with what was sent on it
pub record IsEndOf (out : Outgoing) (end : OutgoingEnd) : Type 0 where
  pub to : end.to ≡ out.to
  pub tx : end.tx ≡ out.tx

-- the end of a link on which no more than so many messages were sent
pub record Sent (Gives : ℕ → Message → Type 0) (most : ℕ) (out : Outgoing) (end : OutgoingEnd) : Type 0 where
  pub to : end.to ≡ out.to
  pub link : end.tx.link ≡ out.tx.link
  pub put : SentTo Gives out.to most out.tx.messages end.tx.messages

-- the ends of the links that were received on, with what was acknowledged, all of it held; what came is held or refused
pub record Received (Holds Refuses : Message → Type 0) (before : Incoming) (after : IncomingEnd) : Type 0 where
  pub delta_rx : after.delta_rx.link ≡ before.delta_rx.link
  pub ack_tx : after.ack_tx.link ≡ before.ack_tx.link
  pub ack_rx : after.ack_rx.link ≡ before.ack_rx.link
  pub acks_met : AreHeldOrRefused Holds Refuses before.ack_rx.messages after.ack_rx.messages
  pub acks_counted : length before.ack_rx.messages + after.acks_refused ≤ length after.ack_rx.messages
  pub acknowledged : Acknowledges Holds Refuses before.delta_rx.messages before.ack_tx.messages after.deltas_refused after.delta_rx.messages
      after.ack_tx.messages

-- the part of a peer's end that was sent on, and the part that was received on
pub record HasSent (out : OutgoingEnd) (end : PeerEnd) : Type 0 where
  pub to : end.to ≡ out.to
  pub delta_tx : end.delta_tx ≡ out.tx

pub record HasReceived (before : IncomingEnd) (end : PeerEnd) : Type 0 where
  pub delta_rx : end.delta_rx ≡ before.delta_rx
  pub ack_tx : end.ack_tx ≡ before.ack_tx
  pub ack_rx : end.ack_rx ≡ before.ack_rx
  pub refused : end.deltas_refused ≡ before.deltas_refused
  pub acks_refused : end.acks_refused ≡ before.acks_refused
