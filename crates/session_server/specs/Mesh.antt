-- Sites of which each is linked with each other. (Our own.)
use Rattle.std.specs.Prelude.{◌≡◌, ℕ, All, List, [], ◌∷◌, ◌++◌, length, map}
use Rattle.link_queue.specs.End.{LinkId}
use Rattle.session_server.specs.declared.peer.Peer.{Peer}
use Rattle.session_server.specs.declared.peer.PeerEnd.{PeerEnd}

-- each row with one more at its end
abbrev pub each_with : {X : Type 0} → List (List X) → List X → List (List X)
each_with [] xs = []
each_with (row ∷ rows) [] = row ∷ rows
each_with (row ∷ rows) (x ∷ xs) = (row ++ x ∷ []) ∷ each_with rows xs

-- Where sites come one by one, the last one with a pair for each before it: the first of a pair goes to the site before, the second stays with the
-- one that came. So each site has a row of one for each other site, in their order. The last one to come stands first here.
abbrev pub rows_of : {X : Type 0} → List (List (X × X)) → List (List X)
rows_of [] = []
rows_of (came ∷ earlier) = each_with (rows_of earlier) (map (λ p. p.0) came) ++ map (λ p. p.1) came ∷ []

-- each came with as many pairs as there were sites before it
abbrev pub AreInTurn : {X : Type 0} → List (List X) → Type 0
AreInTurn [] = Unit {0}
AreInTurn (came ∷ earlier) = (length came ≡ length earlier) × AreInTurn earlier

-- for each the others, in order
abbrev pub others_of : {X : Type 0} → List X → List (List X)
others_of [] = []
others_of (x ∷ xs) = xs ∷ map (λ row. x ∷ row) (others_of xs)

-- which links a site's ends for a peer are of
pub record Linkage : Type 0 where
  pub delta_tx : LinkId
  pub ack_tx : LinkId
  pub delta_rx : LinkId
  pub ack_rx : LinkId

abbrev pub linkage_of : Peer → Linkage
linkage_of peer = record { delta_tx = peer.delta_tx.link; ack_tx = peer.ack_tx.link; delta_rx = peer.delta_rx.link; ack_rx = peer.ack_rx.link }

abbrev pub linkage_left : PeerEnd → Linkage
linkage_left end = record { delta_tx = end.delta_tx.link; ack_tx = end.ack_tx.link; delta_rx = end.delta_rx.link; ack_rx = end.ack_rx.link }

-- the numbers of the sites that these peers are
abbrev pub peers_of : List Peer → List ℕ
peers_of peers = map (λ p. p.to) peers

-- two sites' ends for each other are of the same links: where one sends, the other receives
abbrev pub AreJoined : Linkage × Linkage → Type 0
AreJoined p = (p.0.delta_tx ≡ p.1.delta_rx) × (p.0.ack_tx ≡ p.1.ack_rx) × (p.1.delta_tx ≡ p.0.delta_rx) × (p.1.ack_tx ≡ p.0.ack_rx)

-- the rows are those of sites that are linked each with each other
pub record IsMesh (rows : List (List Linkage)) : Type 0 where
  pub came : List (List (Linkage × Linkage))
  pub in_turn : AreInTurn came
  pub joined : All (λ pairs. All AreJoined pairs) came
  pub rows_are : rows ≡ rows_of came

-- a site that has these ends came to those that had these rows
pub record CameTo (before after : List (List Linkage)) (own : List Linkage) : Type 0 where
  pub came : List (Linkage × Linkage)
  pub count : length came ≡ length before
  pub joined : All AreJoined came
  pub after_is : after ≡ each_with before (map (λ p. p.0) came)
  pub own_is : own ≡ map (λ p. p.1) came

-- nothing went through a peer's links
abbrev pub IsNewPeer : Peer → Type 0
IsNewPeer peer = (peer.delta_tx.messages ≡ []) × (peer.ack_tx.messages ≡ []) × (peer.delta_rx.messages ≡ []) × (peer.ack_rx.messages ≡ [])

-- a site got one more peer, which is joined with this one of the other site; nothing went between them
abbrev pub GotPeer : List Peer → List Peer → Peer → Type 0
GotPeer before after here = (there : Peer) × (after ≡ before ++ there ∷ []) × AreJoined (linkage_of there, linkage_of here) × IsNewPeer there × IsNewPeer here
