-- What the ends of links tell once they were brought together. (Our own.)
use Rattle.std.specs.Prelude.{◌≡◌, ◌≤◌, ℕ, All, zero, suc, ◌+◌, Bool, true, false, List, [], ◌∷◌, ◌++◌, length, map, slice_index, slice_index_or, take, drop}
use mathlib.Core.List.{IsPrefix}
use Rattle.link_queue.specs.End.{End}
use Rattle.session_server.specs.declared.peer.Peer.{Peer}
use Rattle.session_server.specs.declared.peer.PeerEnd.{PeerEnd}
use Rattle.session_server.specs.declared.settling.Through.{Through}
use Rattle.session_server.specs.declared.settling.Went.{Went}
use Rattle.session_server.specs.declared.site.LinkEnd.{LinkEnd}
use Rattle.session_server.specs.Exchanged.{AnyGiven, AnyMessage, Exchanged}
use Rattle.session_server.specs.LinkNames.{link_name_of, link_names}
use Rattle.session_server.specs.Mesh.{AreInTurn, AreJoined, IsNewPeer, each_with, linkage_left, others_of, rows_of}

-- what was put and got is what the two ends tell, what was refused is told by the site that receives
abbrev pub through : End → End → ℕ → Through
through tx rx refused = record { put = length tx.messages; got = length rx.messages; refused = refused }

-- what went from the first of two sites to the other, by their ends for each other
abbrev pub went : PeerEnd → PeerEnd → Went
went one other = record { deltas = through one.delta_tx other.delta_rx other.deltas_refused; acks = through one.ack_tx other.ack_rx other.acks_refused }

-- there and back
abbrev pub both_went : PeerEnd × PeerEnd → Went × Went
both_went p = (went p.0 p.1, went p.1 p.0)

-- what came out of the links from the first site to the other is a prefix of what was put into them
abbrev pub GotFirst : PeerEnd → PeerEnd → Type 0
GotFirst one other = IsPrefix other.delta_rx.messages one.delta_tx.messages × IsPrefix other.ack_rx.messages one.ack_tx.messages

-- the same there and back, by ends of the same links
abbrev pub WentInOrder : PeerEnd × PeerEnd → Type 0
WentInOrder p = GotFirst p.0 p.1 × GotFirst p.1 p.0 × AreJoined (linkage_left p.0, linkage_left p.1)

-- the last end of a row is of the links of this one
abbrev pub EndsJoined : List PeerEnd → PeerEnd → Type 0
EndsJoined row other = (front : List PeerEnd) × (one : PeerEnd) × (row ≡ front ++ one ∷ []) × AreJoined (linkage_left one, linkage_left other)

-- From the ends of the last site and the last ends of the sites before it, what went between them. These are left with what stands before.
pub record IsSettledWith (rows : List (List PeerEnd)) (last : List PeerEnd) (fronts : List (List PeerEnd)) (told : List (Went × Went)) : Type 0 where
  pub came : List (PeerEnd × PeerEnd)
  pub count : length came ≡ length fronts
  pub rows_are : rows ≡ each_with fronts (map (λ p. p.0) came)
  pub last_is : last ≡ map (λ p. p.1) came
  pub in_order : All WentInOrder came
  pub told_are : told ≡ map both_went came

-- For each site, and each other: what went there, as the ends that the two have for each other tell it. What came out of each link is a prefix of
-- what was put into it.
pub record AreSettled (ends : List (List PeerEnd)) (told : List (List Went)) : Type 0 where
  pub came : List (List (PeerEnd × PeerEnd))
  pub in_turn : AreInTurn came
  pub ends_are : ends ≡ rows_of came
  pub in_order : All (λ pairs. All WentInOrder pairs) came
  pub told_are : told ≡ rows_of (map (map both_went) came)

abbrev pub link_end : ℕ → ℕ → Bool → Through → LinkEnd
link_end by to acks t = record { by = by; to = to; acks = acks; put = t.put; got = t.got; refused = t.refused }

-- the links from one site to others, with what went through them
abbrev pub ends_to : ℕ → List ℕ → List Went → List LinkEnd
ends_to by [] told = []
ends_to by (to ∷ others) [] = []
ends_to by (to ∷ others) (w ∷ told) = link_end by to false w.deltas ∷ link_end by to true w.acks ∷ ends_to by others told

-- those from the first so many sites, each to each other, in order
abbrev pub first_ends : List ℕ → List (List Went) → ℕ → List LinkEnd
first_ends sites told zero = []
first_ends sites told (suc k) = first_ends sites told k ++ ends_to (slice_index sites k) (take k sites ++ drop (k + 1) sites) (slice_index_or told k [])

abbrev pub link_ends : List ℕ → List (List Went) → List LinkEnd
link_ends sites told = first_ends sites told (length sites)

-- no more was refused than was got, and no more got than put
abbrev pub IsCounted : LinkEnd → Type 0
IsCounted link = (link.refused ≤ link.got) × (link.got ≤ link.put)

-- of what each of two sites got from the other, it acknowledged no more than it did not refuse
abbrev pub IsAcknowledged : Went × Went → Type 0
IsAcknowledged p = (p.1.acks.put + p.0.deltas.refused ≤ p.0.deltas.got) × (p.0.acks.put + p.1.deltas.refused ≤ p.1.deltas.got)

-- The links tell what went between each two of the sites, and no site acknowledged more than it got and did not refuse.
pub record AreAcknowledged (sites : List ℕ) (links : List LinkEnd) : Type 0 where
  pub came : List (List (Went × Went))
  pub count : length came ≡ length sites
  pub in_turn : AreInTurn came
  pub acknowledged : All (λ pairs. All IsAcknowledged pairs) came
  pub links_are : links ≡ link_ends sites (rows_of came)

-- an exchange for so many rounds left this end of links through which nothing had gone
abbrev pub IsLeftOfNew : ℕ → PeerEnd → Type 0
IsLeftOfNew rounds end = (peer : Peer) × IsNewPeer peer × Exchanged AnyMessage AnyMessage AnyGiven rounds peer end

-- The links between these sites, each told of as its two ends tell it, which the exchanges of two sites for so many rounds left, each for the other
-- by its number. What came out of each is a prefix of what was put into it.
pub record AreLinksTold (rounds : ℕ) (sites : List ℕ) (links : List LinkEnd) : Type 0 where
  pub came : List (List (PeerEnd × PeerEnd))
  pub count : length came ≡ length sites
  pub in_turn : AreInTurn came
  pub left : All (λ row. All (IsLeftOfNew rounds) row) (rows_of came)
  pub named : map (map (λ e. e.to)) (rows_of came) ≡ others_of sites
  pub in_order : All (λ pairs. All WentInOrder pairs) came
  pub links_are : links ≡ link_ends sites (rows_of (map (map both_went) came))

-- What is told of the links between these sites, once exchanges for so many rounds are over: there is each of them, what its two ends tell, no
-- more refused than got, no more got than put, no more put than there were rounds, and no more acknowledged than got and not refused.
pub record AreLinksLeft (rounds : ℕ) (sites : List ℕ) (links : List LinkEnd) : Type 0 where
  pub names : map link_name_of links ≡ link_names sites
  pub told : AreLinksTold rounds sites links
  pub counted : All IsCounted links
  pub within : All (λ link. link.put ≤ rounds) links
  pub acknowledged : AreAcknowledged sites links
