-- What each peer has acknowledged (JPDC 2018), and what is pending for it (our own).
use Rattle.std.specs.Prelude.{◌≡◌, ℕ, ◌<◌, ◌≤◌, List, length, get_or, slice_get, Option, Some, refl}
use Rattle.std.specs.Coded.{Coded, code_by, coded_ℕ, coded_list, coded×}
use Rattle.book_core.specs.declared.entry.Entry.{Entry}
use Rattle.book_core.specs.BookView.{BookView}
use Rattle.book_core.specs.Decision.{SiteConfig, sites_of}
use Rattle.delta_buffer.specs.Pending.{PendingView, coded_pending, IsPendingOf}
use Rattle.site_exchange.specs.declared.message.Message.{Message}
use Rattle.site_exchange.specs.Exchange.{next}
use Rattle.site_exchange.specs.Taking.{acked_upto}

-- what contracts see of an exchange: the count of sites, the acknowledged numbers, and the pending deltas of the first peers
pub record ExchangeView : Type 0 where
  pub sites : ℕ
  pub acked : List ℕ
  pub pendings : List PendingView

abbrev pub coded_exchange : Coded ExchangeView
coded_exchange =
    code_by ((ℕ × List ℕ) × List PendingView) (coded× (coded× coded_ℕ (coded_list coded_ℕ)) (coded_list coded_pending))
    (λ e. ((e.sites, e.acked), e.pendings)) (λ p. record { sites = p.0.0; acked = p.0.1; pendings = p.1 }) (λ _. refl)

-- each begins at what its peer has acknowledged
abbrev pub BeginAtAcked : List ℕ → List PendingView → Type 0
BeginAtAcked acked pendings = (peer : ℕ) (p : PendingView) → slice_get pendings peer ≡ Some p → p.from ≡ get_or acked peer 0

-- what is pending for the peer, if anything, is an interval of this history
abbrev pub IsPendingIn : List Entry → List PendingView → ℕ → Type 0
IsPendingIn h pendings peer = (p : PendingView) → slice_get pendings peer ≡ Some p → IsPendingOf h p

-- so it is for each peer
abbrev pub ArePending : List Entry → ExchangeView → Type 0
ArePending h e = (peer : ℕ) → IsPendingIn h e.pendings peer

-- an exchange of the site that has this history: it counts the sites that the site counts, and what is pending is of the history
pub record IsExchangeOf (office : SiteConfig) (h : List Entry) (e : ExchangeView) : Type 0 where
  pub counted : e.sites ≡ sites_of office h
  pub pending : ArePending h e

-- what was added for a peer stays added
abbrev pub KeepAdded : List PendingView → List PendingView → Type 0
KeepAdded old new = (peer : ℕ) (p : PendingView) → slice_get old peer ≡ Some p → (q : PendingView) × (slice_get new peer ≡ Some q) × (p.upto ≤ q.upto)

-- all of the history was added for the peer
abbrev pub IsCaughtUp : List Entry → List PendingView → ℕ → Type 0
IsCaughtUp h pendings peer = (p : PendingView) × (slice_get pendings peer ≡ Some p) × (p.upto ≡ length h)

-- the message that is due to a peer by what it has acknowledged
abbrev pub due_to : BookView → ExchangeView → ℕ → Option Message
due_to book e to = next book.office.me (record { history = book.history; acked = e.acked }) to

-- the peer has acknowledged no more than this history, and what is pending for it is of this history
pub record IsInStep (h : List Entry) (e : ExchangeView) (peer : ℕ) : Type 0 where
  pub acked : get_or e.acked peer 0 ≤ length h
  pub pending : IsPendingIn h e.pendings peer

-- what is pending stays an interval of this history, and what was added stays added
pub record KeepsPendings (h : List Entry) (old new : List PendingView) : Type 0 where
  pub pending : (peer : ℕ) → IsPendingIn h old peer → IsPendingIn h new peer
  pub added : KeepAdded old new

-- what is pending stays an interval of this history for each peer that has acknowledged no more than the history
abbrev pub StayPending : List Entry → List ℕ → List PendingView → List PendingView → Type 0
StayPending h acked old new = (peer : ℕ) → get_or acked peer 0 ≤ length h → IsPendingIn h old peer → IsPendingIn h new peer

-- the sites and the acknowledged numbers are as they were, and what is pending is kept
pub record KeepsExchange (h : List Entry) (old new : ExchangeView) : Type 0 where
  pub sites : new.sites ≡ old.sites
  pub acked : new.acked ≡ old.acked
  pub pending : StayPending h old.acked old.pendings new.pendings
  pub added : KeepAdded old.pendings new.pendings

-- each begins at what its peer has acknowledged, where it did before
abbrev pub StayAtAcked : List ℕ → List PendingView → List PendingView → Type 0
StayAtAcked acked old new = BeginAtAcked acked old → BeginAtAcked acked new

-- each begins at what its peer has acknowledged once the peer at this place acknowledges n entries, where it did before
abbrev pub FollowAcked : ℕ → ℕ → List PendingView → List PendingView → Type 0
FollowAcked place n old new = (acked : List ℕ) → place < length acked → BeginAtAcked acked old → BeginAtAcked (acked_upto acked place n) new

-- n is more than the peer at this place has acknowledged
abbrev pub IsPastAcked : ℕ → ℕ → List PendingView → Type 0
IsPastAcked place n pendings = (acked : List ℕ) → BeginAtAcked acked pendings → get_or acked place 0 < n
