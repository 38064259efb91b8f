-- Sites that keep two copies of their history, of which either may be lost. (Our own.)
use Rattle.std.specs.Prelude.{◌≡◌, ℕ, Bool, false, List, Option, Some}
use Rattle.book_core.specs.declared.entry.Entry.{Entry}
use Rattle.history_keeper.specs.declared.meta.Meta.{Meta}
use Rattle.history_keeper.specs.Keeping.{LeavesOnly}
use Rattle.mirrored_records.specs.Mirrored.{MirrorView, surviving}
use Rattle.site_exchange.specs.declared.message.Message.{Message}
use Rattle.site_exchange.specs.Exchange.{zeros}
use Rattle.site_desk.specs.Calls.{Keeping}
use Rattle.site_desk.specs.SiteView.{SiteView}
use Rattle.site_runs.specs.Runs.{BooksNeverOversold, Call, Crashes, Happens, Restarts}

-- What a site stores its history in: two copies, with the one that survives until the site is opened next, or one alone. No code knows which
-- of two survives: whatever is promised of them is promised of either.
pub data Copies (K : Type 0) : Type 0 where
  Both : (copies : MirrorView K K) → (is_first : Bool) → Copies K
  Alone : (copy : K) → Copies K

-- what it shows: of two copies, what the one that survives shows
module _ {K : Type 0} (k : Keeping K) where
  abbrev pub failures : Copies K → ℕ
  failures (Both copies is_first) = (surviving is_first k k).failed copies
  failures (Alone copy) = k.failed copy

  abbrev pub IsTrustedCopy : Copies K → Type 0
  IsTrustedCopy (Both copies is_first) = (surviving is_first k k).is_trusted copies
  IsTrustedCopy (Alone copy) = k.is_trusted copy

  abbrev pub stored : Copies K → List Entry
  stored (Both copies is_first) = (surviving is_first k k).kept copies
  stored (Alone copy) = k.kept copy

  abbrev pub MayLeaveCopy : Copies K → Option (List Entry) → Type 0
  MayLeaveCopy (Both copies is_first) left = (surviving is_first k k).may_leave copies left
  MayLeaveCopy (Alone copy) left = k.may_leave copy left

  abbrev pub IsCopyOf : Copies K → Meta → Type 0
  IsCopyOf (Both copies is_first) meta = (surviving is_first k k).is_of copies meta
  IsCopyOf (Alone copy) meta = k.is_of copy meta

  abbrev pub copies_of : Keeping (Copies K)
  copies_of = record { failed = failures; is_trusted = IsTrustedCopy; kept = stored; may_leave = MayLeaveCopy; is_of = IsCopyOf }

-- the same site over another store
abbrev pub over : {K L : Type 0} → (K → L) → SiteView K → SiteView L
over store s = record { book = s.book; acked = s.acked; keeper = store s.keeper; closed = s.closed }

-- What a call of a site's book over two copies does, whichever of them survives, is a call of a run of sites with copies; and so is a call over
-- one copy alone.
pub record CallsAreOfCopies {K : Type 0} (k : Keeping K) : Type 0 where
  pub both : (is_first : Bool) (given : List Message) (old new : SiteView (MirrorView K K)) (call : Call) → Happens (surviving is_first k k) given old call new
      → Happens (copies_of k) given (over (λ copies. Both copies is_first) old) call (over (λ copies. Both copies is_first) new)
  pub alone : (given : List Message) (old new : SiteView K) (call : Call) → Happens k given old call new
      → Happens (copies_of k) given (over Alone old) call (over Alone new)

-- An open site with two copies lost one of them, and goes on from what the other, which is trusted, may leave: alone, or with a new copy. It is
-- a restart of the run, and a crash in which nothing was added.
pub record GoesOn {K : Type 0} (k : Keeping K) (old new : SiteView (Copies K)) (copies : MirrorView K K) (is_first : Bool) : Type 0 where
  pub pair : old.keeper ≡ Both copies is_first
  pub unclosed : old.closed ≡ false
  pub rests : LeavesOnly old.book.history ((surviving is_first k k).may_leave copies)
  pub trusted : (surviving is_first k k).is_trusted copies
  pub left : (surviving is_first k k).may_leave copies (Some new.book.history)
  pub office : new.book.office ≡ old.book.office
  pub acked : new.acked ≡ zeros
  pub opened : new.closed ≡ false
  pub stores : IsTrustedCopy k new.keeper → LeavesOnly new.book.history (MayLeaveCopy k new.keeper)

abbrev pub LossIsARestart : {K : Type 0} → Keeping K → Type 0
LossIsARestart {K} k = (old new : SiteView (Copies K)) (copies : MirrorView K K) (is_first : Bool) (given : List Message) → GoesOn k old new copies is_first
    → Happens (copies_of k) given old Restarts new × Happens (copies_of k) given old (Crashes Restarts false) new × (new.book.history ≡ old.book.history)

-- At no moment of any run of sites with copies are more tickets outstanding than seats were released.
abbrev pub CopiesNeverOversell : {K : Type 0} → Keeping K → Type 0
CopiesNeverOversell k = BooksNeverOversold (copies_of k)
