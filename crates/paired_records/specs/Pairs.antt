-- Two databases as the records of one site. (Our own.)
use Rattle.std.specs.Prelude.{◌≡◌, ◌≢◌, ◌⊎◌, Bool, true, false, List, Option, Some, None}
use Rattle.sqlite.specs.Store.{Ghosts}
use Rattle.sqlite.specs.Held.{Held, state}
use Rattle.book_core.specs.declared.entry.Entry.{Entry}
use Rattle.book_core.specs.Legal.{IsLegal}
use Rattle.book_core.specs.Replay.{IsReplayFault}
use Rattle.site_exchange.specs.Exchange.{zeros}
use Rattle.history_keeper.specs.declared.meta.Meta.{Meta}
use Rattle.history_keeper.specs.Keeping.{LeavesOnly}
use Rattle.history_keeper.specs.Meta.{office_of}
use Rattle.mirrored_records.specs.Mirrored.{IsOpened, MirrorView, OneIsShort, surviving}
use Rattle.mirrored_records.specs.Prefixes.{DifferAt, IsLonger}
use Rattle.mirrored_records.specs.declared.opening.MirrorFault.{MirrorFault}
use Rattle.mirrored_records.specs.declared.opening.MirrorFault.TheVariants as mirror
use Rattle.sql_records.specs.declared.fault.OpenFault.{OpenFault}
use Rattle.sql_records.specs.Held.{IsOf, IsTrusted, MayLeave, RecordsView, history_in, kept_in}
use Rattle.sql_records.specs.Layout.{HasMeta}
use Rattle.sql_records.specs.Opened.{CannotOpen, IsRecordsOf}
use Rattle.site_desk.specs.Calls.{Keeping}
use Rattle.site_desk.specs.SiteView.{SiteView}
use Rattle.paired_records.specs.declared.opening.PairFault.{PairFault}
use Rattle.paired_records.specs.declared.opening.PairFault.TheVariants.{Differs, NotPaired, Opening, OtherSite, Replay, Short}
use Rattle.paired_records.specs.Marks.{is_marked}

abbrev pub of_mirror_fault : MirrorFault → PairFault
of_mirror_fault (mirror.Differs place) = Differs place
of_mirror_fault (mirror.Short fault) = Short fault

-- what records show as a store
abbrev pub records : {S : Type 0} → Ghosts S → Keeping (RecordsView S)
records g = record { failed = λ k. k.failures; is_trusted = IsTrusted g; kept = kept_in g; may_leave = MayLeave g; is_of = IsOf g }

-- the records of two databases as the one that survives shows itself
abbrev pub pair : {S : Type 0} → Ghosts S → Bool → Keeping (MirrorView (RecordsView S) (RecordsView S))
pair g is_first = surviving is_first (records g) (records g)

-- this connection comes back
abbrev pub ComesBack : {S : Type 0} → Option (Held S) → Held S → Type 0
ComesBack back conn = back ≡ Some conn

-- the database held these entries, and these numbers and no others
pub record Holds {S : Type 0} (g : Ghosts S) (conn : Held S) (entries : List Entry) (meta : Meta) : Type 0 where
  pub entries_are : entries ≡ history_in (state g conn).now.trees
  pub numbers : HasMeta meta (state g conn).now.trees
  pub alone : (other : Meta) → HasMeta other (state g conn).now.trees → meta ≡ other

module _ {S : Type 0} (g : Ghosts S) (first second : Held S) where
  -- what was read of the two: the entries and the numbers of each
  pub record AreRead : Type 0 where
    pub one : RecordsView S
    pub other : RecordsView S
    pub ones : List Entry
    pub others : List Entry
    pub meta : Meta
    pub copy : Meta
    pub first_is : IsRecordsOf g first one ones meta
    pub second_is : IsRecordsOf g second other others copy

  -- both have the mark
  abbrev pub AreMarked : Type 0
  AreMarked = (is_marked first.schema ≡ true) × (is_marked second.schema ≡ true)

  -- two that have the mark were read, are of one site, and this holds of them
  abbrev pub OfOneSite : (AreRead → Type 0) → Type 0
  OfOneSite Found = AreMarked × ((read : AreRead) × (read.meta ≡ read.copy) × Found read)

  -- one of them is not opened, for this cause, and is gone; the other comes back
  abbrev pub OneIsUnread : Option (Held S) → Option (Held S) → OpenFault → Type 0
  OneIsUnread one other cause =
      (CannotOpen g first cause × (one ≡ None) × (other ≡ Some second))
      ⊎ (CannotOpen g second cause × (other ≡ None)
      × ((back : RecordsView S) × (entries : List Entry) × (meta : Meta) × IsRecordsOf g first back entries meta × (one ≡ Some back.conn)))

  -- Why they do not become the book of one site, and what comes back of each. But for the first fault, both have the mark.
  abbrev pub RefusesPair : Bool → Option (Held S) → Option (Held S) → PairFault → Type 0
  RefusesPair is_first one other NotPaired =
      ComesBack one first × ComesBack other second × ((is_marked first.schema ≡ false) ⊎ (is_marked second.schema ≡ false))
  RefusesPair is_first one other (Opening cause) = AreMarked × OneIsUnread one other cause
  RefusesPair is_first one other OtherSite =
      AreMarked × ((read : AreRead) × (read.meta ≢ read.copy) × ComesBack one read.one.conn × ComesBack other read.other.conn)
  RefusesPair is_first one other (Differs place) =
      OfOneSite (λ read. DifferAt read.ones read.others place × ComesBack one read.one.conn × ComesBack other read.other.conn)
  RefusesPair is_first one other (Short fault) = OfOneSite (λ read. (a b : RecordsView S) × ComesBack one a.conn × ComesBack other b.conn
      × OneIsShort (records g) (records g) (read.one, a) (read.other, b) read.ones read.others)
  RefusesPair is_first one other (Replay fault) = OfOneSite (λ read.
      (whole : List Entry) × (back : MirrorView (RecordsView S) (RecordsView S)) × ComesBack one back.first.conn × ComesBack other back.second.conn
      × IsOpened (pair g is_first) (record { first = read.one; second = read.other; failures = 0 }) back whole
      × IsLonger read.ones read.others whole × IsReplayFault (office_of read.meta) whole fault)

  -- The open book of the two, which have the mark: it is of the site of both and has the longer of their histories, which is legal, and nothing is
  -- acknowledged.
  -- What was read of each is what it held, as far as it is to be trusted. As far as the one that survives is, a crash leaves records of that
  -- site, and that history and nothing else.
  pub record IsPairBook (is_first : Bool) (book : SiteView (MirrorView (RecordsView S) (RecordsView S))) : Type 0 where
    pub marked : AreMarked
    pub read : AreRead
    pub one_site : read.meta ≡ read.copy
    pub office : book.book.office ≡ office_of read.meta
    pub longer : IsLonger read.ones read.others book.book.history
    pub legal : IsLegal book.book.office book.book.history
    pub fresh : book.acked ≡ zeros
    pub unclosed : book.closed ≡ false
    pub sound : book.keeper.failures ≡ 0
    pub first_held : IsTrusted g book.keeper.first → Holds g first read.ones read.meta
    pub second_held : IsTrusted g book.keeper.second → Holds g second read.others read.meta
    pub site : (pair g is_first).is_trusted book.keeper → (pair g is_first).is_of book.keeper read.meta
    pub rests : (pair g is_first).is_trusted book.keeper → LeavesOnly book.book.history ((pair g is_first).may_leave book.keeper)
