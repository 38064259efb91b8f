-- The book of two databases that were read, and why there is none.
use Rattle.std.proofs.Common.{◌≡◌, ◌≢◌, ℕ, Bool, true, false, not, ◌&&◌, eqb, eq-eqb, eqb-true, List, Option, Some, refl, sym, ap, ◌∙◌, subst}
use Rattle.std.proofs.lemmas.Bool.{and_from, and_parts, not-false, not-true}
use Rattle.sqlite.specs.Store.{Ghosts}
use Rattle.sqlite.specs.Held.{Held}
use Rattle.book_core.specs.declared.entry.Entry.{Entry}
use Rattle.book_core.specs.Legal.{IsLegal}
use Rattle.site_exchange.specs.Exchange.{zeros}
use Rattle.history_keeper.specs.declared.keeper.KeepFault.{KeepFault}
use Rattle.history_keeper.specs.declared.meta.Meta.{Meta}
use Rattle.history_keeper.specs.Keeping.{LeavesOnly}
use Rattle.history_keeper.specs.Meta.{office_of}
use Rattle.mirrored_records.specs.Mirrored.{IsOpened, MirrorView, OneIsShort}
use Rattle.mirrored_records.specs.Prefixes.{DifferAt, IsLonger}
use Rattle.mirrored_records.specs.declared.opening.MirrorFault.{MirrorFault}
use Rattle.mirrored_records.specs.declared.opening.MirrorFault.TheVariants as mirror
use Rattle.sql_records.specs.Held.{IsTrusted, RecordsView, history_in}
use Rattle.sql_records.specs.Opened.{IsRecordsOf}
use Rattle.site_desk.specs.SiteView.{SiteView}
use Rattle.paired_records.specs.declared.opening.PairFault.{PairFault}
use Rattle.paired_records.specs.Pairs.{AreMarked, AreRead, Holds, IsPairBook, RefusesPair, of_mirror_fault, pair, records}

-- numbers are compared one by one
abbrev pub are_same : Meta → Meta → Bool
are_same a b = eqb a.me b.me && (eqb a.sites b.sites && eqb a.limit b.limit)

pub same_meta : (a b : Meta) → not (are_same a b) ≡ false → a ≡ b
same_meta a b e =
    let p = and_parts (eqb a.me b.me) (eqb a.sites b.sites && eqb a.limit b.limit) (not-false (are_same a b) e) in
    let q = and_parts (eqb a.sites b.sites) (eqb a.limit b.limit) p.1 in
    ap (λ (n : ℕ). record { me = n; sites = a.sites; limit = a.limit }) (eqb-true a.me b.me p.0)
    ∙ (ap (λ (n : ℕ). record { me = b.me; sites = n; limit = a.limit }) (eqb-true a.sites b.sites q.0)
    ∙ ap (λ (n : ℕ). record { me = b.me; sites = b.sites; limit = n }) (eqb-true a.limit b.limit q.1))

pub other_meta : (a b : Meta) → not (are_same a b) ≡ true → a ≢ b
other_meta a b e = λ same.
    let alike : are_same a a ≡ true =
    and_from (eqb a.me a.me) (eqb a.sites a.sites && eqb a.limit a.limit) (eq-eqb a.me a.me refl)
    (and_from (eqb a.sites a.sites) (eqb a.limit a.limit) (eq-eqb a.sites a.sites refl) (eq-eqb a.limit a.limit refl)) in
    let unlike : are_same a a ≡ false = not-true (are_same a a) (subst (λ (m : Meta). not (are_same a m) ≡ true) (sym same) e) in
    let bad : true ≡ false = sym alike ∙ unlike in cc

-- records that are trusted gave what their database held
held : {S : Type 0} (g : Ghosts S) (conn : Held S) (records : RecordsView S) (entries : List Entry) (meta : Meta) → IsRecordsOf g conn records entries meta
    → IsTrusted g records → Holds g conn entries meta
held g conn records entries meta of trusted = let read = of.read trusted in record {
  entries_are = read.entries_are ∙ ap (λ store. history_in store.trees) read.same;
  numbers = read.holds.numbers;
  alone = read.given;
}

module _ {S : Type 0} (g : Ghosts S) (first second : Held S) (read : AreRead g first second) (one_site : read.meta ≡ read.copy) where
  -- the one that survives was of that site
  of_site : (is_first : Bool) → (pair g is_first).is_trusted (record { first = read.one; second = read.other; failures = 0 })
      → (pair g is_first).is_of (record { first = read.one; second = read.other; failures = 0 }) read.meta
  of_site true trusted = (read.first_is.read trusted).site
  of_site false trusted = subst (λ meta. (records g).is_of read.other meta) (sym one_site) (read.second_is.read trusted).site

  pub pair_book : (is_first : Bool) (entries : List Entry) (mirror : MirrorView (RecordsView S) (RecordsView S))
      (book : SiteView (MirrorView (RecordsView S) (RecordsView S)))
      → IsOpened (pair g is_first) (record { first = read.one; second = read.other; failures = 0 }) mirror entries → IsLonger read.ones read.others entries
      → (IsTrusted g mirror.first → IsTrusted g read.one) × (IsTrusted g mirror.second → IsTrusted g read.other)
      → book.closed ≡ false → book.book.history ≡ entries → book.book.office ≡ office_of read.meta → book.acked ≡ zeros → book.keeper ≡ mirror
      → ((pair g is_first).is_trusted book.keeper → LeavesOnly book.book.history ((pair g is_first).may_leave book.keeper))
      → IsLegal book.book.office book.book.history → AreMarked g first second → IsPairBook g first second is_first book
  pair_book is_first entries mirror book opened longer trusted unclosed history office fresh keeper_is rests legal marked = record {
    marked = marked;
    read = read;
    one_site = one_site;
    office = office;
    longer = subst (λ (l : List Entry). IsLonger read.ones read.others l) (sym history) longer;
    legal = legal;
    fresh = fresh;
    unclosed = unclosed;
    sound = ap (λ (m : MirrorView (RecordsView S) (RecordsView S)). m.failures) keeper_is ∙ opened.unshut;
    first_held = λ clean. held g first read.one read.ones read.meta read.first_is
        (trusted.0 (subst (λ (m : MirrorView (RecordsView S) (RecordsView S)). IsTrusted g m.first) keeper_is clean));
    second_held = λ clean.
        subst (λ (meta : Meta). Holds g second read.others meta) (sym one_site)
        (held g second read.other read.others read.copy read.second_is
        (trusted.1 (subst (λ (m : MirrorView (RecordsView S) (RecordsView S)). IsTrusted g m.second) keeper_is clean)));
    site = λ clean.
        let was = subst (λ (m : MirrorView (RecordsView S) (RecordsView S)). (pair g is_first).is_trusted m) keeper_is clean in
        subst (λ (m : MirrorView (RecordsView S) (RecordsView S)). (pair g is_first).is_of m read.meta) (sym keeper_is)
        (opened.site was read.meta (of_site is_first (opened.trusted was)));
    rests = rests;
  }

  -- two that differ, or of which the shorter could not be brought up
  pub refused_by_mirror : AreMarked g first second → (is_first : Bool) (fault : MirrorFault) (one other : RecordsView S)
      → ((place : ℕ) → fault ≡ mirror.Differs place → (one ≡ read.one) × (other ≡ read.other) × DifferAt read.ones read.others place)
      → ((cause : KeepFault) → fault ≡ mirror.Short cause → OneIsShort (records g) (records g) (read.one, one) (read.other, other) read.ones read.others)
      → RefusesPair g first second is_first (Some one.conn) (Some other.conn) (of_mirror_fault fault)
  refused_by_mirror marked is_first (mirror.Differs place) one other differ short =
      let found = differ place refl in
      (marked, (read, one_site, (found.2, ap (λ (k : RecordsView S). Some k.conn) found.0, ap (λ (k : RecordsView S). Some k.conn) found.1)))
  refused_by_mirror marked is_first (mirror.Short cause) one other differ short = (marked, (read, one_site, (one, other, refl, refl, short cause refl)))

-- what was read of the two
abbrev pub read_of : {S : Type 0} (g : Ghosts S) (first second : Held S) (one other : RecordsView S) (ones others : List Entry) (meta copy : Meta)
    → IsRecordsOf g first one ones meta → IsRecordsOf g second other others copy → AreRead g first second
read_of g first second one other ones others meta copy first_is second_is = record {
  one = one;
  other = other;
  ones = ones;
  others = others;
  meta = meta;
  copy = copy;
  first_is = first_is;
  second_is = second_is;
}

-- what came back is these, with this cause
pub refused_with : {S : Type 0} (g : Ghosts S) (first second : Held S) (is_first : Bool) (came : Option (Held S) × Option (Held S) × PairFault)
    (one other : Held S) (fault : PairFault) → came ≡ (Some one, Some other, fault) → RefusesPair g first second is_first (Some one) (Some other) fault
    → RefusesPair g first second is_first came.0 came.1 came.2
refused_with {S = S} g first second is_first came one other fault is refused = subst (λ (c : Option (Held S) × Option (Held S) × PairFault).
    RefusesPair g first second is_first c.0 c.1 c.2) (sym is) refused
