-- What is told at the end of a command over records.
use Rattle.std.proofs.Common.{◌≡◌, ◌≢◌, ℕ, List, [], Option, Some, None, Result, Ok, Err, false, sym, ap, subst, ◌∙◌, append-nil}
use Rattle.std.specs.Prelude.{IfOk, IfErr, IfSome, OnOk, MatchOption}
use Rattle.std.proofs.KnownBytes.{Keeps-refl}
use Rattle.sqlite.specs.Store.{Ghosts}
use Rattle.sqlite.specs.State.{HasCleanDisk}
use Rattle.sqlite.specs.Held.{Held, state}
use Rattle.plain_words.specs.Writing.{AppendsFront, Writes}
use Rattle.plain_words.proofs.WriteLaws.{AppendsFront-nothing}
use Rattle.sql_records.specs.Held.{RecordsView}
use Rattle.site_desk.specs.SiteView.{SiteView}
use Rattle.operator_cli.specs.declared.status.Status.{Status}
use Rattle.operator_cli.specs.declared.status.Status.TheVariants.{Done, Refused, NotUnderstood, Failed}
use Rattle.operator_cli.specs.declared.command_fault.CommandFault.{CommandFault}
use Rattle.operator_cli.specs.declared.command_fault.CommandFault.TheVariants as fault
use Rattle.operator_cli.specs.declared.told.CommandReply.{CommandReply}
use Rattle.operator_cli.specs.declared.told.CommandReply.TheVariants.{Made, Migrated, Joined, NothingNew, Acked, AlreadyThere, NoSite, Nothing, NotFound, Unknown, TooLong, Unread, NotTaken, NotWhole, Ahead, Grown, NotGrown, Paired, Alone, NotPaired, OtherSite, Differs, SameFile}
use Rattle.operator_cli.specs.Opened.{HoldsOnly}
use Rattle.operator_cli.specs.Opened.{FailsFor}
use Rattle.operator_cli.specs.CommandReply.{command_fault_line, told_status, FaultTold}

-- whatever came of a write, a front of the text went out
pub front_written : {T E : Type 0} (old new : Option (List ℕ)) (r : Result T E) (text : List ℕ) → Writes old new r text → AppendsFront old new text
front_written old new (Ok x) text h = (text, [], sym (append-nil text), h)
front_written old new (Err e) text h = h

-- where nothing was told
pub nothing_told : (old : Option (List ℕ)) (status : Status) → FaultTold old old status
nothing_told old Done = Keeps-refl old
nothing_told old Refused = Keeps-refl old
nothing_told old NotUnderstood = Keeps-refl old
nothing_told old Failed = (fault.Write, AppendsFront-nothing old old (command_fault_line fault.Write) (Keeps-refl old))

-- ---- why a command failed

pub never_failed : (told : CommandReply) → told_status told ≢ Failed
never_failed Made e = cc
never_failed Migrated e = cc
never_failed Joined e = cc
never_failed NothingNew e = cc
never_failed Acked e = cc
never_failed AlreadyThere e = cc
never_failed NoSite e = cc
never_failed Nothing e = cc
never_failed NotFound e = cc
never_failed Unknown e = cc
never_failed TooLong e = cc
never_failed (Unread f) e = cc
never_failed (NotTaken f) e = cc
never_failed NotWhole e = cc
never_failed (Ahead viewer owner) e = cc
never_failed Grown e = cc
never_failed (NotGrown f) e = cc
never_failed Paired e = cc
never_failed Alone e = cc
never_failed NotPaired e = cc
never_failed OtherSite e = cc
never_failed (Differs place) e = cc
never_failed SameFile e = cc

-- what is told does not fail
pub told_lives : (r : Result Status CommandFault) (told : CommandReply) → IfOk r (λ status. status ≡ told_status told) → IfOk r (λ status. status ≢ Failed)
told_lives (Ok status) told e = λ failed. never_failed told (sym e ∙ failed)
told_lives (Err f) told e = tt

pub for_write : (r : Result Status CommandFault) (P : CommandFault → Type 0) → IfErr r (λ f. f ≡ fault.Write) → P fault.Write → IfErr r P
for_write (Ok status) P e h = tt
for_write (Err f) P e h = subst P (sym e) h

pub fails_for : (P : CommandFault → Type 0) (a b : Option (List ℕ)) (came : Result Status CommandFault) (status : Status) → IfErr came P
    → OnOk came (P fault.Write) → IfOk came (λ s. s ≢ Failed)
    → IfErr came (λ f. AppendsFront a b (command_fault_line f)) → IfOk came (λ s. status ≢ s → AppendsFront a b (command_fault_line fault.Write))
    → FailsFor P a b status
fails_for P a b (Ok s) status cause write lives line flush = λ failed. (fault.Write, write, flush (λ same. lives (sym same ∙ failed)))
fails_for P a b (Err f) status cause write lives line flush = λ failed. (f, cause, line)

-- a connection that came back
pub if_back : {A : Type 0} (o : Option A) (P : Type 0) (Q R : A → Type 0) → MatchOption o P Q → ((a : A) → Q a → R a) → IfSome o R
if_back None P Q R h to = tt
if_back (Some a) P Q R h to = to a h

-- and that holds the history of its book, which is open
pub holds_behind : {S : Type 0} (g : Ghosts S) (back : Option (Held S)) (book behind : SiteView (RecordsView S)) → book ≡ behind → back ≡ Some book.keeper.conn
    → (book.closed ≡ false → IfSome back (λ after. HasCleanDisk (state g after) → HoldsOnly (state g after) book.book.history)) → behind.closed ≡ false
    → HasCleanDisk (state g book.keeper.conn) → HoldsOnly (state g book.keeper.conn) behind.book.history
holds_behind g back book behind is came holds unclosed clean =
    subst (λ (b : SiteView (RecordsView _)). HoldsOnly (state g book.keeper.conn) b.book.history) is
    (subst (λ o. IfSome o (λ after. HasCleanDisk (state g after) → HoldsOnly (state g after) book.book.history)) came
    (holds (ap (λ (b : SiteView (RecordsView _)). b.closed) is ∙ unclosed)) clean)
