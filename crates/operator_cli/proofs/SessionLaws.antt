-- What a session over records comes to.
use Rattle.std.proofs.Common.{◌≡◌, ◌≢◌, ◌⊎◌, inl, inr, ℕ, List, Option, Result, Ok, Err, false, refl, sym, subst, ◌∙◌}
use Rattle.std.specs.Prelude.{IfOk, IfErr, MatchResult}
use Rattle.std.specs.Io.KnownBytes.{Keeps}
use Rattle.std.proofs.KnownBytes.{Appends-kept}
use Rattle.sqlite.specs.Store.{Ghosts}
use Rattle.sqlite.specs.State.{HasCleanDisk}
use Rattle.sqlite.specs.Held.{Held, state}
use Rattle.plain_words.specs.Writing.{AppendsFront}
use Rattle.history_keeper.specs.declared.meta.Meta.{Meta}
use Rattle.sql_records.specs.Held.{RecordsView, IsOf, IsTrusted, LeavesSite, MayLeaveIn}
use Rattle.sql_records.specs.Layout.{HasMeta}
use Rattle.history_keeper.specs.Keeping.{LeavesEither}
use Rattle.site_desk.specs.SiteView.{SiteView, entry_in}
use Rattle.desk_lines.specs.declared.answered.Answered.{Answered}
use Rattle.session_server.specs.BookStep.{BookStep}
use Rattle.session_server.specs.Session.{Talked, Wrote}
use Rattle.session_server.specs.declared.fault.Ended.{Ended}
use Rattle.session_server.specs.declared.fault.TalkFault.{TalkFault}
use Rattle.session_server.specs.declared.fault.TalkFault.TheVariants as talk
use Rattle.session_server.proofs.Books.{talked_shut, talked_site, talked_trusted}
use Rattle.operator_cli.specs.declared.status.Status.{Status}
use Rattle.operator_cli.specs.declared.status.Status.TheVariants.{Done, Failed}
use Rattle.operator_cli.specs.declared.command_fault.CommandFault.{CommandFault}
use Rattle.operator_cli.specs.declared.command_fault.CommandFault.TheVariants as fault
use Rattle.operator_cli.specs.Opened.{HoldsOnly, IsBookOf}
use Rattle.site_desk.specs.Calls.{Keeping}
use Rattle.operator_cli.specs.Session.{BookRan, IsStatusTold, KeepsHistory, SessionRan, records, status_of}
use Rattle.operator_cli.specs.CommandReply.{FaultTold, command_fault_line}

-- a stop leaves records of the site of the book that was opened
pub site_at_first : {S : Type 0} (g : Ghosts S) (conn : Held S) (first book : SiteView (RecordsView S)) → first ≡ book
    → (IsTrusted g book.keeper → (meta : Meta) → HasMeta meta (state g conn).now.trees → IsOf g book.keeper meta) → (meta : Meta)
    → HasMeta meta (state g conn).now.trees → IsTrusted g first.keeper → IsOf g first.keeper meta
site_at_first g conn first book is site meta has = subst (λ b. IsTrusted g b.keeper → IsOf g b.keeper meta) (sym is) (λ clean. site clean meta has)

told_as : (came : Result Status CommandFault) (a b : Option (List ℕ)) (status : Status) → IfOk came (λ s. s ≡ Done) → FaultTold a b status
    → IfErr came (λ f. AppendsFront a b (command_fault_line f))
    → IfOk came (λ s. status ≢ s → AppendsFront a b (command_fault_line fault.Write))
    → MatchResult came (λ s. (status ≡ s) ⊎ (status ≡ Failed)) (λ f. status ≡ Failed) → IsStatusTold came a b status
told_as (Ok s) a b status done told line flush (inl is) = inl (is, subst (FaultTold a b) (is ∙ done) told)
told_as (Ok s) a b status done told line flush (inr failed) = inr (failed, flush (λ is. let bad : Failed ≡ Done = sym failed ∙ is ∙ done in cc))
told_as (Err f) a b status done told line flush failed = (failed, line)

ends_well : (came : Result Ended TalkFault) → IfOk (status_of came) (λ s. s ≡ Done)
ends_well (Ok e) = refl
ends_well (Err f) = tt

-- a flush behind it changes no byte
wrote_kept : (r : Result Ended TalkFault) (a b c : Option (List ℕ)) (answers : List Answered) → Wrote r a b answers → Keeps b c → Wrote r a c answers
wrote_kept (Ok e) a b c answers w k = Appends-kept a b c _ w k
wrote_kept (Err talk.Read) a b c answers w k = Appends-kept a b c _ w k
wrote_kept (Err talk.Write) a b c answers w k = (w.0, w.1, w.2, w.3, w.4, w.5, Appends-kept a b c _ w.6 k)
wrote_kept (Err talk.TooLong) a b c answers w k = Appends-kept a b c _ w k
wrote_kept (Err talk.LineTooLong) a b c answers w k = Appends-kept a b c _ w k
wrote_kept (Err talk.Memory) a b c answers w k = Appends-kept a b c _ w k
wrote_kept (Err talk.NotStarted) a b c answers w k = absurd w

pub session_ran : {S : Type 0} (g : Ghosts S) (conn last : Held S) (book behind : SiteView (RecordsView S))
    (input old mid new old_err new_err : Option (List ℕ)) (came : Result Ended TalkFault) (told : Result Status CommandFault) (status : Status)
    → IsBookOf (state g conn).now.trees book → Talked (BookStep (records g)) input old mid book behind came → told ≡ status_of came → Keeps mid new
    → FaultTold old_err new_err status
    → IfErr told (λ f. AppendsFront old_err new_err (command_fault_line f))
    → IfOk told (λ s. status ≢ s → AppendsFront old_err new_err (command_fault_line fault.Write))
    → MatchResult told (λ s. (status ≡ s) ⊎ (status ≡ Failed)) (λ f. status ≡ Failed)
    → (behind.closed ≡ false → HoldsOnly (state g last) behind.book.history)
    → ((meta : Meta) → HasMeta meta (state g conn).now.trees → IsTrusted g book.keeper → IsOf g book.keeper meta)
    → last ≡ behind.keeper.conn → HasCleanDisk (state g last) → SessionRan g conn input old new old_err new_err last status
session_ran g conn last book behind input old mid new old_err new_err came told status opened talked is kept told_fault line flush ended holds site last_is
    clean = let trusted = subst (λ h. HasCleanDisk (state g h)) last_is clean in record {
      book = book;
      behind = behind;
      opened = opened;
      came = came;
      talked = record {
        lines = talked.lines;
        answers = talked.answers;
        read = talked.read;
        unasked = talked.unasked;
        chain = talked.chain;
        written = wrote_kept came old mid new talked.answers talked.written kept;
      };
      told = subst (λ r. IsStatusTold r old_err new_err status) is
          (told_as told old_err new_err status (subst (λ r. IfOk r (λ s. s ≡ Done)) (sym is) (ends_well came)) told_fault line flush ended);
      back = sym last_is;
      holds = holds;
      stopped = λ closed.
          let found = talked_shut (records g) input old mid book behind came talked opened.unclosed closed in (
            found.0,
            found.1,
            found.2,
            subst (λ h. LeavesEither behind.book.history (entry_in behind.book found.0 found.1) (MayLeaveIn (state g h)))
                (sym last_is) (found.3 trusted),
          );
      site = λ meta has. subst (λ h. LeavesSite (state g h) meta) (sym last_is)
          (talked_site (records g) input old mid book behind came talked meta (site meta has) trusted);
    }

-- so is one over any store
pub book_ran : {K : Type 0} (k : Keeping K) (book behind : SiteView K) (input old mid new old_err new_err : Option (List ℕ))
    (came : Result Ended TalkFault) (told : Result Status CommandFault) (status : Status)
    → Talked (BookStep k) input old mid book behind came → told ≡ status_of came → Keeps mid new → FaultTold old_err new_err status
    → IfErr told (λ f. AppendsFront old_err new_err (command_fault_line f))
    → IfOk told (λ s. status ≢ s → AppendsFront old_err new_err (command_fault_line fault.Write))
    → MatchResult told (λ s. (status ≡ s) ⊎ (status ≡ Failed)) (λ f. status ≡ Failed)
    → (behind.closed ≡ false → KeepsHistory k behind) → BookRan k book behind input old new old_err new_err status
book_ran k book behind input old mid new old_err new_err came told status talked is kept told_fault line flush ended holds = record {
  came = came;
  talked = record {
    lines = talked.lines;
    answers = talked.answers;
    read = talked.read;
    unasked = talked.unasked;
    chain = talked.chain;
    written = wrote_kept came old mid new talked.answers talked.written kept;
  };
  told = subst (λ r. IsStatusTold r old_err new_err status) is
      (told_as told old_err new_err status (subst (λ r. IfOk r (λ s. s ≡ Done)) (sym is) (ends_well came)) told_fault line flush ended);
  holds = holds;
  stopped = λ unclosed closed. talked_shut k input old mid book behind came talked unclosed closed;
  site = λ trust meta of. talked_site k input old mid book behind came talked meta (λ _. of) trust;
  trusted = talked_trusted k input old mid book behind came talked;
}

-- a session ends with one of two statuses
pub ends_so : (came : Result Ended TalkFault) (told : Result Status CommandFault) (status : Status) → told ≡ status_of came
    → MatchResult told (λ s. (status ≡ s) ⊎ (status ≡ Failed)) (λ f. status ≡ Failed) → (status ≡ Done) ⊎ (status ≡ Failed)
ends_so (Ok e) told status is h = subst (λ r. MatchResult r (λ s. (status ≡ s) ⊎ (status ≡ Failed)) (λ f. status ≡ Failed)) is h
ends_so (Err f) told status is h = inr (subst (λ r. MatchResult r (λ s. (status ≡ s) ⊎ (status ≡ Failed)) (λ f. status ≡ Failed)) is h)
