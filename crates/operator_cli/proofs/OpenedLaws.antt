-- What a command over records says of the connection that comes back.
use Rattle.std.proofs.Common.{◌≡◌, ◌≢◌, ◌⊎◌, ℕ, List, Option, None, subst, ◌∙◌}
use Rattle.std.specs.Prelude.{IfSome, MatchOption}
use Rattle.std.specs.Io.KnownBytes.{Keeps}
use Rattle.sqlite.specs.Store.{Ghosts}
use Rattle.sqlite.specs.State.{HasCleanDisk}
use Rattle.sqlite.specs.Held.{Held, state}
use Rattle.plain_words.specs.Writing.{AppendsFront}
use Rattle.sql_records.specs.Held.{RecordsView, IsTrusted}
use Rattle.site_desk.specs.SiteView.{SiteView}
use Rattle.operator_cli.specs.declared.status.Status.{Status}
use Rattle.operator_cli.specs.declared.status.Status.TheVariants.{Failed}
use Rattle.operator_cli.specs.declared.command_fault.CommandFault.{CommandFault}
use Rattle.operator_cli.specs.Opened.{IsBookOf}
use Rattle.operator_cli.specs.CommandReply.{command_fault_line}
use Rattle.operator_cli.specs.Opened.{FailsIfIllegal, IsIllegal, IsLost, IsRefused, ShowedRecords}
use Rattle.operator_cli.proofs.EndLaws.{if_back}
use Rattle.operator_cli.proofs.PrintLaws.{refused_if_none}

-- ---- the records were refused, or their history is not legal

module _ {S : Type 0} (g : Ghosts S) (conn : Held S) (cause : CommandFault) (back : Option (Held S))
    (found : MatchOption back (IsRefused g conn cause) (λ after. IsIllegal g conn after cause)) where
  pub refused_ours : IfSome back (ShowedRecords g conn)
  refused_ours = if_back back _ _ _ found (λ after is. is.ours)

  module _ (old_out new_out old_err new_err : Option (List ℕ)) (status : Status) (silent : Keeps old_out new_out)
      (told : AppendsFront old_err new_err (command_fault_line cause)) (failed : status ≡ Failed) where
    pub refused_illegal : IfSome back (λ after. FailsIfIllegal g conn after old_out new_out old_err new_err status)
    refused_illegal = if_back back _ _ _ found (λ after is clean meta has illegal. (cause, is, silent, told, failed))

    pub refused_lost : back ≡ None → IsLost g conn old_out new_out old_err new_err status
    refused_lost none = record { fault = cause; refused = refused_if_none back _ _ found none; silent = silent; told = told; failed = failed }

-- ---- the records were opened

-- the book that was opened, from the connection that came back
pub book_back : {S : Type 0} (g : Ghosts S) (conn last : Held S) (book : SiteView (RecordsView S)) (first left : RecordsView S) → first ≡ book.keeper
    → (IsTrusted g left → IsTrusted g first) → last ≡ left.conn
    → (IsTrusted g book.keeper → IsBookOf (state g conn).now.trees book) → HasCleanDisk (state g last) → IsBookOf (state g conn).now.trees book
book_back g conn last book first left is trusted closed of clean = of (subst (IsTrusted g) is (trusted (subst (λ h. HasCleanDisk (state g h)) closed clean)))

module _ {S K : Type 0} (g : Ghosts S) (conn last : Held S) (book : SiteView K) (of : HasCleanDisk (state g last) → IsBookOf (state g conn).now.trees book)
  where
    pub opened_ours : ShowedRecords g conn last
    opened_ours clean = (of clean).ours

    pub opened_illegal : (old_out new_out old_err new_err : Option (List ℕ)) (status : Status) → FailsIfIllegal g conn last old_out new_out old_err new_err status
    opened_illegal old_out new_out old_err new_err status clean meta has illegal = absurd (illegal ((of clean).legal meta has))
