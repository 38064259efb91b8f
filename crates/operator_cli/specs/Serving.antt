-- How sites that ran at once come to an end, and what is told of it. (Our own.)
use Rattle.std.specs.Prelude.{◌≡◌, ℕ, List, [], ◌∷◌, Option, None, Some, Result, Ok, Err, MatchResult, if◌then◌else◌}
use Rattle.std.specs.Io.KnownBytes.{Keeps}
use Rattle.plain_words.specs.Writing.{AppendsFront}
use Rattle.book_core.specs.BookView.{BookView}
use Rattle.site_desk.specs.SiteView.{SiteView}
use Rattle.site_desk.specs.declared.finish.FinishFault.{FinishFault}
use Rattle.site_desk.specs.declared.finish.FinishFault.TheVariants as finish
use Rattle.session_server.specs.declared.exchange.ExchangeFault.{ExchangeFault}
use Rattle.session_server.specs.declared.exchange.ExchangeFault.TheVariants as exchange
use Rattle.session_server.specs.declared.sockets.ListenFault.{ListenFault}
use Rattle.session_server.specs.declared.sockets.ListenFault.TheVariants as listen
use Rattle.operator_cli.specs.declared.command_fault.CommandFault.{CommandFault}
use Rattle.operator_cli.specs.declared.command_fault.CommandFault.TheVariants as fault
use Rattle.operator_cli.specs.declared.status.Status.{Status}
use Rattle.operator_cli.specs.declared.status.Status.TheVariants.{Failed}
use Rattle.operator_cli.specs.Audited.{EndsAudited, IsAuditText}
use Rattle.operator_cli.specs.Printed.{Printed, Unprinted}
use Rattle.operator_cli.specs.CommandReply.{command_fault_line}

abbrev pub of_listen_fault : ListenFault → CommandFault
of_listen_fault listen.Bind = fault.Bind
of_listen_fault listen.Accept = fault.Accept
of_listen_fault listen.Memory = fault.Memory

abbrev pub of_exchange_fault : ExchangeFault → CommandFault
of_exchange_fault exchange.Memory = fault.Memory
of_exchange_fault exchange.NotStarted = fault.NotStarted

abbrev pub of_finish_fault : FinishFault → CommandFault
of_finish_fault finish.SeatsOut = fault.SeatsOut
of_finish_fault (finish.Stranger at) = fault.Stranger at
of_finish_fault (finish.StrangerSeen at) = fault.StrangerSeen at

-- what a site's end tells: what was found of its book, or else that it is closed
abbrev pub end_fault : {K : Type 0} → Result (Unit {0}) FinishFault → SiteView K → Option CommandFault
end_fault (Err found) site = Some (of_finish_fault found)
end_fault (Ok _) site = if site.closed then Some (fault.Closed site.book.office.me) else None

-- the first that is there
abbrev pub first_of_all : {X : Type 0} → List (Option X) → Option X
first_of_all [] = None
first_of_all (None ∷ xs) = first_of_all xs
first_of_all (Some x ∷ xs) = Some x

-- What an end tells is told, and nothing is printed; else the books are audited.
abbrev pub EndsServed : List BookView → Option CommandFault → Option (List ℕ) → Option (List ℕ) → Option (List ℕ) → Option (List ℕ) → Status → Type 0
EndsServed books (Some told) old_out new_out old_err new_err status = Keeps old_out new_out × AppendsFront old_err new_err (command_fault_line told)
    × (status ≡ Failed)
EndsServed books None old_out new_out old_err new_err status = EndsAudited books old_out new_out old_err new_err status

-- what that comes to before its end: what an end told, or the audit
abbrev pub ComesTo : List BookView → Option CommandFault → Option (List ℕ) → Option (List ℕ) → Result Status CommandFault → Type 0
ComesTo books (Some told) old new came = Keeps old new × (came ≡ Err told)
ComesTo books None old new came = MatchResult came (Printed (IsAuditText books) old new) (Unprinted (IsAuditText books) old new)
