-- What an office that stays open comes to. (Our own.)
use Rattle.std.specs.Prelude.{◌≡◌, ℕ, List, ◌++◌, codes}
use Rattle.std.specs.Fmt.{decimal}
use Rattle.sqlite.specs.Store.{Ghosts}
use Rattle.sqlite.specs.Held.{Held, state}
use Rattle.sqlite.specs.State.{HasCleanDisk}
use Rattle.book_core.specs.declared.entry.Entry.{Entry}
use Rattle.book_core.specs.BookView.{BookView}
use Rattle.book_core.specs.Decision.{SiteConfig}
use Rattle.site_desk.specs.Moments.{IsLater}
use Rattle.live_office.specs.declared.office.OfficeFault.{OfficeFault}
use Rattle.live_office.specs.declared.office.OfficeFault.TheVariants as office
use Rattle.live_office.specs.declared.socket_file.SocketFault.{SocketFault}
use Rattle.live_office.specs.declared.socket_file.SocketFault.TheVariants as socket
use Rattle.operator_cli.specs.declared.command_fault.CommandFault.{CommandFault}
use Rattle.operator_cli.specs.declared.command_fault.CommandFault.TheVariants as fault
use Rattle.operator_cli.specs.declared.office.CloseFault.{CloseFault}
use Rattle.operator_cli.specs.declared.office.CloseFault.TheVariants as closing
use Rattle.operator_cli.specs.declared.status.Status.{Status}
use Rattle.operator_cli.specs.declared.status.Status.TheVariants.{Done}
use Rattle.operator_cli.specs.Opened.{HoldsOnly}

abbrev pub of_socket_fault : SocketFault → CommandFault
of_socket_fault socket.Path = fault.LongPath
of_socket_fault socket.NotASocket = fault.NoSocket
of_socket_fault socket.Bind = fault.Bind

abbrev pub of_office_fault : OfficeFault → CommandFault
of_office_fault office.Memory = fault.Memory
of_office_fault office.NotStarted = fault.NotStarted

abbrev pub of_close_fault : CloseFault → CommandFault
of_close_fault closing.NotOpen = fault.NotOpen
of_close_fault closing.StillOpen = fault.StillOpen
of_close_fault closing.LostFile = fault.LostFile

-- what is printed once callers can come: the port, and the file as it was given
abbrev pub open_line : ℕ → List ℕ → List ℕ
open_line port file = (codes "open " ++ decimal port ++ codes " ") ++ (file ++ codes "\n")

-- Some book goes on from this history. Where all is done, it is that of the end: the connection holds its history, and a crash leaves that.
-- Of a fault this says nothing about the records.
abbrev pub WasOpen : {S : Type 0} → Ghosts S → SiteConfig → List Entry → Held S → Status → Type 0
WasOpen g office began after status =
    (book : BookView) × IsLater office began book × (status ≡ Done → HasCleanDisk (state g after) → HoldsOnly (state g after) book.history)
