-- What the commands over records print on standard output, status by status. (Our own.)
use Rattle.std.specs.Prelude.{◌≡◌, ℕ, ⊤, List, length, Option}
use Rattle.std.specs.Io.KnownBytes.{Appends, Keeps}
use Rattle.plain_words.specs.Writing.{AppendsFront}
use Rattle.book_core.specs.declared.entry.Entry.{Entry}
use Rattle.operator_cli.specs.declared.told.CommandReply.{CommandReply}
use Rattle.operator_cli.specs.declared.told.CommandReply.TheVariants.{NotFound}
use Rattle.operator_cli.specs.declared.status.Status.{Status}
use Rattle.operator_cli.specs.declared.status.Status.TheVariants.{Done, Refused, NotUnderstood, Failed}
use Rattle.operator_cli.specs.declared.command_fault.CommandFault.{CommandFault}
use Rattle.operator_cli.specs.declared.command_fault.CommandFault.TheVariants as fault
use Rattle.book_core.specs.Decision.{SiteConfig, sites_of}
use Rattle.site_desk.specs.declared.answer.SiteStatus.{SiteStatus}
use Rattle.operator_cli.specs.CommandReply.{told_line, told_status}

-- what went out is a text that goes with the status; of status 3 nothing is said
abbrev pub Printed : (Status → List ℕ → Type 0) → Option (List ℕ) → Option (List ℕ) → Status → Type 0
Printed P old new Failed = ⊤
Printed P old new Done = (text : List ℕ) × P Done text × Appends old new text
Printed P old new Refused = (text : List ℕ) × P Refused text × Appends old new text
Printed P old new NotUnderstood = (text : List ℕ) × P NotUnderstood text × Appends old new text

-- what went out where the command failed: nothing where memory was wanted, and a front of such a text where it is not written
abbrev pub Unprinted : (Status → List ℕ → Type 0) → Option (List ℕ) → Option (List ℕ) → CommandFault → Type 0
Unprinted P old new fault.Memory = Keeps old new
Unprinted P old new fault.Write = (status : Status) × (text : List ℕ) × P status text × AppendsFront old new text
Unprinted P old new _ = ⊥

-- the line of something told, with its status
abbrev pub IsTellingOf : (CommandReply → Type 0) → Status → List ℕ → Type 0
IsTellingOf Q status text = (told : CommandReply) × Q told × (told_status told ≡ status) × (text ≡ told_line told)

-- what looking up may tell
abbrev pub IsOfLooking : CommandReply → Type 0
IsOfLooking NotFound = ⊤
IsOfLooking _ = ⊥

-- how long the history of a site is
abbrev pub site_status_in : SiteConfig → List Entry → SiteStatus
site_status_in office h = record { me = office.me; sites = sites_of office h; entries = length h; limit = office.limit }
