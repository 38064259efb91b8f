-- The commands of the program with their values, and which command words give. (Our own.)
use Rattle.std.specs.Prelude.{◌≡◌, ℕ, Bool, List, [], ◌∷◌, true, false, Option, Some, None, is_some, unwrap_or, codes, if◌then◌else◌, map, length, nat_le, Result, MatchResult}
use Rattle.std.specs.Option.{option_map}
use Rattle.std.specs.Borrow.{Bor}
use Rattle.std.specs.String.{string_bytes}
use Rattle.std.specs.Str.{bytes_eq}
use Rattle.clap.specs.declared.builder.action.ArgAction.TheVariants.{Append, SetTrue}
use Rattle.clap.specs.declared.builder.arg.Arg.{Arg}
use Rattle.clap.specs.declared.builder.command.Command.{Command as ClapCommand}
use Rattle.clap.specs.declared.builder.command.Command.TheViews.{out-Command as fields_of}
use Rattle.clap.specs.Words.{App, Row, Rule, Text, all_of, app_of, first_of, new_app, new_rule, rule_of, with_rule, with_subcommand, subcommand_of, fault_of}
use Rattle.plain_words.specs.Words.{◌>>=◌}
use Rattle.plain_words.specs.Number.{number_of}
use Rattle.rights_lattice.specs.Cells.{greatest_value}
use Rattle.rights_lattice.specs.Limits.{greatest_site, most_sites}
use Rattle.book_core.specs.Limits.{greatest_limit}
use Rattle.live_office.specs.declared.sparing.Sparing.{Sparing}
use Rattle.operator_cli.specs.declared.orders.Order.{Order}
use Rattle.operator_cli.specs.declared.orders.Order.TheVariants as order
use Rattle.operator_cli.specs.declared.orders.Misfit.{Misfit}
use Rattle.operator_cli.specs.declared.orders.Misfit.TheVariants.{Command, File, Copy, Event, Me, Sites, Limit, Number, To, Files, Desks, Copies, Port, Sessions, Rounds, Reserve}
use Rattle.operator_cli.specs.declared.orders.WordsFault.{WordsFault}
use Rattle.operator_cli.specs.declared.orders.WordsFault.TheVariants.{NotUnderstood, Memory}

-- a value with this rule, of one command alone
abbrev pub IsValue : Rule → Arg → Type 0
IsValue rule arg = (rule_of arg ≡ rule) × (arg.global ≡ false)

-- a command with these values, each its own
abbrev pub IsCommand : App → ClapCommand → Type 0
IsCommand app command = (app_of command ≡ app) × ((fields_of command).has_globals ≡ false)

-- a value that has to be given, by its place
abbrev pub operand : Text → Rule
operand id = record (new_rule id) { required = true }

-- the greatest number of a port, the most connections that `serve` takes, and the most rounds in which its sites send
abbrev pub greatest_port : ℕ
greatest_port = 65535

abbrev pub most_sessions : ℕ
most_sessions = 1024

abbrev pub most_rounds : ℕ
most_rounds = 1000000

-- the most sites that one `serve` runs
abbrev pub most_desks : ℕ
most_desks = 16

-- a value that is given once or more, up to so often, by its place
abbrev pub repeated_operand : Text → ℕ → Rule
repeated_operand id most = record (operand id) { range = Some (record { start_inclusive = 1; end_inclusive = most }) }

-- a command that takes one more value
abbrev pub taking : App → Text → App
taking a id = with_rule a (operand id)

-- the option `--copy COPY`, and one that may be given more than once
abbrev pub copy_rule : Rule
copy_rule = record (new_rule (codes "COPY")) { long = Some (codes "copy") }

abbrev pub copies_rule : Rule
copies_rule = record copy_rule { action = Some Append }

-- a command over the file of a site, or over both of its copies
abbrev pub over_copies : App → App
over_copies a = with_rule a copy_rule

abbrev pub world_app : App
world_app = new_app (codes "world")

abbrev pub init_app : App
init_app = taking (taking (taking (taking (new_app (codes "init")) (codes "FILE")) (codes "ME")) (codes "SITES")) (codes "LIMIT")

abbrev pub migrate_app : App
migrate_app = taking (new_app (codes "migrate")) (codes "FILE")

abbrev pub grow_app : App
grow_app = over_copies (taking (taking (new_app (codes "grow")) (codes "FILE")) (codes "SITES"))

abbrev pub ask_app : App
ask_app = over_copies (taking (new_app (codes "ask")) (codes "FILE"))

abbrev pub find_app : App
find_app = over_copies (taking (taking (new_app (codes "find")) (codes "FILE")) (codes "NUMBER"))

abbrev pub list_app : App
list_app = over_copies (taking (taking (new_app (codes "list")) (codes "FILE")) (codes "EVENT"))

abbrev pub events_app : App
events_app = over_copies (taking (new_app (codes "events")) (codes "FILE"))

abbrev pub shares_app : App
shares_app = over_copies (taking (taking (new_app (codes "shares")) (codes "FILE")) (codes "EVENT"))

abbrev pub export_app : App
export_app = over_copies (taking (taking (new_app (codes "export")) (codes "FILE")) (codes "TO"))

abbrev pub import_app : App
import_app = over_copies (taking (new_app (codes "import")) (codes "FILE"))

abbrev pub audit_app : App
audit_app = with_rule (with_rule (new_app (codes "audit")) (repeated_operand (codes "FILE") most_sites)) copies_rule

abbrev pub serve_app : App
serve_app = with_rule (with_rule (taking (taking (taking (new_app (codes "serve")) (codes "PORT")) (codes "SESSIONS")) (codes "ROUNDS"))
    (repeated_operand (codes "FILE") most_desks)) copies_rule

-- `--low`, and `--reserve` with a value
abbrev pub low_rule : Rule
low_rule = record (new_rule (codes "low")) { long = Some (codes "low"); action = Some SetTrue }

abbrev pub reserve_rule : Rule
reserve_rule = record (new_rule (codes "R")) { long = Some (codes "reserve") }

-- an office over one file
abbrev pub office_app : App
office_app = with_rule (with_rule (taking (taking (new_app (codes "open")) (codes "PORT")) (codes "FILE")) low_rule) reserve_rule

abbrev pub open_app : App
open_app = over_copies office_app

abbrev pub close_app : App
close_app = taking (new_app (codes "close")) (codes "FILE")

abbrev pub status_app : App
status_app = over_copies (taking (new_app (codes "status")) (codes "FILE"))

abbrev pub pair_app : App
pair_app = taking (taking (new_app (codes "pair")) (codes "FILE")) (codes "COPY")

abbrev pub alone_app : App
alone_app = taking (new_app (codes "alone")) (codes "FILE")

abbrev pub backup_app : App
backup_app = taking (taking (new_app (codes "backup")) (codes "FILE")) (codes "COPY")

abbrev pub version_app : App
version_app = new_app (codes "version")

-- a command that is not used alone
abbrev pub needing : App → App
needing a = record a { top = record a.top { subcommand_required = true } }

-- a command with one more below it
abbrev pub above : App → App → App
above a b = with_subcommand a b.top

abbrev pub boxoffice : App
boxoffice =
    above (above (above (above (above (above (above (above (above (above (above (above (above (above (above (above (above (above (above (above
    (needing (new_app (codes "boxoffice"))) world_app) init_app) migrate_app) grow_app) ask_app) find_app) list_app) events_app) shares_app)
    export_app) import_app) audit_app) serve_app) open_app) close_app) status_app) pair_app) alone_app) backup_app) version_app

-- What is ordered: a command with its values, words as bytes and numbers as themselves.
pub data Said : Type 0 where
  SaysWorld : Said
  SaysInit : (file : Text) (me sites limit : ℕ) → Said
  SaysMigrate : (file : Text) → Said
  SaysGrow : (file : Text) (sites : ℕ) (copy : Option Text) → Said
  SaysAsk : (file : Text) (copy : Option Text) → Said
  SaysFind : (file : Text) (number : ℕ) (copy : Option Text) → Said
  SaysList : (file event : Text) (copy : Option Text) → Said
  SaysEvents : (file : Text) (copy : Option Text) → Said
  SaysShares : (file event : Text) (copy : Option Text) → Said
  SaysExport : (file : Text) (to : ℕ) (copy : Option Text) → Said
  SaysImport : (file : Text) (copy : Option Text) → Said
  SaysAudit : (files copies : List Text) → Said
  SaysServe : (port sessions rounds : ℕ) (files copies : List Text) → Said
  SaysOpen : (port : ℕ) (file : Text) (sparing : Sparing) (copy : Option Text) → Said
  SaysClose : (file : Text) → Said
  SaysStatus : (file : Text) (copy : Option Text) → Said
  SaysPair : (file copy : Text) → Said
  SaysAlone : (file : Text) → Said
  SaysBackup : (file copy : Text) → Said
  SaysVersion : Said

-- words as bytes
abbrev pub text_of : Option (Bor Text) → Option Text
text_of = option_map (λ word. word.now)

abbrev pub texts_of : List (Bor Text) → List Text
texts_of = map (λ word. word.now)

abbrev pub said_by : Order → Said
said_by order.World = SaysWorld
said_by (order.Init file me sites limit) = SaysInit file.now me sites limit
said_by (order.Migrate file) = SaysMigrate file.now
said_by (order.Grow file sites copy) = SaysGrow file.now sites (text_of copy)
said_by (order.Ask file copy) = SaysAsk file.now (text_of copy)
said_by (order.Find file number copy) = SaysFind file.now number (text_of copy)
said_by (order.List file event copy) = SaysList file.now event.now (text_of copy)
said_by (order.Events file copy) = SaysEvents file.now (text_of copy)
said_by (order.Shares file event copy) = SaysShares file.now event.now (text_of copy)
said_by (order.Export file to copy) = SaysExport file.now to (text_of copy)
said_by (order.Import file copy) = SaysImport file.now (text_of copy)
said_by (order.Audit files copies) = SaysAudit (texts_of files.items) (texts_of copies.items)
said_by (order.Serve port sessions rounds files copies) = SaysServe port sessions rounds (texts_of files.items) (texts_of copies.items)
said_by (order.Open port file sparing copy) = SaysOpen port file.now sparing (text_of copy)
said_by (order.Close file) = SaysClose file.now
said_by (order.Status file copy) = SaysStatus file.now (text_of copy)
said_by (order.Pair file copy) = SaysPair file.now copy.now
said_by (order.Alone file) = SaysAlone file.now
said_by (order.Backup file copy) = SaysBackup file.now copy.now
said_by order.Version = SaysVersion

-- the number from low to high that the value of this name spells
unfoldable pub number_in : Text → ℕ → ℕ → List Row → Option ℕ
number_in id low high rows = do
  word ← first_of id rows
  number_of low high word

-- the value of `--copy`
abbrev pub copy_in : List Row → Option Text
copy_in rows = first_of (codes "COPY") rows

unfoldable pub init_in : List Row → Option Said
init_in rows = do
  file ← first_of (codes "FILE") rows
  me ← number_in (codes "ME") 0 greatest_site rows
  sites ← number_in (codes "SITES") 1 most_sites rows
  limit ← number_in (codes "LIMIT") 1 greatest_limit rows
  Some (SaysInit file me sites limit)

unfoldable pub migrate_in : List Row → Option Said
migrate_in rows = do
  file ← first_of (codes "FILE") rows
  Some (SaysMigrate file)

unfoldable pub grow_in : List Row → Option Said
grow_in rows = do
  file ← first_of (codes "FILE") rows
  sites ← number_in (codes "SITES") 1 most_sites rows
  Some (SaysGrow file sites (copy_in rows))

unfoldable pub ask_in : List Row → Option Said
ask_in rows = do
  file ← first_of (codes "FILE") rows
  Some (SaysAsk file (copy_in rows))

unfoldable pub find_in : List Row → Option Said
find_in rows = do
  file ← first_of (codes "FILE") rows
  number ← number_in (codes "NUMBER") 1 greatest_value rows
  Some (SaysFind file number (copy_in rows))

unfoldable pub list_in : List Row → Option Said
list_in rows = do
  file ← first_of (codes "FILE") rows
  event ← first_of (codes "EVENT") rows
  Some (SaysList file event (copy_in rows))

unfoldable pub events_in : List Row → Option Said
events_in rows = do
  file ← first_of (codes "FILE") rows
  Some (SaysEvents file (copy_in rows))

unfoldable pub shares_in : List Row → Option Said
shares_in rows = do
  file ← first_of (codes "FILE") rows
  event ← first_of (codes "EVENT") rows
  Some (SaysShares file event (copy_in rows))

unfoldable pub export_in : List Row → Option Said
export_in rows = do
  file ← first_of (codes "FILE") rows
  to ← number_in (codes "TO") 0 greatest_site rows
  Some (SaysExport file to (copy_in rows))

unfoldable pub import_in : List Row → Option Said
import_in rows = do
  file ← first_of (codes "FILE") rows
  Some (SaysImport file (copy_in rows))

-- the words, where there are no more than so many
abbrev pub at_most : ℕ → List Text → Option (List Text)
at_most most words = if nat_le (length words) most then Some words else None

-- the files that are given, no more than so many
unfoldable pub files_in : ℕ → List Row → Option (List Text)
files_in most rows = do
  files ← all_of (codes "FILE") rows
  at_most most files

-- the values of each `--copy`, of which there are no more than files
unfoldable pub copies_in : List Row → Option (List Text)
copies_in rows = at_most most_sites (unwrap_or (all_of (codes "COPY") rows) [])

unfoldable pub audit_in : List Row → Option Said
audit_in rows = do
  files ← files_in most_sites rows
  copies ← copies_in rows
  Some (SaysAudit files copies)

unfoldable pub serve_in : List Row → Option Said
serve_in rows = do
  port ← number_in (codes "PORT") 1 greatest_port rows
  sessions ← number_in (codes "SESSIONS") 0 most_sessions rows
  rounds ← number_in (codes "ROUNDS") 0 most_rounds rows
  files ← files_in most_desks rows
  copies ← copies_in rows
  Some (SaysServe port sessions rounds files copies)

-- whether `--low` is given
abbrev pub is_true : Option Text → Bool
is_true None = false
is_true (Some word) = bytes_eq word (codes "true")

unfoldable pub low_in : List Row → Bool
low_in rows = is_true (first_of (codes "low") rows)

-- the value of `--reserve`, which is 0 if it is not given
unfoldable pub reserve_in : List Row → Option ℕ
reserve_in rows = if is_some (first_of (codes "R") rows) then number_in (codes "R") 0 greatest_limit rows else Some 0

abbrev pub sparing : Bool → ℕ → Sparing
sparing low reserve = record { tells_low = low; reserve = reserve }

unfoldable pub open_in : List Row → Option Said
open_in rows = do
  port ← number_in (codes "PORT") 1 greatest_port rows
  file ← first_of (codes "FILE") rows
  reserve ← reserve_in rows
  Some (SaysOpen port file (sparing (low_in rows) reserve) (copy_in rows))

unfoldable pub close_in : List Row → Option Said
close_in rows = do
  file ← first_of (codes "FILE") rows
  Some (SaysClose file)

unfoldable pub status_in : List Row → Option Said
status_in rows = do
  file ← first_of (codes "FILE") rows
  Some (SaysStatus file (copy_in rows))

unfoldable pub pair_in : List Row → Option Said
pair_in rows = do
  file ← first_of (codes "FILE") rows
  copy ← first_of (codes "COPY") rows
  Some (SaysPair file copy)

unfoldable pub alone_in : List Row → Option Said
alone_in rows = do
  file ← first_of (codes "FILE") rows
  Some (SaysAlone file)

unfoldable pub backup_in : List Row → Option Said
backup_in rows = do
  file ← first_of (codes "FILE") rows
  copy ← first_of (codes "COPY") rows
  Some (SaysBackup file copy)

-- the order that the command of this name gives with these values
unfoldable pub named_order : Text → List Row → Option Said
named_order name rows =
    if bytes_eq name (codes "world") then Some SaysWorld else (
    if bytes_eq name (codes "init") then init_in rows else (
    if bytes_eq name (codes "migrate") then migrate_in rows else (
    if bytes_eq name (codes "grow") then grow_in rows else (
    if bytes_eq name (codes "ask") then ask_in rows else (
    if bytes_eq name (codes "find") then find_in rows else (
    if bytes_eq name (codes "list") then list_in rows else (
    if bytes_eq name (codes "events") then events_in rows else (
    if bytes_eq name (codes "shares") then shares_in rows else (
    if bytes_eq name (codes "export") then export_in rows else (
    if bytes_eq name (codes "import") then import_in rows else (
    if bytes_eq name (codes "audit") then audit_in rows else (
    if bytes_eq name (codes "serve") then serve_in rows else (
    if bytes_eq name (codes "open") then open_in rows else (
    if bytes_eq name (codes "close") then close_in rows else (
    if bytes_eq name (codes "status") then status_in rows else (
    if bytes_eq name (codes "pair") then pair_in rows else (
    if bytes_eq name (codes "alone") then alone_in rows else (
    if bytes_eq name (codes "backup") then backup_in rows else (
    if bytes_eq name (codes "version") then Some SaysVersion else None)))))))))))))))))))

-- the order of the subcommand that was met
abbrev pub order_in : Option (Text × List Row) → Option Said
order_in None = None
order_in (Some met) = named_order met.0 met.1

-- the command line's grammar finds no fault in the words
abbrev pub AreUnderstood : List Text → Type 0
AreUnderstood words = fault_of boxoffice words ≡ []

-- the words are understood, and order this
abbrev pub Ordered : List Text → Said → Type 0
Ordered words said = AreUnderstood words × (order_in (subcommand_of boxoffice words) ≡ Some said)

-- these words behind the program's name order this
abbrev pub Give : List Text → Said → Type 0
Give words said = Ordered (codes "boxoffice" ∷ words) said

-- the values that a command takes, in order
unfoldable pub values_of : Text → List Misfit
values_of name =
    if bytes_eq name (codes "world") then [] else (
    if bytes_eq name (codes "init") then File ∷ Me ∷ Sites ∷ Limit ∷ [] else (
    if bytes_eq name (codes "migrate") then File ∷ [] else (
    if bytes_eq name (codes "grow") then File ∷ Sites ∷ [] else (
    if bytes_eq name (codes "ask") then File ∷ [] else (
    if bytes_eq name (codes "find") then File ∷ Number ∷ [] else (
    if bytes_eq name (codes "list") then File ∷ Event ∷ [] else (
    if bytes_eq name (codes "events") then File ∷ [] else (
    if bytes_eq name (codes "shares") then File ∷ Event ∷ [] else (
    if bytes_eq name (codes "export") then File ∷ To ∷ [] else (
    if bytes_eq name (codes "import") then File ∷ [] else (
    if bytes_eq name (codes "audit") then Files ∷ Copies ∷ [] else (
    if bytes_eq name (codes "serve") then Port ∷ Sessions ∷ Rounds ∷ Desks ∷ Copies ∷ [] else (
    if bytes_eq name (codes "open") then Port ∷ File ∷ Reserve ∷ [] else (
    if bytes_eq name (codes "close") then File ∷ [] else (
    if bytes_eq name (codes "status") then File ∷ [] else (
    if bytes_eq name (codes "pair") then File ∷ Copy ∷ [] else (
    if bytes_eq name (codes "alone") then File ∷ [] else (
    if bytes_eq name (codes "backup") then File ∷ Copy ∷ [] else (
    if bytes_eq name (codes "version") then [] else Command ∷ [])))))))))))))))))))

-- whether a value is given and in its range
abbrev pub fits : List Row → Misfit → Bool
fits rows Command = false
fits rows File = is_some (first_of (codes "FILE") rows)
fits rows Copy = is_some (first_of (codes "COPY") rows)
fits rows Event = is_some (first_of (codes "EVENT") rows)
fits rows Me = is_some (number_in (codes "ME") 0 greatest_site rows)
fits rows Sites = is_some (number_in (codes "SITES") 1 most_sites rows)
fits rows Limit = is_some (number_in (codes "LIMIT") 1 greatest_limit rows)
fits rows Number = is_some (number_in (codes "NUMBER") 1 greatest_value rows)
fits rows To = is_some (number_in (codes "TO") 0 greatest_site rows)
fits rows Files = is_some (files_in most_sites rows)
fits rows Desks = is_some (files_in most_desks rows)
fits rows Copies = is_some (copies_in rows)
fits rows Port = is_some (number_in (codes "PORT") 1 greatest_port rows)
fits rows Sessions = is_some (number_in (codes "SESSIONS") 0 most_sessions rows)
fits rows Rounds = is_some (number_in (codes "ROUNDS") 0 most_rounds rows)
fits rows Reserve = is_some (reserve_in rows)

-- the first of the values that does not fit
abbrev pub first_misfit : List Misfit → List Row → Option Misfit
first_misfit [] rows = None
first_misfit (value ∷ values) rows = if fits rows value then first_misfit values rows else Some value

-- the values of a command were read: they give the order, or the first of them that does not fit is named
abbrev pub IsOrderOf : (List Row → Option Said) → List Misfit → List Row → Result Order Misfit → Type 0
IsOrderOf order_of values rows result =
    MatchResult result (λ order. order_of rows ≡ Some (said_by order)) (λ misfit. (order_of rows ≡ None) × (first_misfit values rows ≡ Some misfit))

-- what is wrong with the subcommand that was met
abbrev pub misfit_in : Option (Text × List Row) → Option Misfit
misfit_in None = Some Command
misfit_in (Some met) = first_misfit (values_of met.0) met.1

-- the line that tells it
abbrev pub misfit_line : Misfit → Text
misfit_line Command = codes "error: no such command\n"
misfit_line File = codes "error: FILE is missing\n"
misfit_line Copy = codes "error: COPY is missing\n"
misfit_line Event = codes "error: EVENT is missing\n"
misfit_line Me = codes "error: ME is the number of a site, 0 to 63\n"
misfit_line Sites = codes "error: SITES is a count of sites, 1 to 64\n"
misfit_line Limit = codes "error: LIMIT is a count of entries, 1 to 1000000\n"
misfit_line Number = codes "error: NUMBER is the number of a request, 1 to 1000000000000\n"
misfit_line To = codes "error: TO is the number of a site, 0 to 63\n"
misfit_line Files = codes "error: FILE is given 1 to 64 times\n"
misfit_line Desks = codes "error: FILE is given 1 to 16 times\n"
misfit_line Copies = codes "error: --copy is given at most 64 times\n"
misfit_line Port = codes "error: PORT is the number of a port, 1 to 65535\n"
misfit_line Sessions = codes "error: SESSIONS is a count of connections, 0 to 1024\n"
misfit_line Rounds = codes "error: ROUNDS is a count of rounds, 0 to 1000000\n"
misfit_line Reserve = codes "error: R is a count of entries, 0 to 1000000\n"

-- it is told, or memory was wanted for its line
abbrev pub TellsMisfit : Misfit → WordsFault → Type 0
TellsMisfit misfit Memory = Unit {0}
TellsMisfit misfit (NotUnderstood text) = string_bytes text ≡ misfit_line misfit

-- Words that are understood are refused only where they meet no order, want of memory aside, and
-- the first value that does not fit is told.
abbrev pub IsWordsRefusal : List Text → WordsFault → Type 0
IsWordsRefusal words Memory = Unit {0}
IsWordsRefusal words (NotUnderstood text) = AreUnderstood words →
    (order_in (subcommand_of boxoffice words) ≡ None) × (option_map misfit_line (misfit_in (subcommand_of boxoffice words)) ≡ Some (string_bytes text))
