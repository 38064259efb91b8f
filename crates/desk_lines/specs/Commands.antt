-- Reading a line that begins with a command. (Our own.)
use Rattle.std.specs.Prelude.{ℕ, Bool, true, false, List, Option, Some, None, codes, if◌then◌else◌}
use Rattle.std.specs.Str.{bytes_eq}
use Rattle.plain_words.specs.Words.{first_word, ended, ◌>>=◌}
use Rattle.plain_words.specs.Number.{number_at}
use Rattle.delta_wire.specs.Fields.{site_at}
use Rattle.rights_lattice.specs.Limits.{most_sites}
use Rattle.world_steps.specs.declared.step.Input.{Input}
use Rattle.world_steps.specs.declared.step.Input.TheVariants as input
use Rattle.world_steps.specs.declared.step.Step.TheVariants as step
use Rattle.desk_lines.specs.declared.script.ScriptLine.{ScriptLine}
use Rattle.desk_lines.specs.declared.script.ScriptLine.TheVariants.{Make}
use Rattle.desk_lines.specs.declared.script_commands.Command.{Command}
use Rattle.desk_lines.specs.declared.script_commands.Command.TheVariants as command
use Rattle.desk_lines.specs.Grammar.{greatest_index}
use Rattle.desk_lines.specs.Requests.{request_from}

abbrev pub command_text : Command → List ℕ
command_text command.Send = codes "send"
command_text command.Deliver = codes "deliver"
command_text command.Restart = codes "restart"
command_text command.Grow = codes "grow"
command_text command.Stop = codes "stop"

unfoldable pub command_of : List ℕ → Option Command
command_of w =
    if bytes_eq w (codes "send") then Some command.Send else (
    if bytes_eq w (codes "deliver") then Some command.Deliver else (
    if bytes_eq w (codes "restart") then Some command.Restart else (
    if bytes_eq w (codes "grow") then Some command.Grow else (
    if bytes_eq w (codes "stop") then Some command.Stop else None))))

-- the index of a message
abbrev pub index_at : List (List ℕ) → Option (ℕ × List (List ℕ))
index_at words = number_at 0 greatest_index words

-- a count of sites
abbrev pub sites_at : List (List ℕ) → Option (ℕ × List (List ℕ))
sites_at words = number_at 1 most_sites words

-- whether what a stopped site had in hand was stored
unfoldable pub stored_of : List ℕ → Option Bool
stored_of w = if bytes_eq w (codes "kept") then Some true else (if bytes_eq w (codes "lost") then Some false else None)

unfoldable pub stored_at : List (List ℕ) → Option (Bool × List (List ℕ))
stored_at words = do
  w ← first_word words
  b ← stored_of w.0
  Some (b, w.1)

-- what a stopped site had in hand: a message, a greater count of sites, or a request
unfoldable pub take_at : List (List ℕ) → Option Input
take_at words = do
  k ← index_at words
  ended (input.Take k.0) k.1

unfoldable pub grow_input_at : List (List ℕ) → Option Input
grow_input_at words = do
  n ← sites_at words
  ended (input.Grow n.0) n.1

unfoldable pub request_input_of : List ℕ → List (List ℕ) → Option Input
request_input_of word words = do
  a ← request_from word words
  Some (input.Request a.0 a.1)

unfoldable pub input_at : List (List ℕ) → Option Input
input_at words = do
  w ← first_word words
  if bytes_eq w.0 (codes "deliver") then take_at w.1 else (if bytes_eq w.0 (codes "grow") then grow_input_at w.1 else request_input_of w.0 w.1)

unfoldable pub send_at : List (List ℕ) → Option ScriptLine
send_at words = do
  i ← site_at words
  j ← site_at i.1
  ended (Make (step.Send i.0 j.0)) j.1

unfoldable pub deliver_at : List (List ℕ) → Option ScriptLine
deliver_at words = do
  k ← index_at words
  ended (Make (step.Deliver k.0)) k.1

unfoldable pub restart_at : List (List ℕ) → Option ScriptLine
restart_at words = do
  i ← site_at words
  ended (Make (step.Restart i.0)) i.1

unfoldable pub grow_at : List (List ℕ) → Option ScriptLine
grow_at words = do
  i ← site_at words
  n ← sites_at i.1
  ended (Make (step.Grow i.0 n.0)) n.1

unfoldable pub stop_at : List (List ℕ) → Option ScriptLine
stop_at words = do
  i ← site_at words
  b ← stored_at i.1
  x ← input_at b.1
  Some (Make (step.Stop i.0 x b.0))

abbrev pub after_command : Command → List (List ℕ) → Option ScriptLine
after_command command.Send words = send_at words
after_command command.Deliver words = deliver_at words
after_command command.Restart words = restart_at words
after_command command.Grow words = grow_at words
after_command command.Stop words = stop_at words

unfoldable pub commanded : List ℕ → List (List ℕ) → Option ScriptLine
commanded word words = do
  c ← command_of word
  after_command c words
