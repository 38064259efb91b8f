-- What commands tell: an answer or a refusal, or the fault that ended them. (Our own.)
use Rattle.std.specs.Prelude.{ℕ, List, [], ◌∷◌, ◌++◌, Option, Result, Ok, Err, codes}
use Rattle.std.specs.Io.KnownBytes.{Keeps}
use Rattle.std.specs.Fmt.{decimal, signed_decimal}
use Rattle.plain_words.specs.Writing.{AppendsFront}
use Rattle.request_ledger.specs.declared.reply.Reply.TheVariants as reply
use Rattle.delta_wire.specs.declared.fault.WireFault.{WireFault}
use Rattle.delta_wire.specs.declared.fault.WireFault.TheVariants as wire
use Rattle.world_steps.specs.declared.auditing.AuditFault.{AuditFault}
use Rattle.world_steps.specs.declared.auditing.AuditFault.TheVariants as audit
use Rattle.book_core.specs.declared.plan.ReplayFault.{ReplayFault}
use Rattle.book_core.specs.declared.plan.ReplayFault.TheVariants as replay
use Rattle.sql_records.specs.declared.fault.OpenFault.{OpenFault}
use Rattle.sql_records.specs.declared.fault.OpenFault.TheVariants as opening
use Rattle.sql_records.specs.declared.lookup.FindFault.{FindFault}
use Rattle.sql_records.specs.declared.lookup.FindFault.TheVariants as find
use Rattle.operator_cli.specs.declared.command_fault.CommandFault.{CommandFault}
use Rattle.operator_cli.specs.declared.command_fault.CommandFault.TheVariants as fault
use Rattle.operator_cli.specs.declared.told.CommandReply.{CommandReply}
use Rattle.operator_cli.specs.declared.told.CommandReply.TheVariants.{Made, Migrated, Joined, NothingNew, Acked, AlreadyThere, NoSite, Nothing, NotFound, Unknown, TooLong, Unread, NotTaken, NotWhole, Ahead, Grown, NotGrown, Paired, Alone, NotPaired, OtherSite, Differs, SameFile}
use Rattle.operator_cli.specs.declared.status.Status.{Status}
use Rattle.operator_cli.specs.declared.status.Status.TheVariants.{Done, Refused, NotUnderstood, Failed}
use Rattle.desk_lines.specs.Replies.{reply_text, take_fault_text, grow_fault_text, wire_fault_text}

-- the cause of status 3, one line on standard error
abbrev pub command_fault_text : CommandFault → List ℕ
command_fault_text fault.NotOurs = codes "not-ours"
command_fault_text (fault.OtherSchema version) = codes "other-schema " ++ signed_decimal version
command_fault_text (fault.Damaged place) = codes "damaged " ++ decimal place
command_fault_text fault.Disk = codes "disk"
command_fault_text fault.Memory = codes "memory"
command_fault_text fault.Store = codes "store"
command_fault_text fault.Read = codes "read"
command_fault_text fault.Write = codes "write"
command_fault_text fault.LineTooLong = codes "line-too-long"
command_fault_text fault.TooManyLines = codes "too-many-lines"
command_fault_text fault.Bind = codes "bind"
command_fault_text fault.Accept = codes "accept"
command_fault_text fault.NotStarted = codes "not-started"
command_fault_text fault.SeatsOut = codes "seats-out"
command_fault_text (fault.Stranger at) = codes "stranger " ++ decimal at
command_fault_text (fault.StrangerSeen at) = codes "stranger-seen " ++ decimal at
command_fault_text (fault.Closed site) = codes "closed " ++ decimal site
command_fault_text fault.LongPath = codes "long-path"
command_fault_text fault.NoSocket = codes "no-socket"
command_fault_text fault.NotOpen = codes "not-open"
command_fault_text fault.StillOpen = codes "still-open"
command_fault_text fault.AlreadyOpen = codes "already-open"
command_fault_text fault.Full = codes "full"
command_fault_text fault.LostFile = codes "lost-file"
command_fault_text fault.OneOfTwo = codes "one-of-two"

abbrev pub command_fault_line : CommandFault → List ℕ
command_fault_line f = command_fault_text f ++ 10 ∷ []

abbrev pub told_text : CommandReply → List ℕ
told_text Made = reply_text reply.Done
told_text Migrated = codes "migrated"
told_text Joined = codes "joined"
told_text NothingNew = codes "nothing-new"
told_text Acked = codes "acked"
told_text AlreadyThere = codes "already-there"
told_text NoSite = reply_text reply.NoSite
told_text Nothing = codes "nothing"
told_text NotFound = codes "none"
told_text Unknown = codes "unknown"
told_text TooLong = codes "too-long"
told_text (Unread f) = wire_fault_text f
told_text (NotTaken f) = take_fault_text f
told_text NotWhole = codes "not-whole"
told_text Grown = codes "grown"
told_text (NotGrown f) = grow_fault_text f
told_text Paired = codes "paired"
told_text Alone = codes "alone"
told_text NotPaired = codes "not-paired"
told_text OtherSite = codes "other-site"
told_text (Differs place) = codes "differs " ++ decimal place
told_text SameFile = codes "same-file"
told_text (Ahead viewer owner) = codes "ahead " ++ decimal viewer ++ codes " " ++ decimal owner

abbrev pub told_line : CommandReply → List ℕ
told_line told = told_text told ++ 10 ∷ []

abbrev pub told_status : CommandReply → Status
told_status Made = Done
told_status Migrated = Done
told_status Joined = Done
told_status NothingNew = Done
told_status Acked = Done
told_status AlreadyThere = Refused
told_status NoSite = Refused
told_status Nothing = Refused
told_status NotFound = Refused
told_status Unknown = Refused
told_status TooLong = Refused
told_status (Unread f) = Refused
told_status (NotTaken f) = Refused
told_status NotWhole = Refused
told_status Grown = Done
told_status (NotGrown f) = Refused
told_status Paired = Done
told_status Alone = Done
told_status NotPaired = Refused
told_status OtherSite = Refused
told_status (Differs place) = Refused
told_status SameFile = Refused
told_status (Ahead viewer owner) = Refused

-- a fault of reading is told, but want of memory ends the command
abbrev pub ended_by_wire : WireFault → Result CommandReply CommandFault
ended_by_wire wire.Truncated = Ok (Unread wire.Truncated)
ended_by_wire (wire.BadLine line) = Ok (Unread (wire.BadLine line))
ended_by_wire (wire.OutOfOrder line) = Ok (Unread (wire.OutOfOrder line))
ended_by_wire wire.Trailing = Ok (Unread wire.Trailing)
ended_by_wire wire.Memory = Err fault.Memory

-- what stands in the way of the sums is told, but want of memory ends the command
abbrev pub ended_by_audit : AuditFault → Result CommandReply CommandFault
ended_by_audit audit.NotWhole = Ok NotWhole
ended_by_audit (audit.Ahead viewer owner) = Ok (Ahead viewer owner)
ended_by_audit audit.Memory = Err fault.Memory

-- At status 3 the line of a fault went to the second writer, or a front of it; else nothing went there.
abbrev pub FaultTold : Option (List ℕ) → Option (List ℕ) → Status → Type 0
FaultTold old new Failed = (f : CommandFault) × AppendsFront old new (command_fault_line f)
FaultTold old new Done = Keeps old new
FaultTold old new Refused = Keeps old new
FaultTold old new NotUnderstood = Keeps old new

abbrev pub of_open_fault : OpenFault → CommandFault
of_open_fault opening.NotOurs = fault.NotOurs
of_open_fault (opening.OtherSchema version) = fault.OtherSchema version
of_open_fault (opening.Damaged place) = fault.Damaged place
of_open_fault opening.Memory = fault.Memory
of_open_fault opening.Disk = fault.Disk

-- a list that is not legal is told like one that cannot be read
abbrev pub of_replay_fault : ReplayFault → CommandFault
of_replay_fault (replay.IllegalAt place) = fault.Damaged place
of_replay_fault replay.Memory = fault.Memory

abbrev pub of_find_fault : FindFault → CommandFault
of_find_fault find.Shut = fault.Store
of_find_fault (find.Damaged place) = fault.Damaged place
of_find_fault find.Memory = fault.Memory
of_find_fault find.Disk = fault.Disk
