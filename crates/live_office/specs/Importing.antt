-- What an office does with the text of a message. (Our own.)
use Rattle.std.specs.Prelude.{◌≡◌, ℕ, List, Result, Ok, Err}
use Rattle.site_exchange.specs.declared.message.Message.{Message}
use Rattle.delta_wire.specs.Wire.{Gives, message_of}
use Rattle.site_desk.specs.declared.answer.Taken.{Taken}
use Rattle.site_desk.specs.Moments.{HoldsDelta, Takes}
use Rattle.live_office.specs.declared.importing.ImportFault.{ImportFault}
use Rattle.live_office.specs.declared.importing.ImportFault.TheVariants.{Unread, Refused}
use Rattle.live_office.specs.Admissible.{Admissible, SomeAdmissible}

-- The message that the bytes spell is taken as some admissible book takes it, and one holds it then; or one refuses it; or the bytes
-- spell none.
abbrev pub IsImported : {K : Type 0} → Admissible K → List ℕ → Result Taken ImportFault → Type 0
IsImported d bytes (Ok taken) =
    (message : Message) × (message_of bytes ≡ Ok message) × SomeAdmissible d (Takes d.failed message (Ok taken)) × SomeAdmissible d (HoldsDelta message)
IsImported d bytes (Err (Refused fault)) = (message : Message) × (message_of bytes ≡ Ok message) × SomeAdmissible d (Takes d.failed message (Err fault))
IsImported d bytes (Err (Unread fault)) = Gives (Err fault) (message_of bytes)
