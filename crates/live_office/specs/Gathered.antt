-- What a seat has of a message, as contracts see it. (Our own.)
use Rattle.live_office.specs.declared.office_handler.Gathered.{Gathered}
use Rattle.live_office.specs.declared.office_handler.Gathered.TheVariants as gathered
use Rattle.live_office.specs.Handling.{Gathering, Nothing, Text, Lost}

-- the same without where it lies in memory
abbrev pub gathering : Gathered → Gathering
gathering gathered.Nothing = Nothing
gathering (gathered.Text bytes) = Text bytes.items
gathering gathered.Lost = Lost
