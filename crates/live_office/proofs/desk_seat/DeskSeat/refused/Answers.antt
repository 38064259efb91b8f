use Rattle.std.proofs.Common.{inl}
use Rattle.live_office.proofs.desk_seat.DeskSeat.refused.Goals as goal

pub failed-requires : goal.failed-requires
failed-requires g c = c.requires (inl c.in-Store.is)
