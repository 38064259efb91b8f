use Rattle.std.proofs.Common.{Err, ap}
use Rattle.live_office.proofs.together.Together.ask_batch.Goals as goal

pub tell_failed-requires : goal.tell_failed-requires
tell_failed-requires g c = c.in-Err-Store.ensures.shut (ap Err c.in-Err-Store.field-0-is)
