use Rattle.std.proofs.Common.{◌≡◌, ◌≤◌, map, take, vec_len, vec_capacity}
use Rattle.std.specs.List.{AllZip}
use Rattle.site_desk.specs.Batch.{fresh_in}
use Rattle.site_desk.specs.Calls.{answer_in}
use Rattle.site_desk.specs.Finish.{HasItsReceipt}
use Rattle.site_desk.proofs.given.give_all.Given as goal

-- those before are given
abbrev pub invariant-loop-asked : goal.invariant-loop-asked
invariant-loop-asked l = record {
  count : vec_len l.given ≡ l.asked-index;
  room : vec_capacity l.given ≡ vec_capacity l.initial.given;
  answers : map answer_in l.given.items ≡ take l.asked-index l.answers;
  receipts : AllZip HasItsReceipt (take l.asked-index l.requests) l.given.items;
  fresh : l.fresh ≡ fresh_in (take l.asked-index l.answers);
  few : l.fresh ≤ l.asked-index;
}
