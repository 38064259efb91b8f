use Rattle.std.proofs.Common.{◌≡◌}
use Rattle.site_desk.specs.Seats.{shares_of, parts_of}
use Rattle.site_desk.proofs.finish.gather.Given as goal

abbrev pub invariant-loop-seat : goal.invariant-loop-seat
invariant-loop-seat g l = record {
  total : l.tally.total ≡ l.initial.tally.total;
  parts : l.all.parts ≡ parts_of l.yielded;
  amount : l.all.amount ≡ l.sum;
  sum : l.sum ≡ shares_of l.yielded;
}
