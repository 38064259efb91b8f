use Rattle.std.proofs.Common.{arith}
use Rattle.local_rights.proofs.KeptLaws.{kept_new}
use Rattle.local_rights.proofs.counted.Counted.new.Goals as goal

pub invariant_of-result : goal.invariant_of-result
invariant_of-result c = (
  kept_new c.new-2.result.entries c.args.sites c.new.result.sites c.args.me c.new.result.cells c.new-2.ensures.empty
      c.new.ensures.sites c.new.ensures.cells c.requires (omega arith),
  omega arith,
  omega arith,
)
