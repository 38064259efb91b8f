use Rattle.std.proofs.Common.{arith}
use Rattle.delta_wire.proofs.Pieces.{few_pieces}
use Rattle.delta_wire.proofs.lines.Lines.new.Goals as goal

pub returns-clause-few : goal.returns-clause-few
returns-clause-few c = omega (arith, few_pieces c.args.bytes.now)
