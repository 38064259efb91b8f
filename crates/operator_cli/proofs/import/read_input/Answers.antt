use Rattle.std.proofs.Common.{ap, arith}
use Rattle.delta_wire.specs.Grammar.{most_bytes}
use Rattle.operator_cli.proofs.Inputs.{read_whole}
use Rattle.operator_cli.proofs.import.read_input.Goals as goal

pub returns-clause-read : goal.returns-clause-read
returns-clause-read g c =
    read_whole c.take.result.limit most_bytes (g.R.Read.remaining c.take.result.inner) (g.R.Read.remaining c.args.input) c.new-bytes.result.items
    c.read_to_end.new.buf.items
    (ap g.R.Read.remaining c.take.ensures.inner) c.take.ensures.limit c.new-bytes.ensures.items c.in-Ok.ensures.bytes
    (omega (arith, c.len.ensures, c.if-len-gt-MOST_BYTES.false))
