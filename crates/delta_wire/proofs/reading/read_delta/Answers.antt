use Rattle.std.proofs.Common.{ap, subst, ◌∙◌}
use Rattle.delta_wire.specs.Wire.{Gives, delta_from_text}
use Rattle.delta_wire.proofs.NoTrailing.{never_trailing}
use Rattle.delta_wire.proofs.Texts.{is_found, delta_again}
use Rattle.delta_wire.proofs.reading.read_delta.Goals as goal

pub returns-clause-found : goal.returns-clause-found
returns-clause-found c = is_found c.args.bytes.now c.delta_from_text.result c.delta_from_text.ensures.exact

pub returns-clause-only : goal.returns-clause-only
returns-clause-only c = λ delta fits e. subst (Gives c.delta_from_text.result) (ap delta_from_text e ∙ delta_again delta fits) c.delta_from_text.ensures.exact

pub returns-clause-never_trailing : goal.returns-clause-never_trailing
returns-clause-never_trailing c = never_trailing c.args.bytes.now c.delta_from_text.result c.delta_from_text.ensures.exact
