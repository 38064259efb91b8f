use Rattle.std.proofs.Common.{inl, inr, refl, rules}
use Rattle.std.proofs.KnownBytes.{Keeps-refl}
use Rattle.operator_cli.proofs.copies.open_copies.Goals as goal

pub returns-in-Some-clause-told : goal.returns-in-Some-clause-told
returns-in-Some-clause-told g c = (
  c.in-Some.outcome,
  record {
    one = c.refused_pairing.new.first;
    other = c.refused_pairing.new.second;
    asked = c.in-Some.ensures.left;
    cause = inl (c.in-Some.ensures.refused, refl, refl);
  },
  c.print_outcome-status.ensures,
)

pub returns-in-Ok-clause-opened : goal.returns-in-Ok-clause-opened
returns-in-Ok-clause-opened g c = record {
  one = c.refused_pairing.new.first;
  other = c.refused_pairing.new.second;
  asked = c.refused_pairing.ensures.left;
  paired = c.refused_pairing.ensures.paired (search rules);
  opened = c.in-Ok.ensures.opened;
}

pub returns-in-Err-clause-told : goal.returns-in-Err-clause-told
returns-in-Err-clause-told g c = (
  c.outcome_of_pair.result,
  record {
    one = c.refused_pairing.new.first;
    other = c.refused_pairing.new.second;
    asked = c.refused_pairing.ensures.left;
    cause = inr (c.refused_pairing.ensures.paired (search rules), (c.in-Err.fault, c.outcome_of_pair.ensures, c.in-Err.ensures.refused));
  },
  c.print_outcome-status-in-Err.ensures,
)

pub returns-in-Ok-clause-silent : goal.returns-in-Ok-clause-silent
returns-in-Ok-clause-silent g c = (Keeps-refl _, Keeps-refl _)
