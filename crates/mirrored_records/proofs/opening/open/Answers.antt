use Rattle.std.proofs.Common.{inl, inr, refl, rules}
use Rattle.mirrored_records.proofs.PrefixLemmas.{extends_same, longer_extends, shorter_extends}
use Rattle.mirrored_records.proofs.opening.open.Goals as goal

pub returns-then-len-clause-longer : goal.returns-then-len-clause-longer
returns-then-len-clause-longer g c = record {
  is = inr refl;
  first = shorter_extends c.args.one.items c.args.other.items c.in_default.ensures (search rules) (search rules) (search rules);
  second = extends_same c.args.other.items;
}

pub returns-clause-longer : goal.returns-clause-longer
returns-clause-longer g c = record {
  is = inl refl;
  first = extends_same c.args.one.items;
  second = longer_extends c.args.one.items c.args.other.items c.in_default.ensures (search rules) (search rules) (search rules);
}
