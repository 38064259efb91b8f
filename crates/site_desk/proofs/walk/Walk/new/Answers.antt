use Rattle.std.proofs.Common.{sym, ◌∙◌, arith}
use Rattle.rights_lattice.proofs.CellLaws.{value_at-all_zero}
use Rattle.rights_lattice.proofs.StateLaws.{knows-no_names}
use Rattle.site_desk.proofs.walk.Walk.new.Goals as goal

pub returns-clause-walked : goal.returns-clause-walked
returns-clause-walked c = λ history. record {
  within = omega arith;
  named = sym (knows-no_names c.args.event);
  cells = λ cell of. c.new.ensures cell ∙ sym (value_at-all_zero c.args.event cell);
}
