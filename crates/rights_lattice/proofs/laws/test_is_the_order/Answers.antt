use Rattle.rights_lattice.proofs.SpotLaws.{test_is_the_order}
use Rattle.rights_lattice.proofs.laws.test_is_the_order.Goals as goal

pub returns : goal.returns
returns c = test_is_the_order
