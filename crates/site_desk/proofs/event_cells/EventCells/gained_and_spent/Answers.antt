use Rattle.std.proofs.Common.{◌≡◌, ap, arith}
use Rattle.rights_lattice.specs.Sums.{max_sites, sum_below}
use Rattle.local_rights.specs.Rights.{ceded_in}
use Rattle.site_desk.proofs.EventTables.{all_sites}
use Rattle.site_desk.proofs.event_cells.EventCells.gained_and_spent.Goals as goal

pub returns-clause-gained : goal.returns-clause-gained
returns-clause-gained c = λ X event shows.
    let all : c.loop-number.number ≡ max_sites = all_sites c.loop-number.number (omega (arith, c.loop-number.auto.number-end, c.loop-number-test.false)) in
    omega (arith, c.loop-number.invariant.gained X event shows, ap (λ n. sum_below n (λ j. ceded_in X event j c.args.me)) all)

pub returns-clause-spent : goal.returns-clause-spent
returns-clause-spent c = λ X event shows.
    let all : c.loop-number.number ≡ max_sites = all_sites c.loop-number.number (omega (arith, c.loop-number.auto.number-end, c.loop-number-test.false)) in
    omega (arith, c.loop-number.invariant.spent X event shows, ap (λ n. sum_below n (λ j. ceded_in X event c.args.me j)) all)
