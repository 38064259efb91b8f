-- What is due to a peer is a part of the history.
use Rattle.std.proofs.Common.{◌≡◌, ℕ, zero, suc, ◌≤◌, Bool, true, false, cond, List, [], ◌∷◌, Some, None, sym, subst, arith, length, drop, get_or}
use Rattle.std.specs.Prelude.{◌==◌}
use Rattle.rights_lattice.specs.State.{State, Spot, at, AtOrBelow}
use Rattle.rights_lattice.proofs.StateLaws.{at-join}
use Rattle.book_core.specs.declared.entry.Entry.{Entry}
use Rattle.book_core.specs.History.{delta_of, interval, state_of}
use Rattle.book_core.proofs.Histories.{interval_rest}
use Rattle.site_exchange.specs.declared.message.Message.TheVariants.{Delta}
use Rattle.world_steps.specs.Giving.{GivesWhatItHas}

drop_below : (a : ℕ) (h : List Entry) (s : Spot) → at (state_of (drop a h)) s ≤ at (state_of h) s
drop_below zero h s = omega arith
drop_below (suc a) [] s = omega arith
drop_below (suc a) (x ∷ h) s = omega (arith, drop_below a h s, at-join (delta_of x) (state_of h) s)

rest_below : (h : List Entry) (a : ℕ) (delta : State) → interval h a (length h) ≡ delta → AtOrBelow delta (state_of h)
rest_below h a delta is s = subst (λ (d : State). at d s ≤ at (state_of h) s) is
    (subst (λ (d : State). at d s ≤ at (state_of h) s) (sym (interval_rest h a)) (drop_below a h s))

pub gives_what_it_has : GivesWhatItHas
gives_what_it_has me to site by dest upto delta is = by_test (get_or site.acked to 0 == length site.history) is
  where
    by_test : (b : Bool) → cond b None (Some (Delta me to (length site.history) (interval site.history (get_or site.acked to 0) (length site.history))))
        ≡ Some (Delta by dest upto delta) → AtOrBelow delta (state_of site.history)
    by_test true e = cc
    by_test false e = rest_below site.history (get_or site.acked to 0) delta
        (let same : interval site.history (get_or site.acked to 0) (length site.history) ≡ delta = cc in same)
