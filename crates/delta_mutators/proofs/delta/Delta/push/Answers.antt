use Rattle.std.proofs.Common.{rules, ◌∙◌}
use Rattle.delta_mutators.proofs.DeltaLaws.{adding_is_joining}
use Rattle.delta_mutators.proofs.EndLaws.{pushes_name, pushes_mark}
use Rattle.delta_mutators.proofs.delta.Delta.push.Goals as goal

pub invariant_of-self-in-Name : goal.invariant_of-self-in-Name
invariant_of-self-in-Name c =
    (pushes_name _ _ _ _ _ _ c.self.invariant c.self.view_is c.requires c.in-Name.is c.in_ok-push-in-Name.ensures.items).lists

pub returns-in_ok-push-in-Name-clause-ok : goal.returns-in_ok-push-in-Name-clause-ok
returns-in_ok-push-in-Name-clause-ok c =
    (pushes_name _ _ _ _ _ _ c.self.invariant c.self.view_is c.requires c.in-Name.is c.in_ok-push-in-Name.ensures.items).ok

pub returns-in_ok-push-in-Name-clause-joined : goal.returns-in_ok-push-in-Name-clause-joined
returns-in_ok-push-in-Name-clause-joined c = returns-in_ok-push-in-Name-clause-ok c ∙ adding_is_joining _ _

pub returns-in_ok-push-in-Name-clause-names : goal.returns-in_ok-push-in-Name-clause-names
returns-in_ok-push-in-Name-clause-names c =
    (pushes_name _ _ _ _ _ _ c.self.invariant c.self.view_is c.requires c.in-Name.is c.in_ok-push-in-Name.ensures.items).names

pub invariant_of-self-in-Cell : goal.invariant_of-self-in-Cell
invariant_of-self-in-Cell c =
    (pushes_mark _ _ _ _ _ _ c.self.invariant c.self.view_is c.requires c.in-Cell.is (search rules) c.in_ok-push-in-Cell.ensures.items).lists

pub returns-in_ok-push-in-Cell-clause-ok : goal.returns-in_ok-push-in-Cell-clause-ok
returns-in_ok-push-in-Cell-clause-ok c =
    (pushes_mark _ _ _ _ _ _ c.self.invariant c.self.view_is c.requires c.in-Cell.is (search rules) c.in_ok-push-in-Cell.ensures.items).ok

pub returns-in_ok-push-in-Cell-clause-joined : goal.returns-in_ok-push-in-Cell-clause-joined
returns-in_ok-push-in-Cell-clause-joined c = returns-in_ok-push-in-Cell-clause-ok c ∙ adding_is_joining _ _

pub returns-in_ok-push-in-Cell-clause-marks : goal.returns-in_ok-push-in-Cell-clause-marks
returns-in_ok-push-in-Cell-clause-marks c =
    (pushes_mark _ _ _ _ _ _ c.self.invariant c.self.view_is c.requires c.in-Cell.is (search rules) c.in_ok-push-in-Cell.ensures.items).marks
