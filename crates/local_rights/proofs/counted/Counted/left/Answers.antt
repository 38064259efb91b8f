use Rattle.std.proofs.Common.{◌∙◌, ap, subst}
use Rattle.std.specs.Prelude.{pos}
use Rattle.std.specs.Option.{unwrap_or}
use Rattle.local_rights.specs.Counted.{CountedView}
use Rattle.local_rights.specs.Rights.{gained, spent, left_of, HasRights}
use Rattle.local_rights.proofs.CounterLaws.{whole_difference}
use Rattle.local_rights.proofs.KeptLaws.{kept_left}
use Rattle.local_rights.proofs.counted.Counted.left.Goals as goal

pub returns-clause-left : goal.returns-clause-left
returns-clause-left c =
    let s = c.self.inside in
    c.unwrap_or.ensures ∙ ap (λ o. unwrap_or o 0) (c.copied.ensures ∙ c.get.ensures.value)
    ∙ (kept_left s.left.entries s.rights.sites s.me s.rights.cells c.args.event c.self.invariant.0).0
    ∙ ap (λ (v : CountedView). left_of v.cells c.args.event v.me) c.self.view_is

pub returns-clause-has_rights : goal.returns-clause-has_rights
returns-clause-has_rights c =
    let s = c.self.inside in
    subst (λ (v : CountedView). HasRights v.cells c.args.event v.me) c.self.view_is
    (kept_left s.left.entries s.rights.sites s.me s.rights.cells c.args.event c.self.invariant.0).1

pub returns-clause-rights : goal.returns-clause-rights
returns-clause-rights c =
    ap pos (returns-clause-left c)
    ∙ whole_difference (gained c.args.self.now.cells c.args.event c.args.self.now.me) (spent c.args.self.now.cells c.args.event c.args.self.now.me)
    (returns-clause-has_rights c)
