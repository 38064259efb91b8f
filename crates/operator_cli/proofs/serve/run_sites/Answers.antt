use Rattle.std.proofs.Common.{◌∙◌, map, subst, sym}
use Rattle.session_server.specs.Visited.{visit_ended}
use Rattle.operator_cli.specs.Dealt.{AreDealt}
use Rattle.operator_cli.proofs.Dealing.{pairs_of, same_count}
use Rattle.operator_cli.proofs.serve.run_sites.Goals as goal

pub returns-clause-count : goal.returns-clause-count
returns-clause-count g c =
    same_count (λ e. map visit_ended e.sessions.items) (λ s. s.sessions.items) c.deal.new.sites.items c.in_ok-ends.ends.items c.in_ok-ends.ensures.visits
    ∙ (c.in_ok-deal.ensures.count ∙ c.in_ok-sites.ensures.count)

pub returns-clause-left : goal.returns-clause-left
returns-clause-left g c =
    pairs_of (λ s. s.book) c.deal.new.sites.items c.in_ok-sites.sites.items c.args.books.items c.in_ok-ends.ends.items _ c.in_ok-deal.ensures.books
    c.in_ok-sites.ensures.books c.in_ok-ends.ensures.left

pub returns-clause-visits : goal.returns-clause-visits
returns-clause-visits g c = subst (AreDealt c.args.visits.items) (sym c.in_ok-ends.ensures.visits) c.in_ok-deal.ensures.dealt
