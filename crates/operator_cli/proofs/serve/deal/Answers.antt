use Rattle.std.proofs.Common.{rules, ◌≡◌, ◌∙◌, ◌∷◌, ◌++◌, ◌%◌, [], map, refl, length, get_or, ap}
use Rattle.std.proofs.lemmas.List.{length-map, length-set, map-append, length-append}
use Rattle.std.proofs.Math.Seq.{map-set_same}
use Rattle.operator_cli.proofs.Dealing.{more_dealt, none_dealt}
use Rattle.operator_cli.proofs.serve.deal.Goals as goal

pub visits-init : goal.visits-init
visits-init g c = (refl, none_dealt (λ s. s.sessions.items) c.args.sites.now.items c.requires, search rules, refl)

pub visits-preserved-in-Continue-1 : goal.visits-preserved-in-Continue-1
visits-preserved-in-Continue-1 g c =
    let sites = c.visits.sites.items in
    let k = c.in-Some-checked_rem.k in
    let old = c.index_mut.result.now in
    let dealt = map (λ p. p.1) c.visits.yielded in
    let is : old ≡ get_or sites k old = search rules in
    let turn : k ≡ length dealt % length sites = search (rules, length-map) in (
      length-set sites k _ ∙ c.visits.invariant.0,
      more_dealt (λ s. s.sessions.items) sites k old (record { book = old.book; sessions = c.push.new.self }) dealt
          (map (λ p. p.1) (c.visits.yielded ++ (c.in-Some.place, c.in-Some.visit) ∷ [])) c.in-Some.visit
          (map-append (λ p. p.1) c.visits.yielded ((c.in-Some.place, c.in-Some.visit) ∷ [])) (search rules) turn is c.in_ok-push.ensures.items
          c.visits.invariant.1,
      search (rules, length-append),
      map-set_same (λ s. s.book) sites k (record { book = old.book; sessions = c.push.new.self }) old (ap (λ s. s.book) is) ∙ c.visits.invariant.3,
    )
