use Rattle.std.proofs.Common.{◌∙◌, ◌++◌, ◌∷◌, [], ◌<◌, ap, length, rules}
use Rattle.session_server.proofs.Settles.{ends_added}
use Rattle.session_server.proofs.link_ends.add_links.Goals as goal

-- two links more
pub loop-k-preserved : goal.loop-k-preserved
loop-k-preserved c =
    let k = c.loop-k.k in
    let within : k < length c.args.others.now = search rules in
    ends_added c.args.by c.args.others.now c.args.told.now k c.index-others-k.result _ c.args.links.now.items c.loop-k.links.items c.push.new.self.items
    c.push-in-loop-k.new.self.items
    within c.requires c.index-others-k.is c.loop-k.invariant
    (c.in_ok-push.ensures.items ∙ ap (λ e. c.loop-k.links.items ++ e ∷ []) c.link_end.ensures)
    (c.in_ok-push-2.ensures.items ∙ ap (λ e. c.push.new.self.items ++ e ∷ []) c.link_end-in-loop-k.ensures)
