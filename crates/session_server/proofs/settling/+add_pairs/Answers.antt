use Rattle.std.proofs.Common.{◌≡◌, ◌∙◌, ◌++◌, ◌∷◌, [], ap, length, map, rules, sym}
use Rattle.std.proofs.lemmas.List.{length-map}
use Rattle.session_server.proofs.Rows.{each_more, mapped_push}
use Rattle.session_server.proofs.settling.+add_pairs.Goals as goal

pub returns-clause-rows : goal.returns-clause-rows
returns-clause-rows t c =
    let len : length c.pop.new.self.items ≡ length c.pop-2.new.self.items = search rules in
    each_more _ (map (λ row. row.items) c.pop.new.self.items) c.in-Some.row.items _ (map (λ pair. pair.0) c.pop-2.new.self.items) c.in-Some-pop.there _
    (map (λ row. row.items) c.add_pairs.new.rows.items)
    (length-map c.pop-2.new.self.items (λ pair. pair.0) ∙ sym len ∙ sym (length-map c.pop.new.self.items (λ row. row.items)))
    (mapped_push (λ row. row.items) _ _ _ c.in-Some.ensures.items)
    (mapped_push (λ pair. pair.0) _ _ _ c.in-Some-pop.ensures.items)
    (mapped_push (λ row. row.items) _ _ _ c.in_ok-push-2.ensures.items
    ∙ ap (λ l. map (λ row. row.items) c.add_pairs.new.rows.items ++ l ∷ []) c.in_ok-push.ensures.items)
    c.in_ok-add_pairs.ensures.rows
