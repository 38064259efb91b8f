use Rattle.std.proofs.Common.{◌≡◌, None, ◌∷◌, [], ◌++◌, nat_eq, sym, ap, ◌∙◌, subst}
use Rattle.indexmap.proofs.CallerLemmas.{insert_entry-new}
use Rattle.request_ledger.specs.GivenBack.{AreSums}
use Rattle.request_ledger.specs.Ledger.{LedgerView, KeptByNumber, kept_under}
use Rattle.request_ledger.proofs.KeptLaws.{lookup-kept}
use Rattle.request_ledger.proofs.ledger.Ledger.keep.Goals as goal

one_more : (c : goal.In-Ok) → c.insert.new.self.entries ≡ c.self.inside.kept.entries ++
    (c.args.number, record { place = c.args.place; request = c.args.request; reply = c.args.reply }) ∷ []
one_more c =
    let new : kept_under c.self.inside.kept.entries c.args.number ≡ None = ap (λ (v : LedgerView). kept_under v.entries c.args.number) c.self.view_is
    ∙ c.requires.new in
    c.in-Ok.ensures.entries ∙ insert_entry-new nat_eq c.self.inside.kept c.args.number _ (lookup-kept c.args.number c.self.inside.kept.entries ∙ new)

pub invariant_of-self : goal.invariant_of-self
invariant_of-self c = subst (λ (es : KeptByNumber). AreSums es c.give_back.new.sums.entries) (sym (one_more c))
    (c.give_back.ensures.sums c.args.number c.args.place)

pub returns-clause-entries : goal.returns-clause-entries
returns-clause-entries c = one_more c
    ∙ ap (λ (v : LedgerView). v.entries ++ (c.args.number, record { place = c.args.place; request = c.args.request; reply = c.args.reply }) ∷ []) c.self.view_is
