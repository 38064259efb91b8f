use Rattle.std.proofs.Common.{◌∙◌}
use Rattle.request_ledger.proofs.KeptLaws.{lookup-kept}
use Rattle.request_ledger.proofs.ledger.kept_in.Goals as goal

pub returns : goal.returns
returns c = c.copied.ensures ∙ c.get.ensures.value ∙ lookup-kept c.args.number c.args.kept.now.entries
