-- A run with one forged message that oversells: site 1 sells five seats that no site released.
use Rattle.std.proofs.Common.{◌≤◌, [], ◌∷◌, refl, arith}
use Rattle.site_exchange.specs.declared.message.Message.TheVariants.{Ack}
use Rattle.site_runs.specs.Premises.{ForgedMessagesOversell}
use Rattle.site_runs.proofs.Examples.{are_new, first, gala, last, sells, site_with, sites, takes, takes_and_sells}

pub forged_messages_oversell : ForgedMessagesOversell
forged_messages_oversell never =
    let sums = never takes_and_sells (sites [] [] []) (sites [] last (Ack 1 0 3 ∷ [])) are_new
    (site_with 1 [], refl, takes, (site_with 1 first, refl, sells, refl)) gala in
    let over : 5 ≤ 0 = sums.0 in
    absurd (omega arith)
