use Rattle.std.proofs.Common.{◌≡◌, ◌≤◌, ℕ, cond, sym, ap, ◌∙◌, subst}
use Rattle.std.specs.Prelude.{nat_eq}
use Rattle.request_ledger.specs.GivenBack.{sum_under}
use Rattle.request_ledger.proofs.SumLaws.{Fits, with_part, sums_with_none, sums_with_refund, refundable_is_sale, refundable_fits, sum_within}
use Rattle.request_ledger.proofs.ledger.give_back.Goals as goal

pub seats_of-seats-requires : goal.seats_of-seats-requires
seats_of-seats-requires c = refundable_is_sale _ _ _ c.in-Some.refund (sym c.refund_in.ensures ∙ c.in-Some.is) c.requires.refund

pub given_with-requires-clause-within : goal.given_with-requires-clause-within
given_with-requires-clause-within c =
    subst (λ n. n ≤ c.seats_of-seats.result) (sym c.sum_of-given.ensures) (sum_within _ _ _ _ c.requires.sums c.seats_of-seats.ensures)

pub given_with-requires-clause-fits : goal.given_with-requires-clause-fits
given_with-requires-clause-fits c =
    subst (Fits c.in-Some.refund.part c.seats_of-seats.result) (sym c.sum_of-given.ensures)
    (refundable_fits _ _ _ _ c.in-Some.refund _ c.requires.sums (sym c.refund_in.ensures ∙ c.in-Some.is) c.requires.refund c.seats_of-seats.ensures)

pub returns-in-Some-clause-sums : goal.returns-in-Some-clause-sums
returns-in-Some-clause-sums c =
    let refund = c.in-Some.refund in
    let seats = c.seats_of-seats.result in
    let sums = c.args.sums.now.entries in
    let is = sym c.refund_in.ensures ∙ c.in-Some.is in
    let after : c.given_with.result ≡ with_part refund.part seats (sum_under sums refund.sale) =
    c.given_with.ensures ∙ ap (with_part refund.part seats) c.sum_of-given.ensures in
    sums_with_refund _ _ _ _ _ refund seats c.requires.sums is c.seats_of-seats.ensures
    (refundable_fits _ _ _ _ refund _ c.requires.sums is c.requires.refund c.seats_of-seats.ensures)
    (λ q. c.set_sum.ensures.sums q ∙ ap (λ (n : ℕ). cond (nat_eq refund.sale q) n (sum_under sums q)) after)

pub returns-in-None-clause-sums : goal.returns-in-None-clause-sums
returns-in-None-clause-sums c = sums_with_none _ _ _ _ c.requires.sums (sym c.refund_in.ensures ∙ c.in-None.is)
