use Rattle.std.proofs.Common.{All, length, ◌≡◌, ◌≢◌, Result, Ok, Err, subst, sym}
use Rattle.std.specs.Prelude.{IfOk, IfErr, OnOk}
use Rattle.site_desk.specs.declared.finish.FinishFault.{FinishFault}
use Rattle.site_desk.specs.declared.finish.FinishFault.TheVariants.{SeatsOut}
use Rattle.site_desk.specs.Finish.{FindsFirst, StandsIn, WasSeen, handed_back}
use Rattle.site_desk.specs.Count.{asked_since}
use Rattle.site_desk.specs.Seats.{shares_of}
use Rattle.site_desk.specs.SiteView.{SiteView}
use Rattle.site_desk.proofs.desk.Desk.finish.Goals as goal

-- what holds of the book before holds of the book that comes back
of_result : {K : Type 0} (result : Result (SiteView K) (SiteView K × FinishFault)) (book : SiteView K) (P : SiteView K → Type 0)
    → handed_back result ≡ book → OnOk result (P book) → IfOk result P
of_result (Ok given) book P is holds = subst P (sym is) holds
of_result (Err refused) book P is holds = tt

of_fault : {K : Type 0} (result : Result (SiteView K) (SiteView K × FinishFault)) (book : SiteView K) (P : SiteView K → FinishFault → Type 0)
    → handed_back result ≡ book → IfErr result (λ e. P book e.1) → IfErr result (λ e. P e.0 e.1)
of_fault (Ok given) book P is holds = tt
of_fault (Err refused) book P is holds = subst (λ s. P s refused.1) (sym is) holds

-- the fault is not that seats are out, where it holds of that fault only what does not
not_out : {K : Type 0} (result : Result (SiteView K) (SiteView K × FinishFault)) (P : FinishFault → Type 0) → IfErr result (λ e. P e.1) → (P SeatsOut → ⊥)
    → IfErr result (λ e. e.1 ≢ SeatsOut)
not_out (Ok given) P holds none = tt
not_out (Err refused) P holds none = λ is. none (subst P is holds)

pub returns-clause-fault : goal.returns-clause-fault
returns-clause-fault g c = of_fault c.finish.result c.into_inner.result
    (λ s fault. FindsFirst s.book.office s.book.history (asked_since (length g.L.Opens.began) s.book.history) (shares_of c.args.seats.items)
    c.args.receipts.now c.args.looks.now fault) c.finish.ensures.book c.finish.ensures.fault

pub returns-clause-whole : goal.returns-clause-whole
returns-clause-whole g c = λ all.
    let s = c.into_inner.result in
    not_out c.finish.result (λ fault. FindsFirst s.book.office s.book.history (asked_since (length g.L.Opens.began) s.book.history)
    (shares_of c.args.seats.items) c.args.receipts.now c.args.looks.now fault) c.finish.ensures.fault (λ out. out (c.finish.ensures.whole all))

pub returns-clause-receipts : goal.returns-clause-receipts
returns-clause-receipts g c = of_result c.finish.result c.into_inner.result (λ s. All (StandsIn s.book.history) c.args.receipts.now) c.finish.ensures.book
    c.finish.ensures.receipts

pub returns-clause-looks : goal.returns-clause-looks
returns-clause-looks g c = of_result c.finish.result c.into_inner.result (λ s. All (WasSeen s.book.office s.book.history) c.args.looks.now)
    c.finish.ensures.book c.finish.ensures.looks

pub returns-clause-at_desk : goal.returns-clause-at_desk
returns-clause-at_desk g c = rw c.finish.ensures.book c.finish.ensures.at_desk
