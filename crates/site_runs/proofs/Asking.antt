-- Several requests, asked one after another, are as many steps of their site.
use Rattle.std.proofs.Common.{◌≡◌, ℕ, ◌<◌, true, cond, List, [], ◌∷◌, None, sym, ap, ◌∙◌, subst, arith, length-set}
use Rattle.std.specs.Prelude.{nat_lt, Result, Ok, Err}
use Rattle.std.proofs.lemmas.Bool.{lt-ltb}
use Rattle.request_ledger.specs.declared.request.Request.{Request}
use Rattle.book_core.specs.declared.entry.Entry.{Entry}
use Rattle.book_core.specs.Decision.{SiteConfig, entry_of_ask}
use Rattle.site_exchange.specs.Exchange.{SitePart, zeros}
use Rattle.site_exchange.specs.Taking.{restarted, with_entry}
use Rattle.site_desk.specs.declared.answer.Answer.{Answer}
use Rattle.site_desk.specs.declared.fault.AskFault.{AskFault}
use Rattle.site_desk.specs.Batch.{AreAnswered}
use Rattle.site_desk.specs.SiteView.{SiteView, site_of}
use Rattle.world_steps.specs.declared.step.Step.TheVariants.{Ask, Restart}
use Rattle.world_steps.specs.World.{World, asks, at_site, count, history_at, office_at, site_numbered}
use Rattle.world_steps.proofs.Worlds.{site_same}
use Rattle.site_runs.proofs.OneStep.{IsHere, Made, by_more, by_none, by_one}

-- the site with this history
abbrev pub with_history : SitePart → List Entry → SitePart
with_history site h = record { history = h; acked = site.acked }

-- each request that is answered is a step, and each that is refused is none
pub asked_steps : (w : World) (i : ℕ) (office : SiteConfig) (requests : List (ℕ × Request)) (answers : List (Result Answer AskFault)) (new : List Entry)
    → i < count w → office_at w i ≡ office
    → AreAnswered office (history_at w i) requests answers new → Made w i (with_history (site_numbered w i) new) None
asked_steps w i office [] [] new below of is = by_none w i (with_history (site_numbered w i) new) (ap (with_history (site_numbered w i)) is)
asked_steps w i office [] (a ∷ answers) new below of is = absurd is
asked_steps w i office (r ∷ requests) [] new below of is = absurd is
asked_steps w i office (r ∷ requests) (Ok a ∷ answers) new below of is =
    let first : SitePart = with_entry (entry_of_ask office (history_at w i) r.0 r.1) (site_numbered w i) in
    let v : World = at_site w i first in
    let there : nat_lt i (count w) ≡ true = lt-ltb i (count w) below in
    let same : site_numbered v i ≡ first = site_same w i first below in
    let one : Made w i first None =
    by_one w i first None (Ask i r.0 r.1)
    (ap (λ b. cond b (at_site w i (with_entry (asks w i r.0 r.1) (site_numbered w i))) w) there
    ∙ ap (λ (o : SiteConfig). at_site w i (with_entry (entry_of_ask o (history_at w i) r.0 r.1) (site_numbered w i))) of) in
    let rest : Made v i (with_history (site_numbered v i) new) None =
    asked_steps v i office requests answers new (omega (arith, below, length-set w.sites i first)) of
    (subst (λ (p : SitePart). AreAnswered office p.history requests answers new) (sym same) is.1) in
    by_more w i first (with_history (site_numbered w i) new) None one (subst (λ (p : SitePart). Made v i (with_history p new) None) same rest)
asked_steps w i office (r ∷ requests) (Err fault ∷ answers) new below of is = asked_steps w i office requests answers new below of is.1

-- a site of a world that shows it, asked so
asked_here : {K : Type 0} (w : World) (i : ℕ) (old : SiteView K) (requests : List (ℕ × Request)) (answers : List (Result Answer AskFault))
    (new : List Entry) → IsHere w i old
    → AreAnswered old.book.office old.book.history requests answers new → Made w i (with_history (site_numbered w i) new) None
asked_here w i old requests answers new here is =
    asked_steps w i old.book.office requests answers new here.below here.office
    (subst (λ (p : SitePart). AreAnswered old.book.office p.history requests answers new) (sym here.site) is)

pub ask_all_steps : {K : Type 0} (w : World) (i : ℕ) (old new : SiteView K) (requests : List (ℕ × Request)) (answers : List (Result Answer AskFault))
    → IsHere w i old
    → AreAnswered old.book.office old.book.history requests answers new.book.history → new.acked ≡ old.acked → Made w i (site_of new) None
ask_all_steps w i old new requests answers here is acked =
    let same : with_history (site_numbered w i) new.book.history ≡ site_of new =
    ap (λ (p : SitePart). with_history p new.book.history) here.site ∙ (λ k. record { history = new.book.history; acked = sym acked k }) in
    subst (λ (p : SitePart). Made w i p None) same (asked_here w i old requests answers new.book.history here is)

-- a stop once all of them were stored, and the start behind it, are those steps and a restart
pub asked_restart : {K : Type 0} (w : World) (i : ℕ) (old new : SiteView K) (requests : List (ℕ × Request)) (answers : List (Result Answer AskFault))
    → IsHere w i old
    → AreAnswered old.book.office old.book.history requests answers new.book.history → new.acked ≡ zeros → Made w i (site_of new) None
asked_restart w i old new requests answers here is acked =
    let first : SitePart = with_history (site_numbered w i) new.book.history in
    let v : World = at_site w i first in
    let there : nat_lt i (count v) ≡ true = lt-ltb i (count v) (omega (arith, here.below, length-set w.sites i first)) in
    let again : restarted (site_numbered v i) ≡ site_of new =
    ap restarted (site_same w i first here.below) ∙ (λ k. record { history = new.book.history; acked = sym acked k }) in
    by_more w i first (site_of new) None (asked_here w i old requests answers new.book.history here is)
    (by_one v i (site_of new) None (Restart i) (ap (λ b. cond b (at_site v i (restarted (site_numbered v i))) v) there ∙ ap (at_site v i) again))
