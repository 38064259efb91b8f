-- Each asked entry of a legal history is what is kept under its number.
use Rattle.std.proofs.Common.{◌≡◌, inl, inr, ℕ, cond, List, [], ◌∷◌, ◌++◌, Option, Some, None, length, refl, sym, ap, subst, ◌∙◌, append-nil, eq-eqb}
use Rattle.std.specs.Prelude.{nat_eq, slice_get}
use Rattle.rights_lattice.specs.State.{State}
use Rattle.request_ledger.specs.declared.request.Request.{Request}
use Rattle.request_ledger.specs.declared.reply.Reply.{Reply}
use Rattle.request_ledger.specs.declared.reply.Kept.{Kept}
use Rattle.request_ledger.specs.Ledger.{KeptByNumber, kept_under}
use Rattle.request_ledger.proofs.KeptLaws.{or_else, kept_under-push}
use Rattle.book_core.specs.declared.entry.Entry.{Entry}
use Rattle.book_core.specs.declared.entry.Entry.TheVariants.{Asked, Joined, Grown}
use Rattle.book_core.specs.History.{asked, kept}
use Rattle.book_core.specs.Laws.{EachReplyIsKept, NumbersAreKeptOnce}
use Rattle.book_core.specs.Legal.{IsNext}
use Rattle.book_core.proofs.Histories.{get_push, legal_along}
use Rattle.book_core.proofs.Kept.{asked-push}

-- what is kept stays so
stays : (h : List Entry) (entry : Entry) (number : ℕ) (k : Kept) → kept h number ≡ Some k → kept (h ++ entry ∷ []) number ≡ Some k
stays h (Asked n request reply delta) number k is =
    ap (λ (es : KeptByNumber). kept_under es number) (asked-push h (Asked n request reply delta))
    ∙ kept_under-push (asked h) n (record { place = length h; request = request; reply = reply }) number
    ∙ ap (λ o. or_else o (cond (nat_eq n number) (Some (record { place = length h; request = request; reply = reply })) None)) is
stays h (Joined peer delta) number k is =
    ap (λ (es : KeptByNumber). kept_under es number) (asked-push h (Joined peer delta) ∙ append-nil (asked h)) ∙ is
stays h (Grown sites) number k is =
    ap (λ (es : KeptByNumber). kept_under es number) (asked-push h (Grown sites) ∙ append-nil (asked h)) ∙ is

-- a new one is kept at the end
comes : (h : List Entry) (number : ℕ) (request : Request) (reply : Reply) (delta : State) → kept h number ≡ None
    → kept (h ++ Asked number request reply delta ∷ []) number ≡ Some (record { place = length h; request = request; reply = reply })
comes h number request reply delta new =
    ap (λ (es : KeptByNumber). kept_under es number) (asked-push h (Asked number request reply delta))
    ∙ kept_under-push (asked h) number (record { place = length h; request = request; reply = reply }) number
    ∙ ap (λ o. or_else o (cond (nat_eq number number) (Some (record { place = length h; request = request; reply = reply })) None)) new
    ∙ ap (λ b. cond b (Some (record { place = length h; request = request; reply = reply })) None) (eq-eqb number number refl)

abbrev KeepsEach : List Entry → Type 0
KeepsEach h = (k number : ℕ) (request : Request) (reply : Reply) (delta : State) → slice_get h k ≡ Some (Asked number request reply delta)
    → kept h number ≡ Some (record { place = k; request = request; reply = reply })

pub each_reply_is_kept : EachReplyIsKept
each_reply_is_kept office = legal_along office KeepsEach (λ k number request reply delta found. cc) more
  where
    more : (h : List Entry) (entry : Entry) → KeepsEach h → IsNext office h entry → KeepsEach (h ++ entry ∷ [])
    more h entry before next k number request reply delta found = elim (get_push h entry k (Asked number request reply delta) found) [
      | inl there ↦ stays h entry number (record { place = k; request = request; reply = reply }) (before k number request reply delta there.1)
      | inr here ↦
          let same : entry ≡ Asked number request reply delta = here.1 in
          let asked_next : IsNext office h (Asked number request reply delta) = subst (IsNext office h) same next in
          ap (λ e. kept (h ++ e ∷ []) number) same
          ∙ comes h number request reply delta asked_next.new
          ∙ ap (λ p. Some (record { place = p; request = request; reply = reply })) (sym here.0)
    ]

abbrev place_of : Option Kept → ℕ
place_of None = 0
place_of (Some k) = k.place

pub numbers_are_kept_once : NumbersAreKeptOnce
numbers_are_kept_once office h legal j k number p q r s D E at_j at_k =
    let first = each_reply_is_kept office h legal j number p r D at_j in
    let second = each_reply_is_kept office h legal k number q s E at_k in
    ap place_of (sym first ∙ second)
