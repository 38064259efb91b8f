-- What the asked entries of a history keep, after one more entry.
use Rattle.std.proofs.Common.{◌≡◌, ℕ, suc, ◌+◌, List, [], ◌∷◌, ◌++◌, length, ap, ◌∙◌, arith}
use Rattle.request_ledger.specs.declared.reply.Kept.{Kept}
use Rattle.request_ledger.specs.Ledger.{KeptByNumber}
use Rattle.book_core.specs.declared.entry.Entry.{Entry}
use Rattle.book_core.specs.declared.entry.Entry.TheVariants.{Asked, Joined, Grown}
use Rattle.book_core.specs.History.{asked, asked_from}

later : (place : ℕ) (h : List Entry) (entry : Entry) → asked_from (place + 1 + length h) (entry ∷ []) ≡ asked_from (place + suc (length h)) (entry ∷ [])
later place h entry = ap (λ p. asked_from p (entry ∷ [])) (omega arith)

pub asked_from-push : (place : ℕ) (h : List Entry) (entry : Entry)
    → asked_from place (h ++ entry ∷ []) ≡ asked_from place h ++ asked_from (place + length h) (entry ∷ [])
asked_from-push place [] entry = ap (λ p. asked_from p (entry ∷ [])) (let e : place ≡ place + 0 = omega arith in e)
asked_from-push place (Joined peer delta ∷ h) entry = asked_from-push (place + 1) h entry
    ∙ ap (λ (es : KeptByNumber). asked_from (place + 1) h ++ es) (later place h entry)
asked_from-push place (Grown sites ∷ h) entry = asked_from-push (place + 1) h entry
    ∙ ap (λ (es : KeptByNumber). asked_from (place + 1) h ++ es) (later place h entry)
asked_from-push place (Asked n request reply delta ∷ h) entry =
    let first : ℕ × Kept = (n, record { place = place; request = request; reply = reply }) in
    ap (λ (es : KeptByNumber). first ∷ es)
    (asked_from-push (place + 1) h entry ∙ ap (λ (es : KeptByNumber). asked_from (place + 1) h ++ es) (later place h entry))

-- a new entry is kept at the end
pub asked-push : (h : List Entry) (entry : Entry) → asked (h ++ entry ∷ []) ≡ asked h ++ asked_from (length h) (entry ∷ [])
asked-push h entry = asked_from-push 0 h entry ∙ ap (λ p. asked h ++ asked_from p (entry ∷ [])) (let e : 0 + length h ≡ length h = omega arith in e)
