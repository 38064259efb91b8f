-- What several requests are answered, one after another. (Our own.)
use Rattle.std.specs.Prelude.{◌≡◌, ◌⊎◌, ◌<◌, ℕ, Bool, true, false, List, [], ◌∷◌, length, count_by, Option, Some, Result, Ok, Err}
use Rattle.request_ledger.specs.declared.request.Request.{Request}
use Rattle.book_core.specs.declared.entry.Entry.{Entry}
use Rattle.book_core.specs.Decision.{SiteConfig, decision, entry_of_ask}
use Rattle.site_exchange.specs.Taking.{extended}
use Rattle.site_desk.specs.declared.answer.Answer.{Answer}
use Rattle.site_desk.specs.declared.fault.AskFault.{AskFault}
use Rattle.site_desk.specs.declared.fault.AskFault.TheVariants as ask_fault
use Rattle.site_desk.specs.Answers.{IsAnswer, IsAskFault}

-- an open book that has the first history answers the requests so, each by the history that those before it left, and is left with the
-- last: an answer enters what is due, a refusal nothing; none is refused for the store, which fails for all of them
abbrev pub AreAnswered : SiteConfig → List Entry → List (ℕ × Request) → List (Result Answer AskFault) → List Entry → Type 0
AreAnswered office old [] [] new = new ≡ old
AreAnswered office old [] (a ∷ answers) new = ⊥
AreAnswered office old (r ∷ requests) [] new = ⊥
AreAnswered office old (r ∷ requests) (Ok a ∷ answers) new = IsAnswer (decision office old r.0 r.1) (length old) a
    × AreAnswered office (extended (entry_of_ask office old r.0 r.1) old) requests answers new
AreAnswered office old (r ∷ requests) (Err fault ∷ answers) new = IsAskFault false (decision office old r.0 r.1) 0 0 fault
    × AreAnswered office old requests answers new

-- why none of them is answered: the book was closed, or was open and memory was refused, or the store to all that is new;
-- the numbers are the keeper's failures before and after
abbrev pub IsAskAllFault : Bool → ℕ → ℕ → AskFault → Type 0
IsAskAllFault closed before after ask_fault.Closed = closed ≡ true
IsAskAllFault closed before after ask_fault.Memory = closed ≡ false
IsAskAllFault closed before after ask_fault.Store = (closed ≡ false) × (before ≡ 0) × (after ≡ 1)
IsAskAllFault closed before after _ = ⊥

-- the answer is fresh, and how many of these are
abbrev pub is_fresh : Result Answer AskFault → Bool
is_fresh (Ok answer) = answer.fresh
is_fresh (Err fault) = false

abbrev pub fresh_in : List (Result Answer AskFault) → ℕ
fresh_in answers = count_by is_fresh answers

-- the store failed where these requests would have been answered so, something of that is new, and, where the store is trusted, a crash leaves
-- this history or the whole of what the answers would have made of it
pub record LeavesAsked (office : SiteConfig) (history : List Entry) (requests : List (ℕ × Request)) (is_trusted : Type 0) (may_leave : Option (List Entry)
    → Type 0) : Type 0 where
  pub answers : List (Result Answer AskFault)
  pub after : List Entry
  pub answered : AreAnswered office history requests answers after
  pub something_new : 0 < fresh_in answers
  pub leaves : is_trusted → (left : Option (List Entry)) → may_leave left → (left ≡ Some history) ⊎ (left ≡ Some after)
