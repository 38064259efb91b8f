-- What a session leaves of a book, whatever it was asked. For callers.
use Rattle.std.proofs.Common.{◌≡◌, ◌⊎◌, inl, inr, ℕ, suc, Bool, true, false, List, [], ◌∷◌, Option, Some, None, Result, Ok, Err, refl, ap, sym, ◌∙◌, subst, subst₂}
use Rattle.std.specs.Prelude.{IfErr, OnErr}
use Rattle.request_ledger.specs.declared.request.Request.{Request}
use Rattle.book_core.specs.declared.entry.Entry.{Entry}
use Rattle.book_core.specs.Decision.{SiteConfig, entry_of_ask}
use Rattle.site_exchange.specs.Exchange.{SitePart}
use Rattle.history_keeper.specs.declared.meta.Meta.{Meta}
use Rattle.site_desk.specs.declared.answer.Answer.{Answer}
use Rattle.site_desk.specs.declared.fault.AskFault.{AskFault}
use Rattle.site_desk.specs.declared.fault.AskFault.TheVariants as ask
use Rattle.history_keeper.specs.Keeping.{LeavesEither}
use Rattle.site_desk.specs.Calls.{AskCall, Keeping}
use Rattle.site_desk.specs.SiteView.{SiteView, entry_in}
use Rattle.desk_lines.specs.declared.line.Line.{Line}
use Rattle.desk_lines.specs.declared.line.Line.TheVariants.{Ask, Left, Totals, Quit}
use Rattle.desk_lines.specs.declared.answered.Answered.{Answered}
use Rattle.desk_lines.specs.declared.answered.Answered.TheVariants.{Refused}
use Rattle.desk_lines.specs.Reading.{session_line_of}
use Rattle.session_server.specs.declared.fault.Ended.{Ended}
use Rattle.session_server.specs.declared.fault.TalkFault.{TalkFault}
use Rattle.session_server.specs.BookStep.{BookStep, IsLeftAt, answered_of}
use Rattle.session_server.specs.Session.{Answers, Chain, Talked, WasAnswered}
use Rattle.session_server.proofs.Sessions.{chain_keeps}

if_err : {X F : Type 0} (r : Result X F) (P : F → Type 0) (fault : F) → IfErr r P → r ≡ Err fault → P fault
if_err (Ok x) P fault h e = absurd (let is = e in cc)
if_err (Err f) P fault h e = subst P (let is = e in cc) h

on_err : {X F : Type 0} (r : Result X F) (P : Type 0) (fault : F) → OnErr r P → r ≡ Err fault → P
on_err r P fault h e = if_err r (λ _. P) fault h e

is_either : (b : Bool) → (b ≡ false) ⊎ (b ≡ true)
is_either false = inl refl
is_either true = inr refl

unshut : {K : Type 0} (a b : SiteView K) → b ≡ a → a.closed ≡ false → b.closed ≡ true → ⊥
unshut a b is unclosed shut = let bad : true ≡ false = sym shut ∙ ap (λ (s : SiteView _). s.closed) is ∙ unclosed in cc

module _ {K : Type 0} (k : Keeping K) where
  -- of all lines a request alone changes the book
  step_keeps : (P : SiteView K → Type 0)
      → ((a b : SiteView K) (number : ℕ) (request : Request) (came : Result Answer AskFault) → AskCall k a b number request came → P a → P b)
      → (a : SiteView K) (o : Option Line) (answered : Answered) (b : SiteView K) → Answers (BookStep k) a o answered b → P a → P b
  step_keeps P asked a (Some (Ask number request)) answered b h p = asked a b number request h.0 h.1 p
  step_keeps P asked a (Some (Left event)) answered b h p = subst P (sym h.0) p
  step_keeps P asked a (Some (Totals event)) answered b h p = subst P (sym h.0) p
  step_keeps P asked a (Some Quit) answered b h p = absurd h
  step_keeps P asked a None answered b h p = subst P (sym h.1) p

  abbrev IsShutBy : ℕ → Request → SiteView K → Type 0
  IsShutBy number request s = (s.closed ≡ true) × IsLeftAt k s number request

  -- no request changes what a stop leaves of a book that is closed
  came_left : (number : ℕ) (request : Request) (a b : SiteView K) (n : ℕ) (r : Request) (came : Result Answer AskFault) → AskCall k a b n r came
      → IsShutBy number request a → IsShutBy number request b
  came_left number request a b n r came h left =
      let refused = h.call.shut.1 left.0 in
      let history = ap (λ (s : SitePart). s.history) (on_err came _ ask.Closed h.call.unchanged refused) in
      let keeper = if_err came _ ask.Closed h.call.untouched refused (λ e. cc) in (
        h.call.closes.1 (inl left.0),
        (λ trusted.
            subst₂ (λ (o : SiteConfig) (l : List Entry). LeavesEither l (entry_of_ask o l number request) (k.may_leave b.keeper)) (sym h.call.office)
            (sym history)
            (subst (λ x. LeavesEither a.book.history (entry_in a.book number request) (k.may_leave x)) (sym keeper)
            (left.1 (subst k.is_trusted keeper trusted)))),
      )

  -- what closes an open book is a request that is answered `store`
  abbrev Shuts : SiteView K → Option Line → Answered → Type 0
  Shuts b o answered = (number : ℕ) × (request : Request) × (o ≡ Some (Ask number request)) × (answered ≡ Refused ask.Store) × IsLeftAt k b number request

  came_shut : (a b : SiteView K) (number : ℕ) (request : Request) (answered : Answered) (came : Result Answer AskFault) → AskCall k a b number request came
      → answered ≡ answered_of came
      → a.closed ≡ false → b.closed ≡ true → Shuts b (Some (Ask number request)) answered
  came_shut a b number request answered came h is unclosed shut = elim (h.call.closes.0 shut) [
    | inl was ↦ (let bad : true ≡ false = sym was ∙ unclosed in cc)
    | inr store ↦ (
        let history = ap (λ (s : SitePart). s.history) (on_err came _ ask.Store h.call.unchanged store) in (
          number,
          request,
          refl,
          is ∙ ap answered_of store,
          (λ trusted. subst₂ (λ (o : SiteConfig) (l : List Entry). LeavesEither l (entry_of_ask o l number request) (k.may_leave b.keeper))
              (sym h.call.office) (sym history) (h.call.stopped store trusted)),
        ))
  ]

  step_shut : (a : SiteView K) (o : Option Line) (answered : Answered) (b : SiteView K) → Answers (BookStep k) a o answered b → a.closed ≡ false
      → b.closed ≡ true → Shuts b o answered
  step_shut a (Some (Ask number request)) answered b h unclosed shut = came_shut a b number request answered h.0 h.1 h.2 unclosed shut
  step_shut a (Some (Left event)) answered b h unclosed shut = absurd (unshut a b h.0 unclosed shut)
  step_shut a (Some (Totals event)) answered b h unclosed shut = absurd (unshut a b h.0 unclosed shut)
  step_shut a (Some Quit) answered b h unclosed shut = absurd h
  step_shut a None answered b h unclosed shut = absurd (unshut a b h.1 unclosed shut)

  chain_shut : (a : SiteView K) (lines : List (List ℕ)) (answers : List Answered) (b : SiteView K) → Chain (BookStep k) a lines answers b
      → a.closed ≡ false → b.closed ≡ true
      → (number : ℕ) × (request : Request) × WasAnswered lines answers (Ask number request) (Refused ask.Store) × IsLeftAt k b number request
  chain_shut a [] [] b h unclosed shut = absurd (unshut a b h unclosed shut)
  chain_shut a (line ∷ lines) (x ∷ answers) b h unclosed shut = elim (is_either h.0.closed) [
    | inl still ↦ (
        let found = chain_shut h.0 lines answers b h.2 still shut in (
          found.0,
          found.1,
          record { place = suc found.2.place; line = found.2.line; stands = found.2.stands; asks = found.2.asks; given = found.2.given },
          found.3,
        ))
    | inr now ↦ (
        let found = step_shut a (session_line_of line) x h.0 h.1 unclosed now in
        let kept = chain_keeps (BookStep k) (IsShutBy found.0 found.1) (step_keeps (IsShutBy found.0 found.1) (came_left found.0 found.1)) h.0 lines
        answers b h.2 (now, found.4) in
        (found.0, found.1, record { place = 0; line = line; stands = refl; asks = found.2; given = ap (λ (given : Answered). Some given) found.3 }, kept.1))
  ]
  chain_shut a [] (x ∷ answers) b h unclosed shut = absurd h
  chain_shut a (line ∷ lines) [] b h unclosed shut = absurd h

  module _ (input old new : Option (List ℕ)) (a b : SiteView K) (r : Result Ended TalkFault) (t : Talked (BookStep k) input old new a b r) where
    -- what a request keeps, a session keeps
    pub talked_keeps : (P : SiteView K → Type 0)
        → ((a b : SiteView K) (number : ℕ) (request : Request) (came : Result Answer AskFault) → AskCall k a b number request came → P a → P b) → P a → P b
    talked_keeps P asked = chain_keeps (BookStep k) P (step_keeps P asked) a t.lines t.answers b t.chain

    -- its keeper is to be trusted behind it only where it was before
    pub talked_trusted : k.is_trusted b.keeper → k.is_trusted a.keeper
    talked_trusted = talked_keeps (λ s. k.is_trusted s.keeper → k.is_trusted a.keeper)
        (λ c d number request came h was trusted. was (h.call.trusted trusted)) (λ trusted. trusted)

    -- what closes it is a line that is answered `store`
    pub talked_shut : a.closed ≡ false → b.closed ≡ true
        → (number : ℕ) × (request : Request) × WasAnswered t.lines t.answers (Ask number request) (Refused ask.Store) × IsLeftAt k b number request
    talked_shut = chain_shut a t.lines t.answers b t.chain

    -- a stop leaves records of the same site
    pub talked_site : (meta : Meta) → (k.is_trusted a.keeper → k.is_of a.keeper meta) → k.is_trusted b.keeper → k.is_of b.keeper meta
    talked_site meta = talked_keeps (λ s. k.is_trusted s.keeper → k.is_of s.keeper meta)
        (λ c d number request came h was trusted. h.call.site trusted meta (was (h.call.trusted trusted)))
