-- What a session leaves of a seat.
use Rattle.std.proofs.Common.{◌≡◌, ◌⊎◌, inl, inr, ℕ, ◌+◌, ◌≤◌, Bool, true, false, List, [], ◌∷◌, ◌++◌, cond, map, length, nat_le, arith, Option, Some, None, Result, Ok, Err, refl, sym, ap, ◌∙◌, subst}
use Rattle.std.specs.Prelude.{All, IfErr, IfOk, MatchResult, OnErr, count_by, if◌then◌else◌}
use Rattle.std.specs.List.{flat_map}
use Rattle.std.proofs.lemmas.Bool.{le-leb}
use Rattle.std.proofs.lemmas.List.{append-nil, length-append, map-append}
use Rattle.std.proofs.lemmas.Grind.{flat_map-append}
use Rattle.std.proofs.lemmas.List.Elements.{All-pop, All-push}
use Rattle.std.proofs.lemmas.List.Sums.{sum_by-append, sum_by_push}
use Rattle.request_ledger.specs.declared.request.Request.{Request}
use Rattle.site_desk.specs.declared.answer.Answer.{Answer}
use Rattle.site_desk.specs.declared.answer.Seen.{Seen}
use Rattle.site_desk.specs.declared.fault.AskFault.{AskFault}
use Rattle.site_desk.specs.declared.receipt.Receipt.{Receipt}
use Rattle.site_desk.specs.Seats.{Held, held, parts_of, shares_of}
use Rattle.desk_lines.specs.declared.line.Line.{Line}
use Rattle.desk_lines.specs.declared.line.Line.TheVariants.{Ask, Left, Totals, Quit}
use Rattle.desk_lines.specs.declared.answered.Answered.{Answered}
use Rattle.desk_lines.specs.declared.answered.Answered.TheVariants.{Kept, LeftIs, TotalsAre, NotKnown, Refused, Unread}
use Rattle.session_server.specs.declared.fault.Ended.{Ended}
use Rattle.session_server.specs.declared.fault.TalkFault.{TalkFault}
use Rattle.session_server.specs.SeatStep.{MayBeTold, DeskStep, Telling, Seated, SeatStep, IsLookAt, IsRaisedAt, ShowsNothing, WhyNotShown, WhyRefused, seated, with_receipt}
use Rattle.session_server.specs.Finished.{given_since}
use Rattle.session_server.specs.Served.{Served}
use Rattle.session_server.specs.Session.{Answers, Talked}
use Rattle.session_server.proofs.Sessions.{chain_keeps, talked_less}

raised : (opening place : ℕ) (old new : Held) (fresh : Bool) → new ≡ held old.parts (if fresh then old.count + 1 else old.count)
    → (fresh ≡ true → opening + old.count ≤ place) → IsRaisedAt opening place old new
raised opening place old new true is at = inr (is, at refl)
raised opening place old new false is at = inl is

-- a desk answered the request, and gave its receipt
pub asked : (opening : ℕ) (old new : Seated) (number : ℕ) (request : Request) (answer : Answer) (receipt : Receipt) (seat : Held)
    → new ≡ with_receipt old seat receipt
    → receipt ≡ record { number = number; request = request; reply = answer.reply; place = answer.place }
    → seat ≡ held old.seat.parts (if answer.fresh then old.seat.count + 1 else old.seat.count)
    → (answer.fresh ≡ true → opening + old.seat.count ≤ answer.place) → SeatStep opening old (Ask number request) (Kept answer.reply) new
asked opening old new number request answer receipt seat is is_receipt is_seat place =
    (answer.place, seat, is ∙ ap (with_receipt old seat) is_receipt, raised opening answer.place old.seat seat answer.fresh is_seat place)

-- one receipt more, or one look more, that the desk may tell
pub receipt_told : (t : Telling) (old new : Seated) (receipt : Receipt) → new.receipts ≡ old.receipts ++ receipt ∷ [] → new.looks ≡ old.looks
    → t.receipts receipt → MayBeTold t old → MayBeTold t new
receipt_told t old new receipt more same is told =
    record {
      receipts = subst (All t.receipts) (sym more) (All-push t.receipts old.receipts receipt told.receipts is);
      looks = subst (All t.shows) (sym same) told.looks;
    }

pub look_told : (t : Telling) (old new : Seated) (seen : Seen) → new.receipts ≡ old.receipts → new.looks ≡ old.looks ++ seen ∷ [] → t.shows seen
    → MayBeTold t old → MayBeTold t new
look_told t old new seen same more is told =
    record {
      receipts = subst (All t.receipts) (sym same) told.receipts;
      looks = subst (All t.shows) (sym more) (All-push t.shows old.looks seen told.looks is);
    }

still_told : (t : Telling) (old new : Seated) → new.receipts ≡ old.receipts → new.looks ≡ old.looks → MayBeTold t old → MayBeTold t new
still_told t old new same still told = record { receipts = subst (All t.receipts) (sym same) told.receipts; looks = subst (All t.shows) (sym still) told.looks }

-- what holds of an error, if it is one
pub if_err : {T E : Type 0} (P : Result T E → Type 0) (result : Result T E) → P result → IfErr result (λ fault. P (Err fault))
if_err P (Ok x) h = tt
if_err P (Err fault) h = h

-- and what follows from one error
pub if_shut : {T E : Type 0} (store : E) (X : Type 0) (result : Result T E) → (result ≡ Err store → X) → IfErr result (λ fault. fault ≡ store → X)
if_shut store X (Ok x) h = tt
if_shut store X (Err fault) h = λ same. h (ap Err same)

pub both_if_err : {T E : Type 0} (P Q : E → Type 0) (result : Result T E) → IfErr result P → IfErr result Q → IfErr result (λ fault. P fault × Q fault)
both_if_err P Q (Ok x) h k = tt
both_if_err P Q (Err fault) h k = (h, k)

-- a request came to this, and its receipt, if it has one, was kept
pub asked_at_desk : (t : Telling) (opening : ℕ) (old new : Seated) (number : ℕ) (request : Request) (came : Result (Answer × Receipt) AskFault)
    (answered : Answered)
    → MatchResult came (λ r. answered ≡ Kept r.0.reply) (λ fault. answered ≡ Refused fault)
    → MatchResult came (λ r. new.receipts ≡ old.receipts ++ r.1 ∷ []) (λ _. new.receipts ≡ old.receipts) → new.looks ≡ old.looks
    → IfOk came (λ r. r.1 ≡ record { number = number; request = request; reply = r.0.reply; place = r.0.place })
    → IfOk came (λ r. new.seat ≡ held old.seat.parts (if r.0.fresh then old.seat.count + 1 else old.seat.count))
    → OnErr came (new.seat ≡ old.seat) → IfOk came (λ r. r.0.fresh ≡ true → opening + old.seat.count ≤ r.0.place) → IfOk came (λ r. t.receipts r.1)
    → IfErr came (t.refuses number request)
    → DeskStep t opening old (Ask number request) answered new
asked_at_desk t opening old new number request (Ok r) answered is more same receipt seat still place holds refused = record {
  step = subst (λ a. SeatStep opening old (Ask number request) a new) (sym is)
      (asked opening old new number request r.0 r.1 new.seat (λ i. seated new.seat (more i) (same i)) receipt seat place);
  why = subst (λ a. WhyRefused t (Ask number request) a) (sym is) tt;
  told = receipt_told t old new r.1 more same holds;
}
asked_at_desk t opening old new number request (Err fault) answered is more same receipt seat still place holds refused = record {
  step = subst (λ a. SeatStep opening old (Ask number request) a new) (sym is) (λ i. seated (still i) (more i) (same i));
  why = subst (λ a. WhyRefused t (Ask number request) a) (sym is) (inr refused);
  told = still_told t old new more same;
}

-- a look showed nothing
pub left_nothing : (t : Telling) (opening : ℕ) (old new : Seated) (event : List ℕ) (answered : Answered) → ShowsNothing answered → new ≡ old
    → WhyNotShown t event answered → (MayBeTold t old → MayBeTold t new)
    → DeskStep t opening old (Left event) answered new
left_nothing t opening old new event NotKnown none is why told = record { step = is; why = why; told = told }
left_nothing t opening old new event (Refused fault) none is why told = record { step = (none, is); why = why; told = told }
left_nothing t opening old new event (Kept reply) none is why told = absurd none
left_nothing t opening old new event (LeftIs left) none is why told = absurd none
left_nothing t opening old new event (TotalsAre totals) none is why told = absurd none
left_nothing t opening old new event Unread none is why told = absurd none

pub totals_nothing : (t : Telling) (opening : ℕ) (old new : Seated) (event : List ℕ) (answered : Answered) → ShowsNothing answered → new ≡ old
    → WhyNotShown t event answered → (MayBeTold t old → MayBeTold t new)
    → DeskStep t opening old (Totals event) answered new
totals_nothing t opening old new event NotKnown none is why told = record { step = is; why = why; told = told }
totals_nothing t opening old new event (Refused fault) none is why told = record { step = (none, is); why = why; told = told }
totals_nothing t opening old new event (Kept reply) none is why told = absurd none
totals_nothing t opening old new event (LeftIs left) none is why told = absurd none
totals_nothing t opening old new event (TotalsAre totals) none is why told = absurd none
totals_nothing t opening old new event Unread none is why told = absurd none

-- a session at a desk is one of a seat
pub of_desk : (t : Telling) (opening : ℕ) (input old new : Option (List ℕ)) (before after : Seated) (result : Result Ended TalkFault)
    → Talked (DeskStep t opening) input old new before after result → Talked (SeatStep opening) input old new before after result
of_desk t opening input old new before after result talked = talked_less (DeskStep t opening) (SeatStep opening) (λ a line x b h. h.step) input old new
    before after result talked

-- a seat that had been given nothing answered it, and what it was given is this
pub served_by : (opening : ℕ) (a b c a_now b_now : Option (List ℕ)) (before after : Seated) (seat : Held) (receipts : List Receipt) (looks : List Seen)
    (result : Result Ended TalkFault)
    → Talked (SeatStep opening) a b c before after result → before ≡ seated seat [] [] → a_now ≡ a → b_now ≡ b → receipts ≡ after.receipts
    → looks ≡ after.looks → Served a_now b_now c result receipts looks
served_by opening a b c a_now b_now before after seat receipts looks result talked is is_a is_b is_receipts is_looks =
    let with_none = subst (λ (s : Seated). Talked (SeatStep opening) a b c s after result) is talked in
    subst (λ (y : (Option (List ℕ) × Option (List ℕ)) × (List Receipt × List Seen)). Served y.0.0 y.0.1 c result y.1.0 y.1.1)
    (λ i. ((sym is_a i, sym is_b i), (sym is_receipts i, sym is_looks i))) (opening, seat, after.seat, with_none)

-- the seat is as it was, and what it was given too
abbrev IsStill : Seated → Seated → Type 0
IsStill old new = (new.seat ≡ old.seat) × (new.receipts ≡ old.receipts)

-- it was given a receipt
abbrev IsGiven : ℕ → Seated → Seated → Type 0
IsGiven opening old new = (place : ℕ) × (seat : Held) × (receipt : Receipt) × (new ≡ with_receipt old seat receipt) × (receipt.place ≡ place)
    × IsRaisedAt opening place old.seat seat

still : (old new : Seated) → new ≡ old → IsStill old new
still old new is = (ap (λ (s : Seated). s.seat) is, ap (λ (s : Seated). s.receipts) is)

looked : (opening : ℕ) (event : List ℕ) (old : Seated) (seen : Seen) (new : Seated) → IsLookAt opening event old seen new → IsStill old new
looked opening event old seen new h = (ap (λ (s : Seated). s.seat) h.0, ap (λ (s : Seated). s.receipts) h.0)

stepped : (opening : ℕ) (old : Seated) (line : Line) (answered : Answered) (new : Seated) → SeatStep opening old line answered new
    → IsStill old new ⊎ IsGiven opening old new
stepped opening old (Ask number request) (Kept reply) new h = inr
    (h.0, h.1, record { number = number; request = request; reply = reply; place = h.0 }, h.2, refl, h.3)
stepped opening old (Ask number request) (LeftIs left) new h = absurd h
stepped opening old (Ask number request) (TotalsAre totals) new h = absurd h
stepped opening old (Ask number request) NotKnown new h = absurd h
stepped opening old (Ask number request) (Refused fault) new h = inl (still old new h)
stepped opening old (Ask number request) Unread new h = absurd h
stepped opening old (Left event) (Kept reply) new h = absurd h
stepped opening old (Left event) (LeftIs left) new h = inl (looked opening event old h.0 new h.1)
stepped opening old (Left event) (TotalsAre totals) new h = absurd h
stepped opening old (Left event) NotKnown new h = inl (still old new h)
stepped opening old (Left event) (Refused fault) new h = inl (still old new h.1)
stepped opening old (Left event) Unread new h = absurd h
stepped opening old (Totals event) (Kept reply) new h = absurd h
stepped opening old (Totals event) (LeftIs left) new h = absurd h
stepped opening old (Totals event) (TotalsAre totals) new h = inl (looked opening event old h.0 new h.1)
stepped opening old (Totals event) NotKnown new h = inl (still old new h)
stepped opening old (Totals event) (Refused fault) new h = inl (still old new h.1)
stepped opening old (Totals event) Unread new h = absurd h
stepped opening old Quit (Kept reply) new h = absurd h
stepped opening old Quit (LeftIs left) new h = absurd h
stepped opening old Quit (TotalsAre totals) new h = absurd h
stepped opening old Quit NotKnown new h = inl (still old new h)
stepped opening old Quit (Refused fault) new h = absurd h
stepped opening old Quit Unread new h = absurd h

answered : (opening : ℕ) (old : Seated) (o : Option Line) (given : Answered) (new : Seated) → Answers (SeatStep opening) old o given new
    → IsStill old new ⊎ IsGiven opening old new
answered opening old (Some (Ask number request)) given new h = stepped opening old (Ask number request) given new h
answered opening old (Some (Left event)) given new h = stepped opening old (Left event) given new h
answered opening old (Some (Totals event)) given new h = stepped opening old (Totals event) given new h
answered opening old (Some Quit) given new h = absurd h
answered opening old None given new h = inl (still old new h.1)

-- ---- what a session leaves of the seat's parts and its share

raised_share : (opening place : ℕ) (old new : Held) → IsRaisedAt opening place old new
    → (new.parts ≡ old.parts) × (new.count ≤ old.count + cond (nat_le opening place) 1 0)
raised_share opening place old new (inl is) = let n = ap (λ (h : Held). h.count) is in (ap (λ (h : Held). h.parts) is, omega (arith, n))
raised_share opening place old new (inr is) =
    let n = ap (λ (h : Held). h.count) is.0 in
    let low : opening ≤ place = omega (arith, is.1) in
    (ap (λ (h : Held). h.parts) is.0, rw (le-leb opening place low) (omega (arith, n)))

given_push : (opening : ℕ) (receipts : List Receipt) (r : Receipt)
    → given_since opening (receipts ++ r ∷ []) ≡ given_since opening receipts + cond (nat_le opening r.place) 1 0
given_push opening receipts r = sum_by_push (λ x. cond (nat_le opening x.place) 1 0) receipts r

-- it has its parts, and no more was entered for it than it was given receipts of entries from the first place on
record Holds (opening : ℕ) (first now : Seated) : Type 0 where
  parts : now.seat.parts ≡ first.seat.parts
  share : now.seat.count + given_since opening first.receipts ≤ first.seat.count + given_since opening now.receipts

holds_still : (opening : ℕ) (first old new : Seated) → IsStill old new → Holds opening first old → Holds opening first new
holds_still opening first old new is h =
    let seat = ap (λ (s : Held). s.count) is.0 in
    let given = ap (given_since opening) is.1 in
    record { parts = ap (λ (s : Held). s.parts) is.0 ∙ h.parts; share = omega (arith, h.share, seat, given) }

holds_given : (opening : ℕ) (first old new : Seated) → IsGiven opening old new → Holds opening first old → Holds opening first new
holds_given opening first old new is h =
    let raised = raised_share opening is.0 old.seat is.1 is.5 in
    let seat = ap (λ (s : Seated). s.seat.count) is.3 in
    let at = ap {B = ℕ} (λ p. cond (nat_le opening p) 1 0) is.4 in
    let given = ap (λ (s : Seated). given_since opening s.receipts) is.3 ∙ given_push opening old.receipts is.2 in
    record { parts = ap (λ (s : Seated). s.seat.parts) is.3 ∙ raised.0 ∙ h.parts; share = omega (arith, h.share, raised.1, seat, given, at) }

holds_on : (opening : ℕ) (first old : Seated) (o : Option Line) (given : Answered) (new : Seated) → Answers (SeatStep opening) old o given new
    → Holds opening first old → Holds opening first new
holds_on opening first old o given new step h = elim (answered opening old o given new step) [
  | inl is ↦ holds_still opening first old new is h
  | inr is ↦ holds_given opening first old new is h
]

talked_holds : (opening : ℕ) (input old new : Option (List ℕ)) (before after : Seated) (result : Result Ended TalkFault)
    → Talked (SeatStep opening) input old new before after result → Holds opening before after
talked_holds opening input old new before after result t =
    chain_keeps (SeatStep opening) (Holds opening before) (holds_on opening before) before t.lines t.answers after t.chain
    (record { parts = refl; share = omega arith })

-- a seat that answered a session has the parts that it had
pub talked_parts : (opening : ℕ) (input old new : Option (List ℕ)) (before after : Seated) (result : Result Ended TalkFault) (first last : Held)
    → Talked (SeatStep opening) input old new before after result
    → before ≡ seated first [] [] → last ≡ after.seat → last.parts ≡ first.parts
talked_parts opening input old new before after result first last t is is_last =
    ap (λ (h : Held). h.parts) is_last ∙ (talked_holds opening input old new before after result t).parts ∙ ap (λ (s : Seated). s.seat.parts) is

-- and no more was entered for it than it was given receipts
pub talked_share : (opening : ℕ) (input old new : Option (List ℕ)) (before after : Seated) (result : Result Ended TalkFault) (first last : Held)
    (receipts : List Receipt) → Talked (SeatStep opening) input old new before after result
    → before ≡ seated first [] [] → last ≡ after.seat → receipts ≡ after.receipts → last.count ≤ first.count + given_since opening receipts
talked_share opening input old new before after result first last receipts t is is_last is_receipts =
    let share = (talked_holds opening input old new before after result t).share in
    let seat = ap (λ (s : Seated). s.seat.count) is in
    let none = ap (λ (s : Seated). given_since opening s.receipts) is in
    let left = ap (λ (h : Held). h.count) is_last in
    let given = ap (given_since opening) is_receipts in
    omega (arith, share, seat, none, left, given)

-- where one seat more came back, with the parts of the one that was handed in
pub parts_more : {E S : Type 0} (P : E → Type 0) (f : S → Held) (ends earlier : List E) (end : E) (seats before old : List Held) (seat : Held)
    (sessions rest : List S) (s : S)
    → ends ≡ earlier ++ end ∷ [] → seats ≡ before ++ seat ∷ [] → sessions ≡ rest ++ s ∷ []
    → (All P earlier → parts_of before ≡ parts_of old + parts_of (map f rest)) → seat.parts ≡ (f s).parts
    → All P ends → parts_of seats ≡ parts_of old + parts_of (map f sessions)
parts_more P f ends earlier end seats before old seat sessions rest s is_ends is_seats is_sessions so same all =
    let among = so (All-pop P ends earlier (Some end) is_ends all).0 in
    let behind = ap parts_of is_seats ∙ sum_by_push (λ (h : Held). h.parts) before seat in
    let handed = ap (λ l. parts_of (map f l)) is_sessions ∙ ap parts_of (map-append f rest (s ∷ [])) ∙ sum_by_push (λ (h : Held). h.parts) (map f rest) (f s) in
    omega (arith, among, behind, handed, same)

-- not all came back
pub one_lacks : {E X : Type 0} (P : E → Type 0) (ends earlier : List E) (end : E) → ends ≡ earlier ++ end ∷ [] → (P end → ⊥) → All P ends → X
one_lacks P ends earlier end is_ends none all = absurd (none (All-pop P ends earlier (Some end) is_ends all).1)

-- ---- as many came back as have their writer

pub seats_more : {E S : Type 0} (has : E → Bool) (ends earlier old_ends : List E) (end : E) (seats before old : List S) (seat : S)
    → ends ≡ earlier ++ end ∷ [] → seats ≡ before ++ seat ∷ []
    → length before + count_by has old_ends ≡ length old + count_by has earlier → has end ≡ true
    → length seats + count_by has old_ends ≡ length old + count_by has ends
seats_more has ends earlier old_ends end seats before old seat is_ends is_seats so told_yes =
    let behind = ap length is_seats ∙ length-append before (seat ∷ []) in
    let told = ap (count_by has) is_ends ∙ sum_by_push (λ x. cond (has x) 1 0) earlier end in
    let one = ap {B = ℕ} (λ p. cond p 1 0) told_yes in
    omega (arith, so, behind, told, one)

pub seats_lack : {E : Type 0} (has : E → Bool) (ends earlier old_ends : List E) (end : E) (after before : ℕ) → ends ≡ earlier ++ end ∷ []
    → after + count_by has old_ends ≡ before + count_by has earlier → has end ≡ false → after + count_by has old_ends ≡ before + count_by has ends
seats_lack has ends earlier old_ends end after before is_ends so told_no =
    let told = ap (count_by has) is_ends ∙ sum_by_push (λ x. cond (has x) 1 0) earlier end in
    let none = ap {B = ℕ} (λ p. cond p 1 0) told_no in
    omega (arith, so, told, none)

-- ---- shares and receipts of several

flat_push : {E : Type 0} (f : E → List Receipt) (earlier : List E) (end : E) → flat_map f (earlier ++ end ∷ []) ≡ flat_map f earlier ++ f end
flat_push f earlier end = flat_map-append f earlier (end ∷ []) ∙ ap (λ l. flat_map f earlier ++ l) (append-nil (f end))

receipts_push : {E : Type 0} (opening : ℕ) (f : E → List Receipt) (ends earlier : List E) (end : E) → ends ≡ earlier ++ end ∷ []
    → given_since opening (flat_map f ends) ≡ given_since opening (flat_map f earlier) + given_since opening (f end)
receipts_push opening f ends earlier end is =
    ap (λ l. given_since opening (flat_map f l)) is ∙ ap (given_since opening) (flat_push f earlier end)
    ∙ sum_by-append (λ r. cond (nat_le opening r.place) 1 0) (flat_map f earlier) (f end)

-- where one seat more came back, with no more entered for it than its session was given receipts
pub shares_more : {E S : Type 0} (opening : ℕ) (f : E → List Receipt) (g : S → Held) (ends earlier old_ends : List E) (end : E)
    (seats before old : List Held) (seat : Held) (sessions rest : List S) (s : S)
    → ends ≡ earlier ++ end ∷ [] → seats ≡ before ++ seat ∷ [] → sessions ≡ rest ++ s ∷ []
    → shares_of before + given_since opening (flat_map f old_ends) ≤ shares_of old + shares_of (map g rest) + given_since opening (flat_map f earlier)
    → seat.count ≤ (g s).count + given_since opening (f end)
    → shares_of seats + given_since opening (flat_map f old_ends) ≤ shares_of old + shares_of (map g sessions) + given_since opening (flat_map f ends)
shares_more opening f g ends earlier old_ends end seats before old seat sessions rest s is_ends is_seats is_sessions so share =
    let behind = ap shares_of is_seats ∙ sum_by_push (λ (h : Held). h.count) before seat in
    let handed = ap (λ l. shares_of (map g l)) is_sessions ∙ ap shares_of (map-append g rest (s ∷ []))
    ∙ sum_by_push (λ (h : Held). h.count) (map g rest) (g s) in
    omega (arith, so, share, behind, handed, receipts_push opening f ends earlier end is_ends)

-- where it did not
pub shares_lack : {E S : Type 0} (opening : ℕ) (f : E → List Receipt) (g : S → Held) (ends earlier old_ends : List E) (end : E) (seats old : List Held)
    (sessions rest : List S) (s : S)
    → ends ≡ earlier ++ end ∷ [] → sessions ≡ rest ++ s ∷ []
    → shares_of seats + given_since opening (flat_map f old_ends) ≤ shares_of old + shares_of (map g rest) + given_since opening (flat_map f earlier)
    → shares_of seats + given_since opening (flat_map f old_ends) ≤ shares_of old + shares_of (map g sessions) + given_since opening (flat_map f ends)
shares_lack opening f g ends earlier old_ends end seats old sessions rest s is_ends is_sessions so =
    let handed = ap (λ l. shares_of (map g l)) is_sessions ∙ ap shares_of (map-append g rest (s ∷ []))
    ∙ sum_by_push (λ (h : Held). h.count) (map g rest) (g s) in
    omega (arith, so, handed, receipts_push opening f ends earlier end is_ends)
