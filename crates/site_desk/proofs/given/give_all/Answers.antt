use Rattle.std.proofs.Common.{◌≡◌, ℕ, ◌+◌, ◌<◌, Result, List, [], ◌∷◌, ◌++◌, map, take, length, get_or, cond, sym, ap, subst, ◌∙◌, arith}
use Rattle.std.proofs.lemmas.List.{map-append, take_more}
use Rattle.std.proofs.lemmas.List.Sums.{sum_by_push}
use Rattle.std.specs.List.{AllZip}
use Rattle.site_desk.specs.declared.answer.Answer.{Answer}
use Rattle.site_desk.specs.declared.fault.AskFault.{AskFault}
use Rattle.site_desk.specs.declared.receipt.Receipt.{Receipt}
use Rattle.site_desk.specs.Batch.{fresh_in, is_fresh}
use Rattle.site_desk.specs.Calls.{answer_in}
use Rattle.site_desk.specs.Finish.{HasItsReceipt}
use Rattle.site_desk.proofs.given.give_all.Goals as goal

zip_push : {A B : Type 0} (R : A → B → Type 0) (xs : List A) (ys : List B) (x : A) (y : B) → AllZip R xs ys → R x y → AllZip R (xs ++ x ∷ []) (ys ++ y ∷ [])
zip_push R [] [] x y all is = (is, tt)
zip_push R [] (b ∷ ys) x y all is = absurd all
zip_push R (a ∷ xs) [] x y all is = absurd all
zip_push R (a ∷ xs) (b ∷ ys) x y all is = (all.0, zip_push R xs ys x y all.1 is)

answers_next : (answers : List (Result Answer AskFault)) (given : List (Result (Answer × Receipt) AskFault)) (k m : ℕ)
    (g : Result (Answer × Receipt) AskFault) (d : Result Answer AskFault) → m ≡ k → k < length answers
    → map answer_in given ≡ take k answers → answer_in g ≡ get_or answers m d → map answer_in (given ++ g ∷ []) ≡ take (k + 1) answers
answers_next answers given k m g d at within before is = map-append answer_in given (g ∷ [])
    ∙ (λ i. before i ++ (is ∙ ap (λ n. get_or answers n d) at) i ∷ []) ∙ sym (take_more answers k d within)

fresh_next : (answers : List (Result Answer AskFault)) (k m fresh one : ℕ) (d : Result Answer AskFault) → m ≡ k → k < length answers
    → fresh ≡ fresh_in (take k answers) → one ≡ cond (is_fresh (get_or answers m d)) 1 0
    → fresh + one ≡ fresh_in (take (k + 1) answers)
fresh_next answers k m fresh one d at within before is =
    (λ i. before i + (is ∙ ap (λ n. cond (is_fresh (get_or answers n d)) 1 0) at) i)
    ∙ sym (ap fresh_in (take_more answers k d within) ∙ sum_by_push (λ a. cond (is_fresh a) 1 0) (take k answers) (get_or answers k d))

pub loop-asked-preserved : goal.loop-asked-preserved
loop-asked-preserved c =
    let before = c.loop-asked.invariant in
    let k = c.loop-asked.asked-index in
    let requests = c.args.requests.now in
    let answers = c.args.answers.now in
    let at : c.len.result ≡ k = c.len.ensures ∙ before.count in
    let within : k < length answers = omega (arith, c.loop-asked-test.true, c.requires.as_many) in
    let request = c.asked-item.result in
    record {
      count = omega (arith, c.push_reserved.ensures.len, before.count);
      room = c.push_reserved.ensures.capacity ∙ before.room;
      answers = ap (map answer_in) c.push_reserved.ensures.items
          ∙ answers_next answers c.loop-asked.given.items k c.len.result c.with_receipt.result _ at within before.answers c.with_receipt.ensures.answer;
      receipts = subst (λ xs. AllZip HasItsReceipt xs c.push_reserved.new.self.items)
          (sym (take_more requests k request c.loop-asked-test.true ∙ ap (λ r. take k requests ++ r ∷ []) (sym c.asked-item.is)))
          (subst (AllZip HasItsReceipt (take k requests ++ request ∷ [])) (sym c.push_reserved.ensures.items)
          (zip_push HasItsReceipt (take k requests) c.loop-asked.given.items request c.with_receipt.result before.receipts c.with_receipt.ensures.receipt));
      fresh = fresh_next answers k c.len.result c.loop-asked.fresh c.freshness-fresh.result _ at within before.fresh c.freshness-fresh.ensures.is;
      few = omega (arith, before.few, c.freshness-fresh.ensures.few);
    }
