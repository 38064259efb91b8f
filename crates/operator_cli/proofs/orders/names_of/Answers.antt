use Rattle.std.proofs.Common.{◌≡◌, ℕ, ◌≤◌, ◌<◌, true, false, cond, List, [], ◌∷◌, Bor, Some, None, length, arith, refl, sym, ap, ◌∙◌}
use Rattle.std.specs.Prelude.{nat_le}
use Rattle.std.proofs.lemmas.Bool.Decides.{nat_tests}
use Rattle.clap.specs.Words.{Text}
use Rattle.operator_cli.specs.Orders.{at_most, texts_of}
use Rattle.operator_cli.proofs.orders.names_of.Goals as goal

length-texts : (words : List (Bor Text)) → length (texts_of words) ≡ length words
length-texts [] = refl
length-texts (word ∷ words) = let rest = length-texts words in omega (arith, rest)

few : (most : ℕ) (words : List (Bor Text)) → length words ≤ most → Some (texts_of words) ≡ at_most most (texts_of words)
few most words l =
    let same = length-texts words in
    let fits : nat_le (length (texts_of words)) most ≡ true = grind (arith, nat_tests) in
    ap (λ b. cond b (Some (texts_of words)) None) (sym fits)

many : (most : ℕ) (words : List (Bor Text)) → most < length words → None ≡ at_most most (texts_of words)
many most words l =
    let same = length-texts words in
    let over : nat_le (length (texts_of words)) most ≡ false = grind (arith, nat_tests) in
    ap (λ b. cond b (Some (texts_of words)) None) (sym over)

pub returns-then-words-most : goal.returns-then-words-most
returns-then-words-most c = many c.args.most c.args.words.now c.if-words-most.true

pub returns-in-Ok : goal.returns-in-Ok
returns-in-Ok c =
    ap (λ (xs : List (Bor Text)). Some (texts_of xs)) c.in-Ok.ensures.0 ∙ few c.args.most c.args.words.now c.if-words-most.false

pub returns-in-Err : goal.returns-in-Err
returns-in-Err c = absurd (omega (arith, c.in-Err.ensures, c.if-words-most.false, c.requires))
