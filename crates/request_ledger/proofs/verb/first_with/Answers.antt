use Rattle.std.proofs.Common.{rules, tests}
use Rattle.std.specs.Str.{bytes_eq}
use Rattle.std.proofs.lemmas.Iterator.{YieldsList-from_slice}
use Rattle.std.proofs.lemmas.Iterator.Search.{find_from_yields_List}
use Rattle.request_ledger.specs.Words.{verb_word}
use Rattle.request_ledger.proofs.verb.first_with.Goals as goal

pub returns : goal.returns
returns c =
    let e = find_from_yields_List (λ v. bytes_eq c.args.word.now (verb_word v)) _ _ c.find.result c.find.ensures.ran
    (YieldsList-from_slice c.args.verbs.now cc) (λ x b q k. search (rules, tests)) in
    cc
