use Rattle.std.proofs.Common.{rules}
use Rattle.std.proofs.lemmas.List.{take_rest}
use Rattle.plain_words.proofs.WordLaws.{first_word_last, first_word_cut}
use Rattle.plain_words.proofs.words.Words.next.Goals as goal

pub returns-in-None-clause-first : goal.returns-in-None-clause-first
returns-in-None-clause-first c = first_word_last c.self.inside.rest _ c.in-Some.bytes c.self.view_is c.in-Some.is (search rules)

pub returns-in-Some-first_space-clause-first : goal.returns-in-Some-first_space-clause-first
returns-in-Some-first_space-clause-first c =
    rw take_rest (first_word_cut c.self.inside.rest _ c.in-Some.bytes c.in-Some-first_space.at c.self.view_is c.in-Some.is (search rules))
