use Rattle.plain_words.proofs.WordLaws.{nil_from_none, cons_from_some}
use Rattle.plain_words.proofs.words.Words.is_empty.Goals as goal

pub returns-in-None : goal.returns-in-None
returns-in-None c = nil_from_none c.self.inside.rest _ c.self.view_is c.in-None.is

pub returns-in-Some : goal.returns-in-Some
returns-in-Some c = cons_from_some c.self.inside.rest _ c.in-Some.field-0 c.self.view_is c.in-Some.is
