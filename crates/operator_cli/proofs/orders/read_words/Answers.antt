use Rattle.std.proofs.Common.{◌≡◌, inl, inr, List, [], ◌∷◌, map, true, Option, Some, None, refl, sym, ap, ◌∙◌, subst}
use Rattle.clap.specs.Words.{App, Row, Text, HasMatchesOf, Kinds, HasKind, fault_of, is_simple, is_simple_and_free, app_of, kind_of, subcommand_of, subcommand_rows_of}
use Rattle.clap.specs.declared.parser.matches.ArgMatches.{ArgMatches}
use Rattle.std.specs.Option.{option_map}
use Rattle.clap.proofs.OnLiterals.{clap_on_literals}
use Rattle.clap.specs.declared.error.Error.{Error}
use Rattle.clap.specs.declared.error.kind.ErrorKind.TheVariants.{OutOfMemory}
use Rattle.operator_cli.specs.declared.orders.WordsFault.{WordsFault}
use Rattle.operator_cli.specs.declared.orders.WordsFault.TheVariants.{NotUnderstood, Memory}
use Rattle.operator_cli.specs.declared.orders.Misfit.{Misfit}
use Rattle.operator_cli.specs.Orders.{boxoffice, AreUnderstood, IsWordsRefusal, TellsMisfit, misfit_in, misfit_line, order_in}
use Rattle.operator_cli.proofs.orders.read_words.Goals as goal

is_plain_and_free : is_simple_and_free boxoffice ≡ true
unfolding clap_on_literals
is_plain_and_free = refl

FailsAs : List Text → Error → App → Type 0
FailsAs words e a = is_simple_and_free a ≡ true → HasKind (fault_of a words) e

Passes : List Text → App → Type 0
Passes words a = is_simple_and_free a ≡ true → fault_of a words ≡ []

only_memory : (kinds : Kinds) (e : Error) → HasKind kinds e → kinds ≡ [] → kind_of e ≡ OutOfMemory
only_memory [] e (inl h) none = h
only_memory [] e (inr h) none = absurd h
only_memory (k ∷ kinds) e h none = absurd cc

-- words without a fault are refused only for want of memory
refused_for_memory : (a : App) (words : List Text) (fault : WordsFault) (e : Error) → a ≡ boxoffice → FailsAs words e a
    → (kind_of e ≡ OutOfMemory → fault ≡ Memory) → IsWordsRefusal words fault
unfolding FailsAs
refused_for_memory a words Memory e same fails memory = tt
refused_for_memory a words (NotUnderstood text) e same fails memory = λ taken.
    let kinds = subst (FailsAs words e) same fails in
    let bad = memory (only_memory (fault_of boxoffice words) e (kinds is_plain_and_free) taken) in
    absurd cc

understood : (a : App) (words : List Text) → a ≡ boxoffice → Passes words a → AreUnderstood words
unfolding Passes
understood a words same passes = let p = subst (Passes words) same passes in p is_plain_and_free

is_plain : is_simple boxoffice ≡ true
unfolding clap_on_literals
is_plain = refl

Meets : List Text → ArgMatches → App → Type 0
Meets words m a = HasMatchesOf a words m

-- the subcommand that was met
met : (a : App) (words : List Text) (m : ArgMatches) → a ≡ boxoffice → Meets words m a → subcommand_rows_of m ≡ subcommand_of boxoffice words
unfolding Meets
met a words m same meets = let has = subst (Meets words m) same meets in (has is_plain).1

-- words that meet no order are refused by the first value that does not fit
refused_misfit : (words : List Text) (fault : WordsFault) (misfit : Misfit) (rows : Option (Text × List Row)) → rows ≡ subcommand_of boxoffice words
    → order_in rows ≡ None → misfit_in rows ≡ Some misfit
    → TellsMisfit misfit fault → IsWordsRefusal words fault
refused_misfit words Memory misfit rows same none found tells = tt
refused_misfit words (NotUnderstood text) misfit rows same none found tells = λ _. (
  ap order_in (sym same) ∙ none,
  ap (λ (r : Option (Text × List Row)). option_map misfit_line (misfit_in r)) (sym same) ∙ ap (option_map misfit_line) found ∙ ap Some (sym tells),
)

pub returns-in-Ok-order_of-clause-order : goal.returns-in-Ok-order_of-clause-order
unfolding Meets
returns-in-Ok-order_of-clause-order c =
    ap order_in (sym (met (app_of c.in-Ok.command) (map (λ w. w.now) c.args.words.now) c.in-Ok-try_get_matches_from.matches c.in-Ok.ensures
    c.in-Ok-try_get_matches_from.ensures.matches)) ∙ c.in-Ok-order_of.ensures.order

pub returns-clause-refusal : goal.returns-clause-refusal
unfolding Meets
returns-clause-refusal c =
    refused_misfit (map (λ w. w.now) c.args.words.now) c.misfit_told.result c.in-Err-order_of.misfit (subcommand_rows_of c.in-Ok-try_get_matches_from.matches)
    (met (app_of c.in-Ok.command) (map (λ w. w.now) c.args.words.now) c.in-Ok-try_get_matches_from.matches c.in-Ok.ensures
    c.in-Ok-try_get_matches_from.ensures.matches)
    c.in-Err-order_of.ensures.order c.in-Err-order_of.ensures.misfit c.misfit_told.ensures

pub returns-in-Err-clause-refusal : goal.returns-in-Err-clause-refusal
unfolding FailsAs
returns-in-Err-clause-refusal c =
    refused_for_memory (app_of c.in-Ok.command) (map (λ w. w.now) c.args.words.now) c.not_understood.result c.in-Err.error c.in-Ok.ensures
    c.in-Err.ensures.kinds c.not_understood.ensures

pub returns-in-Ok-order_of-clause-understood : goal.returns-in-Ok-order_of-clause-understood
unfolding Passes
returns-in-Ok-order_of-clause-understood c =
    understood (app_of c.in-Ok.command) (map (λ w. w.now) c.args.words.now) c.in-Ok.ensures c.in-Ok-try_get_matches_from.ensures.kinds
