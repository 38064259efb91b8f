-- A script, line by line.
use Rattle.std.proofs.Common.{◌≡◌, ℕ, suc, ◌+◌, ◌-◌, ◌<◌, ◌≤◌, Bool, true, false, List, [], ◌∷◌, ◌++◌, length, Option, Some, None, Result, Ok, Err, refl, sym, ap, subst, ◌∙◌, arith, append_assoc, append-nil, length-append, inl, inr, codes, lit<}
use Rattle.std.specs.Prelude.{IfSome, IsErrAnd}
use Rattle.std.specs.List.{join_with_byte}
use Rattle.std.specs.Io.KnownBytes.{Appends, Keeps}
use Rattle.std.proofs.KnownBytes.{Appends-trans, Appends-nil, Appends-kept, Keeps-refl}
use Rattle.std.proofs.lemmas.Bool.{cases_lt}
use Rattle.plain_words.specs.Input.{longest_line, lines_of, Between, BeginsTooLong, LineGives, InputEnd, AtEnd, AtLongLine, AtTooMany, TakenLines, taken, with_line, none_taken}
use Rattle.plain_words.specs.Writing.{AppendsFront, Writes}
use Rattle.plain_words.specs.declared.lines.LineFault.{LineFault}
use Rattle.plain_words.specs.declared.lines.LineFault.TheVariants as line_fault
use Rattle.plain_words.proofs.TextLaws.{all_end}
use Rattle.plain_words.proofs.LineLaws.{AreShort, read-push, put_before, taken-nil, taken-line, taken-long, taken-too-many, taken-behind, taken-whole}
use Rattle.plain_words.proofs.WriteLaws.{AppendsFront-after, AppendsFront-longer, AppendsFront-whole, AppendsFront-nothing, AppendsFront-kept}
use Rattle.world_steps.specs.World.{World, opening}
use Rattle.operator_cli.specs.declared.fault.ScriptFault.{ScriptFault}
use Rattle.operator_cli.specs.declared.fault.ScriptFault.TheVariants as fault
use Rattle.rights_lattice.specs.Limits.{most_sites}
use Rattle.book_core.specs.Limits.{greatest_limit}
use Rattle.desk_lines.specs.Grammar.{most_lines, IsSites, sites_words}
use Rattle.desk_lines.specs.Reading.{line_of, sites_from_line, limit_from_line}
use Rattle.desk_lines.specs.ScriptReplies.{script_reply_line}
use Rattle.operator_cli.specs.Answering.{answer_to}
use Rattle.operator_cli.specs.Faults.{IsOutFault, of_line_fault}
use Rattle.operator_cli.specs.Script.{answers, world_behind, replies_and_totals, opened_by, replies_at, run_at, replies_started, run_started, replies, total_lines, bad_line, script, script_of_lines}
use Rattle.operator_cli.specs.Ran.{StartsWell, MayGoOn, AnyLines, printed, EndsEarly, NextRan, AllAnswered, RestRan, OpensWorld, OpenRan, SecondRan, SitesRan, StartRan, ScriptRan}
use Rattle.desk_lines.proofs.ReadingLaws.{named_takes}

-- the exit of a `?`
pub at_err : {T E : Type 0} (r : Result T E) (C : Result T E → Type 0) (Q : E → Type 0) → IsErrAnd r Q → ((e : E) → Q e → C (Err e)) → C r
at_err (Ok x) C Q h k = absurd h
at_err (Err e) C Q h k = k e h

-- ---- faults

abbrev Lines : Type 0
Lines = List (List ℕ)

abbrev Text : Type 0
Text = List ℕ

-- a line that could not be read, before any other
pub line_broken : (goes : Lines → Type 0) (some whole : Lines → Text) (a b : Option Text) (line : Text) (f : LineFault) → goes [] → some [] ≡ []
    → LineGives a b line (Err f)
    → IfSome a (λ xs. (more : ℕ) (out : Option Text) → EndsEarly goes some whole (taken (suc more) (lines_of xs)) out out (of_line_fault f))
line_broken goes some whole None b line f start none h = tt
line_broken goes some whole (Some x) b line line_fault.Read start none h = λ more out.
    ([], (taken (suc more) (lines_of x)).lines, refl, start, subst (Appends out out) (sym none) (Appends-nil out))
line_broken goes some whole (Some x) None line line_fault.LineTooLong start none h = absurd h.1
line_broken goes some whole (Some x) (Some y) line line_fault.LineTooLong start none h = λ more out.
    subst (λ (t : TakenLines). EndsEarly goes some whole t out out fault.LineTooLong) (sym (taken-long more (lines_of x) h.1))
    (refl, start, subst (Appends out out) (sym none) (Appends-nil out))

pub next_unread : (w : World) (a b old : Option Text) (line : Text) (f : LineFault) → LineGives a b line (Err f)
    → IfSome a (λ xs. (more : ℕ) → EndsEarly AnyLines (answers w) (replies_and_totals w) (taken (suc more) (lines_of xs)) old old (of_line_fault f))
next_unread w None b old line f h = tt
next_unread w (Some x) b old line f h = λ more. line_broken AnyLines (answers w) (replies_and_totals w) (Some x) b line f tt refl h more old

pub sites_unread : (most sites : ℕ) (a b old : Option Text) (line : Text) (f : LineFault) → LineGives a b line (Err f)
    → SitesRan (suc most) sites a old old (Err (of_line_fault f))
sites_unread most sites None b old line f h = tt
sites_unread most sites (Some x) b old line f h = line_broken AnyLines (replies_at sites) (run_at sites) (Some x) b line f tt refl h most old

-- writing or memory failed
pub out_broken : (goes : Lines → Type 0) (some whole : Lines → Text) (t : TakenLines) (old new : Option Text) (f : ScriptFault) → IsOutFault f
    → AppendsFront old new (printed t.end some whole t.lines) → EndsEarly goes some whole t old new f
out_broken goes some whole t old new fault.Write h p = p
out_broken goes some whole t old new fault.Memory h p = p
out_broken goes some whole t old new fault.Read h p = absurd h
out_broken goes some whole t old new fault.LineTooLong h p = absurd h
out_broken goes some whole t old new fault.TooManyLines h p = absurd h

printed_after : (end : InputEnd) (some whole some' whole' : Lines → Text) (text : Text) (lines : Lines) → ((l : Lines) → some' l ≡ text ++ some l)
    → ((l : Lines) → whole' l ≡ text ++ whole l) → printed end some' whole' lines ≡ text ++ printed end some whole lines
printed_after AtEnd some whole some' whole' text lines s w = w lines
printed_after AtLongLine some whole some' whole' text lines s w = s lines
printed_after AtTooMany some whole some' whole' text lines s w = s lines

-- a fault behind what went out before
pub after_text : (goes : Lines → Type 0) (some whole some' whole' : Lines → Text) (t : TakenLines) (text : Text) (old mid new : Option Text) (f : ScriptFault)
    → ((l : Lines) → some' l ≡ text ++ some l) → ((l : Lines) → whole' l ≡ text ++ whole l) → Appends old mid text → EndsEarly goes some whole t mid new f
    → EndsEarly goes some' whole' t old new f
after_text goes some whole some' whole' t text old mid new fault.Read s w p e
    = (e.0, e.1, e.2, e.3, subst (Appends old new) (sym (s e.0)) (Appends-trans old mid new text (some e.0) p e.4))
after_text goes some whole some' whole' t text old mid new fault.LineTooLong s w p e
    = (e.0, e.1, subst (Appends old new) (sym (s t.lines)) (Appends-trans old mid new text (some t.lines) p e.2))
after_text goes some whole some' whole' t text old mid new fault.TooManyLines s w p e
    = (e.0, e.1, subst (Appends old new) (sym (s t.lines)) (Appends-trans old mid new text (some t.lines) p e.2))
after_text goes some whole some' whole' t text old mid new fault.Write s w p e = subst (AppendsFront old new)
    (sym (printed_after t.end some whole some' whole' text t.lines s w)) (AppendsFront-after old mid new text _ p e)
after_text goes some whole some' whole' t text old mid new fault.Memory s w p e = subst (AppendsFront old new)
    (sym (printed_after t.end some whole some' whole' text t.lines s w)) (AppendsFront-after old mid new text _ p e)

printed_behind : (end : InputEnd) (some whole : Lines → Text) (front lines : Lines)
    → printed end (λ l. some (front ++ l)) (λ l. whole (front ++ l)) lines ≡ printed end some whole (front ++ lines)
printed_behind AtEnd some whole front lines = refl
printed_behind AtLongLine some whole front lines = refl
printed_behind AtTooMany some whole front lines = refl

-- a fault behind lines that were read before
pub behind_lines : (goes goes' : Lines → Type 0) (some whole : Lines → Text) (front : Lines) (t : TakenLines) (old new : Option Text) (f : ScriptFault)
    → ((l : Lines) → goes l → goes' (front ++ l))
    → EndsEarly goes (λ l. some (front ++ l)) (λ l. whole (front ++ l)) t old new f → EndsEarly goes' some whole (put_before front t) old new f
behind_lines goes goes' some whole front t old new fault.Read g e = (
  front ++ e.0,
  e.1,
  ap (λ (l : Lines). front ++ l) e.2
      ∙ sym (append_assoc front e.0 e.1),
  g e.0 e.3,
  e.4,
)
behind_lines goes goes' some whole front t old new fault.LineTooLong g e = (e.0, g t.lines e.1, e.2)
behind_lines goes goes' some whole front t old new fault.TooManyLines g e = (e.0, g t.lines e.1, e.2)
behind_lines goes goes' some whole front t old new fault.Write g e = subst (AppendsFront old new) (printed_behind t.end some whole front t.lines) e
behind_lines goes goes' some whole front t old new fault.Memory g e = subst (AppendsFront old new) (printed_behind t.end some whole front t.lines) e

always : (front lines : Lines) → AnyLines lines → AnyLines (front ++ lines)
always front lines h = tt

-- a front of the replies is one of all that is printed
printed_longer : (end : InputEnd) (some whole : Lines → Text) (lines : Lines) (rest : Text) (a b : Option Text) → whole lines ≡ some lines ++ rest
    → AppendsFront a b (some lines) → AppendsFront a b (printed end some whole lines)
printed_longer AtEnd some whole lines rest a b e p = subst (AppendsFront a b) (sym e) (AppendsFront-longer a b (some lines) rest p)
printed_longer AtLongLine some whole lines rest a b e p = p
printed_longer AtTooMany some whole lines rest a b e p = p

-- ---- one line

-- a reply line that went out in part
pub reply_broken : (a b old new : Option Text) (w : World) (line : Text) (f : ScriptFault) → length line ≤ longest_line
    → Between a b (λ xs ys. lines_of xs ≡ line ∷ lines_of ys)
    → AppendsFront old new (script_reply_line (answer_to w (line_of line)).0) → IsOutFault f
    → IfSome a (λ xs. (more : ℕ) → EndsEarly AnyLines (answers w) (replies_and_totals w) (taken (suc more) (lines_of xs)) old new f)
reply_broken None b old new w line f short p q h = tt
reply_broken (Some x) None old new w line f short p q h = absurd p
reply_broken (Some x) (Some y) old new w line f short p q h = λ more.
    let t = taken more (lines_of y) in
    let front = AppendsFront-longer old new (script_reply_line (answer_to w (line_of line)).0) (answers (answer_to w (line_of line)).1 t.lines) q in
    subst (λ (u : TakenLines). EndsEarly AnyLines (answers w) (replies_and_totals w) u old new f)
    (sym (ap (taken (suc more)) p ∙ taken-line more line (lines_of y) short))
    (out_broken AnyLines (answers w) (replies_and_totals w) (with_line line t) old new f h
    (printed_longer t.end (answers w) (replies_and_totals w) (line ∷ t.lines) (total_lines (world_behind w (line ∷ t.lines))) old new refl front))

-- ---- the first line

pub start_none : (a b : Option Text) → Between a b (λ xs ys. (lines_of xs ≡ []) × (lines_of ys ≡ [])) → StartRan a b (Ok None)
start_none None b p = tt
start_none (Some x) None p = absurd p
start_none (Some x) (Some y) p = (λ w. subst StartsWell p.0 w, λ w. subst BeginsTooLong p.0 w)

not_too_long : (line : Text) (lines : Lines) → length line ≤ longest_line → BeginsTooLong (line ∷ lines) → ⊥
not_too_long line lines short long = absurd (omega arith)

pub start_ran : (a b : Option Text) (line : Text) (r : Option ℕ) → length line ≤ longest_line → Between a b (λ xs ys. lines_of xs ≡ line ∷ lines_of ys)
    → IfSome r (λ n. IsSites n × (line ≡ join_with_byte 32 (sites_words n)))
    → ((n : ℕ) → IsSites n → line ≡ join_with_byte 32 (sites_words n) → r ≡ Some n) → r ≡ sites_from_line line
    → StartRan a b (Ok r)
start_ran None b line None short p found only exact = tt
start_ran None b line (Some n) short p found only exact = tt
start_ran (Some x) None line None short p found only exact = absurd p
start_ran (Some x) None line (Some n) short p found only exact = absurd p
start_ran (Some x) (Some y) line None short p found only exact =
    (λ w. let v = subst StartsWell p w in absurd (let e = only v.0 v.1 v.2 in cc), λ w. not_too_long line (lines_of y) short (subst BeginsTooLong p w))
start_ran (Some x) (Some y) line (Some n) short p found only exact = (line, p, short, sym exact, subst StartsWell (sym p) (n, found.0, found.1))

-- ---- the lines behind the second

answers-append : (w : World) (front lines : Lines) → answers w (front ++ lines) ≡ answers w front ++ answers (world_behind w front) lines
answers-append w [] lines = refl
answers-append w (line ∷ front) lines =
    let reply = script_reply_line (answer_to w (line_of line)).0 in
    let next = (answer_to w (line_of line)).1 in
    ap (λ (t : Text). reply ++ t) (answers-append next front lines) ∙ sym (append_assoc reply (answers next front) (answers (world_behind next front) lines))

world_behind-append : (w : World) (front lines : Lines) → world_behind w (front ++ lines) ≡ world_behind (world_behind w front) lines
world_behind-append w [] lines = refl
world_behind-append w (line ∷ front) lines = world_behind-append (answer_to w (line_of line)).1 front lines

replies_and_totals-append : (w : World) (front lines : Lines)
    → replies_and_totals w (front ++ lines) ≡ answers w front ++ replies_and_totals (world_behind w front) lines
replies_and_totals-append w front lines =
    (λ i. answers-append w front lines i ++ total_lines (world_behind-append w front lines i))
    ∙ append_assoc (answers w front) (answers (world_behind w front) lines) (total_lines (world_behind (world_behind w front) lines))

-- the answers to lines that follow those that led to this world
pub answered : (start now : World) (front : Lines) → now ≡ world_behind start front → (lines : Lines)
    → answers start (front ++ lines) ≡ answers start front ++ answers now lines
answered start now front made lines = answers-append start front lines ∙ ap (λ (w : World). answers start front ++ answers w lines) (sym made)

-- what was read and written so far
pub record SoFar (input rest old new : Option Text) (start now : World) (count : ℕ) : Type 0 where
  pub lines : Lines
  pub counted : length lines ≡ count
  pub short : AreShort lines
  pub read : Between input rest (λ xs ys. lines_of xs ≡ lines ++ lines_of ys)
  pub written : Appends old new (answers start lines)
  pub made : now ≡ world_behind start lines

pub same_input : (o : Option Text) → Between o o (λ xs ys. lines_of xs ≡ lines_of ys)
same_input None = tt
same_input (Some xs) = refl

pub begins : (input old : Option Text) (start : World) → SoFar input input old old start start 0
begins input old start = record { lines = []; counted = refl; short = tt; read = same_input input; written = Appends-nil old; made = refl }

pub goes_on : (input rest rest' old new new' : Option Text) (start mid now : World) (count : ℕ) → SoFar input rest old new start mid count
    → NextRan rest rest' new new' mid now (Ok true)
    → SoFar input rest' old new' start now (count + 1)
goes_on input rest rest' old new new' start mid now count h k =
    let reply : World → Text = λ w. script_reply_line (answer_to w (line_of k.0)).0 in
    let text : answers start (h.lines ++ k.0 ∷ []) ≡ answers start h.lines ++ reply mid =
    answers-append start h.lines (k.0 ∷ []) ∙ ap (λ (w : World). answers start h.lines ++ (reply w ++ [])) (sym h.made)
    ∙ ap (λ (t : Text). answers start h.lines ++ t) (append-nil (reply mid)) in
    record {
      lines = h.lines ++ k.0 ∷ [];
      counted = omega (arith, length-append h.lines (k.0 ∷ []), h.counted);
      short = all_end (λ line. length line ≤ longest_line) h.lines k.0 h.short k.1;
      read = read-push input rest rest' h.lines k.0 h.read k.2;
      written = subst (Appends old new') (sym text) (Appends-trans old new new' (answers start h.lines) (reply mid) h.written k.3);
      made = k.4 ∙ ap (λ (w : World). (answer_to w (line_of k.0)).1) h.made ∙ sym (world_behind-append start h.lines (k.0 ∷ []));
    }

-- what is taken of an input behind the lines that were read
taken_after : (most more : ℕ) (xs ys lines : Lines) (count : ℕ) → xs ≡ lines ++ ys → AreShort lines → length lines ≡ count → most ≡ count + more
    → taken most xs ≡ put_before lines (taken more ys)
taken_after most more xs ys lines count read short counted most_is =
    (λ i. taken ((most_is ∙ ap (λ (n : ℕ). n + more) (sym counted)) i) (read i)) ∙ taken-behind more lines ys short

-- a fault behind the lines so far
broken_after : (most more : ℕ) (x y : Text) (old new new' : Option Text) (start now : World) (count : ℕ) (f : ScriptFault)
    → SoFar (Some x) (Some y) old new start now count → most ≡ count + more
    → EndsEarly AnyLines (answers now) (replies_and_totals now) (taken more (lines_of y)) new new' f
    → EndsEarly AnyLines (answers start) (replies_and_totals start) (taken most (lines_of x)) old new' f
broken_after most more x y old new new' start now count f h most_is e =
    let some = answered start now h.lines h.made in
    let whole : (l : Lines) → replies_and_totals start (h.lines ++ l) ≡ answers start h.lines ++ replies_and_totals now l = λ l.
    replies_and_totals-append start h.lines l ∙ ap (λ (w : World). answers start h.lines ++ replies_and_totals w l) (sym h.made) in
    subst (λ (t : TakenLines). EndsEarly AnyLines (answers start) (replies_and_totals start) t old new' f)
    (sym (taken_after most more (lines_of x) (lines_of y) h.lines count h.read h.short h.counted most_is))
    (behind_lines AnyLines AnyLines (answers start) (replies_and_totals start) h.lines (taken more (lines_of y)) old new' f (always h.lines)
    (after_text AnyLines (answers now) (replies_and_totals now) (λ l. answers start (h.lines ++ l)) (λ l. replies_and_totals start (h.lines ++ l))
    (taken more (lines_of y)) (answers start h.lines) old new new' f some whole h.written e))

-- a fault at the next line
pub breaks_off : (most : ℕ) (input rest old new new' : Option Text) (start now : World) (count : ℕ) (f : ScriptFault)
    → SoFar input rest old new start now count → count < most
    → IfSome rest (λ ys. (more : ℕ) → EndsEarly AnyLines (answers now) (replies_and_totals now) (taken (suc more) (lines_of ys)) new new' f)
    → RestRan most input old new' start now (Err f)
breaks_off most None rest old new new' start now count f h lt k = tt
breaks_off most (Some x) None old new new' start now count f h lt k = absurd h.read
breaks_off most (Some x) (Some y) old new new' start now count f h lt k = broken_after most (suc (most - count - 1)) x y old new new' start now count f h
    (omega (arith, lt)) (k (most - count - 1))

-- the reader failed, and it is not known whether another line is there
pub unknown_more : (most : ℕ) (input rest old new : Option Text) (start now : World) → SoFar input rest old new start now most
    → RestRan most input old new start now (Err fault.Read)
unknown_more most None rest old new start now h = tt
unknown_more most (Some x) None old new start now h = absurd h.read
unknown_more most (Some x) (Some y) old new start now h =
    broken_after most 0 x y old new new start now most fault.Read h (omega arith) ([], (taken 0 (lines_of y)).lines, refl, tt, Appends-nil new)

-- one line is too many
pub one_too_many : (most : ℕ) (input rest rest' old new : Option Text) (start now : World) → SoFar input rest old new start now most
    → Between rest rest' (λ ys zs. lines_of ys ≡ [] → ⊥)
    → RestRan most input old new start now (Err fault.TooManyLines)
one_too_many most None rest rest' old new start now h k = tt
one_too_many most (Some x) None rest' old new start now h k = absurd h.read
one_too_many most (Some x) (Some y) None old new start now h k = absurd k
one_too_many most (Some x) (Some y) (Some z) old new start now h k =
    broken_after most 0 x y old new new start now most fault.TooManyLines h (omega arith)
    (subst (λ (t : TakenLines). EndsEarly AnyLines (answers now) (replies_and_totals now) t new new fault.TooManyLines)
    (sym (taken-too-many (lines_of y) k)) (refl, tt, Appends-nil new))

-- no line is left
pub all_answered : (most : ℕ) (input rest rest' old new new' : Option Text) (start now now' : World) (count : ℕ) → SoFar input rest old new start now count
    → count ≤ most → Between rest rest' (λ ys zs. lines_of ys ≡ [])
    → Keeps new new' → now' ≡ now → RestRan most input old new' start now' (Ok tt)
all_answered most None rest rest' old new new' start now now' count h le k kept same = tt
all_answered most (Some x) None rest' old new new' start now now' count h le k kept same = absurd h.read
all_answered most (Some x) (Some y) None old new new' start now now' count h le k kept same = absurd k
all_answered most (Some x) (Some y) (Some z) old new new' start now now' count h le k kept same =
    let taken_is : taken most (lines_of x) ≡ put_before h.lines (none_taken AtEnd) =
    taken_after most (most - count) (lines_of x) (lines_of y) h.lines count h.read h.short h.counted (omega (arith, le))
    ∙ ap (put_before h.lines) (ap (taken (most - count)) k ∙ taken-nil (most - count)) in
    let front : h.lines ≡ h.lines ++ [] = sym (append-nil h.lines) in
    subst (λ (t : TakenLines). AllAnswered start now' t old new') (sym taken_is) (
      refl,
      subst (λ (l : Lines). Appends old new' (answers start l)) front (Appends-kept old new new' _ h.written kept),
      same ∙ h.made
          ∙ ap (world_behind start) front,
    )

-- ---- the second line

pub open_unmade : (sites : ℕ) (second : Text) (old : Option Text) (f : ScriptFault) → f ≡ fault.Memory → OpenRan sites second old old (Err f)
open_unmade sites second old f e = rw e (tt, λ more. AppendsFront-nothing old old _ (Keeps-refl old))

limited_by : (sites : ℕ) (second : Text) (o : Option ℕ) → limit_from_line second ≡ o → (more : Lines)
    → (replies_at sites (second ∷ more) ≡ answers (opened_by sites o second more).0 (opened_by sites o second more).1)
    × (run_at sites (second ∷ more) ≡ replies_and_totals (opened_by sites o second more).0 (opened_by sites o second more).1)
limited_by sites second o known more = (
  ap (λ (l : Option ℕ). answers (opened_by sites l second more).0 (opened_by sites l second more).1) known,
  ap (λ (l : Option ℕ). replies_and_totals (opened_by sites l second more).0 (opened_by sites l second more).1) known,
)

-- it gives the limit
pub opens_limited : (sites limit : ℕ) (second : Text) (old : Option Text) (w : World) → limit_from_line second ≡ Some limit → w ≡ opening sites limit
    → OpenRan sites second old old (Ok w)
opens_limited sites limit second old w known is = (
  [],
  Appends-nil old,
  λ more. let e = limited_by sites second (Some limit) known more in (
    e.0 ∙ ap (λ (v : World). answers v more) (sym is),
    e.1
        ∙ ap (λ (v : World). replies_and_totals v more) (sym is),
  ),
)

-- it is the first to be answered
pub opens_answered : (sites : ℕ) (second : Text) (old new : Option Text) (w w' : World) → limit_from_line second ≡ None → w ≡ opening sites greatest_limit
    → Appends old new (script_reply_line (answer_to w (line_of second)).0) → w' ≡ (answer_to w (line_of second)).1 → OpenRan sites second old new (Ok w')
opens_answered sites second old new w w' known is out after =
    let reply = script_reply_line (answer_to w (line_of second)).0 in
    let next = (answer_to w (line_of second)).1 in (
      reply,
      out,
      λ more. let e = limited_by sites second None known more in (
        e.0 ∙ ap (λ (v : World). answers v (second ∷ more)) (sym is) ∙ ap (λ (v : World). reply ++ answers v more) (sym after),
        e.1 ∙ ap (λ (v : World). replies_and_totals v (second ∷ more)) (sym is)
            ∙ append_assoc reply (answers next more) (total_lines (world_behind next more))
            ∙ ap (λ (v : World). reply ++ replies_and_totals v more) (sym after),
      ),
    )

pub open_broken : (sites : ℕ) (second : Text) (old new : Option Text) (w : World) (f : ScriptFault) → limit_from_line second ≡ None
    → w ≡ opening sites greatest_limit
    → AppendsFront old new (script_reply_line (answer_to w (line_of second)).0) → IsOutFault f → OpenRan sites second old new (Err f)
open_broken sites second old new w f known is out h = (
  h,
  λ more. subst (AppendsFront old new) (sym ((limited_by sites second None known more).0 ∙ ap (λ (v : World). answers v (second ∷ more)) (sym is)))
      (AppendsFront-longer old new _ _ out),
)

-- ---- the lines from the second on

pub second_unopened : (most sites : ℕ) (second : Text) (a old new : Option Text) (f : ScriptFault) → OpenRan sites second old new (Err f)
    → SecondRan most sites second a old new (Err f)
second_unopened most sites second None old new f h = tt
second_unopened most sites second (Some x) old new f h =
    let t = taken most (lines_of x) in
    out_broken AnyLines (λ l. replies_at sites (second ∷ l)) (λ l. run_at sites (second ∷ l)) t old new f h.0
    (printed_longer t.end (λ l. replies_at sites (second ∷ l)) (λ l. run_at sites (second ∷ l)) t.lines _ old new refl (h.1 t.lines))

pub second_broken : (most sites : ℕ) (second : Text) (a old mid new : Option Text) (w w' : World) (f : ScriptFault) → OpenRan sites second old mid (Ok w)
    → RestRan most a mid new w w' (Err f) → SecondRan most sites second a old new (Err f)
second_broken most sites second None old mid new w w' f h k = tt
second_broken most sites second (Some x) old mid new w w' f h k =
    after_text AnyLines (answers w) (replies_and_totals w) (λ l. replies_at sites (second ∷ l)) (λ l. run_at sites (second ∷ l)) (taken most (lines_of x))
    h.0 old mid new f (λ l. (h.2 l).0) (λ l. (h.2 l).1) h.1 k

-- all of it, with the totals
second_text : (sites : ℕ) (second : Text) (w w' : World) (text : Text) (lines : Lines) → OpensWorld sites second text w → w' ≡ world_behind w lines
    → (text ++ answers w lines) ++ total_lines w' ≡ run_at sites (second ∷ lines)
second_text sites second w w' text lines h after =
    append_assoc text (answers w lines) (total_lines w') ∙ ap (λ (v : World). text ++ (answers w lines ++ total_lines v)) after ∙ sym (h lines).1

pub second_without_totals : (most sites : ℕ) (second : Text) (a old mid new new' : Option Text) (w w' : World) (f : ScriptFault)
    → OpenRan sites second old mid (Ok w) → RestRan most a mid new w w' (Ok tt)
    → AppendsFront new new' (total_lines w') → IsOutFault f → SecondRan most sites second a old new' (Err f)
second_without_totals most sites second None old mid new new' w w' f h k out e = tt
second_without_totals most sites second (Some x) old mid new new' w w' f h k out e =
    let t = taken most (lines_of x) in
    let some : Lines → Text = λ l. replies_at sites (second ∷ l) in
    let whole : Lines → Text = λ l. run_at sites (second ∷ l) in
    let text = AppendsFront-after old new new' (h.0 ++ answers w t.lines) (total_lines w') (Appends-trans old mid new h.0 (answers w t.lines) h.1 k.1) out in
    out_broken AnyLines some whole t old new' f e
    (subst (λ (end : InputEnd). AppendsFront old new' (printed end some whole t.lines)) (sym k.0)
    (subst (AppendsFront old new') (second_text sites second w w' h.0 t.lines h.2 k.2) text))

pub second_done : (most sites : ℕ) (second : Text) (a old mid new new' : Option Text) (w w' : World) → OpenRan sites second old mid (Ok w)
    → RestRan most a mid new w w' (Ok tt)
    → Appends new new' (total_lines w') → SecondRan most sites second a old new' (Ok tt)
second_done most sites second None old mid new new' w w' h k out = tt
second_done most sites second (Some x) old mid new new' w w' h k out =
    let t = taken most (lines_of x) in (
      k.0,
      subst (Appends old new') (second_text sites second w w' h.0 t.lines h.2 k.2)
          (Appends-trans old new new' (h.0 ++ answers w t.lines) (total_lines w') (Appends-trans old mid new h.0 (answers w t.lines) h.1 k.1) out),
    )

-- ---- the lines behind the first

pub sites_second : (most sites : ℕ) (second : Text) (a b old new : Option Text) (r : Result (Unit {0}) ScriptFault) → length second ≤ longest_line
    → Between a b (λ xs ys. lines_of xs ≡ second ∷ lines_of ys)
    → SecondRan most sites second b old new r → SitesRan (suc most) sites a old new r
sites_second most sites second None b old new (Ok u) short p h = tt
sites_second most sites second None b old new (Err f) short p h = tt
sites_second most sites second (Some x) None old new (Ok u) short p h = absurd p
sites_second most sites second (Some x) None old new (Err f) short p h = absurd p
sites_second most sites second (Some x) (Some y) old new (Ok u) short p h =
    let t = ap (taken (suc most)) p ∙ taken-line most second (lines_of y) short in
    subst (λ (u : TakenLines). (u.end ≡ AtEnd) × Appends old new (run_at sites u.lines)) (sym t) h
sites_second most sites second (Some x) (Some y) old new (Err f) short p h =
    let t = ap (taken (suc most)) p ∙ taken-line most second (lines_of y) short in
    subst (λ (u : TakenLines). EndsEarly AnyLines (replies_at sites) (run_at sites) u old new f) (sym t)
    (behind_lines AnyLines AnyLines (replies_at sites) (run_at sites) (second ∷ []) (taken most (lines_of y)) old new f (always (second ∷ [])) h)

pub sites_alone : (most sites : ℕ) (a b old new : Option Text) (r : Result (Unit {0}) ScriptFault)
    → Between a b (λ xs ys. (lines_of xs ≡ []) × (lines_of ys ≡ []))
    → Writes old new r (run_at sites []) → ((f : ScriptFault) → r ≡ Err f → IsOutFault f) → SitesRan most sites a old new r
sites_alone most sites None b old new (Ok u) p out h = tt
sites_alone most sites None b old new (Err f) p out h = tt
sites_alone most sites (Some x) None old new (Ok u) p out h = absurd p
sites_alone most sites (Some x) None old new (Err f) p out h = absurd p
sites_alone most sites (Some x) (Some y) old new (Ok u) p out h =
    let t = ap (taken most) p.0 ∙ taken-nil most in
    subst (λ (u : TakenLines). (u.end ≡ AtEnd) × Appends old new (run_at sites u.lines)) (sym t) (refl, out)
sites_alone most sites (Some x) (Some y) old new (Err f) p out h =
    let t = ap (taken most) p.0 ∙ taken-nil most in
    subst (λ (u : TakenLines). EndsEarly AnyLines (replies_at sites) (run_at sites) u old new f) (sym t)
    (out_broken AnyLines (replies_at sites) (run_at sites) (none_taken AtEnd) old new f (h f refl) out)

-- ---- the whole script

-- what a script with this first line prints
started_some : (first : Text) (n : ℕ) (lines : Lines) → sites_from_line first ≡ Some n → replies (first ∷ lines) ≡ replies_at n lines
started_some first n lines known = ap (λ (o : Option ℕ). replies_started o lines) known

started_whole : (first : Text) (n : ℕ) (lines : Lines) → sites_from_line first ≡ Some n → script_of_lines (first ∷ lines) ≡ run_at n lines
started_whole first n lines known = ap (λ (o : Option ℕ). run_started o lines) known

pub script_done : (a b old new : Option Text) (n : ℕ) → StartRan a b (Ok (Some n)) → SitesRan 999999 n b old new (Ok tt) → ScriptRan a old new (Ok true)
unfolding script
script_done None b old new n h k = tt
script_done (Some x) None old new n h k = absurd h
script_done (Some x) (Some y) old new n h k =
    let t = ap (taken most_lines) h.1 ∙ taken-line 999999 h.0 (lines_of y) h.2 in (
      ap (λ (u : TakenLines). u.end) t ∙ k.0,
      h.4,
      subst (Appends old new) (ap (run_at n) (taken-whole 999999 (lines_of y) k.0) ∙ sym (started_whole h.0 n (lines_of y) h.3)
          ∙ ap script_of_lines (sym h.1)) k.1,
    )

well_behind : (first : Text) (whole : Lines) (lines : Lines) → StartsWell (first ∷ whole) → AnyLines lines → MayGoOn (first ∷ lines)
well_behind first whole lines h k = h

pub script_broken : (a b old new : Option Text) (n : ℕ) (f : ScriptFault) → StartRan a b (Ok (Some n)) → SitesRan 999999 n b old new (Err f)
    → ScriptRan a old new (Err f)
script_broken None b old new n f h k = tt
script_broken (Some x) None old new n f h k = absurd h
script_broken (Some x) (Some y) old new n f h k =
    let t = ap (taken most_lines) h.1 ∙ taken-line 999999 h.0 (lines_of y) h.2 in
    let well = subst StartsWell h.1 h.4 in
    let rest = taken 999999 (lines_of y) in
    subst (λ (u : TakenLines). EndsEarly MayGoOn replies script_of_lines u old new f) (sym t)
    (behind_lines AnyLines MayGoOn replies script_of_lines (h.0 ∷ []) rest old new f (λ l g. well_behind h.0 (lines_of y) l well g)
    (after_text AnyLines (replies_at n) (run_at n) (λ l. replies (h.0 ∷ l)) (λ l. script_of_lines (h.0 ∷ l)) rest [] old old new f
    (λ l. started_some h.0 n l h.3) (λ l. started_whole h.0 n l h.3) (Appends-nil old) k))

-- no room for a buffer
pub script_unbuffered : (a old : Option Text) (f : ScriptFault) → f ≡ fault.Memory → ScriptRan a old old (Err f)
script_unbuffered None old f e = tt
script_unbuffered (Some x) old f e = rw e (AppendsFront-nothing old old _ (Keeps-refl old))

-- the first line could not be read
pub script_unread : (a b old : Option Text) (f : ScriptFault) → StartRan a b (Err f) → ScriptRan a old old (Err f)
script_unread None b old f h = tt
script_unread (Some x) b old f h = h 999999 old

-- ---- a first line that gives no count of sites

no_count : (first : Text) (lines : Lines) → (StartsWell (first ∷ lines) → ⊥) → (o : Option ℕ) → sites_from_line first ≡ o → o ≡ None
no_count first lines h None e = refl
no_count first lines h (Some n) e = let f = named_takes (codes "sites") most_sites first n (lit< tt) e in absurd (h (n, f.0, f.1))

printed_bad : (end : InputEnd) (first : Text) (lines : Lines) → sites_from_line first ≡ None → printed end replies script_of_lines (first ∷ lines) ≡ bad_line
printed_bad AtEnd first lines e = ap (λ (o : Option ℕ). run_started o lines) e
printed_bad AtLongLine first lines e = ap (λ (o : Option ℕ). replies_started o lines) e
printed_bad AtTooMany first lines e = ap (λ (o : Option ℕ). replies_started o lines) e

bad_is_printed : (more : ℕ) (lines : Lines) → (StartsWell lines → ⊥) → (BeginsTooLong lines → ⊥)
    → printed (taken (suc more) lines).end replies script_of_lines (taken (suc more) lines).lines ≡ bad_line
bad_is_printed more [] h short = ap (λ (t : TakenLines). printed t.end replies script_of_lines t.lines) (taken-nil (suc more))
bad_is_printed more (first ∷ lines) h short =
    let le : length first ≤ longest_line = elim (cases_lt longest_line (length first)) [ inl q ↦ absurd (short q) | inr p ↦ p ] in
    ap (λ (t : TakenLines). printed t.end replies script_of_lines t.lines) (taken-line more first lines le)
    ∙ printed_bad (taken more lines).end first (taken more lines).lines (no_count first lines h (sites_from_line first) refl)

-- it was refused, and that did not go out
pub refusal_broken : (a b old new : Option Text) → StartRan a b (Ok None) → AppendsFront old new bad_line → ScriptRan a old new (Err fault.Write)
refusal_broken None b old new h out = tt
refusal_broken (Some x) b old new h out = subst (AppendsFront old new) (sym (bad_is_printed 999999 (lines_of x) h.0 h.1)) out

-- a flush that failed
pub script_unflushed : (a old new new' : Option Text) (started : Bool) → ScriptRan a old new (Ok started) → Keeps new new'
    → ScriptRan a old new' (Err fault.Write)
unfolding script
script_unflushed None old new new' started h k = tt
script_unflushed (Some x) old new new' true h k =
    let t = taken most_lines (lines_of x) in
    let whole = subst (AppendsFront old new') (append-nil _)
    (AppendsFront-whole old new' (script_of_lines (lines_of x)) [] (Appends-kept old new new' _ h.2 k)) in
    subst (λ (end : InputEnd). AppendsFront old new' (printed end replies script_of_lines t.lines)) (sym h.0)
    (subst (λ (l : Lines). AppendsFront old new' (script_of_lines l)) (sym (taken-whole most_lines (lines_of x) h.0)) whole)
script_unflushed (Some x) old new new' false h k =
    subst (AppendsFront old new') (append-nil _ ∙ sym (bad_is_printed 999999 (lines_of x) h.1.0 h.1.1))
    (AppendsFront-whole old new' bad_line [] (Appends-kept old new new' _ h.0 k))

ends_kept : (goes : Lines → Type 0) (some whole : Lines → Text) (t : TakenLines) (old new new' : Option Text) (f : ScriptFault)
    → EndsEarly goes some whole t old new f → Keeps new new' → EndsEarly goes some whole t old new' f
ends_kept goes some whole t old new new' fault.Read e k = (e.0, e.1, e.2, e.3, Appends-kept old new new' _ e.4 k)
ends_kept goes some whole t old new new' fault.LineTooLong e k = (e.0, e.1, Appends-kept old new new' _ e.2 k)
ends_kept goes some whole t old new new' fault.TooManyLines e k = (e.0, e.1, Appends-kept old new new' _ e.2 k)
ends_kept goes some whole t old new new' fault.Write e k = AppendsFront-kept old new new' _ e k
ends_kept goes some whole t old new new' fault.Memory e k = AppendsFront-kept old new new' _ e k

-- a flush
pub script_flushed : (a old new new' : Option Text) (r : Result Bool ScriptFault) → ScriptRan a old new r → Keeps new new' → ScriptRan a old new' r
script_flushed None old new new' (Ok true) h k = tt
script_flushed (Some x) old new new' (Ok true) h k = (h.0, h.1, Appends-kept old new new' _ h.2 k)
script_flushed a old new new' (Ok false) h k = (Appends-kept old new new' bad_line h.0 k, h.1)
script_flushed None old new new' (Err f) h k = tt
script_flushed (Some x) old new new' (Err f) h k = ends_kept MayGoOn replies script_of_lines (taken most_lines (lines_of x)) old new new' f h k
