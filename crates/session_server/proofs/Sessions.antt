-- A session, line by line.
use Rattle.std.proofs.Common.{◌≡◌, ◌≢◌, ℕ, suc, ◌+◌, ◌-◌, ◌<◌, ◌≤◌, Bool, true, List, [], ◌∷◌, ◌++◌, length, Option, Some, None, Result, Ok, Err, refl, sym, ap, subst, ◌∙◌, arith, append-nil, length-append}
use Rattle.std.specs.Prelude.{IfSome, IsErrAnd}
use Rattle.std.specs.List.{flat_map}
use Rattle.std.proofs.lemmas.List.{flat_map_more}
use Rattle.std.specs.Io.KnownBytes.{Appends}
use Rattle.std.proofs.KnownBytes.{Appends-trans, Appends-nil, Appends-kept}
use Rattle.plain_words.specs.Input.{longest_line, lines_of, Between, BeginsTooLong, LineGives, InputEnd, AtEnd, AtLongLine, AtTooMany, TakenLines, taken, none_taken}
use Rattle.plain_words.specs.Writing.{AppendsFront}
use Rattle.plain_words.proofs.TextLaws.{all_end}
use Rattle.plain_words.proofs.LineLaws.{AreShort, read-push, put_before, taken-nil, taken-line, taken-long, taken-too-many, taken-behind}
use Rattle.desk_lines.specs.declared.line.Line.{Line}
use Rattle.desk_lines.specs.declared.line.Line.TheVariants.{Ask, Left, Totals, Quit}
use Rattle.desk_lines.specs.declared.answered.Answered.{Answered}
use Rattle.desk_lines.specs.Grammar.{most_lines}
use Rattle.desk_lines.specs.Reading.{session_line_of}
use Rattle.desk_lines.specs.Replies.{reply_line}
use Rattle.session_server.specs.declared.fault.Ended.{Ended}
use Rattle.session_server.specs.declared.fault.Ended.TheVariants as ended
use Rattle.session_server.specs.declared.fault.TalkFault.{TalkFault}
use Rattle.session_server.specs.declared.fault.TalkFault.TheVariants as fault
use Rattle.session_server.specs.Session.{Steps, Answers, Chain, Replied, NextTalked, EndsAt, Talked}

abbrev Lines : Type 0
Lines = List (List ℕ)

abbrev Bytes : Type 0
Bytes = Option (List ℕ)

-- a line that was read, and its answer
abbrev pub replied : {A : Type 0} (S : Steps A) (a b : Bytes) (line slice : List ℕ) (more : Bool) (before after : A) (answered : Answered) → more ≡ true
    → LineGives a b line (Ok more) → slice ≡ line
    → Answers S before (session_line_of slice) answered after → Replied S a b before after
replied S a b line slice more before after answered is gives same step =
    record {
      line = line;
      answered = answered;
      read = subst (λ (m : Bool). LineGives a b line (Ok m)) is gives;
      step = subst (λ l. Answers S before (session_line_of l) answered after) same step;
    }

-- its reply line went out in part
pub next_unwritten : {A : Type 0} (S : Steps A) (a b old new : Bytes) (before after : A) (result : Result (Option Ended) TalkFault) (f : TalkFault)
    → IsErrAnd result (λ e. e ≡ f) → f ≡ fault.Write
    → (r : Replied S a b before after) → AppendsFront old new (reply_line r.answered) → NextTalked S a b old new before after result
next_unwritten S a b old new before after (Ok x) f h is r out = absurd h
next_unwritten S a b old new before after (Err e) f h is r out = subst (λ (e : TalkFault). NextTalked S a b old new before after (Err e)) (sym (h ∙ is))
    (r, out)

-- what was read, answered and written so far
pub record SoFar {A : Type 0} (S : Steps A) (input rest old new : Bytes) (before after : A) (count : ℕ) : Type 0 where
  pub lines : Lines
  pub answers : List Answered
  pub read : Between input rest (λ xs ys. lines_of xs ≡ lines ++ lines_of ys)
  pub short : AreShort lines
  pub counted : length lines ≡ count
  pub chain : Chain S before lines answers after
  pub written : Appends old new (flat_map reply_line answers)

unread : (input : Bytes) → Between input input (λ xs ys. lines_of xs ≡ [] ++ lines_of ys)
unread None = tt
unread (Some xs) = refl

pub begins : {A : Type 0} (S : Steps A) (input old : Bytes) (before : A) → SoFar S input input old old before before 0
begins S input old before = record { lines = []; answers = []; read = unread input; short = tt; counted = refl; chain = refl; written = Appends-nil old }

chain-push : {A : Type 0} (S : Steps A) (a : A) (lines : Lines) (answers : List Answered) (b : A) (line : List ℕ) (answered : Answered) (c : A)
    → Chain S a lines answers b → Answers S b (session_line_of line) answered c → Chain S a (lines ++ line ∷ []) (answers ++ answered ∷ []) c
chain-push S a [] [] b line answered c h k = (c, subst (λ x. Answers S x (session_line_of line) answered c) h k, refl)
chain-push S a (l ∷ ls) (r ∷ rs) b line answered c h k = (h.0, h.1, chain-push S h.0 ls rs b line answered c h.2 k)
chain-push S a [] (r ∷ rs) b line answered c h k = absurd h
chain-push S a (l ∷ ls) [] b line answered c h k = absurd h

-- what each answer keeps, a chain of them keeps
pub chain_keeps : {A : Type 0} (S : Steps A) (P : A → Type 0) → ((a : A) (o : Option Line) (answered : Answered) (b : A) → Answers S a o answered b → P a → P b)
    → (a : A) (lines : List (List ℕ)) (answers : List Answered) (b : A) → Chain S a lines answers b → P a → P b
chain_keeps S P step a [] [] b h p = subst P (sym h) p
chain_keeps S P step a (line ∷ lines) (x ∷ answers) b h p = chain_keeps S P step h.0 lines answers b h.2 (step a (session_line_of line) x h.0 h.1 p)
chain_keeps S P step a [] (x ∷ answers) b h p = absurd h
chain_keeps S P step a (line ∷ lines) [] b h p = absurd h

answers_less : {A : Type 0} (S T : Steps A) → ((a : A) (line : Line) (x : Answered) (b : A) → S a line x b → T a line x b)
    → (a : A) (o : Option Line) (x : Answered) (b : A) → Answers S a o x b → Answers T a o x b
answers_less S T less a (Some (Ask number request)) x b h = less a (Ask number request) x b h
answers_less S T less a (Some (Left event)) x b h = less a (Left event) x b h
answers_less S T less a (Some (Totals event)) x b h = less a (Totals event) x b h
answers_less S T less a (Some Quit) x b h = h
answers_less S T less a None x b h = h

chain_less : {A : Type 0} (S T : Steps A) → ((a : A) (line : Line) (x : Answered) (b : A) → S a line x b → T a line x b)
    → (a : A) (lines : List (List ℕ)) (answers : List Answered) (b : A) → Chain S a lines answers b → Chain T a lines answers b
chain_less S T less a [] [] b h = h
chain_less S T less a (line ∷ lines) (x ∷ answers) b h
    = (h.0, answers_less S T less a (session_line_of line) x h.0 h.1, chain_less S T less h.0 lines answers b h.2)
chain_less S T less a [] (x ∷ answers) b h = h
chain_less S T less a (line ∷ lines) [] b h = h

-- steps that say more say less
pub talked_less : {A : Type 0} (S T : Steps A) → ((a : A) (line : Line) (x : Answered) (b : A) → S a line x b → T a line x b)
    → (input old new : Option (List ℕ)) (before after : A) (result : Result Ended TalkFault) → Talked S input old new before after result
    → Talked T input old new before after result
talked_less S T less input old new before after result t =
    record {
      lines = t.lines;
      answers = t.answers;
      read = t.read;
      unasked = t.unasked;
      chain = chain_less S T less before t.lines t.answers after t.chain;
      written = t.written;
    }

replies-push : (answers : List Answered) (answered : Answered)
    → flat_map reply_line answers ++ reply_line answered ≡ flat_map reply_line (answers ++ answered ∷ [])
replies-push answers answered = flat_map_more reply_line [] answers answered

-- one line more, with its answer
pub goes_on : {A : Type 0} (S : Steps A) (input rest rest' old new new' : Bytes) (before mid after : A) (count : ℕ)
    → SoFar S input rest old new before mid count → NextTalked S rest rest' new new' mid after (Ok None) → SoFar S input rest' old new' before after (count + 1)
goes_on S input rest rest' old new new' before mid after count h k = record {
  lines = h.lines ++ k.0.line ∷ [];
  answers = h.answers ++ k.0.answered ∷ [];
  read = read-push input rest rest' h.lines k.0.line h.read k.0.read.1;
  short = all_end (λ line. length line ≤ longest_line) h.lines k.0.line h.short k.0.read.0;
  counted = omega (arith, length-append h.lines (k.0.line ∷ []), h.counted);
  chain = chain-push S before h.lines h.answers mid k.0.line k.0.answered after h.chain k.0.step;
  written = subst (Appends old new') (replies-push h.answers k.0.answered)
      (Appends-trans old new new' (flat_map reply_line h.answers) (reply_line k.0.answered) h.written k.1);
}

-- what is taken of an input behind the lines that were read
taken_after : (more : ℕ) (xs ys lines : Lines) → xs ≡ lines ++ ys → AreShort lines → most_lines ≡ length lines + more
    → taken most_lines xs ≡ put_before lines (taken more ys)
taken_after more xs ys lines read short most = (λ i. taken (most i) (read i)) ∙ taken-behind more lines ys short

-- the input ends so behind the lines that were read
ends_behind : (a b c : Bytes) (lines : Lines) (more : ℕ) (e : InputEnd) (P : Lines → Type 0) → most_lines ≡ length lines + more → AreShort lines
    → ((rest : Lines) → P rest → taken more rest ≡ none_taken e)
    → Between a b (λ xs ys. lines_of xs ≡ lines ++ lines_of ys) → Between b c (λ xs ys. P (lines_of xs))
    → IfSome a (λ xs. taken most_lines (lines_of xs) ≡ record { lines = lines; end = e })
ends_behind None b c lines more e P most short so p q = tt
ends_behind (Some x) None c lines more e P most short so p q = absurd p
ends_behind (Some x) (Some y) None lines more e P most short so p q = absurd q
ends_behind (Some x) (Some y) (Some z) lines more e P most short so p q =
    taken_after more (lines_of x) (lines_of y) lines p short most
    ∙ ap (put_before lines) (so (lines_of y) q)
    ∙ ap (λ (l : Lines). let t : TakenLines = record { lines = l; end = e } in t) (append-nil lines)

-- lines that were read are the first that are taken
front_of : (a b : Bytes) (lines : Lines) → length lines ≤ most_lines → AreShort lines → Between a b (λ xs ys. lines_of xs ≡ lines ++ lines_of ys)
    → IfSome a (λ xs. (more : Lines) × ((taken most_lines (lines_of xs)).lines ≡ lines ++ more))
front_of None b lines few short p = tt
front_of (Some x) None lines few short p = absurd p
front_of (Some x) (Some y) lines few short p = (
  (taken (most_lines - length lines) (lines_of y)).lines,
  ap (λ (t : TakenLines). t.lines) (taken_after (most_lines - length lines) (lines_of x) (lines_of y) lines p short (omega (arith, few))),
)

-- and `quit` behind them is one more
quit_behind : (a b c : Bytes) (lines : Lines) (quit : List ℕ) → length lines + 1 ≤ most_lines → AreShort lines → session_line_of quit ≡ Some Quit
    → length quit ≤ longest_line
    → Between a b (λ xs ys. lines_of xs ≡ lines ++ lines_of ys) → Between b c (λ xs ys. lines_of xs ≡ quit ∷ lines_of ys)
    → IfSome a (λ xs. EndsAt (Ok ended.Quit) lines (taken most_lines (lines_of xs)))
quit_behind None b c lines quit few short is fits p q = tt
quit_behind (Some x) None c lines quit few short is fits p q = absurd p
quit_behind (Some x) (Some y) None lines quit few short is fits p q = absurd q
quit_behind (Some x) (Some y) (Some z) lines quit few short is fits p q =
    let more = most_lines - length lines - 1 in
    let all = taken_after (suc more) (lines_of x) (lines_of y) lines p short (omega (arith, few))
    ∙ ap (put_before lines) (ap (taken (suc more)) q ∙ taken-line more quit (lines_of z) fits) in
    (quit, (taken more (lines_of z)).lines, is, ap (λ (t : TakenLines). t.lines) all)

pub first_empty : (a b : Bytes) → Between a b (λ xs ys. (lines_of xs ≡ []) × (lines_of ys ≡ [])) → Between a b (λ xs ys. lines_of xs ≡ [])
first_empty None b p = tt
first_empty (Some x) None p = absurd p
first_empty (Some x) (Some y) p = p.0

none_left : (more : ℕ) (rest : Lines) → rest ≡ [] → taken more rest ≡ none_taken AtEnd
none_left more rest e = ap (taken more) e ∙ taken-nil more

-- the session ends at the next line
pub ends : {A : Type 0} (S : Steps A) (input rest rest' old new new' : Bytes) (before mid after : A) (count : ℕ) (e : Ended) → count < most_lines
    → SoFar S input rest old new before mid count → NextTalked S rest rest' new new' mid after (Ok (Some e)) → Talked S input old new' before after (Ok e)
ends S input rest rest' old new new' before mid after count ended.Quit few h k = record {
  lines = h.lines;
  answers = h.answers;
  read = quit_behind input rest rest' h.lines k.0 (omega (arith, few, h.counted)) h.short k.2 k.1.0 h.read k.1.1;
  unasked = λ wants. cc;
  chain = subst (Chain S before h.lines h.answers) (sym k.4) h.chain;
  written = Appends-kept old new new' (flat_map reply_line h.answers) h.written k.3;
}
ends S input rest rest' old new new' before mid after count ended.EndOfInput few h k = record {
  lines = h.lines;
  answers = h.answers;
  read = ends_behind input rest rest' h.lines (most_lines - length h.lines) AtEnd (λ r. r ≡ []) (omega (arith, few, h.counted)) h.short
      (none_left (most_lines - length h.lines)) h.read (first_empty rest rest' k.0);
  unasked = λ wants. cc;
  chain = subst (Chain S before h.lines h.answers) (sym k.2) h.chain;
  written = Appends-kept old new new' (flat_map reply_line h.answers) h.written k.1;
}

one_more : (lines : Lines) (line : List ℕ) → lines ++ line ∷ [] ≢ []
one_more [] line e = cc
one_more (l ∷ lines) line e = cc

not_none : (a : Bytes) (lines : Lines) → lines ≢ [] → IfSome a (λ xs. (more : Lines) × ((taken most_lines (lines_of xs)).lines ≡ lines ++ more))
    → IfSome a (λ xs. EndsAt (Err fault.Write) lines (taken most_lines (lines_of xs)))
not_none None lines some p = tt
not_none (Some x) lines some p = (some, p)

-- the session breaks off at the next line
pub breaks_off : {A : Type 0} (S : Steps A) (input rest rest' old new new' : Bytes) (before mid after : A) (count : ℕ) (e : TalkFault) → count < most_lines
    → SoFar S input rest old new before mid count → NextTalked S rest rest' new new' mid after (Err e) → Talked S input old new' before after (Err e)
breaks_off S input rest rest' old new new' before mid after count fault.Read few h k = record {
  lines = h.lines;
  answers = h.answers;
  read = front_of input rest h.lines (omega (arith, few, h.counted)) h.short h.read;
  unasked = λ wants. cc;
  chain = subst (Chain S before h.lines h.answers) (sym k.1) h.chain;
  written = Appends-kept old new new' (flat_map reply_line h.answers) h.written k.0;
}
breaks_off S input rest rest' old new new' before mid after count fault.LineTooLong few h k = record {
  lines = h.lines;
  answers = h.answers;
  read = ends_behind input rest rest' h.lines (suc (most_lines - length h.lines - 1)) AtLongLine BeginsTooLong (omega (arith, few, h.counted)) h.short
      (λ r. taken-long (most_lines - length h.lines - 1) r) h.read k.0;
  unasked = λ wants. cc;
  chain = subst (Chain S before h.lines h.answers) (sym k.2) h.chain;
  written = Appends-kept old new new' (flat_map reply_line h.answers) h.written k.1;
}
breaks_off S input rest rest' old new new' before mid after count fault.Write few h k = record {
  lines = h.lines ++ k.0.line ∷ [];
  answers = h.answers ++ k.0.answered ∷ [];
  read = not_none input (h.lines ++ k.0.line ∷ []) (one_more h.lines k.0.line)
      (front_of input rest' (h.lines ++ k.0.line ∷ []) (omega (arith, few, h.counted, length-append h.lines (k.0.line ∷ [])))
      (all_end (λ line. length line ≤ longest_line) h.lines k.0.line h.short k.0.read.0) (read-push input rest rest' h.lines k.0.line h.read k.0.read.1));
  unasked = λ wants. cc;
  chain = chain-push S before h.lines h.answers mid k.0.line k.0.answered after h.chain k.0.step;
  written = (h.answers, k.0.answered, k.1.0, k.1.1, refl, k.1.2, Appends-trans old new new' (flat_map reply_line h.answers) k.1.0 h.written k.1.3);
}
breaks_off S input rest rest' old new new' before mid after count fault.TooLong few h k = absurd k
breaks_off S input rest rest' old new new' before mid after count fault.Memory few h k = absurd k
breaks_off S input rest rest' old new new' before mid after count fault.NotStarted few h k = absurd k

-- all lines were read that may be there, and no other is
pub ends_after_all : {A : Type 0} (S : Steps A) (input rest rest' old new : Bytes) (before after : A) → SoFar S input rest old new before after most_lines
    → Between rest rest' (λ xs ys. lines_of xs ≡ []) → Talked S input old new before after (Ok ended.EndOfInput)
ends_after_all S input rest rest' old new before after h k = record {
  lines = h.lines;
  answers = h.answers;
  read = ends_behind input rest rest' h.lines 0 AtEnd (λ r. r ≡ []) (omega (arith, h.counted)) h.short (none_left 0) h.read k;
  unasked = λ wants. cc;
  chain = h.chain;
  written = h.written;
}

pub too_many : {A : Type 0} (S : Steps A) (input rest rest' old new : Bytes) (before after : A) → SoFar S input rest old new before after most_lines
    → Between rest rest' (λ xs ys. lines_of xs ≢ []) → Talked S input old new before after (Err fault.TooLong)
too_many S input rest rest' old new before after h k = record {
  lines = h.lines;
  answers = h.answers;
  read = ends_behind input rest rest' h.lines 0 AtTooMany (λ r. r ≢ []) (omega (arith, h.counted)) h.short taken-too-many h.read k;
  unasked = λ wants. cc;
  chain = h.chain;
  written = h.written;
}

pub fails : {A : Type 0} (S : Steps A) (input rest old new : Bytes) (before after : A) → SoFar S input rest old new before after most_lines
    → Talked S input old new before after (Err fault.Read)
fails S input rest old new before after h = record {
  lines = h.lines;
  answers = h.answers;
  read = front_of input rest h.lines (omega (arith, h.counted)) h.short h.read;
  unasked = λ wants. cc;
  chain = h.chain;
  written = h.written;
}

nothing_taken : (a : Bytes) → IfSome a (λ xs. EndsAt (Err fault.Memory) [] (taken most_lines (lines_of xs)))
nothing_taken None = tt
nothing_taken (Some x) = refl

-- no buffer could be made
pub never_began : {A : Type 0} (S : Steps A) (input old : Bytes) (before : A) → Talked S input old old before before (Err fault.Memory)
never_began S input old before = record
    { lines = []; answers = []; read = nothing_taken input; unasked = λ wants. refl; chain = refl; written = Appends-nil old }
