-- What was read and written before a reader broke off.
use Rattle.std.proofs.Common.{◌≡◌, ◌⊎◌, ℕ, suc, ◌+◌, ◌<◌, ◌≤◌, false, List, [], ◌∷◌, ◌++◌, length, All, Option, Some, None, Result, Ok, Err, refl, sym, ap, subst, ◌∙◌, arith, append_assoc, length-append, inl, inr}
use Rattle.std.specs.Prelude.{IfErr, IsErrAnd}
use Rattle.std.specs.Io.KnownBytes.{Appends, Keeps}
use Rattle.std.proofs.KnownBytes.{Appends-trans, Appends-nil}
use Rattle.std.proofs.lemmas.Bool.{cases_lt}
use Rattle.std.proofs.lemmas.List.Elements.{All-append, All-from_recursion}
use Rattle.plain_words.specs.Input.{is_line_break, longest_line, lines_of, Between, LineGives}
use Rattle.plain_words.specs.declared.lines.LineFault.{LineFault}
use Rattle.plain_words.specs.declared.lines.LineFault.TheVariants as line_fault
use Rattle.plain_words.proofs.LineLaws.{AreShort}
use Rattle.world_steps.specs.World.{World}
use Rattle.operator_cli.specs.declared.fault.ScriptFault.{ScriptFault}
use Rattle.operator_cli.specs.declared.fault.ScriptFault.TheVariants as fault
use Rattle.operator_cli.specs.Faults.{IsOutFault, of_line_fault}
use Rattle.operator_cli.specs.Script.{answers, replies_at, replies_started, replies}
use Rattle.operator_cli.specs.Ran.{ReadBrokeOff, OpenRan, StartRan}
use Rattle.operator_cli.proofs.ScriptLaws.{SoFar, answered, same_input}

abbrev Lines : Type 0
Lines = List (List ℕ)

abbrev Text : Type 0
Text = List ℕ

-- ---- which fault it was

named : {T : Type 0} (r : Result T ScriptFault) (g : ScriptFault) → IsErrAnd r (λ f. f ≡ g) → r ≡ Err fault.Read → g ≡ fault.Read
named (Ok x) g h e = absurd h
named (Err f) g h e = let is : f ≡ fault.Read = cc in sym h ∙ is

pub not_out : {T : Type 0} (r : Result T ScriptFault) (g : ScriptFault) → IsErrAnd r (λ f. f ≡ g) → IsOutFault g → r ≡ Err fault.Read → ⊥
not_out r g h out e = subst IsOutFault (named r g h e) out

pub not_out_of : {T : Type 0} (r : Result T ScriptFault) → IfErr r IsOutFault → r ≡ Err fault.Read → ⊥
not_out_of (Ok x) out e = let bad : Ok x ≡ Err fault.Read = e in cc
not_out_of (Err f) out e = let is : f ≡ fault.Read = cc in subst IsOutFault is out

pub err_is : {T U : Type 0} (r : Result T ScriptFault) (g : ScriptFault) → IsErrAnd r (λ f. f ≡ g) → r ≡ Err fault.Read
    → ◌≡◌ {A = Result U ScriptFault} (Err g) (Err fault.Read)
err_is r g h e = ap Err (named r g h e)

-- ---- the first line that is not whole

none_whole : All (λ (line : Text). length line ≤ longest_line) []
none_whole = All-from_recursion (λ (line : Text). length line ≤ longest_line) [] tt

begun : (most : ℕ) (replies : Lines → Text) (a b old : Option Text) (line : Text) → replies [] ≡ [] → LineGives a b line (Err line_fault.Read)
    → ReadBrokeOff (suc most) replies a b old old
begun most replies None b old line none h = tt
begun most replies (Some x) None old line none h = absurd h.1
begun most replies (Some x) (Some y) old line none h = (
  record { lines = []; part = line; rest = x; read = refl; whole = none_whole; begun = h.1; is_part = h.0; within = inl (omega arith) },
  subst (Appends old old) (sym none) (Appends-nil old),
)

pub broke_here : {T : Type 0} (most : ℕ) (replies : Lines → Text) (a b old : Option Text) (line : Text) (g : LineFault) (r : Result T ScriptFault)
    → replies [] ≡ [] → LineGives a b line (Err g)
    → IsErrAnd r (λ f. f ≡ of_line_fault g) → r ≡ Err fault.Read → ReadBrokeOff (suc most) replies a b old old
broke_here most replies a b old line line_fault.Read r none h is e = begun most replies a b old line none h
broke_here most replies a b old line line_fault.LineTooLong r none h is e = let bad = named r fault.LineTooLong is e in absurd cc

-- nothing was read, where no line may be there
pub broke_at_limit : (replies : Lines → Text) (a b old : Option Text) → replies [] ≡ [] → Keeps a b → ReadBrokeOff 0 replies a b old old
broke_at_limit replies None b old none h = tt
broke_at_limit replies (Some x) None old none h = absurd h
broke_at_limit replies (Some x) (Some y) old none h = (
  record {
    lines = [];
    part = [];
    rest = x;
    read = refl;
    whole = none_whole;
    begun = sym h;
    is_part = (omega arith, All-from_recursion (λ b. is_line_break b ≡ false) [] tt);
    within = inr (refl, refl);
  },
  subst (Appends old old) (sym none) (Appends-nil old),
)

-- ---- lines before it

within_more : (front lines : Lines) (part : Text) (more most : ℕ) → length front + more ≤ most → (length lines < more) ⊎ ((length lines ≡ more) × (part ≡ []))
    → (length (front ++ lines) < most) ⊎ ((length (front ++ lines) ≡ most) × (part ≡ []))
within_more front lines part more most le (inl lt) = inl (omega (arith, le, lt, length-append front lines))
within_more front lines part more most le (inr h) =
    elim (cases_lt (length (front ++ lines)) most) [ inl q ↦ inl q | inr p ↦ inr (omega (arith, le, p, h.0, length-append front lines), h.1) ]

pub broke_behind : (more most : ℕ) (some some' : Lines → Text) (front : Lines) (text : Text) (a b c old mid new : Option Text) → length front + more ≤ most
    → AreShort front → ((l : Lines) → some' (front ++ l) ≡ text ++ some l)
    → Between a b (λ xs ys. lines_of xs ≡ front ++ lines_of ys) → Appends old mid text → ReadBrokeOff more some b c mid new
    → ReadBrokeOff most some' a c old new
broke_behind more most some some' front text None b c old mid new le short s p out h = tt
broke_behind more most some some' front text (Some x) None c old mid new le short s p out h = absurd p
broke_behind more most some some' front text (Some x) (Some y) None old mid new le short s p out h = absurd h
broke_behind more most some some' front text (Some x) (Some y) (Some z) old mid new le short s p out h = (
  record {
    lines = front ++ h.0.lines;
    part = h.0.part;
    rest = h.0.rest;
    read = p ∙ ap (λ (t : Lines). front ++ t) h.0.read ∙ sym (append_assoc front h.0.lines (lines_of h.0.rest));
    whole = All-append (λ (line : Text). length line ≤ longest_line) front h.0.lines (All-from_recursion _ front short) h.0.whole;
    begun = h.0.begun;
    is_part = h.0.is_part;
    within = within_more front h.0.lines h.0.part more most le h.0.within;
  },
  subst (Appends old new) (sym (s h.0.lines)) (Appends-trans old mid new text (some h.0.lines) out h.1),
)

-- the lines behind the second
pub broke_after : (more most : ℕ) (input rest rest' old new new' : Option Text) (start now : World) (count : ℕ) → SoFar input rest old new start now count
    → count + more ≤ most
    → ReadBrokeOff more (answers now) rest rest' new new' → ReadBrokeOff most (answers start) input rest' old new'
broke_after more most input rest rest' old new new' start now count h le k =
    broke_behind more most (answers now) (answers start) h.lines (answers start h.lines) input rest rest' old new new' (omega (arith, le, h.counted))
    h.short (answered start now h.lines h.made) h.read h.written k

pub broke_second : (most sites : ℕ) (second : Text) (a b old mid new : Option Text) (w : World) → OpenRan sites second old mid (Ok w)
    → ReadBrokeOff most (answers w) a b mid new
    → ReadBrokeOff most (λ lines. replies_at sites (second ∷ lines)) a b old new
broke_second most sites second a b old mid new w h k =
    broke_behind most most (answers w) (λ l. replies_at sites (second ∷ l)) [] h.0 a a b old mid new (omega arith) tt (λ l. (h.2 l).0) (same_input a) h.1 k

-- the lines behind the first
pub broke_sites : (most sites : ℕ) (second : Text) (a b c old new : Option Text) → length second ≤ longest_line
    → Between a b (λ xs ys. lines_of xs ≡ second ∷ lines_of ys)
    → ReadBrokeOff most (λ lines. replies_at sites (second ∷ lines)) b c old new → ReadBrokeOff (suc most) (replies_at sites) a c old new
broke_sites most sites second a b c old new short p k =
    broke_behind most (suc most) (λ l. replies_at sites (second ∷ l)) (replies_at sites) (second ∷ []) [] a b c old old new (omega arith) (short, tt)
    (λ l. refl) p (Appends-nil old) k

-- all lines
pub broke_script : (most n : ℕ) (a b c old new : Option Text) → StartRan a b (Ok (Some n)) → ReadBrokeOff most (replies_at n) b c old new
    → ReadBrokeOff (suc most) replies a c old new
broke_script most n None b c old new h k = tt
broke_script most n (Some x) None c old new h k = absurd h
broke_script most n (Some x) (Some y) c old new h k =
    broke_behind most (suc most) (replies_at n) replies (h.0 ∷ []) [] (Some x) (Some y) c old old new (omega arith) (h.2, tt)
    (λ l. ap (λ (o : Option ℕ). replies_started o l) h.3) h.1 (Appends-nil old) k
