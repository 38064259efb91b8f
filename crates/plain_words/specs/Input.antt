-- The lines of an input. (Our own.)
use Rattle.std.specs.Prelude.{◌≡◌, ◌≢◌, ◌⊎◌, ℕ, zero, suc, ◌≤◌, ◌<◌, Bool, true, false, ◌==◌, nat_le, List, [], ◌∷◌, ◌++◌, length, All, Option, Some, None, Result, Ok, Err, if◌then◌else◌}
use Rattle.std.specs.List.{slice_split}
use Rattle.std.specs.Io.KnownBytes.{Consumes, IsAtEnd, Keeps}
use Rattle.plain_words.specs.declared.lines.LineFault.{LineFault}
use Rattle.plain_words.specs.declared.lines.LineFault.TheVariants.{Read, LineTooLong}
use Rattle.plain_words.specs.declared.lines.ReadFault.{ReadFault}

-- the most bytes of a line, without its line break
abbrev pub longest_line : ℕ
longest_line = 200

abbrev pub is_line_break : ℕ → Bool
is_line_break b = b == 10

-- the parts without an empty last one
abbrev pub without_empty_last : List (List ℕ) → List (List ℕ)
without_empty_last [] = []
without_empty_last (x ∷ []) = if length x == 0 then [] else x ∷ []
without_empty_last (x ∷ y ∷ more) = x ∷ without_empty_last (y ∷ more)

-- the lines of an input, without their line breaks; what follows the last line break is a line unless it is empty
unfoldable pub lines_of : List ℕ → List (List ℕ)
lines_of input = without_empty_last (slice_split is_line_break input)

-- P holds of what a reader had left before and has left after, where that is known
abbrev pub Between : Option (List ℕ) → Option (List ℕ) → (List ℕ → List ℕ → Type 0) → Type 0
Between None new P = Unit {0}
Between (Some before) None P = ⊥
Between (Some before) (Some after) P = P before after

-- the first line is too long
abbrev pub BeginsTooLong : List (List ℕ) → Type 0
BeginsTooLong [] = ⊥
BeginsTooLong (line ∷ more) = longest_line < length line

-- how the lines of an input end: behind the last, at one that is too long, or at one more than may be there
pub data InputEnd : Type 0 where
  AtEnd : InputEnd
  AtLongLine : InputEnd
  AtTooMany : InputEnd

-- the lines that are taken from an input, and how they end
pub record TakenLines : Type 0 where
  pub lines : List (List ℕ)
  pub end : InputEnd

abbrev pub none_taken : InputEnd → TakenLines
none_taken end = record { lines = []; end = end }

-- one line before these
abbrev pub with_line : List ℕ → TakenLines → TakenLines
with_line line t = record { lines = line ∷ t.lines; end = t.end }

-- the lines of an input that are taken one by one, of which this many may be there
unfoldable pub taken : ℕ → List (List ℕ) → TakenLines
taken most [] = none_taken AtEnd
taken zero (line ∷ lines) = none_taken AtTooMany
taken (suc most) (line ∷ lines) = if nat_le (length line) longest_line then with_line line (taken most lines) else none_taken AtLongLine

-- A line is given up at the byte that makes it too long, which is the last that is read.
abbrev pub GivesUp : Option (List ℕ) → Option (List ℕ) → List ℕ → Type 0
GivesUp old new line = (byte : ℕ) × (byte ≢ 10) × (length line ≡ longest_line) × Consumes old new (line ++ byte ∷ [])

-- bytes of a line that may be there, as far as it was read
abbrev pub IsPartOfLine : List ℕ → Type 0
IsPartOfLine part = (length part ≤ longest_line) × All (λ b. is_line_break b ≡ false) part

-- what one call leaves
abbrev pub LineGives : Option (List ℕ) → Option (List ℕ) → List ℕ → Result Bool LineFault → Type 0
LineGives old new line (Ok true) = (length line ≤ longest_line) × Between old new (λ before after. lines_of before ≡ line ∷ lines_of after)
LineGives old new line (Ok false) = Between old new (λ before after. (lines_of before ≡ []) × (lines_of after ≡ []))
LineGives old new line (Err LineTooLong) = GivesUp old new line × Between old new (λ before after. BeginsTooLong (lines_of before))
LineGives old new line (Err Read) = IsPartOfLine line × Consumes old new line

-- Reading broke off where this many lines may be there: it took whole lines that may be there, and then a part of one that may be there.
pub record BreaksOff (most : ℕ) (before after : List ℕ) : Type 0 where
  pub lines : List (List ℕ)
  pub part : List ℕ
  pub rest : List ℕ
  pub read : lines_of before ≡ lines ++ lines_of rest
  pub whole : All (λ line. length line ≤ longest_line) lines
  pub begun : rest ≡ part ++ after
  pub is_part : IsPartOfLine part
  pub within : (length lines < most) ⊎ ((length lines ≡ most) × (part ≡ []))

-- what reading one byte leaves
abbrev pub ByteGives : {E : Type 0} → Option (List ℕ) → Option (List ℕ) → Result (Option ℕ) E → Type 0
ByteGives old new (Ok (Some byte)) = Consumes old new (byte ∷ [])
ByteGives old new (Ok None) = Consumes old new [] × IsAtEnd new
ByteGives old new (Err fault) = Keeps old new

-- what asking for another line leaves
abbrev pub MoreGives : Option (List ℕ) → Option (List ℕ) → Result Bool ReadFault → Type 0
MoreGives old new (Ok true) = ((byte : ℕ) × Consumes old new (byte ∷ [])) × Between old new (λ before after. lines_of before ≢ [])
MoreGives old new (Ok false) = Consumes old new [] × Between old new (λ before after. lines_of before ≡ [])
MoreGives old new (Err fault) = Keeps old new
