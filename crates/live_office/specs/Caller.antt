-- Which bytes end a line. (Our own.)
use Rattle.std.specs.Prelude.{ℕ, Bool, not, ◌==◌, List, [], ◌∷◌}

-- whether a line is begun and not ended after these bytes, where it was so before them or not
abbrev pub is_in_line : Bool → List ℕ → Bool
is_in_line was [] = was
is_in_line was (byte ∷ bytes) = is_in_line (not (byte == 10)) bytes
