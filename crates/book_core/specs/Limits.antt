-- How long a history may become. (Our own.)
use Rattle.std.specs.Prelude.{ℕ, ◌≤◌}

-- the greatest limit of a history, which it has where none is given
abbrev pub greatest_limit : ℕ
greatest_limit = 1000000

-- a limit of a history
abbrev pub IsLimit : ℕ → Type 0
IsLimit n = (1 ≤ n) × (n ≤ greatest_limit)
