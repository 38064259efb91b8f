-- What a cell is to the rights of a site (Balegas et al., SRDS 2015; what is taken back, and the words, are our own).
use Rattle.std.specs.Prelude.{ℕ, ◌+◌, ◌-◌, ◌==◌, if◌then◌else◌}
use Rattle.rights_lattice.specs.declared.cell.Cell.{Cell}
use Rattle.rights_lattice.specs.declared.cell.Cell.TheVariants.{Gave, Used, Back}
use Rattle.local_rights.specs.declared.effect.Effect.{Effect}
use Rattle.local_rights.specs.declared.effect.Effect.TheVariants.{Adds, Takes, Leaves}

-- whether the rights of the site grow with the cell, or shrink with it
abbrev pub effect_of : Cell → ℕ → Effect
effect_of (Gave by to) me = if to == me then Adds else if by == me then Takes else Leaves
effect_of (Used by) me = if by == me then Takes else Leaves
effect_of (Back by) me = if by == me then Adds else Leaves

-- what is left once such a cell has risen by so much
abbrev pub left_after : Effect → ℕ → ℕ → ℕ
left_after Adds left more = left + more
left_after Takes left more = left - more
left_after Leaves left more = left
