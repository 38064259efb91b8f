-- Which program it is. (Our own.)
use Rattle.std.specs.Prelude.{ℕ, List, codes}

-- its name and version, the schema of its records, the toolchain that proves it, and that it is proved
abbrev pub version_lines : List ℕ
version_lines = codes "boxoffice 0.4.0\nschema 2\nrattle-kit-13 logic dac8208d650f15bf\nproved\n"
