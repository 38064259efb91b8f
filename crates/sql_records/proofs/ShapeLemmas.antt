-- A schema that begins with ours, as the code tests it.
use Rattle.std.proofs.Common.{List, [], ◌∷◌, refl, sym, subst}
use Rattle.sqlite.specs.Table.{Table}
use Rattle.sqlite.specs.Schema.{Schema}
use Rattle.sqlite_schema.specs.declared.schema.Index.{Index}
use Rattle.sqlite_schema.specs.declared.schema.View.{View}
use Rattle.sql_records.specs.Layout.{IsOurs, AreOursFirst, IsOursFirst}

from_lists : (tables : List Table) (indexes : List Index) (views : List View) → AreOursFirst tables → IsOursFirst indexes
    → IsOurs (record { tables = tables; indexes = indexes; views = views })
from_lists [] indexes views h k = absurd h
from_lists (meta ∷ []) indexes views h k = absurd h
from_lists (meta ∷ entries ∷ more) [] views h k = absurd k
from_lists (meta ∷ entries ∷ more) (index ∷ indexes) views h k = record
    { tables = more; indexes = indexes; views = views; is = rw (h.0, h.1, k) refl; bare = h.2 }

pub ours_of : (s : Schema) → AreOursFirst s.tables → IsOursFirst s.indexes → IsOurs s
ours_of s h k = from_lists s.tables s.indexes s.views h k

pub first_of : (s : Schema) → IsOurs s → AreOursFirst s.tables × IsOursFirst s.indexes
first_of s ours = (
  subst (λ (x : Schema). AreOursFirst x.tables) (sym ours.is) (refl, refl, ours.bare),
  subst (λ (x : Schema). IsOursFirst x.indexes) (sym ours.is) refl,
)
