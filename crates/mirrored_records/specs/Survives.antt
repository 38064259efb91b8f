-- What survives leaves something. (Our own.)
use Rattle.std.specs.Prelude.{List, Option, Bool, true, false}
use Rattle.book_core.specs.declared.entry.Entry.{Entry}
use Rattle.history_keeper.specs.declared.keeper.Keeper.{Ghosts}
use Rattle.mirrored_records.specs.Mirrored.{MirrorView, surviving}

-- a keeper that is trusted leaves something at a crash
abbrev pub Survives : {K : Type 0} → Ghosts K → Type 0
Survives {K} k = (keeper : K) → k.is_trusted keeper → ∥ ((left : Option (List Entry)) × k.may_leave keeper left) ∥₁

pub survives : {A B : Type 0} (is_first : Bool) (a : Ghosts A) (b : Ghosts B) → Survives a → Survives b → Survives (surviving is_first a b)
survives true a b first second = λ m trusted. first m.first trusted
survives false a b first second = λ m trusted. second m.second trusted
