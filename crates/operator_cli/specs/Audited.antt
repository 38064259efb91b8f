-- What the audit of stopped books prints, status by status. (Our own.)
use Rattle.std.specs.Prelude.{◌≡◌, ℕ, ◌≤◌, ◌⊎◌, List, Option, Some, slice_get}
use Rattle.std.specs.List.{flat_map}
use Rattle.local_rights.specs.declared.seat_totals.Totals.{Totals}
use Rattle.book_core.specs.BookView.{BookView}
use Rattle.world_steps.specs.Audit.{IsWhole, NoneIsAhead, IsFirstAhead, lines_in}
use Rattle.operator_cli.specs.declared.told.CommandReply.TheVariants.{NotWhole, Ahead}
use Rattle.operator_cli.specs.declared.status.Status.{Status}
use Rattle.operator_cli.specs.declared.status.Status.TheVariants.{Done, Refused, NotUnderstood, Failed}
use Rattle.operator_cli.specs.CommandReply.{told_line}
use Rattle.operator_cli.specs.Opened.{FailsFor}
use Rattle.operator_cli.specs.Printed.{Printed, Unprinted}
use Rattle.operator_cli.specs.Script.{total_line}

-- no more is given back of an event than was sold
abbrev pub AreWithinSales : List (List ℕ × Totals) → Type 0
AreWithinSales sums = (k : ℕ) (sum : List ℕ × Totals) → slice_get sums k ≡ Some sum → sum.1.refunded ≤ sum.1.sold

-- a line for each event with its sums
abbrev pub sum_lines : List (List ℕ × Totals) → List ℕ
sum_lines sums = flat_map (λ sum. total_line sum.0 sum.1) sums

-- The lines of the sums, where the books are those of all sites and none is ahead of an owner; else what is the first of
-- these to fail.
abbrev pub IsAuditText : List BookView → Status → List ℕ → Type 0
IsAuditText books Done text = IsWhole books × NoneIsAhead books × (text ≡ sum_lines (lines_in books))
IsAuditText books Refused text =
    ((IsWhole books → ⊥) × (text ≡ told_line NotWhole)) ⊎ ((v o : ℕ) × IsWhole books × IsFirstAhead books v o × (text ≡ told_line (Ahead v o)))
IsAuditText books NotUnderstood text = ⊥
IsAuditText books Failed text = ⊥

-- an audit ends with that text, or with what of it was written before want of memory or the writer's fault was told
abbrev pub EndsAudited : List BookView → Option (List ℕ) → Option (List ℕ) → Option (List ℕ) → Option (List ℕ) → Status → Type 0
EndsAudited books old_out new_out old_err new_err status =
    Printed (IsAuditText books) old_out new_out status × FailsFor (Unprinted (IsAuditText books) old_out new_out) old_err new_err status

-- what is told of books that are not those of all sites
abbrev pub IsPartsText : List BookView → Status → List ℕ → Type 0
IsPartsText books Refused text = (IsWhole books → ⊥) × (text ≡ told_line NotWhole)
IsPartsText books Done text = ⊥
IsPartsText books NotUnderstood text = ⊥
IsPartsText books Failed text = ⊥
