-- How a command over the records of a site ends.
use Rattle.std.proofs.Common.{◌≡◌, ◌≢◌, ◌⊎◌, ◌∙◌, ◌<◌, ℕ, List, [], ◌∷◌, length, Option, Some, Result, Ok, Err, inl, inr, ap, arith, refl, subst, sym}
use Rattle.std.specs.Prelude.{⊤, IfOk, IfErr, MatchResult, OnOk}
use Rattle.std.specs.Io.KnownBytes.{Appends, Keeps}
use Rattle.std.proofs.KnownBytes.{Appends-kept, Keeps-trans}
use Rattle.plain_words.specs.Writing.{AppendsFront, Writes}
use Rattle.plain_words.proofs.WriteLaws.{AppendsFront-kept}
use Rattle.sqlite.specs.Store.{Ghosts}
use Rattle.sqlite.specs.Held.{Held}
use Rattle.sql_records.specs.Held.{RecordsView}
use Rattle.history_keeper.specs.declared.lookup.Listed.{Listed}
use Rattle.live_office.specs.RecordLines.{event_line, row_line}
use Rattle.std.specs.List.{flat_map}
use Rattle.delta_wire.specs.Grammar.{IsMessage}
use Rattle.site_desk.specs.SiteView.{SiteView}
use Rattle.operator_cli.specs.declared.outcome.Outcome.{Outcome}
use Rattle.operator_cli.specs.declared.outcome.Outcome.TheVariants.{Tells, Sends, Shows, Lists, Knows, Splits, SiteStatusIs, Fails}
use Rattle.operator_cli.specs.declared.status.Status.{Status}
use Rattle.operator_cli.specs.declared.status.Status.TheVariants.{Done, Refused, NotUnderstood, Failed}
use Rattle.operator_cli.specs.declared.command_fault.CommandFault.{CommandFault}
use Rattle.operator_cli.specs.declared.command_fault.CommandFault.TheVariants as fault
use Rattle.operator_cli.specs.declared.told.CommandReply.TheVariants.{NotFound}
use Rattle.operator_cli.specs.Commands.{CameTo}
use Rattle.operator_cli.specs.Opened.{IsOpened}
use Rattle.operator_cli.specs.Outcomes.{IsFailed, IsPrinted, IsWritten, WritesAs, known_status, known_text, list_status, list_text, outcome_text}
use Rattle.operator_cli.specs.CommandReply.{FaultTold, command_fault_line, told_line, told_status}
use Rattle.operator_cli.proofs.EndLaws.{front_written, never_failed}

-- a command opened the records and made a call, and gives the connection of the book that it left
pub came_over : {S : Type 0} (g : Ghosts S) (conn after : Held S) (Calls : SiteView (RecordsView S) → SiteView (RecordsView S) → Outcome → Type 0)
    (outcome : Outcome) (first last : SiteView (RecordsView S)) (keeper : RecordsView S)
    → keeper ≡ last.keeper → after ≡ keeper.conn → IsOpened g conn first → Calls first last outcome → CameTo g conn Calls (Some after) outcome
came_over g conn after Calls outcome first last keeper kept closed opened call =
    inr (after, refl, record { first = first; last = last; opened = opened; call = call; back = sym (closed ∙ ap (λ (k : RecordsView _). k.conn) kept) })

-- nothing was told on the second writer where a command did not fail
nothing_told_as : (d e : Option (List ℕ)) (status want : Status) → status ≡ want → want ≢ Failed → FaultTold d e status → Keeps d e
nothing_told_as d e Done want is lives told = told
nothing_told_as d e Refused want is lives told = told
nothing_told_as d e NotUnderstood want is lives told = told
nothing_told_as d e Failed want is lives told = absurd (lives (sym is))

pub list_is : (rows : List Listed) → 0 < length rows → list_text rows ≡ flat_map row_line rows
list_is [] some = absurd (omega (arith, some))
list_is (row ∷ rows) some = refl

pub list_lives : (rows : List Listed) → list_status rows ≢ Failed
list_lives [] is = never_failed NotFound is
list_lives (row ∷ rows) is = cc

pub known_is : (events : List (List ℕ)) → 0 < length events → known_text events ≡ flat_map event_line events
known_is [] some = absurd (omega (arith, some))
known_is (event ∷ events) some = refl

known_lives : (events : List (List ℕ)) → known_status events ≢ Failed
known_lives [] is = never_failed NotFound is
known_lives (event ∷ events) is = cc

module _ (a b c d e : Option (List ℕ)) (status : Status) (kept : Keeps b c) (told : FaultTold d e status) where
  text_printed : (text : List ℕ) (want : Status) (Read : Type 0) (came : Result Status CommandFault) → want ≢ Failed
      → WritesAs text want a b came × OnOk came Read
      → IfErr came (λ f. AppendsFront d e (command_fault_line f)) → IfOk came (λ s. status ≢ s → AppendsFront d e (command_fault_line fault.Write))
      → MatchResult came (λ s. (status ≡ s) ⊎ (status ≡ Failed)) (λ _. status ≡ Failed)
      → (Appends a c text × Keeps d e × (status ≡ want) × Read) ⊎ (AppendsFront a c text × IsFailed fault.Write d e status)
  text_printed text want Read (Ok s) lives h line flush (inl is) = inl
      (Appends-kept a b c text h.0.0 kept, nothing_told_as d e status want (is ∙ h.0.1) lives told, is ∙ h.0.1, h.1)
  text_printed text want Read (Ok s) lives h line flush (inr failed) =
      inr (
        AppendsFront-kept a b c text (front_written {E = CommandFault} a b (Ok s) text h.0.0) kept,
        record { told = flush (λ same. lives (sym h.0.1 ∙ sym same ∙ failed)); failed = failed },
      )
  text_printed text want Read (Err f) lives h line flush failed =
      inr (AppendsFront-kept a b c text h.0.0 kept, record { told = subst (λ x. AppendsFront d e (command_fault_line x)) h.0.1 line; failed = failed })

  pub outcome_printed : (outcome : Outcome) (came : Result Status CommandFault) → IsWritten outcome a b came
      → IfErr came (λ f. AppendsFront d e (command_fault_line f)) → IfOk came (λ s. status ≢ s → AppendsFront d e (command_fault_line fault.Write))
      → MatchResult came (λ s. (status ≡ s) ⊎ (status ≡ Failed)) (λ _. status ≡ Failed)
      → IsPrinted outcome a c d e status
  outcome_printed (Tells t) came h line flush end = text_printed (told_line t) (told_status t) ⊤ came (never_failed t) h line flush end
  outcome_printed (Sends message) came h line flush end = text_printed (outcome_text (Sends message)) Done (IsMessage message) came (λ is. cc) h line flush end
  outcome_printed (Shows found) came h line flush end = text_printed (outcome_text (Shows found)) Done ⊤ came (λ is. cc) h line flush end
  outcome_printed (Lists rows) came h line flush end = text_printed (outcome_text (Lists rows)) (list_status rows.items) ⊤ came (list_lives rows.items) h
      line flush end
  outcome_printed (Knows events) came h line flush end = text_printed (outcome_text (Knows events)) (known_status events.items) ⊤ came
      (known_lives events.items) h line flush end
  outcome_printed (Splits rows) came h line flush end = text_printed (outcome_text (Splits rows)) Done ⊤ came (λ is. cc) h line flush end
  outcome_printed (SiteStatusIs site_status) came h line flush end = text_printed (outcome_text (SiteStatusIs site_status)) Done ⊤ came (λ is. cc) h line
      flush end
  outcome_printed (Fails cause) (Err f) h line flush failed = (
    Keeps-trans a b c h.0 kept,
    record
        { told = subst (λ (r : Result Status CommandFault). IfErr r (λ x. AppendsFront d e (command_fault_line x))) h.1 line; failed = failed },
  )
  outcome_printed (Fails cause) (Ok s) h line flush failed = absurd (let is = h.1 in cc)
