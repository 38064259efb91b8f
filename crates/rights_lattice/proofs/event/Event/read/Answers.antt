use Rattle.std.proofs.Common.{◌-◌, take, length, replicate, refl, sym, ap, ◌∙◌, Some}
use Rattle.std.proofs.Math.Seq.{take-append_seam}
use Rattle.std.proofs.lemmas.Bool.{false≢true}
use Rattle.rights_lattice.specs.Limits.{longest_name}
use Rattle.rights_lattice.proofs.EventLaws.{name_of_none, name_of_again}
use Rattle.rights_lattice.proofs.event.Event.read.Goals as goal

pub returns-then-not-is_event_name-clause-name : goal.returns-then-not-is_event_name-clause-name
returns-then-not-is_event_name-clause-name c = name_of_none c.args.bytes.now (λ h. false≢true (c.if-not-is_event_name.ensures.1 h))

pub returns-clause-name : goal.returns-clause-name
returns-clause-name c =
    let same = ap (take (length c.args.bytes.now)) c.padded_name.ensures
    ∙ take-append_seam c.args.bytes.now (replicate (longest_name - length c.args.bytes.now) 0) in
    ap Some same ∙ sym (name_of_again c.args.bytes.now (c.if-not-is_event_name.ensures.0 refl))
