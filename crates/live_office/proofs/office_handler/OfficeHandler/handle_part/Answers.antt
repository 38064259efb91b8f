use Rattle.std.proofs.Common.{Bool, [], ◌∷◌, ◌++◌, subst}
use Rattle.live_office.specs.Admissible.{admissible}
use Rattle.live_office.specs.Answers.{answer_text}
use Rattle.live_office.specs.Handling.{HandlesPart}
use Rattle.live_office.proofs.Handled.{lost_part}
use Rattle.live_office.proofs.office_handler.OfficeHandler.handle_part.Goals as goal

pub returns-in_default : goal.returns-in_default
returns-in_default g c =
    let d = admissible g.L.Opens.office g.L.Opens.began g.K.Keeper in
    let message = c.args.bytes.items ++ c.args.line.now ++ 10 ∷ [] in
    subst (λ (is_last : Bool). HandlesPart d c.args.self.now message is_last (answer_text c.lose.result) c.lose.new.self) c.ends_message-is_last.ensures
    (lost_part d c.args.self.now message c.ends_message-is_last.result (answer_text c.lose.result) c.lose.new.self c.lose.ensures)
