-- The word that a caller is told at the end of a session. (Our own.)
use Rattle.std.specs.Prelude.{ℕ, Bool, List, [], ◌∷◌, ◌++◌, Option, Some, None, Result, Ok, Err, codes, if◌then◌else◌}
use Rattle.desk_lines.specs.declared.answered.Answered.TheVariants as answered
use Rattle.desk_lines.specs.Replies.{reply_line}
use Rattle.session_server.specs.declared.fault.TalkFault.{TalkFault}
use Rattle.live_office.specs.declared.handler.Last.{Last}
use Rattle.live_office.specs.declared.handler.Last.TheVariants as last

-- what a last line is answered, at an office whose file is lost or not
abbrev pub last_text : Bool → Last → List ℕ
last_text is_lost last.Quit = []
last_text is_lost last.Close = (if is_lost then codes "lost-file" else codes "closing") ++ 10 ∷ []
last_text is_lost last.Unread = reply_line answered.Unread
last_text is_lost last.Full = codes "full" ++ 10 ∷ []

-- a session that ends otherwise has no such word
abbrev pub parting_text : Bool → Result (Option Last) TalkFault → List ℕ
parting_text is_lost (Ok (Some last)) = last_text is_lost last
parting_text is_lost (Ok None) = []
parting_text is_lost (Err fault) = []
