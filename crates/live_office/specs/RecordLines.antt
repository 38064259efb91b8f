-- The lines that tell of a history. (Our own.)
use Rattle.std.specs.Prelude.{ℕ, List, [], ◌∷◌, ◌++◌, Option, codes}
use Rattle.std.specs.Fmt.{decimal}
use Rattle.request_ledger.specs.declared.request.Request.{Request}
use Rattle.request_ledger.specs.declared.reply.Reply.{Reply}
use Rattle.history_keeper.specs.declared.lookup.Listed.{Listed}
use Rattle.site_desk.specs.declared.answer.SiteShare.{SiteShare}
use Rattle.site_desk.specs.declared.answer.SiteStatus.{SiteStatus}
use Rattle.desk_lines.specs.Grammar.{request_line}
use Rattle.desk_lines.specs.Replies.{open_text, reply_text}

-- where the reply stands in the history, and the reply
abbrev pub found_line : ℕ → Reply → List ℕ
found_line place reply = decimal place ++ 32 ∷ [] ++ reply_text reply ++ 10 ∷ []

-- where the request stands in the history, its session line and its reply
abbrev pub listed_line : ℕ → ℕ → Request → Reply → List ℕ
listed_line place number request reply = decimal place ++ 32 ∷ [] ++ request_line number request ++ 32 ∷ [] ++ reply_text reply ++ 10 ∷ []

abbrev pub row_line : Listed → List ℕ
row_line row = listed_line row.place row.number row.request row.reply

-- the name of an event that is known: behind a word, since an event may be named `end` or `none`
abbrev pub event_line : List ℕ → List ℕ
event_line event = codes "event " ++ event ++ 10 ∷ []

-- what a site may sell, or that its rights are negative; what it sold, and what it took back
abbrev pub share_line : SiteShare → List ℕ
share_line row = decimal row.site ++ codes " left " ++ open_text row.left ++ codes " sold " ++ decimal row.sold ++ codes " back " ++ decimal row.back ++ 10 ∷ []

-- which site it is, how many it counts, and how long its history is and may become
abbrev pub site_status_text : SiteStatus → List ℕ
site_status_text s = codes "site " ++ decimal s.me ++ codes " sites " ++ decimal s.sites ++ codes " entries " ++ decimal s.entries ++ codes " limit " ++
    decimal s.limit
