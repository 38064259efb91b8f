use Rattle.live_office.proofs.office.open_office.Given as goal

abbrev pub ghosts-at_desk-L-Opens : goal.ghosts-at_desk-L-Opens
ghosts-at_desk-L-Opens g a = record { began = a.book.book.history; office = a.book.book.office }

abbrev pub ghosts-at_desk-L-Ledger : goal.ghosts-at_desk-L-Ledger
ghosts-at_desk-L-Ledger g a = record { name = a.blank.name; parts = a.blank.parts }
