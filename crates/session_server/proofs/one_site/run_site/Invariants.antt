use Rattle.session_server.proofs.one_site.run_site.Given as goal

abbrev pub ghosts-at_desk-L-Opens : goal.ghosts-at_desk-L-Opens
ghosts-at_desk-L-Opens g a = record { began = a.site.book.book.history; office = a.site.book.book.office }

abbrev pub ghosts-at_desk-L-Ledger : goal.ghosts-at_desk-L-Ledger
ghosts-at_desk-L-Ledger g a = record { name = a.blank.name; parts = a.blank.parts }
