use Rattle.site_tests.proofs.served.served.Given as goal

abbrev pub ghosts-serve_each-L-Opens : goal.ghosts-serve_each-L-Opens
ghosts-serve_each-L-Opens g a = record { began = a.book.book.history; office = a.book.book.office }

abbrev pub ghosts-serve_each-L-Ledger : goal.ghosts-serve_each-L-Ledger
ghosts-serve_each-L-Ledger g a = record { name = a.blank.name; parts = a.blank.parts }
