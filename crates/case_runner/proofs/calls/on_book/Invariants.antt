use Rattle.case_runner.proofs.calls.on_book.Given as goal

abbrev pub ghosts-over_book-U-Ledger : goal.ghosts-over_book-U-Ledger
ghosts-over_book-U-Ledger g a = record { name = a.blanks.updates.name; parts = a.blanks.updates.parts }

abbrev pub ghosts-over_book-E-Ledger : goal.ghosts-over_book-E-Ledger
ghosts-over_book-E-Ledger g a = record { name = a.blanks.events.name; parts = a.blanks.events.parts }

abbrev pub ghosts-over_book-O-Ledger : goal.ghosts-over_book-O-Ledger
ghosts-over_book-O-Ledger g a = record { name = a.blanks.orders.name; parts = a.blanks.orders.parts }
