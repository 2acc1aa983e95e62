use Rattle.calls_tests.proofs.rounds.over_book.Given as goal

abbrev pub ghosts-make-U-Ledger : goal.ghosts-make-U-Ledger
ghosts-make-U-Ledger g a = record { name = a.blanks.updates.name; parts = a.blanks.updates.parts }

abbrev pub ghosts-make-E-Ledger : goal.ghosts-make-E-Ledger
ghosts-make-E-Ledger g a = record { name = a.blanks.events.name; parts = a.blanks.events.parts }

abbrev pub ghosts-make-O-Ledger : goal.ghosts-make-O-Ledger
ghosts-make-O-Ledger g a = record { name = a.blanks.orders.name; parts = a.blanks.orders.parts }
