use Rattle.kubelet_replay.proofs.report.report_by_steps.Given as goal

abbrev pub ghosts-by_steps-U-Ledger : goal.ghosts-by_steps-U-Ledger
ghosts-by_steps-U-Ledger a = record { name = a.blanks.updates.name; parts = a.blanks.updates.parts }

abbrev pub ghosts-by_steps-E-Ledger : goal.ghosts-by_steps-E-Ledger
ghosts-by_steps-E-Ledger a = record { name = a.blanks.events.name; parts = a.blanks.events.parts }

abbrev pub ghosts-by_steps-O-Ledger : goal.ghosts-by_steps-O-Ledger
ghosts-by_steps-O-Ledger a = record { name = a.blanks.orders.name; parts = a.blanks.orders.parts }
