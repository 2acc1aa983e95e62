use Rattle.kubelet_replay.proofs.report.report_by_workers.Given as goal

abbrev pub ghosts-by_workers-U-Ledger : goal.ghosts-by_workers-U-Ledger
ghosts-by_workers-U-Ledger g a = record { name = a.blanks.updates.name; parts = a.blanks.updates.parts }

abbrev pub ghosts-by_workers-E-Ledger : goal.ghosts-by_workers-E-Ledger
ghosts-by_workers-E-Ledger g a = record { name = a.blanks.events.name; parts = a.blanks.events.parts }

abbrev pub ghosts-by_workers-O-Ledger : goal.ghosts-by_workers-O-Ledger
ghosts-by_workers-O-Ledger g a = record { name = a.blanks.orders.name; parts = a.blanks.orders.parts }
