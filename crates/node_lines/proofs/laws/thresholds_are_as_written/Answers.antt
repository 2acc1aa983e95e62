use Rattle.node_lines.proofs.LawLemmas as laws
use Rattle.node_lines.proofs.laws.thresholds_are_as_written.Goals as goal

pub returns : goal.returns
returns c = record { hard = laws.hard_as_written; soft = laws.soft_as_written }
