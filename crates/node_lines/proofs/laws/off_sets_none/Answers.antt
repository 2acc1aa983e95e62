use Rattle.node_lines.proofs.LawLemmas as laws
use Rattle.node_lines.proofs.laws.off_sets_none.Goals as goal

pub returns : goal.returns
returns c = record { hard = laws.off_sets_no_hard; soft = laws.off_sets_no_soft }
