use Rattle.node_lines.proofs.LawLemmas as laws
use Rattle.node_lines.proofs.laws.defaults_where_none_is_written.Goals as goal

pub returns : goal.returns
returns c = laws.defaults
