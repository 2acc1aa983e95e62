use Rattle.tick_lines.proofs.OnlyUsage as lemmas
use Rattle.tick_lines.proofs.laws.one_kind.Goals as goal

pub returns : goal.returns
returns c = lemmas.one_kind
