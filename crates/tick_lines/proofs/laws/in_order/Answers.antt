use Rattle.tick_lines.proofs.Ordered as lemmas
use Rattle.tick_lines.proofs.laws.in_order.Goals as goal

pub returns : goal.returns
returns c = lemmas.in_order
