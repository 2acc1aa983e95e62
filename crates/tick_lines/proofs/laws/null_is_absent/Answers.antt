use Rattle.tick_lines.proofs.Nulls as lemmas
use Rattle.tick_lines.proofs.laws.null_is_absent.Goals as goal

pub returns : goal.returns
returns c = lemmas.null_is_absent
