use Rattle.tick_lines.proofs.Strangers as lemmas
use Rattle.tick_lines.proofs.laws.only_signals.Goals as goal

pub returns : goal.returns
returns c = lemmas.only_signals
