use Rattle.probe_causes.proofs.Kills as kills
use Rattle.probe_causes.proofs.laws.in_words.Goals as goal

pub returns : goal.returns
returns c = kills.in_words
