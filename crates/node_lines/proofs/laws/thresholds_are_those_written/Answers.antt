use Rattle.node_lines.proofs.ThresholdLemmas as lemmas
use Rattle.node_lines.proofs.laws.thresholds_are_those_written.Goals as goal

pub returns : goal.returns
returns c = record { every_limit = lemmas.every_limit; every_threshold = lemmas.every_threshold }
