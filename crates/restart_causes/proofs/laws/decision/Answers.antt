use Rattle.restart_causes.proofs.DecisionLemmas.{first_matches, restart_follows}
use Rattle.restart_causes.proofs.laws.decision.Goals as goal

pub returns-clause-first : goal.returns-clause-first
returns-clause-first c = first_matches

pub returns-clause-restart : goal.returns-clause-restart
returns-clause-restart c = restart_follows
