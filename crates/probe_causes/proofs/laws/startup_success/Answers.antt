use Rattle.probe_causes.proofs.Startup.{one_pass, passes_by_last}
use Rattle.probe_causes.proofs.laws.startup_success.Goals as goal

pub returns-clause-by_last : goal.returns-clause-by_last
returns-clause-by_last c = passes_by_last

pub returns-clause-one_moment : goal.returns-clause-one_moment
returns-clause-one_moment c = one_pass
