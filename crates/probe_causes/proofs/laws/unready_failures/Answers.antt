use Rattle.probe_causes.proofs.Readiness.{one_unready, some_unready, unready_follows}
use Rattle.probe_causes.proofs.laws.unready_failures.Goals as goal

pub returns-clause-one : goal.returns-clause-one
returns-clause-one c = one_unready

pub returns-clause-some : goal.returns-clause-some
returns-clause-some c = some_unready

pub returns-clause-follows : goal.returns-clause-follows
returns-clause-follows c = unready_follows
