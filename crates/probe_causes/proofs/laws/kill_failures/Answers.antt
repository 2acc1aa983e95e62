use Rattle.probe_causes.proofs.Kills.{one_kill, kill_count, some_kill}
use Rattle.probe_causes.proofs.laws.kill_failures.Goals as goal

pub returns-clause-one : goal.returns-clause-one
returns-clause-one c = one_kill

pub returns-clause-as_many : goal.returns-clause-as_many
returns-clause-as_many c = kill_count

pub returns-clause-some : goal.returns-clause-some
returns-clause-some c = some_kill
