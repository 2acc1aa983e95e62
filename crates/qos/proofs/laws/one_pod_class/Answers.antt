use Rattle.qos.proofs.ClassLemmas.{some_pod_class, one_pod_class}
use Rattle.qos.proofs.laws.one_pod_class.Goals as goal

pub returns-clause-some : goal.returns-clause-some
returns-clause-some c = some_pod_class

pub returns-clause-one : goal.returns-clause-one
returns-clause-one c = one_pod_class
