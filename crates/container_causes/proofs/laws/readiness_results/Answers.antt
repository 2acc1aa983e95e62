use Rattle.container_causes.proofs.CauseLemmas.{one_list_of_successes, one_list_of_failures}
use Rattle.container_causes.proofs.laws.readiness_results.Goals as goal

pub returns-clause-successes : goal.returns-clause-successes
returns-clause-successes c = one_list_of_successes

pub returns-clause-failures : goal.returns-clause-failures
returns-clause-failures c = one_list_of_failures
