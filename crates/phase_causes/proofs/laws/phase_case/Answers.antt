use Rattle.phase_causes.proofs.CaseLemmas.{one_case, phase_follows}
use Rattle.phase_causes.proofs.laws.phase_case.Goals as goal

pub returns-clause-one : goal.returns-clause-one
returns-clause-one c = one_case

pub returns-clause-phase : goal.returns-clause-phase
returns-clause-phase c = phase_follows
