use Rattle.ranking.proofs.LawLemmas.{victim_unique}
use Rattle.node_pods.specs.state.Pods.{IsCandidate}
use Rattle.node_pods.proofs.Candidates.{candidates_alike}
use Rattle.node_pods.proofs.laws.candidates_are_alike.Goals as goal

pub returns-clause-alike : goal.returns-clause-alike
returns-clause-alike c = candidates_alike

pub returns-clause-victim : goal.returns-clause-victim
returns-clause-victim c = λ pieces moment signal dedicated.
    victim_unique signal dedicated (IsCandidate pieces moment)
