use Rattle.worker_results.proofs.Numbers.{left_as_dealt as lemma}
use Rattle.pod_pool.proofs.laws.left_as_dealt.Goals as goal

pub returns : goal.returns
returns c = lemma
