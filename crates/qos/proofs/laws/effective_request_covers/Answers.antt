use Rattle.qos.proofs.RequestLemmas.{effective_request_covers}
use Rattle.qos.proofs.laws.effective_request_covers.Goals as goal

pub returns : goal.returns
returns c = effective_request_covers
