use Rattle.ranking.proofs.LawLemmas as laws
use Rattle.ranking.proofs.laws.lesser_key_is_before.Goals as goal

pub returns : goal.returns
returns c = laws.lesser_key_is_before
