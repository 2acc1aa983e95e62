use Rattle.trace.proofs.LawLemmas.GoingBack as lemmas
use Rattle.trace.proofs.laws.backwards_listing.Goals as goal

pub returns : goal.returns
returns c = lemmas.backwards_listing
