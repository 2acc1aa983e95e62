use Rattle.trace.proofs.LawLemmas.Listings as lemmas
use Rattle.trace.proofs.laws.listings_shown.Goals as goal

pub returns : goal.returns
returns c = lemmas.listings_shown
