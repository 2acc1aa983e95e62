use Rattle.trace.proofs.LawLemmas.Formats as formats
use Rattle.trace.proofs.laws.standard_is_extended.Goals as goal

pub returns : goal.returns
returns c = formats.standard_is_extended
