use Rattle.tick_lines.proofs.Alike as lemmas
use Rattle.tick_lines.proofs.laws.only_their_fields.Goals as goal

pub returns : goal.returns
returns c = lemmas.only_their_fields
