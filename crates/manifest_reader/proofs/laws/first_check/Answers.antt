use Rattle.manifest_reader.proofs.FirstCheck.{first_check}
use Rattle.manifest_reader.proofs.laws.first_check.Goals as goal

pub returns : goal.returns
returns c = first_check
