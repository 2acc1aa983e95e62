use Rattle.manifest_reader.proofs.FirstCheck.{every_check}
use Rattle.manifest_reader.proofs.laws.every_check.Goals as goal

pub returns : goal.returns
returns c = every_check
