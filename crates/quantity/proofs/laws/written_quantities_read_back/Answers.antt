use Rattle.quantity.proofs.PrintedTexts.{written_reads_back}
use Rattle.quantity.proofs.laws.written_quantities_read_back.Goals as goal

pub returns : goal.returns
returns c = written_reads_back
