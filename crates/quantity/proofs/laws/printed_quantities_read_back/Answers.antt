use Rattle.quantity.proofs.PrintedTexts.{text_reads_back}
use Rattle.quantity.proofs.laws.printed_quantities_read_back.Goals as goal

pub returns : goal.returns
returns c = text_reads_back
