use Rattle.quantity.proofs.Printing.{percent_reads_back}
use Rattle.quantity.proofs.laws.printed_percentages_read_back.Goals as goal

pub returns : goal.returns
returns c = percent_reads_back
