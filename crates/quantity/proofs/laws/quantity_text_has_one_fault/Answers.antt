use Rattle.quantity.proofs.QuantityFaults.{fault_is_one}
use Rattle.quantity.proofs.laws.quantity_text_has_one_fault.Goals as goal

pub returns : goal.returns
returns c = fault_is_one
