use Rattle.std.proofs.Common.{arith}
use Rattle.quantity.specs.state.Quantity.{HasThousandths}
use Rattle.quantity.proofs.QuantityFaults.{quantity_fault}
use Rattle.quantity.proofs.QuantityMeaning.{quantity_complete}
use Rattle.quantity.proofs.StepsPassed.{refused_of}
use Rattle.quantity.proofs.quantity.Quantity.parse.Goals as goal

pub returns-clause-refused : goal.returns-clause-refused
returns-clause-refused c = refused_of (HasThousandths c.args.text.now) c.read.result _ c.read.ensures
    (quantity_complete c.args.text.now)

pub returns-clause-fault : goal.returns-clause-fault
returns-clause-fault c = grind (arith, quantity_fault)
