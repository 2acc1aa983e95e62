use Rattle.std.proofs.Common.{arith}
use Rattle.quantity.specs.state.Percent.{HasHundredths}
use Rattle.quantity.proofs.PercentFaults.{percent_fault}
use Rattle.quantity.proofs.PercentMeaning.{percent_complete}
use Rattle.quantity.proofs.StepsPassed.{refused_of}
use Rattle.quantity.proofs.percent.Percent.parse.Goals as goal

pub returns-clause-refused : goal.returns-clause-refused
returns-clause-refused c = refused_of (HasHundredths c.args.text.now) c.read.result _ c.read.ensures
    (percent_complete c.args.text.now)

pub returns-clause-fault : goal.returns-clause-fault
returns-clause-fault c = grind (arith, percent_fault)
