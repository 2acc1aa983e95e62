use Rattle.std.proofs.Common.{Result, subst}
use Rattle.serde_json.specs.View.{view}
use Rattle.line_faults.specs.declared.fault.FaultKind.{FaultKind}
use Rattle.json_fields.specs.state.Reading.{GivesUnless}
use Rattle.trace.specs.state.Memory.{is_memory}
use Rattle.trace.specs.rule.TraceSoFar.{TraceSoFar}
use Rattle.trace.proofs.Taken.{of_value}
use Rattle.trace.proofs.reading.take_tick_value.Goals as goal

pub returns-in-Ok : goal.returns-in-Ok
returns-in-Ok c =
    subst (λ (given : Result TraceSoFar FaultKind). GivesUnless is_memory (λ r. r) c.take_tick.result given)
    (of_value c.args.so_far (view c.args.line.now) c.in-Ok.tick.at c.in-Ok.tick.written c.in-Ok.ensures.at
    c.in-Ok.ensures.written) c.take_tick.ensures
