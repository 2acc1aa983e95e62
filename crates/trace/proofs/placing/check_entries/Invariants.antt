use Rattle.std.proofs.Common.{◌≡◌, drop}
use Rattle.json_fields.specs.rule.Reading.{each}
use Rattle.json_fields.specs.state.Reading.{checked}
use Rattle.trace.specs.rule.Placing.{placed_entry}
use Rattle.trace.proofs.placing.check_entries.Given as goal

abbrev pub invariant-loop-entry : goal.invariant-loop-entry
invariant-loop-entry l =
    checked (each (placed_entry l.heeds l.roster) (drop l.entry-index l.entries))
    ≡ checked (each (placed_entry l.heeds l.roster) l.entries)
