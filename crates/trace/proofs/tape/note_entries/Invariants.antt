use Rattle.std.proofs.Common.{◌≡◌, ◌++◌, Bool, List, length}
use Rattle.json_fields.specs.state.Tape.{items_in}
use Rattle.serde_json.specs.Data.{Data}
use Rattle.trace.specs.state.Tape.{EntriesNoted}
use Rattle.trace.proofs.tape.note_entries.Given as goal

abbrev pub invariant-loop-value : goal.invariant-loop-value
invariant-loop-value l = (read : List Data) × (items_in l.fn.items ≡ read ++ items_in l.items)
    × ((heeds : Bool) → EntriesNoted heeds l.roster l.at read l.slots.items)

abbrev pub decreases-loop-value : goal.decreases-loop-value
decreases-loop-value l = length l.items
