use Rattle.std.proofs.Common.{◌≡◌, drop}
use Rattle.json_fields.specs.rule.Reading.{each}
use Rattle.json_fields.specs.state.Reading.{checked}
use Rattle.trace.proofs.placing.check_each.Given as goal

abbrev pub invariant-loop-one : goal.invariant-loop-one
invariant-loop-one g l =
    checked (each (g.P.Place.placed_by l.places) (drop l.one-index l.written))
    ≡ checked (each (g.P.Place.placed_by l.places) l.written)
