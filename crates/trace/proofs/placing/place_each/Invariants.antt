use Rattle.std.proofs.Common.{◌≡◌, drop}
use Rattle.json_fields.specs.rule.Reading.{each}
use Rattle.json_fields.proofs.Each.{with_front}
use Rattle.trace.proofs.placing.place_each.Given as goal

abbrev pub invariant-loop-one : goal.invariant-loop-one
invariant-loop-one g l = with_front l.all (each (g.P.Place.placed_by l.places) (drop l.one-index l.written))
    ≡ each (g.P.Place.placed_by l.places) l.written
