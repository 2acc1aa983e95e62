use Rattle.std.proofs.Common.{◌≡◌, map, drop}
use Rattle.serde_json.specs.View.{view}
use Rattle.json_fields.specs.rule.Reading.{each}
use Rattle.manifest_reader.specs.rule.Manifest.{container_of}
use Rattle.json_fields.specs.state.Reading.{checked}
use Rattle.manifest_reader.proofs.checks.check_each.Given as goal

abbrev pub invariant-loop-value : goal.invariant-loop-value
invariant-loop-value l =
    checked (each (container_of l.own l.place) (map view (drop l.value-index l.values)))
    ≡ checked (each (container_of l.own l.place) (map view l.values))
