use Rattle.std.proofs.Common.{◌≡◌, map, drop}
use Rattle.serde_json.specs.View.{view}
use Rattle.json_fields.specs.rule.Reading.{each}
use Rattle.json_fields.specs.state.Reading.{checked}
use Rattle.manifest_reader.specs.rule.OwnRestarts.{code_of}
use Rattle.manifest_reader.proofs.own_restarts.check_codes.Given as goal

abbrev pub invariant-loop-item : goal.invariant-loop-item
invariant-loop-item l =
    checked (each code_of (map view (drop l.item-index l.items))) ≡ checked (each code_of (map view l.items))
