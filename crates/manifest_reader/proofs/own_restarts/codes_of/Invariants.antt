use Rattle.std.proofs.Common.{◌≡◌, map, drop}
use Rattle.serde_json.specs.View.{view}
use Rattle.json_fields.specs.rule.Reading.{each}
use Rattle.json_fields.proofs.Each.{with_front}
use Rattle.manifest_reader.specs.rule.OwnRestarts.{code_of}
use Rattle.manifest_reader.proofs.own_restarts.codes_of.Given as goal

abbrev pub invariant-loop-item : goal.invariant-loop-item
invariant-loop-item l =
    with_front l.codes.items (each code_of (map view (drop l.item-index l.items))) ≡ each code_of (map view l.items)
