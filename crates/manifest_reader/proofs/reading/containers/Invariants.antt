use Rattle.std.proofs.Common.{◌≡◌, map, drop, length}
use Rattle.serde_json.specs.View.{view}
use Rattle.json_fields.specs.rule.Reading.{each}
use Rattle.json_fields.proofs.Each.{with_front}
use Rattle.manifest.specs.state.Containers.{AllOf}
use Rattle.manifest_reader.specs.rule.Manifest.{container_of}
use Rattle.manifest_reader.proofs.reading.containers.Given as goal

abbrev pub invariant-loop-value : goal.invariant-loop-value
invariant-loop-value l = record {
  read : with_front l.all.items (each (container_of l.own l.place) (map view (drop l.value-index l.values))) ≡ each
      (container_of l.own l.place) (map view l.values);
  as_many : length l.all.items ≡ l.value-index;
  of : AllOf l.place l.all.items;
}
