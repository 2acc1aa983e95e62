use Rattle.std.proofs.Common.{◌≡◌, [], map, drop}
use Rattle.serde_json.specs.View.{view}
use Rattle.extended_manifest.specs.rule.Extended.{gates_from}
use Rattle.extended_manifest.proofs.gates.gates_from.Given as goal

abbrev pub invariant-loop-value : goal.invariant-loop-value
invariant-loop-value l =
    gates_from (map (λ n. n.now) l.names.items) (map view (drop l.value-index l.values))
    ≡ gates_from [] (map view l.values)
