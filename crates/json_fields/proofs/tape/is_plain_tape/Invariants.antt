use Rattle.std.proofs.Common.{◌≡◌, map, drop}
use Rattle.json.specs.Tape.{node_token}
use Rattle.serde_json.specs.Read.{max_depth}
use Rattle.json_fields.specs.state.Tape.{fits}
use Rattle.json_fields.proofs.tape.is_plain_tape.Given as goal

abbrev pub invariant-loop-node : goal.invariant-loop-node
invariant-loop-node l =
    fits l.room (map node_token (drop l.node-index l.nodes)) ≡ fits max_depth (map node_token l.nodes)
