use Rattle.std.proofs.Common.{◌≡◌, ◌≤◌, [], drop, length, true, rules, sym}
use Rattle.std.proofs.lemmas.List.{drop_all}
use Rattle.serde_json.specs.Read.{max_depth}
use Rattle.json_fields.specs.state.Tape.{fits}
use Rattle.json_fields.proofs.Fitting.{fits_plain}
use Rattle.json_fields.proofs.tape.is_plain_tape.Goals as goal

pub returns-clause-plain : goal.returns-clause-plain
returns-clause-plain c _ j spelled =
    let end : length c.nodes-nodes.result.now ≤ c.loop-node.node-index = search rules in
    let none : drop c.loop-node.node-index c.nodes-nodes.result.now ≡ [] = drop_all _ _ end in
    let fit : fits max_depth c.args.tape.now ≡ true = rw (← c.nodes-nodes.ensures.tokens) (sym
    (rw none at c.loop-node.invariant)) in
    fits_plain j c.args.tape.now fit spelled
