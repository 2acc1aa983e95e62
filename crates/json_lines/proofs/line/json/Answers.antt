use Rattle.json_lines.proofs.Found.{json_found, json_missing}
use Rattle.json_lines.proofs.line.json.Goals as goal

pub returns-in-Ok : goal.returns-in-Ok
returns-in-Ok c = json_found c.args.line.now _ c.in-Ok.ensures.ok.0 c.in-Ok.ensures.ok.1

pub returns-in_ok-refused_memory-in-Err : goal.returns-in_ok-refused_memory-in-Err
returns-in_ok-refused_memory-in-Err c =
    json_missing c.args.line.now (c.in-Err.ensures.err c.in_ok-refused_memory-in-Err.ensures.not_json)
