use Rattle.node_lines.proofs.Capacities.{limits_have}
use Rattle.node_lines.proofs.maps.limits.Goals as goal

pub returns-clause-capacity : goal.returns-clause-capacity
returns-clause-capacity c = limits_have c.args.capacity.now _ c.read_map.result c.read_map.ensures
