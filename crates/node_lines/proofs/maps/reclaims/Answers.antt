use Rattle.node_lines.proofs.Capacities.{reclaims_have}
use Rattle.node_lines.proofs.maps.reclaims.Goals as goal

pub returns-clause-capacity : goal.returns-clause-capacity
returns-clause-capacity c = reclaims_have c.args.capacity.now _ c.read_map.result c.read_map.ensures
