-- The usage of an entry: its pod's use of the node (Kubernetes, "Node-pressure Eviction", "Pod selection for kubelet
-- eviction").
use Rattle.std.specs.Prelude.{Option, Some, None, Result, Ok, codes}
use Rattle.serde_json.specs.Data.{Data}
use Rattle.json_fields.specs.rule.Fields.{field_at}
use Rattle.json_fields.specs.rule.Reading.{◌>>=◌}
use Rattle.observations.specs.declared.usage.Usage.{Usage}
use Rattle.tick_lines.specs.declared.fault.TickLineFault.{TickLineFault}
use Rattle.tick_lines.specs.rule.Fields.{only_object, quantity_at}

unfoldable pub usage_in : Data → Result Usage TickLineFault
usage_in d = do
  object ← only_object d
  memory ← quantity_at (field_at (codes "memory") d)
  volumes ← quantity_at (field_at (codes "volumes") d)
  logs ← quantity_at (field_at (codes "logs") d)
  writable ← quantity_at (field_at (codes "writable") d)
  inodes ← quantity_at (field_at (codes "inodes") d)
  pids ← quantity_at (field_at (codes "pids") d)
  Ok (record { memory = memory; volumes = volumes; logs = logs; writable = writable; inodes = inodes; pids = pids })

-- an object that may be left out
abbrev pub usage_of : Option Data → Result (Option Usage) TickLineFault
usage_of None = Ok None
usage_of (Some d) = usage_in d >>= λ usage. Ok (Some usage)
