-- A sample of a pod's use of the node in whole units, and the values that it is kept as.
use Rattle.std.specs.Prelude.{ℕ, ◌*◌, ◌-◌, ◌^◌, ◌==◌, if◌then◌else◌, min, Option, Some, None}
use Rattle.quantity.specs.rule.Quantity.{greatest_quantity}
use Rattle.observations.specs.declared.usage.Usage.{Usage}
use Rattle.observations.specs.declared.whole.Units.{Units}
use Rattle.observations.specs.declared.whole.WholeUsage.{WholeUsage}

-- this many whole units, in thousandths
abbrev pub units_as : ℕ → ℕ
units_as units = min (1000 * units) greatest_quantity

-- the amount in thousandths; 2^64 - 1 units mean none
abbrev pub amount_as : Units → Option ℕ
amount_as units = if units.0 == 2 ^ 64 - 1 then None else Some (units_as units.0)

-- the sample of this many bytes of memory alone
abbrev pub memory_as : ℕ → Usage
memory_as bytes = record {
  memory = Some (units_as bytes);
  volumes = None;
  logs = None;
  writable = None;
  inodes = None;
  pids = None;
}

-- the sample that these values are kept of
abbrev pub usage_as : WholeUsage → Usage
usage_as w = record {
  memory = amount_as w.memory;
  volumes = amount_as w.volumes;
  logs = amount_as w.logs;
  writable = amount_as w.writable;
  inodes = amount_as w.inodes;
  pids = amount_as w.pids;
}
