-- The greatest delay of a restart on a node (Kubernetes, "Pod Lifecycle", "Container restart
-- policy" and "Configurable container restart delay").
use Rattle.std.specs.Prelude.{ℕ, ◌&&◌, nat_le, Option, Some, None, if◌then◌else◌}

-- in seconds
abbrev pub least_max_delay : ℕ
least_max_delay = 1

-- the maximum delay of a node that sets none; none may be greater
abbrev pub most_max_delay : ℕ
most_max_delay = 300

-- this many seconds, if they are in the range
abbrev pub max_delay_of : ℕ → Option ℕ
max_delay_of seconds = if nat_le least_max_delay seconds && nat_le seconds most_max_delay then Some seconds else None
