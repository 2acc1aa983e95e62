-- What contracts see of a reader over memory.
use Rattle.std.specs.Prelude.{ℕ, List, Option}
use Rattle.replay_stream.specs.declared.mem_source.MemSource.{MemSource}

-- the bytes that are left
abbrev pub source_bytes : MemSource → List ℕ
source_bytes s = s.bytes.now

-- how many bytes a call gives
abbrev pub source_step : MemSource → ℕ
source_step s = s.step

-- how many calls come before those that fail, if any do
abbrev pub calls_to_failure : MemSource → Option ℕ
calls_to_failure s = s.calls_left

-- how many calls failed
abbrev pub source_failures : MemSource → ℕ
source_failures s = s.failed
