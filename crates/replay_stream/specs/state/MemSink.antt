-- What contracts see of a writer over memory.
use Rattle.std.specs.Prelude.{ℕ, ◌-◌, List, Option, take, length, min}
use Rattle.replay_stream.specs.declared.stop.Stop.{Stop}
use Rattle.replay_stream.specs.declared.mem_sink.MemSink.{MemSink}

-- the bytes that were written
abbrev pub sink_bytes : MemSink → List ℕ
sink_bytes s = take s.len s.room.now

-- how many bytes there is room for, those written counted with them
abbrev pub sink_room : MemSink → ℕ
sink_room s = length s.room.now

-- how many bytes a call takes
abbrev pub sink_step : MemSink → ℕ
sink_step s = s.step

-- how many calls come before those that stop, if any do
abbrev pub calls_to_stop : MemSink → Option ℕ
calls_to_stop s = s.calls_left

-- how it stops then
abbrev pub sink_stop : MemSink → Stop
sink_stop s = s.stop

-- how many calls failed
abbrev pub sink_failures : MemSink → ℕ
sink_failures s = s.failed

-- how many of these bytes a call takes that does not stop
abbrev pub piece_of : MemSink → List ℕ → ℕ
piece_of s bytes = min (min s.step (length bytes)) (length s.room.now - length (sink_bytes s))
