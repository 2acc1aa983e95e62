-- What contracts see of a counted reader or writer.
use Rattle.std.specs.Prelude.{ℕ}
use Rattle.replay_stream.specs.declared.counted.Counted.{Counted}

-- the reader or the writer
abbrev pub inner_of : {T : Type 0} → Counted T → T
inner_of c = c.inner

-- how many calls failed
abbrev pub failed_calls : {T : Type 0} → Counted T → ℕ
failed_calls c = c.failed
