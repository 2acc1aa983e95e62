-- Where a reader or a writer over memory stops.
use Rattle.std.specs.Prelude.{ℕ, zero, suc, ◌-◌, Bool, true, false, List, take, Option, None, Some}
use Rattle.replay_stream.specs.declared.stop.Stop.{Stop}
use Rattle.replay_stream.specs.declared.stop.Stop.TheVariants.{Fail, Nothing}

-- the calls that are left after one more
abbrev pub one_fewer : Option ℕ → Option ℕ
one_fewer None = None
one_fewer (Some calls) = Some (calls - 1)

-- the bytes that a reader has which stops after the first n of them: by giving nothing it ends
-- there
abbrev pub bytes_before : Stop → ℕ → List ℕ → List ℕ
bytes_before Fail n bytes = bytes
bytes_before Nothing n bytes = take n bytes

-- after how many calls a reader fails which stops after this many
abbrev pub failing_after : Stop → ℕ → Option ℕ
failing_after Fail calls = Some calls
failing_after Nothing calls = None

-- the call to come is one that stops
abbrev pub is_stopped : Option ℕ → Bool
is_stopped None = false
is_stopped (Some zero) = true
is_stopped (Some (suc calls)) = false
