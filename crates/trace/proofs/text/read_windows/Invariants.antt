use Rattle.std.proofs.Common.{◌+◌, ◌<◌, ◌≤◌, length}
use Rattle.trace.proofs.Taken.{LeadsOn}
use Rattle.trace.proofs.text.read_windows.Given as goal

abbrev pub invariant-loop-rest : goal.invariant-loop-rest
invariant-loop-rest g l = LeadsOn l.fn.format l.fn.text l.number l.so_far l.rest
    × (l.number + length l.rest ≤ length l.fn.text + 1)
    × (0 < l.bytes)

abbrev pub decreases-loop-rest : goal.decreases-loop-rest
decreases-loop-rest g l = length l.rest
