use Rattle.std.proofs.KnownBytes.{Consumes-trans}
use Rattle.std.proofs.Common.{◌≤◌, ◌++◌, length, take, arith, length-append, length-take}
use Rattle.replay_stream.proofs.reading.read_all.Goals as goal

pub returns-then-n-limit-clause-rest : goal.returns-then-n-limit-clause-rest
returns-then-n-limit-clause-rest g c = (_, Consumes-trans _ _ _ _ _ c.loop-n.invariant.2 c.in-Ok.ensures.bytes.0)

pub returns-then-is_err-clause-rest : goal.returns-then-is_err-clause-rest
returns-then-is_err-clause-rest g c = (_, Consumes-trans _ _ _ _ _ c.loop-n.invariant.2 c.in-Ok.ensures.bytes.0)

pub returns-then-is_err-clause-no_memory : goal.returns-then-is_err-clause-no_memory
returns-then-is_err-clause-no_memory g c = λ e.
    let all = c.loop-n.all.items in
    let piece = take c.in-Ok.n c.read.new.buffer in
    let within : length (all ++ piece) ≤ c.args.limit =
    omega (arith, length-append all piece, length-take c.in-Ok.n c.read.new.buffer) in
    (all ++ piece, within, Consumes-trans _ _ _ _ _ c.loop-n.invariant.2 c.in-Ok.ensures.bytes.0)
