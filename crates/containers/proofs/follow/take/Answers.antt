use Rattle.std.proofs.Common.{◌++◌, Bool, subst, sym}
use Rattle.containers.specs.state.Step.{ticks_at}
use Rattle.probes.specs.state.ProbeSet.{IsStateOf}
use Rattle.containers.proofs.follow.take.Goals as goal

pub returns-then-has_begun-clause-state : goal.returns-then-has_begun-clause-state
returns-then-has_begun-clause-state c = λ of start ticks is.
    let P : Bool → Type 0 = λ b. IsStateOf of start (ticks ++ ticks_at b c.args.at c.args.results) c.take.new.self in
    subst P (sym c.if-takes.true) (c.take.ensures.state of start ticks is)
