-- Which ticks may follow those so far.
use Rattle.std.specs.Prelude.{◌≡◌, false}
use Rattle.observations.specs.declared.tick.TickObs.{TickObs}
use Rattle.trace.specs.rule.TraceSoFar.{TraceSoFar}
use Rattle.following.specs.rule.Backwards.{is_backwards}
use Rattle.following.specs.state.Followed.{ComesNext}
use Rattle.trace.specs.state.Pod.{container_counts}

-- the tick shows the pods that there are, after the ticks so far, and none of its listings goes back
pub record MayStandBehind (past : TraceSoFar) (tick : TickObs) : Type 0 where
  pub comes_next : ComesNext past.ticks (container_counts past.roll.pods) tick
  pub forwards : is_backwards past.ticks tick ≡ false
