use Rattle.std.proofs.Common.{rules, refl}
use Rattle.probes.proofs.Runs.{IsRunLength-suc, IsRunLength-full}
use Rattle.probes.proofs.run_length.extend_run.Goals as goal

pub returns-then-length-limit : goal.returns-then-length-limit
returns-then-length-limit c = λ outcome next results has run.
    IsRunLength-suc outcome _ results next _ _ (has.0 (search rules)) c.if-length-limit.true refl run

pub returns-else-length-limit : goal.returns-else-length-limit
returns-else-length-limit c = λ outcome next results has run.
    IsRunLength-full outcome _ results next _ (has.0 (search rules)) c.if-length-limit.false run
