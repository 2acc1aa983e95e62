use Rattle.std.proofs.Common.{◌++◌, ◌∷◌, [], sym, subst}
use Rattle.state_diff.specs.rule.Instances.{IsRun}
use Rattle.containers.specs.rule.Ticks.{listings}
use Rattle.container_causes.proofs.ListingLemmas.{exited_newest, run_given}
use Rattle.container_causes.proofs.watched_container.WatchedContainer.exited.Goals as goal

pub returns : goal.returns
returns c = λ spec max_restart_delay h x code is died.
    let differ = c.differ-differ.ensures spec max_restart_delay (h ++ x ∷ []) is.container in
    let newest = exited_newest h x c.differ-differ.result c.args.attempt code differ died in
    record {
      died = died;
      starts = (c.first_running.ensures (listings (h ++ x ∷ [])) differ).some c.args.attempt newest.0;
      run = subst (λ run. IsRun (listings (h ++ x ∷ [])) c.args.attempt run) (sym c.run_of.ensures)
          (run_given (listings (h ++ x ∷ [])) c.args.attempt _ (c.run.ensures (listings (h ++ x ∷ [])) differ) newest.0
          newest.1.0 newest.1.1);
    }
