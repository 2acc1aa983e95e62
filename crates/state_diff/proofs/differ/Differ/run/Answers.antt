use Rattle.state_diff.proofs.Runs.{run_of_newest}
use Rattle.state_diff.proofs.differ.Differ.run.Goals as goal

pub returns : goal.returns
returns c = λ h st. run_of_newest h _ c.in_ok-self.field-0 c.run.result c.in_ok-self.was st.newest c.run.ensures.none
    c.run.ensures.some
