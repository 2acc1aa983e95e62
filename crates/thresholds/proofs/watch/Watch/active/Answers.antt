use Rattle.thresholds.proofs.Since.{since_test}
use Rattle.thresholds.proofs.watch.Watch.active.Goals as goal

pub returns : goal.returns
returns c = λ threshold capacity h st. since_test _ _ h c.args.self.now.active_since c.is_active_so_far.result
    c.is_active_so_far.ensures st.active_since
