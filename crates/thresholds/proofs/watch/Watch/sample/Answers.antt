use Rattle.thresholds.specs.rule.Samples.{sample}
use Rattle.thresholds.proofs.Since.{since_after_by, due_after}
use Rattle.thresholds.proofs.watch.Watch.sample.Goals as goal

pub returns : goal.returns
returns c = λ threshold capacity h st.
    let since = since_after_by _ _ _ _ c.args.at c.args.value h c.args.self.now.active_since
    c.active_since_after-self.result st.limit st.clears_from st.active_since
    c.active_since_after-self.ensures.active c.active_since_after-self.ensures.cleared in
    record {
      limit = st.limit;
      clears_from = st.clears_from;
      grace = st.grace;
      active_since = since;
      due = due_after _ _ _ threshold.grace h (sample c.args.at c.args.value) c.active_since_after-self.result
          c.has_lasted-self.result st.grace since c.has_lasted-self.ensures;
    }
