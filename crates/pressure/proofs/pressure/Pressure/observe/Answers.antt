use Rattle.pressure.proofs.Values.{true_after}
use Rattle.pressure.proofs.pressure.Pressure.observe.Goals as goal

pub returns : goal.returns
returns c = λ period h st.
    let value = true_after period c.args.at c.args.met h c.args.self.now.latest_met c.args.self.now.period
    c.is_true_after-is_true.result st.same_period st.latest_met c.is_true_after-is_true.ensures in
    record {
      same_period = st.same_period;
      latest_met = c.latest_after-self.ensures h st.latest_met;
      is_true = value;
      since = c.since_after-self.ensures period h c.args.met st value;
    }
