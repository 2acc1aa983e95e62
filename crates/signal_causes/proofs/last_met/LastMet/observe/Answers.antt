use Rattle.signal_causes.proofs.LastMoments.{last_met_more}
use Rattle.signal_causes.proofs.last_met.LastMet.observe.Goals as goal

pub returns : goal.returns
returns c = λ h is. last_met_more h c.args.at c.args.met _ _ is c.last_after-self.ensures
