use Rattle.probes.proofs.Kills.{kill_lasts}
use Rattle.probes.proofs.laws.kill_order_stands.Goals as goal

pub returns : goal.returns
returns c = λ probes start cause ticks later range. (kill_lasts probes start cause range).more ticks later
