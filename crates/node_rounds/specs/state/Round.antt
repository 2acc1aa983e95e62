-- What a node keeps between two rounds.
use Rattle.std.specs.Prelude.{◌≡◌, ℕ, ◌*◌, ◌≤◌, List, length, slice_get, Some}
use Rattle.manifest.specs.declared.pod.PodSpec.{PodSpec}
use Rattle.manifest.specs.rule.Containers.{most_containers}
use Rattle.observations.specs.declared.tick.TickObs.{TickObs}
use Rattle.pod_piece.specs.state.Piece.{pods_in}
use Rattle.totals.specs.declared.totals.Totals.{Totals}
use Rattle.totals.specs.state.Limits.{most_events}
use Rattle.node_rounds.specs.state.Node.{State, HasTaken}

-- no pod has more containers than a pod may have
abbrev pub AreFew : List PodSpec → Type 0
AreFew pods = (n : ℕ) (pod : PodSpec) → slice_get pods n ≡ Some pod → length pod.containers ≤ most_containers

-- there are no more events, and orders, than so many updates make
pub record AreFewEvents (totals : Totals) : Type 0 where
  pub events : totals.events ≤ totals.updates * most_events
  pub orders : totals.orders ≤ totals.updates * most_events

-- what a node keeps: it is the state of the ticks that it took, and its totals are what their updates may have added
pub record IsKept (s : State) : Type 0 where
  pub ticks : List TickObs
  pub taken : HasTaken (pods_in s.pods.pieces) ticks s
  pub few : AreFew (pods_in s.pods.pieces)
  pub events : AreFewEvents s.totals
