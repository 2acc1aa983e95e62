-- Updates of a node's pods that a gate has made: `left` holds of each piece as an update leaves it.
use Rattle.std.specs.Prelude.{◌≡◌, ℕ, suc, Bool, true, List, ◌++◌, take, slice_get, Some, IsTrue}
use Rattle.manifest.specs.declared.pod.PodSpec.{PodSpec}
use Rattle.observations.specs.rule.Pods.{PodObs}
use Rattle.observations.specs.declared.tick.TickObs.{TickObs}
use Rattle.observations.specs.rule.Observations.{shown_of}
use Rattle.pod_state.specs.rule.Pods.{PodTick}
use Rattle.pod_piece.specs.rule.Piece.{Piece, ticks}
use Rattle.eviction.specs.rule.Replay.{pod_ticks}

-- a gate has made an update of the pod, by which the last of these ticks of it has come into its status
pub record IsUpdateGated (left : Piece → Bool → Bool) (pod : PodSpec) (h : List PodTick) : Type 0 where
  pub piece : Piece
  pub pod_is : piece.pod ≡ pod
  pub ticks_are : ticks piece ≡ h
  pub gated : IsTrue (left piece true)

-- a gate has made the updates by these later ticks, after the earlier ones: by each tick one of each pod that it shows
abbrev pub AreUpdatesGated : (Piece → Bool → Bool) → List PodSpec → List TickObs → List TickObs → Type 0
AreUpdatesGated left pods before later =
    (t n : ℕ) (tick : TickObs) (pod : PodSpec) (observed : PodObs) → slice_get later t ≡ Some tick
    → slice_get pods n ≡ Some pod → shown_of tick n ≡ Some observed
    → IsUpdateGated left pod (pod_ticks (before ++ take (suc t) later) n)
