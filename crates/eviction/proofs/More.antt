-- One more tick with its eviction.
use Rattle.std.proofs.Common.{◌≡◌, inl, inr, ◌<◌, List, [], ◌∷◌, ◌++◌, length, take, Option, refl, sym, subst}
use Rattle.std.proofs.Common.{arith}
use Rattle.std.proofs.lemmas.List.{take-append-le}
use Rattle.std.proofs.lemmas.Option.{slice_get_within}
use Rattle.histories.proofs.Places.{length-more}
use Rattle.histories.proofs.Lists.{place_split, take_old}
use Rattle.manifest.specs.declared.pod.PodSpec.{PodSpec}
use Rattle.observations.specs.declared.tick.TickObs.{TickObs}
use Rattle.node_config.specs.declared.node.NodeConfig.{NodeConfig}
use Rattle.eviction.specs.declared.eviction.Eviction.{Eviction}
use Rattle.eviction.specs.rule.Replay.{IsEvictionOfTick, IsReplay}

pub no_replay : (config : NodeConfig) (pods : List PodSpec) → IsReplay config pods [] []
no_replay config pods = record { as_many = refl; each = λ t tick eviction at is. absurd (cc) }

pub replay_more : (config : NodeConfig) (pods : List PodSpec) (ticks : List TickObs) (es : List (Option Eviction))
    (x : TickObs) (e : Option Eviction)
    → IsReplay config pods ticks es → IsEvictionOfTick config pods ticks x es e
    → IsReplay config pods (ticks ++ x ∷ []) (es ++ e ∷ [])
replay_more config pods ticks es x e replay now = record {
  as_many =
      let many : length es ≡ length ticks = replay.as_many in omega (arith, length-more es e, length-more ticks x);
  each = λ t tick eviction at is. elim (place_split ticks x tick t at) [
    | inl old ↦
        let lt : t < length ticks = slice_get_within ticks t tick old in
        let many : length es ≡ length ticks = replay.as_many in
        elim (place_split es e eviction t is) [
          | inl older ↦
              let P : List TickObs → Type 0 =
              λ h. IsEvictionOfTick config pods h tick (take t (es ++ e ∷ [])) eviction in
              let Q : List (Option Eviction) → Type 0 =
              λ g. IsEvictionOfTick config pods (take t ticks) tick g eviction in
              subst P (sym (take-append-le t ticks (x ∷ []) (omega arith)))
              (subst Q (sym (take-append-le t es (e ∷ []) (omega arith))) (replay.each t tick eviction old older))
          | inr w ↦ let same : t ≡ length es = w.0 in absurd (omega arith)
        ]
    | inr v ↦
        let here : t ≡ length ticks = v.0 in
        let many : length es ≡ length ticks = replay.as_many in
        elim (place_split es e eviction t is) [
          | inl older ↦ let lt : t < length es = slice_get_within es t eviction older in absurd (omega arith)
          | inr w ↦
              let P : List TickObs → Type 0 =
              λ h. IsEvictionOfTick config pods h tick (take t (es ++ e ∷ [])) eviction in
              let Q : List (Option Eviction) → Type 0 = λ g. IsEvictionOfTick config pods ticks tick g eviction in
              let R : TickObs → Type 0 = λ y. IsEvictionOfTick config pods ticks y es eviction in
              let S : Option Eviction → Type 0 = λ f. IsEvictionOfTick config pods ticks x es f in
              subst P (sym (take_old ticks x t here))
              (subst Q (sym (take_old es e t w.0)) (subst R v.1 (subst S w.1 now)))
        ]
  ];
}
