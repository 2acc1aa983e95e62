-- A pod that arrives changes no choice of an earlier tick.
use Rattle.std.proofs.Common.{◌≡◌, inl, inr, ℕ, zero, suc, ◌<◌, ◌≤◌, List, [], ◌∷◌, ◌++◌, length, true, false}
use Rattle.std.proofs.Common.{Option, Some, None, arith}
use Rattle.std.specs.Option.{option_flatten}
use Rattle.std.specs.Prelude.{◌↔◌, slice_get, IsSome}
use Rattle.histories.proofs.Lists.{place_split, slice_get-kept}
use Rattle.manifest.specs.declared.pod.PodSpec.{PodSpec}
use Rattle.node_config.specs.declared.node.NodeConfig.{NodeConfig}
use Rattle.observations.specs.rule.Pods.{PodObs}
use Rattle.observations.specs.declared.tick.TickObs.{TickObs}
use Rattle.node_signals.specs.declared.key.ThresholdKey.{ThresholdKey}
use Rattle.pod_piece.specs.declared.status.PodStatus.{PodStatus}
use Rattle.ranking.proofs.LawLemmas.{same_victim}
use Rattle.eviction.specs.declared.eviction.Eviction.{Eviction}
use Rattle.eviction.specs.rule.Replay.{IsCandidate, IsOfVictim, IsEvictionFor, is_paused, unless_paused}
use Rattle.eviction.specs.rule.Replay.{IsChoiceOfTick}

present_below : (xs : List (Option PodObs)) (n : ℕ) → IsSome (option_flatten (slice_get xs n)) → n < length xs
present_below [] n e = let f : false ≡ true = e in absurd (cc)
present_below (x ∷ xs) zero e = omega arith
present_below (x ∷ xs) (suc n) e = let lt : n < length xs = present_below xs n e in omega arith

-- the choice of an earlier tick does not see the pod
pub choice_arrived : (config : NodeConfig) (pods : List PodSpec) (pod : PodSpec) (before : List TickObs)
    (tick : TickObs) (es : List (Option Eviction)) (choice : Option Eviction)
    → length tick.pods ≤ length pods → IsChoiceOfTick config pods before tick es choice
    → IsChoiceOfTick config (pods ++ pod ∷ []) before tick es choice
choice_arrived config pods pod before tick es choice fewer r =
    record {
      served = r.served;
      is_served = r.is_served;
      is_for = for (unless_paused (is_paused config tick.at (before ++ tick ∷ []) es) r.served) r.is_for;
    }
  where
    same : (n : ℕ) (p : PodStatus)
        → (IsCandidate pods before tick es n p ↔ IsCandidate (pods ++ pod ∷ []) before tick es n p)
    same n p = (
      (λ c. record {
        pod = c.pod;
        at = slice_get-kept pods (pod ∷ []) n c.pod c.at;
        present = c.present;
        is_status = c.is_status;
        may = c.may;
      }),
      (λ c.
          let lt : n < length tick.pods = present_below tick.pods n c.present in
          elim (place_split pods pod c.pod n c.at) [
            | inl old ↦ record {
              pod = c.pod;
              at = old;
              present = c.present;
              is_status = c.is_status;
              may = c.may;
            }
            | inr w ↦ let here : n ≡ length pods = w.0 in absurd (omega arith)
          ]),
    )

    of : (key : ThresholdKey) (victim : Option ℕ) (e : Option Eviction) → IsOfVictim config pods tick.at key victim e
        → IsOfVictim config (pods ++ pod ∷ []) tick.at key victim e
    of key None e v = v
    of key (Some n) None v = v
    of key (Some n) (Some e) v =
        let kept = slice_get-kept pods (pod ∷ []) n v.pod v.is_pod in
        record { pod = v.pod; is_pod = kept; number = v.number; order = v.order }

    for : (served : Option ThresholdKey) → IsEvictionFor config pods before tick es served choice
        → IsEvictionFor config (pods ++ pod ∷ []) before tick es served choice
    for None by = by
    for (Some key) (victim, is, v) = (
      victim,
      same_victim key.signal config.has_dedicated_imagefs (IsCandidate pods before tick es)
          (IsCandidate (pods ++ pod ∷ []) before tick es) same victim is,
      of key victim choice v,
    )
