-- The phase in which a tick leaves a pod that had not ended.
use Rattle.std.proofs.Common.{◌≡◌, ◌∙◌, inl, inr, ℕ, Bool, true, false, List, [], ◌∷◌, ◌++◌, length, Option, Some}
use Rattle.std.proofs.Common.{refl, sym}
use Rattle.std.specs.Prelude.{IsTrue}
use Rattle.manifest.specs.declared.pod.PodSpec.{PodSpec}
use Rattle.phase.specs.declared.phase.Phase.{Phase}
use Rattle.phase.specs.declared.phase.Phase.TheVariants.{Failed}
use Rattle.phase.specs.rule.RawPhase.{IsTerminal}
use Rattle.pod_state.specs.rule.Pods.{PodTick, IsPhase, says_failed}
use Rattle.pod_state.specs.rule.Events.{IsPhaseLeft}
use Rattle.pod_state.proofs.EndLemmas.{IsPhase-unique, raw_unique, phase_by_node, phase_raw}
use Rattle.pod_state.proofs.FoundLemmas.{some_raw_phase}

unsaid : (x : PodTick) → says_failed x ≡ false → IsTrue (says_failed x) → ⊥
unsaid x e t = let w : false ≡ true = sym e ∙ t in absurd (cc)

-- there is one
pub left_unique : (pod : PodSpec) (h : List PodTick) (x : PodTick) (p q : Phase) → IsPhaseLeft pod h x p
    → IsPhaseLeft pod h x q → p ≡ q
left_unique pod h x p q is was = elim is [
  | inl a ↦ elim was [
    | inl b ↦ a.1 ∙ sym b.1
    | inr b ↦ absurd (b.0 a.0)
  ]
  | inr a ↦ elim was [
    | inl b ↦ absurd (a.0 b.0)
    | inr b ↦ raw_unique pod (h ++ x ∷ []) p q a.1 b.1
  ]
]

pub some_left : (pod : PodSpec) (h : List PodTick) (x : PodTick) → (p : Phase) × IsPhaseLeft pod h x p
some_left pod h x = by (says_failed x) refl
  where
    by : (b : Bool) → says_failed x ≡ b → (p : Phase) × IsPhaseLeft pod h x p
    by true e = (Failed, inl (e, refl))
    by false e = let raw = some_raw_phase pod (h ++ x ∷ []) in (raw.0, inr (unsaid x e, raw.1))

-- it is the pod's phase after a tick that evicts nobody
pub phase_left : (pod : PodSpec) (evicted : Option ℕ) (h : List PodTick) (x : PodTick) (p q : Phase)
    → IsPhase pod evicted h p → (IsTerminal p → ⊥) → (evicted ≡ Some (length h) → ⊥)
    → IsPhase pod evicted (h ++ x ∷ []) q → IsPhaseLeft pod h x q
phase_left pod evicted h x p q is lives stays next = by (says_failed x) refl
  where
    by : (b : Bool) → says_failed x ≡ b → IsPhaseLeft pod h x q
    by true e = inl (
      e,
      IsPhase-unique pod evicted (h ++ x ∷ []) q Failed next (phase_by_node pod evicted h x p is lives (inr e)),
    )
    by false e = inr (
      unsaid x e,
      phase_raw pod evicted h x p q is lives (λ ends. elim ends [
        | inl here ↦ stays here
        | inr said ↦ unsaid x e said
      ]) next,
    )
