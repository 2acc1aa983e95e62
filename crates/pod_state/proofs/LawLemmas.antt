-- The laws.
use Rattle.std.proofs.Common.{◌≡◌, ◌⊎◌, inl, inr, ℕ, suc, zero, ◌-◌, ◌<◌, ◌≤◌, List, [], ◌∷◌, ◌++◌, length, Option}
use Rattle.std.proofs.Common.{Some, refl, subst, sym, ◌∙◌, append_assoc, arith}
use Rattle.std.specs.Prelude.{◌↔◌}
use Rattle.std.proofs.lemmas.Bool.{cases_lt}
use Rattle.std.proofs.lemmas.List.{append-nil}
use Rattle.histories.specs.rule.Histories.{moment_at, HoldsAt, IsFirst, IsSteady, IsTransition}
use Rattle.histories.specs.state.Histories.{IsRising}
use Rattle.histories.proofs.Places.{moment_at-below}
use Rattle.histories.proofs.Transitions.{transition_differs}
use Rattle.phase.specs.declared.phase.Phase.{Phase}
use Rattle.manifest.specs.declared.pod.PodSpec.{PodSpec}
use Rattle.phase.specs.rule.RawPhase.{IsTerminal}
use Rattle.pod_state.specs.rule.Pods.{PodTick, IsPhase}
use Rattle.pod_state.specs.state.Laws.{ChangesAt, OnePhase, EndedStaysEnded, OneRawPhase, TransitionsAreChanges}
use Rattle.pod_state.specs.state.Laws.{OneStatus}
use Rattle.phase.proofs.DecideLemmas.{some_by_views}
use Rattle.pod_state.proofs.EndLemmas.{IsPhase-unique, phase_ended, raw_unique}
use Rattle.pod_state.proofs.ViewLemmas.{raw_after}
use Rattle.pod_state.proofs.UniqueLemmas.{status_one, container_one}

pub one_phase : OnePhase
one_phase = IsPhase-unique

stays : (pod : PodSpec) (evicted : Option ℕ) (h later : List PodTick) (p : Phase) → IsPhase pod evicted h p
    → IsTerminal p → IsPhase pod evicted (h ++ later) p
stays pod evicted h [] p is term = let P : List PodTick → Type 0 = λ k. IsPhase pod evicted k p in subst P (nil h) is
  where
    nil : (h : List PodTick) → h ≡ h ++ []
    nil h = sym (append-nil h)
stays pod evicted h (x ∷ later) p is term =
    let P : List PodTick → Type 0 = λ k. IsPhase pod evicted k p in
    subst P (append_assoc h (x ∷ []) later)
    (stays pod evicted (h ++ x ∷ []) later p (phase_ended pod evicted h x p is term) term)

pub ended_stays_ended : EndedStaysEnded
ended_stays_ended = record {
  keeps = stays;
  no_other = λ pod evicted h later p q is term next. IsPhase-unique pod evicted (h ++ later) q p next
      (stays pod evicted h later p is term);
}

pub one_raw_phase : OneRawPhase
one_raw_phase = record {
  some = λ pod h views are. let w = some_by_views views in (w.0, raw_after pod h views w.0 are w.1);
  no_other = raw_unique;
}

pub one_status : OneStatus
one_status = record { of_pod = status_one; of_container = container_one }

not_later : (h : List PodTick) (t m : ℕ) → moment_at h t ≡ Some m → (last : ℕ) → IsRising h
    → moment_at h (length h - 1) ≡ Some last → m ≤ last
not_later h t m is last rising end =
    let below : t < length h = moment_at-below h t m is in
    elim (cases_lt t (length h - 1)) [
      | inl lt ↦ let less : m < last = rising t (length h - 1) m last lt is end in omega arith
      | inr ge ↦
          let e : t ≡ length h - 1 = omega arith in
          let P : ℕ → Type 0 = λ k. moment_at h k ≡ Some m in
          let same : Some m ≡ Some last = sym (subst P e is) ∙ end in
          let x : m ≡ last = cc in
          omega arith
    ]

changes : (C : List PodTick → Type 0) (h : List PodTick) (m : ℕ) (o : Option ℕ) → IsTransition h (HoldsAt C h) o
    → o ≡ Some m → ChangesAt h C m
changes C h m o is e = let P : Option ℕ → Type 0 = λ o. IsTransition h (HoldsAt C h) o in at (subst P e is)
  where
    before : (t : ℕ) → IsFirst (IsSteady (length h) (HoldsAt C h)) t
        → (t ≡ 0) ⊎ ((u : ℕ) × (t ≡ suc u) × ((HoldsAt C h u ↔ HoldsAt C h t) → ⊥))
    before zero f = inl refl
    before (suc u) f = inr (u, refl, transition_differs (length h) (HoldsAt C h) u f)

    at : IsTransition h (HoldsAt C h) (Some m) → ChangesAt h C m
    at (t, f, when) = record { place = t; moment = when; change = before t f; not_later = not_later h t m when }

pub transitions_are_changes : TransitionsAreChanges
transitions_are_changes = record {
  pod_scheduled = λ pod evicted h status m is e. changes _ h m _ is.pod_scheduled.since e;
  initialized = λ pod evicted h status m is e. changes _ h m _ is.initialized.since e;
  containers_ready = λ pod evicted h status m is e. changes _ h m _ is.containers_ready.since e;
  ready = λ pod evicted h status m is e. changes _ h m _ is.ready.since e;
}
