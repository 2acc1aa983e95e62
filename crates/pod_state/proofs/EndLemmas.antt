-- The end of a pod and its phase, after one more tick.
use Rattle.std.proofs.Common.{◌≡◌, inl, inr, ℕ, suc, ◌<◌, List, [], ◌∷◌, ◌++◌, length, Option, Some, None, refl}
use Rattle.std.proofs.Common.{ap, subst, sym, ◌∙◌, arith}
use Rattle.std.specs.Prelude.{◌↔◌}
use Rattle.std.proofs.lemmas.List.{length-take-le}
use Rattle.histories.specs.rule.Histories.{up_to, HoldsAt}
use Rattle.histories.proofs.Places.{length-more, up_to-old, up_to-new}
use Rattle.histories.proofs.First.{Grows, IsFirst-old, IsFirst-new, IsFirst-split, IsFirstPlace-unique, none_more}
use Rattle.histories.proofs.Growth.{grows_so, so_last}
use Rattle.phase.specs.declared.phase.Phase.{Phase}
use Rattle.phase.specs.declared.phase.Phase.TheVariants.{Pending, Succeeded, Failed}
use Rattle.manifest.specs.declared.pod.PodSpec.{PodSpec}
use Rattle.phase.specs.rule.RawPhase.{IsTerminal, AreInitialized}
use Rattle.pod_state.specs.rule.Pods.{PodTick, facts, WantsRestart, numbers, AllReady, IsRawPhaseAfter, EndsPod, IsEnd}
use Rattle.pod_state.specs.rule.Pods.{counted}
use Rattle.pod_state.specs.rule.Pods.{IsPhaseBy, IsPhase, IsInitialized, AreContainersReady, HasEnded, EndsByNode}
use Rattle.pod_state.specs.rule.Pods.{IsEndedByNode}
use Rattle.pod_state.specs.state.Lifecycles.{EndsWith}
use Rattle.pod_state.proofs.NodeEnds.{ended_up_to, ended_old, ended_now}
use Rattle.containers.specs.declared.container.Container.{Container}
use Rattle.pod_state.specs.state.Containers.{AreContainersOf, AreKept}
use Rattle.phase.proofs.PhaseLemmas.{where_same, IsRawPhaseBy-unique}
use Rattle.phase.proofs.DecideLemmas.{terminal_cases}

pub IsEnd-unique : (pod : PodSpec) (evicted : Option ℕ) (h : List PodTick) (o p : Option ℕ) → IsEnd pod evicted h o
    → IsEnd pod evicted h p → o ≡ p
IsEnd-unique pod evicted h o p = IsFirstPlace-unique (HoldsAt (EndsPod pod evicted) h) o p

pub some_more : (h : List PodTick) (x : PodTick) → h ++ x ∷ [] ≡ [] → ⊥
some_more h x e = let n : length (h ++ x ∷ []) ≡ 0 = ap length e in absurd (omega (arith, length-more h x))

pub raw_unique : (pod : PodSpec) (h : List PodTick) (p q : Phase) → IsRawPhaseAfter pod h p → IsRawPhaseAfter pod h q
    → p ≡ q
raw_unique pod h p q = IsRawPhaseBy-unique (facts pod h) (WantsRestart pod) (numbers pod) p q

-- there is one phase
pub IsPhase-unique : (pod : PodSpec) (evicted : Option ℕ) (h : List PodTick) (p q : Phase) → IsPhase pod evicted h p
    → IsPhase pod evicted h q → p ≡ q
IsPhase-unique pod evicted h p q (o, is, by) (o', is', by') =
    let P : Option ℕ → Type 0 = λ e. IsPhaseBy pod evicted h e p in
    where_same _ _ _ _ _ (λ a b. a ∙ sym b)
    (where_same _ _ _ _ _ (λ a b. a ∙ sym b) (raw_unique pod (counted h o') p q))
    (subst P (IsEnd-unique pod evicted h o o' is is') by) by'

not_pending : (p : Phase) → p ≡ Pending → IsTerminal p → ⊥
not_pending p is (inl e) = let x : Pending ≡ Succeeded = sym is ∙ e in cc
not_pending p is (inr e) = let x : Pending ≡ Failed = sym is ∙ e in cc

-- a pod of a terminal phase has ended
pub terminal_end : (pod : PodSpec) (evicted : Option ℕ) (h : List PodTick) (p : Phase) → IsPhase pod evicted h p
    → IsTerminal p
    → (t : ℕ) × IsEnd pod evicted h (Some t)
terminal_end pod evicted h p (Some t, end, by) term = (t, end)
terminal_end pod evicted h p (None, end, inl w) term = absurd (not_pending p w.1 term)
terminal_end pod evicted h p (None, end, inr (some, inl w)) term = absurd w.0
terminal_end pod evicted h p (None, end, inr (some, inr w)) term =
    let last = so_last (EndsPod pod evicted) h some (inl (p, term, w.1)) in absurd (end last.0 last.1)

-- and a pod that has ended has a terminal phase
ended_by : (pod : PodSpec) (evicted : Option ℕ) (h : List PodTick) (p : Phase) (t : ℕ) → IsEnd pod evicted h (Some t)
    → IsPhaseBy pod evicted h (Some t) p → IsTerminal p
ended_by pod evicted h p t end (inl w) =
    let lt : t < length h = end.holds.within in
    let n : length h ≡ 0 = ap length w.0 in absurd (omega arith)
ended_by pod evicted h p t end (inr (some, inl w)) = inr w.1
ended_by pod evicted h p t end (inr (some, inr w)) = elim (end.holds.so) [
  | inl q ↦ subst IsTerminal (raw_unique pod (up_to h t) q.0 p q.2 w.1) q.1
  | inr e ↦
      let lt : t < length h = end.holds.within in
      let long : length (up_to h t) ≡ suc t = length-take-le (suc t) h (omega arith) in
      let here : e.0 ≡ t = omega (arith, e.1, long) in
      absurd (w.0 ((ended_up_to evicted h t lt).0 (subst (IsEndedByNode evicted (up_to h t)) here e.2)))
]

at_end : (pod : PodSpec) (evicted : Option ℕ) (h : List PodTick) (p : Phase) (t : ℕ) → IsPhase pod evicted h p
    → IsEnd pod evicted h (Some t) → IsPhaseBy pod evicted h (Some t) p
at_end pod evicted h p t (o, end, by) e =
    let P : Option ℕ → Type 0 = λ o. IsPhaseBy pod evicted h o p in
    subst P (IsEnd-unique pod evicted h o (Some t) end e) by

pub end_terminal : (pod : PodSpec) (evicted : Option ℕ) (h : List PodTick) (p : Phase) (t : ℕ)
    → IsPhase pod evicted h p → IsEnd pod evicted h (Some t) → IsTerminal p
end_terminal pod evicted h p t is e = ended_by pod evicted h p t e (at_end pod evicted h p t is e)

-- a pod of another phase hasn't ended
pub lives : (pod : PodSpec) (evicted : Option ℕ) (h : List PodTick) (p : Phase) → IsPhase pod evicted h p
    → (IsTerminal p → ⊥) → IsEnd pod evicted h None
lives pod evicted h p (None, end, by) not = end
lives pod evicted h p (Some t, end, by) not = absurd (not (ended_by pod evicted h p t end by))

-- a pod has ended exactly if its phase is terminal
pub ended_is : (pod : PodSpec) (evicted : Option ℕ) (h : List PodTick) (p : Phase) → IsPhase pod evicted h p
    → (IsTerminal p ↔ HasEnded pod evicted h)
ended_is pod evicted h p is = (terminal_end pod evicted h p is, (λ w. end_terminal pod evicted h p w.0 is w.1))

-- one more tick
grows : (pod : PodSpec) (evicted : Option ℕ) (h : List PodTick) (x : PodTick)
    → Grows (length h) (HoldsAt (EndsPod pod evicted) h) (HoldsAt (EndsPod pod evicted) (h ++ x ∷ []))
    (EndsPod pod evicted (h ++ x ∷ []))
grows pod evicted h x = grows_so (EndsPod pod evicted) h x

pub end_old : (pod : PodSpec) (evicted : Option ℕ) (h : List PodTick) (x : PodTick) (t : ℕ)
    → IsEnd pod evicted h (Some t) → IsEnd pod evicted (h ++ x ∷ []) (Some t)
end_old pod evicted h x t end = IsFirst-old (length h) _ _ _ (grows pod evicted h x) t end

-- a pod that has ended keeps its phase
pub phase_ended : (pod : PodSpec) (evicted : Option ℕ) (h : List PodTick) (x : PodTick) (p : Phase)
    → IsPhase pod evicted h p → IsTerminal p → IsPhase pod evicted (h ++ x ∷ []) p
phase_ended pod evicted h x p is term =
    let w = terminal_end pod evicted h p is term in
    let lt : w.0 < length h = w.1.holds.within in
    let P : List PodTick → Type 0 = λ k. IsRawPhaseAfter pod k p in (
      Some w.0,
      end_old pod evicted h x w.0 w.1,
      elim (at_end pod evicted h p w.0 is w.1) as (λ _. IsPhaseBy pod evicted (h ++ x ∷ []) (Some w.0) p) [
        | inl none ↦ let n : length h ≡ 0 = ap length none.0 in absurd (omega arith)
        | inr some ↦ inr (
          some_more h x,
          elim (some.1) [
            | inl e ↦ inl ((ended_old evicted h x w.0 lt).0 e.0, e.1)
            | inr raw ↦ inr (
              (λ here. raw.0 ((ended_old evicted h x w.0 lt).1 here)),
              subst P (sym (up_to-old h x w.0 lt)) raw.1,
            )
          ],
        )
      ],
    )

-- the node ends it
pub end_by_node : (pod : PodSpec) (evicted : Option ℕ) (h : List PodTick) (x : PodTick) (p : Phase)
    → IsPhase pod evicted h p → (IsTerminal p → ⊥)
    → EndsWith evicted h x → IsEnd pod evicted (h ++ x ∷ []) (Some (length h))
end_by_node pod evicted h x p is not ends =
    IsFirst-new (length h) _ _ _ (grows pod evicted h x) (lives pod evicted h p is not)
    (inr (length h, length-more h x, (ended_now evicted h x).0 ends))

pub phase_by_node : (pod : PodSpec) (evicted : Option ℕ) (h : List PodTick) (x : PodTick) (p : Phase)
    → IsPhase pod evicted h p → (IsTerminal p → ⊥)
    → EndsWith evicted h x → IsPhase pod evicted (h ++ x ∷ []) Failed
phase_by_node pod evicted h x p is not ends = (
  Some (length h),
  end_by_node pod evicted h x p is not ends,
  inr (some_more h x, inl ((ended_now evicted h x).0 ends, refl)),
)

-- a tick that ends a pod that had not ended is the last
pub end_new : (pod : PodSpec) (evicted : Option ℕ) (h : List PodTick) (x : PodTick) (t : ℕ)
    → IsEnd pod evicted h None → IsEnd pod evicted (h ++ x ∷ []) (Some t) → t ≡ length h
end_new pod evicted h x t none now = elim (IsFirst-split (length h) _ _ _ (grows pod evicted h x) t now) [
  | inl old ↦ absurd (none t old.holds)
  | inr w ↦ w.0
]

-- where the pod goes on the node doesn't end it with the last tick
pub end_last : (pod : PodSpec) (evicted : Option ℕ) (h : List PodTick) (x : PodTick)
    → IsEnd pod evicted (h ++ x ∷ []) None → EndsWith evicted h x → ⊥
end_last pod evicted h x none ends =
    let last = so_last (EndsPod pod evicted) (h ++ x ∷ []) (some_more h x)
    (inr (length h, length-more h x, (ended_now evicted h x).0 ends)) in
    none last.0 last.1

-- else the phase is that of its containers
pub phase_lives : (pod : PodSpec) (evicted : Option ℕ) (h : List PodTick) (x : PodTick) (p q : Phase)
    → IsPhase pod evicted h p → (IsTerminal p → ⊥)
    → (EndsWith evicted h x → ⊥) → IsRawPhaseAfter pod (h ++ x ∷ []) q → IsPhase pod evicted (h ++ x ∷ []) q
phase_lives pod evicted h x p q is not stays raw =
    let P : List PodTick → Type 0 = λ k. IsRawPhaseAfter pod k q in
    elim (terminal_cases q) as (λ _. IsPhase pod evicted (h ++ x ∷ []) q) [
      | inl term ↦ (
        Some (length h),
        IsFirst-new (length h) _ _ _ (grows pod evicted h x) (lives pod evicted h p is not) (inl (q, term, raw)),
        inr (
          some_more h x,
          inr ((λ here. stays ((ended_now evicted h x).1 here)), subst P (sym (up_to-new h x)) raw),
        ),
      )
      | inr goes_on ↦ (
        None,
        none_more (length h) _ _ _ (grows pod evicted h x) (lives pod evicted h p is not) (λ ends. elim ends [
          | inl w ↦ goes_on (subst IsTerminal (raw_unique pod (h ++ x ∷ []) w.0 q w.2 raw) w.1)
          | inr e ↦
              let here : e.0 ≡ length h = omega (arith, e.1, length-more h x) in
              stays ((ended_now evicted h x).1 (subst (IsEndedByNode evicted (h ++ x ∷ [])) here e.2))
        ]),
        inr (some_more h x, inr ((λ e. e), raw)),
      )
    ]

-- the init containers of a pod that has ended stay as they are
pub initialized_ended : (pod : PodSpec) (evicted : Option ℕ) (h : List PodTick) (x : PodTick) (t : ℕ)
    → IsEnd pod evicted h (Some t)
    → (IsInitialized pod evicted h ↔ IsInitialized pod evicted (h ++ x ∷ []))
initialized_ended pod evicted h x t end =
    let P : List PodTick → Type 0 = λ k. AreInitialized (facts pod k) (numbers pod) in
    let Q : Option ℕ → Type 0 = λ o. P (counted h o) in
    let R : Option ℕ → Type 0 = λ o. P (counted (h ++ x ∷ []) o) in
    let same : up_to (h ++ x ∷ []) t ≡ up_to h t = up_to-old h x t end.holds.within in
    let later = end_old pod evicted h x t end in (
      (λ w. (Some t, later, subst P (sym same) (subst Q (IsEnd-unique pod evicted h w.0 (Some t) w.1 end) w.2))),
      (λ w. (Some t, end, subst P same (subst R (IsEnd-unique pod evicted (h ++ x ∷ []) w.0 (Some t) w.1 later) w.2))),
    )

-- all ticks count of a pod that hadn't ended before the last
pub counted_all : (pod : PodSpec) (evicted : Option ℕ) (h : List PodTick) (x : PodTick) → IsEnd pod evicted h None
    → (o : Option ℕ) → IsEnd pod evicted (h ++ x ∷ []) o
    → counted (h ++ x ∷ []) o ≡ h ++ x ∷ []
counted_all pod evicted h x none None end = refl
counted_all pod evicted h x none (Some t) end =
    elim (IsFirst-split (length h) _ _ _ (grows pod evicted h x) t end) [
      | inl old ↦ absurd (none t old.holds)
      | inr w ↦ let P : ℕ → Type 0 = λ k. up_to (h ++ x ∷ []) k ≡ h ++ x ∷ [] in subst P (sym w.0) (up_to-new h x)
    ]

-- the phase of a pod that hadn't ended, and that the node doesn't end, is that of its containers
pub phase_raw : (pod : PodSpec) (evicted : Option ℕ) (h : List PodTick) (x : PodTick) (p q : Phase)
    → IsPhase pod evicted h p → (IsTerminal p → ⊥)
    → (EndsWith evicted h x → ⊥) → IsPhase pod evicted (h ++ x ∷ []) q → IsRawPhaseAfter pod (h ++ x ∷ []) q
phase_raw pod evicted h x p q is not stays (end, is_end, by) = elim by [
  | inl w ↦ absurd (some_more h x w.0)
  | inr v ↦ elim v.1 [
    | inl w ↦ absurd (ends_elsewhere end is_end w.0)
    | inr w ↦ subst (λ k. IsRawPhaseAfter pod k q) (counted_all pod evicted h x (lives pod evicted h p is not) end
        is_end) w.1
  ]
]
  where
    ends_elsewhere : (end : Option ℕ) → IsEnd pod evicted (h ++ x ∷ []) end
        → EndsByNode evicted (h ++ x ∷ []) end → ⊥
    ends_elsewhere None is_end there = there
    ends_elsewhere (Some t) is_end there =
        elim (IsFirst-split (length h) _ _ _ (grows pod evicted h x) t is_end) [
          | inl old ↦ lives pod evicted h p is not t old.holds
          | inr w ↦ stays ((ended_now evicted h x).1 (subst (IsEndedByNode evicted (h ++ x ∷ [])) w.0 there))
        ]

pub initialized_lives : (pod : PodSpec) (evicted : Option ℕ) (h : List PodTick) (x : PodTick) (p q : Phase)
    → IsPhase pod evicted h p → (IsTerminal p → ⊥)
    → IsPhase pod evicted (h ++ x ∷ []) q
    → (IsInitialized pod evicted (h ++ x ∷ []) ↔ AreInitialized (facts pod (h ++ x ∷ [])) (numbers pod))
initialized_lives pod evicted h x p q is not next =
    let P : List PodTick → Type 0 = λ k. AreInitialized (facts pod k) (numbers pod) in
    let none = lives pod evicted h p is not in (
      (λ w. subst P (counted_all pod evicted h x none w.0 w.1) w.2),
      (λ all. (next.0, next.1, subst P (sym (counted_all pod evicted h x none next.0 next.1)) all)),
    )

-- the containers are ready where the pod hasn't ended and each that serves is
pub ready_is : (pod : PodSpec) (evicted : Option ℕ) (h : List PodTick) (x : PodTick) (q : Phase)
    → IsPhase pod evicted (h ++ x ∷ []) q
    → (AreContainersReady pod evicted (h ++ x ∷ []) ↔ ((IsTerminal q → ⊥) × AllReady pod (h ++ x ∷ [])))
ready_is pod evicted h x q is = (
  (λ w. ((λ term. let e = terminal_end pod evicted (h ++ x ∷ []) q is term in w.1 e.0 e.1.holds), w.2)),
  (λ w. (some_more h x, lives pod evicted (h ++ x ∷ []) q is w.0, w.1)),
)

-- as long as the pod hasn't ended the containers that are kept are those after all ticks
pub kept_all : (pod : PodSpec) (max_restart_delay : ℕ) (evicted : Option ℕ) (h : List PodTick) (p : Phase)
    (containers : List Container) → IsPhase pod evicted h p → (IsTerminal p → ⊥)
    → AreKept pod max_restart_delay evicted h containers → AreContainersOf pod max_restart_delay h containers
kept_all pod max_restart_delay evicted h p containers is not are =
    let P : Option ℕ → Type 0 = λ o. AreContainersOf pod max_restart_delay (counted h o) containers in
    subst P (IsEnd-unique pod evicted h are.end None are.is_end (lives pod evicted h p is not)) are.kept

-- once the pod has ended they stay
pub kept_ended : (pod : PodSpec) (max_restart_delay : ℕ) (evicted : Option ℕ) (h : List PodTick) (x : PodTick)
    (p : Phase)
    (containers : List Container) → IsPhase pod evicted h p → IsTerminal p
    → AreKept pod max_restart_delay evicted h containers
    → AreKept pod max_restart_delay evicted (h ++ x ∷ []) containers
kept_ended pod max_restart_delay evicted h x p containers is term are =
    let w = terminal_end pod evicted h p is term in
    let e : are.end ≡ Some w.0 = IsEnd-unique pod evicted h are.end (Some w.0) are.is_end w.1 in
    let P : Option ℕ → Type 0 = λ o. AreContainersOf pod max_restart_delay (counted h o) containers in
    let Q : List PodTick → Type 0 = λ k. AreContainersOf pod max_restart_delay k containers in
    record {
      end = Some w.0;
      is_end = end_old pod evicted h x w.0 w.1;
      kept = subst Q (sym (up_to-old h x w.0 w.1.holds.within)) (subst P e are.kept);
    }

-- and until then those after all ticks are kept
pub kept_lives : (pod : PodSpec) (max_restart_delay : ℕ) (evicted : Option ℕ) (h : List PodTick) (x : PodTick)
    (p q : Phase)
    (containers : List Container) → IsPhase pod evicted h p → (IsTerminal p → ⊥)
    → IsPhase pod evicted (h ++ x ∷ []) q → AreContainersOf pod max_restart_delay (h ++ x ∷ []) containers
    → AreKept pod max_restart_delay evicted (h ++ x ∷ []) containers
kept_lives pod max_restart_delay evicted h x p q containers is not next are =
    let none = lives pod evicted h p is not in
    let Q : List PodTick → Type 0 = λ k. AreContainersOf pod max_restart_delay k containers in
    record { end = next.0; is_end = next.1; kept = subst Q (sym (counted_all pod evicted h x none next.0 next.1)) are }

-- and those after the last tick, of a pod that hadn't ended before it
pub kept_last : (pod : PodSpec) (max_restart_delay : ℕ) (evicted : Option ℕ) (h : List PodTick) (x : PodTick)
    (p : Phase) (containers : List Container) → IsPhase pod evicted h p → (IsTerminal p → ⊥)
    → AreKept pod max_restart_delay evicted (h ++ x ∷ []) containers
    → AreContainersOf pod max_restart_delay (h ++ x ∷ []) containers
kept_last pod max_restart_delay evicted h x p containers is not are =
    let Q : List PodTick → Type 0 = λ k. AreContainersOf pod max_restart_delay k containers in
    subst Q (counted_all pod evicted h x (lives pod evicted h p is not) are.end are.is_end) are.kept

-- before any tick
pub kept_none : (pod : PodSpec) (max_restart_delay : ℕ) (evicted : Option ℕ) (containers : List Container)
    → AreContainersOf pod max_restart_delay [] containers → AreKept pod max_restart_delay evicted [] containers
kept_none pod max_restart_delay evicted containers are = record {
  end = None;
  is_end = λ t s. let lt : t < 0 = s.within in
      absurd (omega arith);
  kept = are;
}
