-- The conditions that a pod's readiness gates name, after one more tick.
use Rattle.std.proofs.Common.{◌≡◌, ◌∙◌, ◌⊎◌, inl, inr, ℕ, zero, suc, ◌<◌, Bool, true, false, List, [], ◌∷◌}
use Rattle.std.proofs.Common.{◌++◌, length, get_or, Option, Some, None, refl, ap, sym, subst, arith}
use Rattle.std.specs.Prelude.{◌↔◌, IsTrue, unwrap_or}
use Rattle.std.proofs.lemmas.Bool.{cases_Bool}
use Rattle.histories.proofs.Decide.{OrNot}
use Rattle.histories.proofs.Found.{all_below}
use Rattle.manifest.specs.declared.pod.PodSpec.{PodSpec}
use Rattle.pod_state.specs.declared.gates.GateStatuses.{GateStatuses}
use Rattle.pod_state.specs.rule.Pods.{PodTick}
use Rattle.pod_state.specs.rule.Gates.{gate_said, SaysStatus, IsGateTrue, AreGatesTrue}
use Rattle.pod_state.specs.state.Gates.{status_after, AreStatusesOf, AreTrueBelow}

-- ---- the status that is carried

pub status_more : (before : Bool) (h : List PodTick) (x : PodTick) (gate : ℕ)
    → status_after before (h ++ x ∷ []) gate ≡ unwrap_or (gate_said x gate) (status_after before h gate)
status_more before [] x gate = refl
status_more before (y ∷ h) x gate = status_more (unwrap_or (gate_said y gate) before) h x gate

-- no tick says that the condition is False
abbrev NoneFalse : List PodTick → ℕ → Type 0
NoneFalse h gate = (t : ℕ) → SaysStatus h gate false t → ⊥

-- the condition is True by these ticks, or was so before them and none says that it isn't
abbrev Holds : Bool → List PodTick → ℕ → Type 0
Holds before h gate = IsGateTrue h gate ⊎ ((before ≡ true) × NoneFalse h gate)

-- the same of the ticks after a first one
later_none : (x : PodTick) (h : List PodTick) (gate : ℕ) → NoneFalse (x ∷ h) gate → NoneFalse h gate
later_none x h gate none t says = none (suc t) says

first_none : (x : PodTick) (h : List PodTick) (gate : ℕ) (said : Option Bool) → gate_said x gate ≡ said
    → (said ≡ Some false → ⊥) → NoneFalse h gate → NoneFalse (x ∷ h) gate
first_none x h gate said is other none zero says =
    let says : gate_said x gate ≡ Some false = says in other (sym is ∙ says)
first_none x h gate said is other none (suc t) says = none t says

later_true : (x : PodTick) (h : List PodTick) (gate : ℕ) → IsGateTrue h gate → IsGateTrue (x ∷ h) gate
later_true x h gate (t, says, last) = (suc t, says, after)
  where
    after : (u : ℕ) → suc t < u → SaysStatus (x ∷ h) gate false u → ⊥
    after zero lt s = absurd (omega (arith, lt))
    after (suc u) lt s = last u (omega (arith, lt)) s

-- a condition that is True is so by the first tick, which the others leave, or by them
by_first : (x : PodTick) (h : List PodTick) (gate : ℕ) → IsGateTrue (x ∷ h) gate
    → ((gate_said x gate ≡ Some true) × NoneFalse h gate) ⊎ IsGateTrue h gate
by_first x h gate (zero, says, last) = inl (says, λ t s. last (suc t) (omega arith) s)
by_first x h gate (suc t, says, last) = inr (t, says, λ u lt s. last (suc u) (omega (arith, lt)) s)

none_after : (x : PodTick) (h : List PodTick) (gate : ℕ) → NoneFalse h gate → (u : ℕ) → 0 < u
    → SaysStatus (x ∷ h) gate false u → ⊥
none_after x h gate none zero lt s = absurd (omega (arith, lt))
none_after x h gate none (suc u) lt s = none u s

carried : (before : Bool) (h : List PodTick) (gate : ℕ)
    → (IsTrue (status_after before h gate) ↔ Holds before h gate)
carried before [] gate = (
  (λ e. inr (e, λ t says. absurd says)),
  (λ holds. elim holds [ inl is ↦ absurd (is.1) | inr kept ↦ kept.0 ]),
)
carried before (x ∷ h) gate = by (gate_said x gate) refl (λ b. carried b h gate)
  where
    by : (said : Option Bool) → gate_said x gate ≡ said
        → ((b : Bool) → (IsTrue (status_after b h gate) ↔ Holds b h gate))
        → (IsTrue (status_after (unwrap_or (gate_said x gate) before) h gate) ↔ Holds before (x ∷ h) gate)
    by None is rest =
        let c = rest before in
        let same = ap (λ (said : Option Bool). status_after (unwrap_or said before) h gate) is in (
          (λ e. elim (c.0 (subst IsTrue same e)) [
            | inl true' ↦ inl (later_true x h gate true')
            | inr kept ↦ inr (kept.0, first_none x h gate None is (λ e. absurd (cc)) kept.1)
          ]),
          (λ holds. subst IsTrue (sym same) (elim holds [
            | inl true' ↦ elim (by_first x h gate true') [
              | inl said ↦ let e : None ≡ Some true = sym is ∙ said.0 in absurd (cc)
              | inr later ↦ c.1 (inl later)
            ]
            | inr kept ↦ c.1 (inr (kept.0, later_none x h gate kept.1))
          ])),
        )
    by (Some true) is rest =
        let c = rest true in
        let same = ap (λ (said : Option Bool). status_after (unwrap_or said before) h gate) is in (
          (λ e. elim (c.0 (subst IsTrue same e)) [
            | inl true' ↦ inl (later_true x h gate true')
            | inr kept ↦ inl (zero, is, none_after x h gate kept.1)
          ]),
          (λ holds. subst IsTrue (sym same) (elim holds [
            | inl true' ↦ elim (by_first x h gate true') [
              | inl said ↦ c.1 (inr (refl, said.1))
              | inr later ↦ c.1 (inl later)
            ]
            | inr kept ↦ c.1 (inr (refl, later_none x h gate kept.1))
          ])),
        )
    by (Some false) is rest =
        let c = rest false in
        let same = ap (λ (said : Option Bool). status_after (unwrap_or said before) h gate) is in (
          (λ e. elim (c.0 (subst IsTrue same e)) [
            | inl true' ↦ inl (later_true x h gate true')
            | inr kept ↦ let e : false ≡ true = kept.0 in absurd (cc)
          ]),
          (λ holds. subst IsTrue (sym same) (elim holds [
            | inl true' ↦ elim (by_first x h gate true') [
              | inl said ↦ let e : Some false ≡ Some true = sym is ∙ said.0 in absurd (cc)
              | inr later ↦ c.1 (inl later)
            ]
            | inr kept ↦ absurd (kept.1 zero is)
          ])),
        )

-- the status that is carried is True where the condition is
pub true_after : (h : List PodTick) (gate : ℕ) → (IsTrue (status_after false h gate) ↔ IsGateTrue h gate)
true_after h gate =
    let c = carried false h gate in (
      (λ e. elim (c.0 e) [ inl true' ↦ true' | inr kept ↦ let e : false ≡ true = kept.0 in absurd (cc) ]),
      (λ is. c.1 (inl is)),
    )

gate_true_or_not : (h : List PodTick) (gate : ℕ) → OrNot (IsGateTrue h gate)
gate_true_or_not h gate =
    let same = true_after h gate in
    elim (cases_Bool (status_after false h gate)) [
      | inl e ↦ inl (same.0 e)
      | inr e ↦ inr (λ is. let t : true ≡ false = sym (same.1 is) ∙ e in absurd (cc))
    ]

pub gates_true_or_not : (pod : PodSpec) (h : List PodTick) → OrNot (AreGatesTrue pod h)
gates_true_or_not pod h = all_below (IsGateTrue h) (gate_true_or_not h) (length pod.gates)

-- ---- the statuses of all gates

-- the statuses are those of one tick more
pub statuses_more : (count : ℕ) (h : List PodTick) (x : PodTick) (old new : GateStatuses)
    → AreStatusesOf count h old → new.count ≡ old.count
    → ((gate : ℕ) → gate < old.count
    → get_or new.statuses gate false ≡ unwrap_or (gate_said x gate) (get_or old.statuses gate false))
    → AreStatusesOf count (h ++ x ∷ []) new
statuses_more count h x old new are many below = record {
  as_many = many ∙ are.as_many;
  each = λ gate lt.
      below gate (omega (arith, lt, are.as_many))
      ∙ ap (λ (b : Bool). unwrap_or (gate_said x gate) b) (are.each gate lt) ∙ sym (status_more false h x gate);
}

-- all are True, or one is not
pub all_true : (pod : PodSpec) (h : List PodTick) (gates : GateStatuses) → AreStatusesOf (length pod.gates) h gates
    → AreTrueBelow gates.count gates.statuses → AreGatesTrue pod h
all_true pod h gates are true' gate lt =
    (true_after h gate).0 (sym (are.each gate lt) ∙ true' gate (omega (arith, lt, are.as_many)))

pub one_false : (pod : PodSpec) (h : List PodTick) (gates : GateStatuses) (gate : ℕ)
    → AreStatusesOf (length pod.gates) h gates → gate < gates.count → get_or gates.statuses gate false ≡ false
    → AreGatesTrue pod h → ⊥
one_false pod h gates gate are lt not all =
    let e = (true_after h gate).1 (all gate (omega (arith, lt, are.as_many))) in
    let is : false ≡ true = sym not ∙ are.each gate (omega (arith, lt, are.as_many)) ∙ e in
    absurd (cc)
