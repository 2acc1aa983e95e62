-- What the ticks say of a condition.
use Rattle.std.proofs.Common.{◌≡◌, inl, inr, ℕ, zero, suc, ◌<◌, List, [], ◌∷◌, ◌++◌, length, take, Bool}
use Rattle.std.proofs.Common.{Some, refl, sym, ap, subst, ◌∙◌, arith}
use Rattle.std.specs.Prelude.{◌↔◌, IsTrue}
use Rattle.std.proofs.lemmas.List.{take-append-le, take_all}
use Rattle.std.proofs.lemmas.Option.{slice_get_within}
use Rattle.histories.specs.rule.Histories.{recorded, moment_at}
use Rattle.histories.proofs.Decide.{same_bool}
use Rattle.histories.proofs.Places.{length-more, moment_at-old, moment_at-new}
use Rattle.histories.proofs.Lists.{place_split, given_at}
use Rattle.pressure.specs.rule.Pressures.{Observation, IsMetAt, IsUnderPressure, IsSince}
use Rattle.pressure.specs.declared.pressure.Pressure.{Pressure}
use Rattle.pressure.specs.state.State.{IsStateOf as IsPressureState}
use Rattle.node_config.specs.rule.EvictionConfig.{EvictionConfig}
use Rattle.observations.specs.declared.tick.TickObs.{TickObs}
use Rattle.observations.specs.rule.Observations.{judged_of}
use Rattle.node_signals.specs.declared.condition.NodeCondition.{NodeCondition}
use Rattle.node_signals.specs.rule.Conditions.{IsMet, AreObservations, IsTrueAfter, IsSinceMoment}
use Rattle.node_signals.specs.state.Node.{IsPressureOf}

-- lists of observations that say the same of each place are one
same_observations : (h k : List Observation) → length h ≡ length k
    → ((t : ℕ) → t < length h → moment_at h t ≡ moment_at k t)
    → ((t : ℕ) → t < length h → (IsMetAt h t ↔ IsMetAt k t)) → h ≡ k
same_observations [] [] len moments met = refl
same_observations [] (y ∷ k) len moments met = absurd (omega arith)
same_observations (x ∷ h) [] len moments met = absurd (omega arith)
same_observations (x ∷ h) (y ∷ k) len moments met =
    let first : Some x.moment ≡ Some y.moment = moments 0 (omega arith) in
    let moment : x.moment ≡ y.moment = cc in
    let entry : x.entry ≡ y.entry = same_bool x.entry y.entry (met 0 (omega arith)) in
    let head : recorded x.moment x.entry ≡ recorded y.moment y.entry = cc in
    let rest : h ≡ k = same_observations h k (omega arith) (λ t lt. moments (suc t) (omega arith))
    (λ t lt. met (suc t) (omega arith)) in
    let P : Observation → Type 0 = λ z. x ∷ h ≡ z ∷ k in
    let Q : List Observation → Type 0 = λ z. x ∷ h ≡ x ∷ z in
    subst P head (subst Q rest refl)

-- the ticks say one thing of a condition
pub one_list : (eviction : EvictionConfig) (condition : NodeCondition) (ticks : List TickObs) (h k : List Observation)
    → AreObservations eviction condition ticks h → AreObservations eviction condition ticks k → h ≡ k
one_list eviction condition ticks h k a b =
    same_observations h k (a.as_many ∙ sym b.as_many)
    (λ t lt. let there = given_at ticks t (let many : length h ≡ length ticks = a.as_many in omega arith) in
    a.moments t there.0 there.1 ∙ sym (b.moments t there.0 there.1))
    (λ t lt. let there = given_at ticks t (let many : length h ≡ length ticks = a.as_many in omega arith) in
    let one = a.met t there.0 there.1 in
    let other = b.met t there.0 there.1 in
    ((λ m. other.1 (one.0 m)), (λ m. one.1 (other.0 m))))

pub none_observed : (eviction : EvictionConfig) (condition : NodeCondition) → AreObservations eviction condition [] []
none_observed eviction condition = record {
  as_many = refl;
  moments = λ t tick e. absurd (cc);
  met = λ t tick e. absurd (cc);
}

met_here : (h : List Observation) (at : ℕ) (b : Bool) → (IsMetAt (h ++ recorded at b ∷ []) (length h) ↔ IsTrue b)
met_here [] at b = ((λ m. m), (λ m. m))
met_here (x ∷ h) at b = met_here h at b

met_before : (h : List Observation) (at : ℕ) (b : Bool) (t : ℕ) → t < length h
    → (IsMetAt (h ++ recorded at b ∷ []) t ↔ IsMetAt h t)
met_before [] at b t lt = absurd (omega arith)
met_before (x ∷ h) at b zero lt = ((λ m. m), (λ m. m))
met_before (x ∷ h) at b (suc t) lt = met_before h at b t (omega arith)

-- with one more tick
pub observed_more : (eviction : EvictionConfig) (condition : NodeCondition) (before : List TickObs) (tick : TickObs)
    (h : List Observation) (met : Bool)
    → (IsTrue met ↔ IsMet eviction condition (before ++ tick ∷ [])) → AreObservations eviction condition before h
    → AreObservations eviction condition (before ++ tick ∷ []) (h ++ recorded tick.at met ∷ [])
observed_more eviction condition before tick h met is a = record {
  as_many =
      let many : length h ≡ length before = a.as_many in
      length-more h (recorded tick.at met) ∙ ap suc many ∙ sym (length-more before tick);
  moments = λ t x e. elim (place_split before tick x t e) [
    | inl old ↦ moment_at-old h (recorded tick.at met) t x.at (a.moments t x old)
    | inr w ↦
        let here : length h ≡ t = a.as_many ∙ sym w.0 in
        let P : ℕ → Type 0 = λ k. moment_at (h ++ recorded tick.at met ∷ []) k ≡ Some tick.at in
        let Q : TickObs → Type 0 = λ y. moment_at (h ++ recorded tick.at met ∷ []) t ≡ Some y.at in
        subst Q w.1 (subst P here (moment_at-new h (recorded tick.at met)))
  ];
  met = λ t x e. elim (place_split before tick x t e) [
    | inl old ↦
        let lt : t < length before = slice_get_within before t x old in
        let m = met_before h tick.at met t (let many : length h ≡ length before = a.as_many in omega arith) in
        let was = a.met t x old in
        let same : take (suc t) (before ++ tick ∷ []) ≡ take (suc t) before = take-append-le (suc t) before
        (tick ∷ []) (omega arith) in
        let P : List TickObs → Type 0 = λ z. IsMetAt (h ++ recorded tick.at met ∷ []) t ↔ IsMet eviction condition z in
        subst P (sym same) ((λ k. was.0 (m.0 k)), (λ k. m.1 (was.1 k)))
    | inr w ↦
        let here : length h ≡ t = a.as_many ∙ sym w.0 in
        let m = met_here h tick.at met in
        let whole : take (suc t) (before ++ tick ∷ []) ≡ before ++ tick ∷ [] =
        take_all (suc t) (before ++ tick ∷ [])
        (let e : t ≡ length before = w.0 in omega (arith, length-more before tick)) in
        let P : List TickObs → Type 0 = λ z. IsMetAt (h ++ recorded tick.at met ∷ []) t ↔ IsMet eviction condition z in
        let Q : ℕ → Type 0 = λ k. IsMetAt (h ++ recorded tick.at met ∷ []) k
        ↔ IsMet eviction condition (before ++ tick ∷ []) in
        subst P (sym whole) (subst Q here ((λ k. is.0 (m.0 k)), (λ k. m.1 (is.1 k))))
  ];
}

-- a value that says of the observations whether the condition is true says it of the ticks
pub true_after : (eviction : EvictionConfig) (period : ℕ) (condition : NodeCondition) (ticks : List TickObs)
    (h : List Observation) (value : Bool)
    → AreObservations eviction condition (judged_of ticks) h → (IsTrue value ↔ IsUnderPressure period h)
    → (IsTrue value ↔ IsTrueAfter eviction period condition ticks)
true_after eviction period condition ticks h value a is = (
  (λ t. (h, a, is.0 t)),
  (λ after.
      let same = one_list eviction condition (judged_of ticks) after.0 h after.1 a in
      is.1 (subst (IsUnderPressure period) same after.2)),
)

-- a pressure that takes an observation more, whatever they were
abbrev pub TakesMore : Pressure → ℕ → Bool → Pressure → Type 0
TakesMore old at met new = (period : ℕ) (h : List Observation) → IsPressureState period h old
    → IsPressureState period (h ++ recorded at met ∷ []) new

pub pressure_more : (eviction : EvictionConfig) (period : ℕ) (condition : NodeCondition) (before : List TickObs)
    (tick : TickObs) (at : ℕ) (met : Bool) (old new : Pressure)
    → tick.at ≡ at → (IsTrue met ↔ IsMet eviction condition (before ++ tick ∷ [])) → TakesMore old at met new
    → IsPressureOf eviction period condition before old
    → IsPressureOf eviction period condition (before ++ tick ∷ []) new
pressure_more eviction period condition before tick at met old new is_at is takes (h, observed, state) = (
  h ++ recorded tick.at met ∷ [],
  observed_more eviction condition before tick h met is observed,
  subst (λ k. IsPressureState period (h ++ recorded k met ∷ []) new) (sym is_at) (takes period h state),
)

pub is_true_of : (eviction : EvictionConfig) (period : ℕ) (condition : NodeCondition) (ticks : List TickObs)
    (pressure : Pressure) (value : Bool)
    → IsPressureOf eviction period condition (judged_of ticks) pressure
    → ((p : ℕ) (h : List Observation) → IsPressureState p h pressure → (IsTrue value ↔ IsUnderPressure p h))
    → (IsTrue value ↔ IsTrueAfter eviction period condition ticks)
is_true_of eviction period condition ticks pressure value (h, observed, state) tells =
    true_after eviction period condition ticks h value observed (tells period h state)

pub since_of : (eviction : EvictionConfig) (period : ℕ) (condition : NodeCondition) (ticks : List TickObs)
    (pressure : Pressure) (since : ℕ)
    → IsPressureOf eviction period condition (judged_of ticks) pressure
    → ((p : ℕ) (h : List Observation) → IsPressureState p h pressure → IsSince p h since)
    → IsSinceMoment eviction period condition ticks since
since_of eviction period condition ticks pressure since (h, observed, state) tells = (h, observed, tells period h state)
