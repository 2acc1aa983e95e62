-- What holds of a threshold or of a condition after some ticks, or doesn't.
use Rattle.std.proofs.Common.{◌≡◌, inl, inr, ℕ, ◌+◌, ◌-◌, ◌<◌, ◌≤◌, List, [], ◌∷◌, ◌++◌, length, Option, Some}
use Rattle.std.proofs.Common.{refl, sym, subst}
use Rattle.std.specs.Prelude.{IsTrue, IsSomeAnd, is_some, slice_get}
use Rattle.histories.specs.rule.Histories.{entry_at, moment_at, last_moment}
use Rattle.histories.proofs.Decide.{OrNot, of_test, both, either, true_or_not, less_or_not, at_most_or_not}
use Rattle.histories.proofs.Decide.{given_or_not}
use Rattle.histories.proofs.Found.{some_below}
use Rattle.histories.proofs.Lists.{within_and, given, map_more}
use Rattle.signals.specs.declared.threshold.Threshold.{Threshold}
use Rattle.signals.specs.rule.BySignal.{of}
use Rattle.signals.specs.rule.Signals.{is_of_file_system}
use Rattle.quantity.specs.rule.Limit.{amount_of}
use Rattle.thresholds.specs.rule.Samples.{Sample, sample}
use Rattle.thresholds.specs.rule.Thresholds.{IsThresholdActive, IsThresholdDue}
use Rattle.thresholds.proofs.LawLemmas.{one_active_since}
use Rattle.thresholds.proofs.Since.{due_by}
use Rattle.pressure.specs.rule.Pressures.{Observation, IsMetAt, WasMetLately, IsUnderPressure}
use Rattle.node_config.specs.rule.EvictionConfig.{EvictionConfig}
use Rattle.observations.specs.declared.tick.TickObs.{TickObs}
use Rattle.observations.specs.rule.Observations.{judged_of}
use Rattle.node_signals.specs.declared.key.ThresholdKey.{ThresholdKey}
use Rattle.node_signals.specs.declared.condition.NodeCondition.{NodeCondition}
use Rattle.node_signals.specs.declared.condition.NodeCondition.TheVariants.{MemoryPressure, DiskPressure, PidPressure}
use Rattle.node_signals.specs.rule.Keys.{serving_order, threshold_at}
use Rattle.node_signals.specs.rule.Thresholds.{samples, IsActiveOnNode, IsDueOnNode, IsEnough, IsReclaimed}
use Rattle.node_signals.specs.rule.Conditions.{condition_of, Meets, IsMet}
use Rattle.node_signals.proofs.Judged.{judged_more}

-- a threshold is active, or it isn't
threshold_active_or_not : (threshold : Threshold) (capacity : Option ℕ) (h : List Sample)
    → OrNot (IsThresholdActive threshold capacity h)
threshold_active_or_not threshold capacity h =
    let limit = amount_of capacity threshold.limit in
    let reclaim = amount_of capacity threshold.reclaim in
    let since = one_active_since.exists limit reclaim h in
    of_test (is_some since.0) (one_active_since.some limit reclaim h since.0 since.1)

pub active_or_not : (eviction : EvictionConfig) (ticks : List TickObs) (key : ThresholdKey)
    → OrNot (IsActiveOnNode eviction ticks key)
active_or_not eviction ticks key =
    let capacity = of eviction.capacity key.signal in
    given_or_not (λ threshold. IsThresholdActive threshold capacity (samples key.signal ticks))
    (λ threshold. threshold_active_or_not threshold capacity (samples key.signal ticks)) (threshold_at eviction key)

-- it is due, or it isn't
threshold_due_or_not : (threshold : Threshold) (capacity : Option ℕ) (h : List Sample) (x : Sample)
    → OrNot (IsThresholdDue threshold capacity (h ++ x ∷ []))
threshold_due_or_not threshold capacity h x =
    let limit = amount_of capacity threshold.limit in
    let reclaim = amount_of capacity threshold.reclaim in
    let since = one_active_since.exists limit reclaim (h ++ x ∷ []) in
    let same = due_by limit reclaim threshold.grace h x since.0 since.1 in
    let passed_or_not = λ (moment : ℕ). at_most_or_not threshold.grace (x.moment - moment) in
    elim (given_or_not (λ moment. threshold.grace ≤ x.moment - moment) passed_or_not since.0) [
      | inl passed ↦ inl (same.0 passed)
      | inr not ↦ inr (λ due. not (same.1 due))
    ]

due_with_or_not : (eviction : EvictionConfig) (before : List TickObs) (tick : TickObs) (key : ThresholdKey)
    → OrNot (IsDueOnNode eviction (before ++ tick ∷ []) key)
due_with_or_not eviction before tick key =
    let capacity = of eviction.capacity key.signal in
    let sample_of : TickObs → Sample = λ t. sample t.at (of t.signals key.signal) in
    let Due : Threshold → List Sample → Type 0 = λ threshold h. OrNot (IsThresholdDue threshold capacity h) in
    let each = λ (threshold : Threshold). subst (Due threshold) (sym (map_more sample_of before tick))
    (threshold_due_or_not threshold capacity (samples key.signal before) (sample_of tick)) in
    given_or_not (λ threshold. IsThresholdDue threshold capacity (samples key.signal (before ++ tick ∷ []))) each
    (threshold_at eviction key)

-- the node judges a tick and the threshold is due by what it has judged, or not so
pub due_or_not : (eviction : EvictionConfig) (before : List TickObs) (tick : TickObs) (key : ThresholdKey)
    → OrNot (IsTrue tick.judged × IsDueOnNode eviction (judged_of (before ++ tick ∷ [])) key)
due_or_not eviction before tick key = elim (true_or_not tick.judged) [
  | inl judged ↦
      let Due : List TickObs → Type 0 = λ ticks. OrNot (IsDueOnNode eviction ticks key) in
      elim (subst Due (sym (judged_more before tick judged))
      (due_with_or_not eviction (judged_of before) tick key)) [
        | inl due ↦ inl (judged, due)
        | inr not ↦ inr (λ w. not w.1)
      ]
  | inr not ↦ inr (λ w. not w.0)
]

pub reclaimed_or_not : (eviction : EvictionConfig) (tick : TickObs) (key : ThresholdKey)
    → OrNot (IsReclaimed eviction tick key)
reclaimed_or_not eviction tick key =
    let capacity = of eviction.capacity key.signal in
    let value = of tick.after_reclaim key.signal in
    let enough = λ (threshold : Threshold). given_or_not (IsEnough capacity threshold)
    (λ v. at_most_or_not (amount_of capacity threshold.limit + amount_of capacity threshold.reclaim) v) value in
    let freed = given_or_not (λ threshold. IsSomeAnd value (IsEnough capacity threshold)) enough
    (threshold_at eviction key) in
    elim (both (true_or_not (is_of_file_system key.signal)) freed) [
      | inl w ↦ inl (record { of_file_system = w.0; freed = w.1 })
      | inr not ↦ inr (λ r. not (r.of_file_system, r.freed))
    ]

-- a condition is met, or it isn't
same_condition_or_not : (c d : NodeCondition) → OrNot (c ≡ d)
same_condition_or_not MemoryPressure MemoryPressure = inl refl
same_condition_or_not DiskPressure DiskPressure = inl refl
same_condition_or_not PidPressure PidPressure = inl refl
same_condition_or_not c d = inr (λ e. cc)

meets_or_not : (eviction : EvictionConfig) (condition : NodeCondition) (ticks : List TickObs) (key : ThresholdKey)
    → OrNot (Meets eviction condition ticks key)
meets_or_not eviction condition ticks key =
    elim (both (same_condition_or_not (condition_of key.signal) condition) (active_or_not eviction ticks key)) [
      | inl w ↦ inl (record { belongs = w.0; active = w.1 })
      | inr not ↦ inr (λ meets. not (meets.belongs, meets.active))
    ]

pub met_or_not : (eviction : EvictionConfig) (condition : NodeCondition) (ticks : List TickObs)
    → OrNot (IsMet eviction condition ticks)
met_or_not eviction condition ticks =
    let each = meets_or_not eviction condition ticks in
    let MetBy : ℕ → Type 0 = λ place. IsSomeAnd (slice_get serving_order place) (Meets eviction condition ticks) in
    let met_by_or_not = λ (place : ℕ).
    given_or_not (Meets eviction condition ticks) each (slice_get serving_order place) in
    elim (some_below MetBy met_by_or_not (length serving_order)) [
      | inl w ↦ inl (w.0, w.2)
      | inr none ↦ inr (λ met.
          none (met.0, within_and (Meets eviction condition ticks) serving_order met.0 met.1, met.1))
    ]

-- it is true after some observations, or it isn't
met_at_or_not : (h : List Observation) (t : ℕ) → OrNot (IsMetAt h t)
met_at_or_not h t = given_or_not IsTrue true_or_not (entry_at h t)

-- the moment at a place is less than the period before the last one
abbrev IsLately : ℕ → List Observation → ℕ → Type 0
IsLately period h t = IsSomeAnd (moment_at h t) (λ moment. IsSomeAnd (last_moment h) (λ now. now - moment < period))

lately_or_not : (period : ℕ) (h : List Observation) (t : ℕ) → OrNot (IsLately period h t)
lately_or_not period h t =
    given_or_not (λ moment. IsSomeAnd (last_moment h) (λ now. now - moment < period))
    (λ moment. given_or_not (λ now. now - moment < period) (λ now. less_or_not (now - moment) period) (last_moment h))
    (moment_at h t)

met_lately : (period : ℕ) (h : List Observation) (t : ℕ) → t < length h - 1 → IsMetAt h t → IsLately period h t
    → WasMetLately period h
met_lately period h t lt met lately =
    let moment = given (λ moment. IsSomeAnd (last_moment h) (λ now. now - moment < period)) (moment_at h t) lately in
    let now = given (λ now. now - moment.0 < period) (last_moment h) moment.2 in
    record {
      place = t;
      earlier = lt;
      met = met;
      moment = moment.0;
      is_moment = moment.1;
      now = now.0;
      is_now = now.1;
      lately = now.2;
    }

was_lately : (period : ℕ) (h : List Observation) (w : WasMetLately period h) → IsLately period h w.place
was_lately period h w =
    let Of : Option ℕ → Option ℕ → Type 0 = λ m n. IsSomeAnd m (λ moment. IsSomeAnd n (λ now. now - moment < period)) in
    subst (λ m. Of m (last_moment h)) (sym w.is_moment) (subst (Of (Some w.moment)) (sym w.is_now) w.lately)

lately_met_or_not : (period : ℕ) (h : List Observation) → OrNot (WasMetLately period h)
lately_met_or_not period h =
    let Was : ℕ → Type 0 = λ t. IsMetAt h t × IsLately period h t in
    elim (some_below Was (λ t. both (met_at_or_not h t) (lately_or_not period h t)) (length h - 1)) [
      | inl w ↦ inl (met_lately period h w.0 w.1 w.2.0 w.2.1)
      | inr none ↦ inr (λ w. none (w.place, w.earlier, (w.met, was_lately period h w)))
    ]

pub pressure_or_not : (period : ℕ) (h : List Observation) → OrNot (IsUnderPressure period h)
pressure_or_not period h = either (met_at_or_not h (length h - 1)) (lately_met_or_not period h)
