-- Whether a condition is true, after one more observation.
use Rattle.std.proofs.Common.{◌≡◌, ◌⊎◌, inl, inr, ℕ, ◌-◌, ◌<◌, ◌≤◌, Bool, List, [], ◌∷◌, ◌++◌, length, Option, Some}
use Rattle.std.proofs.Common.{None, subst, sym, ◌∙◌, arith}
use Rattle.std.specs.Prelude.{◌↔◌, IsTrue, IsSomeAnd}
use Rattle.histories.specs.rule.Histories.{recorded}
use Rattle.histories.proofs.Moments.{last_moment-more}
use Rattle.histories.proofs.Places.{length-more, kept, added, split, entry_at-below, moment_at-old}
use Rattle.pressure.specs.rule.Pressures.{Observation, IsMetAt, WasMetLately, IsUnderPressure}
use Rattle.pressure.specs.state.State.{IsLatestMet}
use Rattle.pressure.proofs.Latest.{moment_at-back}

-- the last place of one more
last_place : (h : List Observation) (x : Observation) → length h ≡ length (h ++ x ∷ []) - 1
last_place h x = omega (arith, length-more h x)

-- it is met at the last place exactly if the new observation says so
pub met_now : (h : List Observation) (x : Observation)
    → (IsMetAt (h ++ x ∷ []) (length (h ++ x ∷ []) - 1) ↔ IsTrue x.entry)
met_now h x = (
  (λ m. elim (split IsTrue h x (length (h ++ x ∷ []) - 1) m) [
    | inl old ↦
        let lt : length (h ++ x ∷ []) - 1 < length h = entry_at-below IsTrue h (length (h ++ x ∷ []) - 1) old in
        let e : length h ≡ length (h ++ x ∷ []) - 1 = last_place h x in
        absurd (omega arith)
    | inr w ↦ w.1
  ]),
  (λ t. let P : ℕ → Type 0 = λ k. IsMetAt (h ++ x ∷ []) k in subst P (last_place h x) (added IsTrue h x t)),
)

-- it was met lately exactly if the latest moment at which it was met is less than the period ago
pub lately_by : (period : ℕ) (h : List Observation) (x : Observation) (latest : Option ℕ) → IsLatestMet h latest
    → (IsSomeAnd latest (λ moment. x.moment - moment < period) ↔ WasMetLately period (h ++ x ∷ []))
lately_by period h x None none = (
  (λ p. absurd p),
  (λ w.
      let before : w.place < length (h ++ x ∷ []) - 1 = w.earlier in
      let e : length h ≡ length (h ++ x ∷ []) - 1 = last_place h x in
      absurd (none w.place (old_met period h x w (omega arith)))),
)
  where
    old_met : (period : ℕ) (h : List Observation) (x : Observation) (w : WasMetLately period (h ++ x ∷ []))
        → w.place < length h → IsMetAt h w.place
    old_met period h x w lt = elim (split IsTrue h x w.place w.met)
        [ inl old ↦ old | inr v ↦ let e : w.place ≡ length h = v.0 in absurd (omega arith) ]
lately_by period h x (Some latest) is = (
  (λ p. record {
    place = is.place;
    earlier =
        let within : is.place < length h = entry_at-below IsTrue h is.place is.met in
        let e : length h ≡ length (h ++ x ∷ []) - 1 = last_place h x in
        omega arith;
    met = kept IsTrue h x is.place is.met;
    moment = latest;
    is_moment = moment_at-old h x is.place latest is.moment;
    now = x.moment;
    is_now = last_moment-more h x;
    lately = p;
  }),
  (λ w.
      let before : w.place < length (h ++ x ∷ []) - 1 = w.earlier in
      let e : length h ≡ length (h ++ x ∷ []) - 1 = last_place h x in
      let lt : w.place < length h = omega arith in
      let old : IsMetAt h w.place = elim (split IsTrue h x w.place w.met)
      [ inl old ↦ old | inr v ↦ let same : w.place ≡ length h = v.0 in absurd (omega arith) ] in
      let le : w.moment ≤ latest = is.none_later w.place w.moment old
      (moment_at-back h x w.place w.moment lt w.is_moment) in
      let now : Some x.moment ≡ Some w.now = sym (last_moment-more h x) ∙ w.is_now in
      let last : x.moment ≡ w.now = cc in
      let lately : w.now - w.moment < period = w.lately in
      let goal : x.moment - latest < period = omega arith in
      goal),
)

-- so the condition is true exactly if it is met, or was met lately by that moment
pub true_by : (period : ℕ) (h : List Observation) (x : Observation) (latest : Option ℕ) → IsLatestMet h latest
    → ((IsTrue x.entry ⊎ IsSomeAnd latest (λ moment. x.moment - moment < period))
    ↔ IsUnderPressure period (h ++ x ∷ []))
true_by period h x latest is =
    let now = met_now h x in
    let lately = lately_by period h x latest is in (
      (λ w. elim w [ inl t ↦ inl (now.1 t) | inr p ↦ inr (lately.0 p) ]),
      (λ w. elim w [ inl t ↦ inl (now.0 t) | inr p ↦ inr (lately.1 p) ]),
    )

-- the same of a test
pub true_after : (period at : ℕ) (met : Bool) (h : List Observation) (latest : Option ℕ) (kept : ℕ) (value : Bool)
    → kept ≡ period → IsLatestMet h latest
    → (IsTrue value ↔ (IsTrue met ⊎ IsSomeAnd latest (λ moment. at - moment < kept)))
    → (IsTrue value ↔ IsUnderPressure period (h ++ recorded at met ∷ []))
true_after period at met h latest kept value same is test =
    let P : ℕ → Type 0 = λ p. IsTrue value ↔ (IsTrue met ⊎ IsSomeAnd latest (λ moment. at - moment < p)) in
    let moved : IsTrue value ↔ (IsTrue met ⊎ IsSomeAnd latest (λ moment. at - moment < period)) = subst P same test in
    let by = true_by period h (recorded at met) latest is in
    ((λ t. by.0 (moved.0 t)), (λ u. moved.1 (by.1 u)))
