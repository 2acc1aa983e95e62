-- The moment at which a condition was last met, after one more observation.
use Rattle.std.proofs.Common.{◌≡◌, ◌∙◌, inl, inr, ℕ, Bool, true, false, List, [], ◌∷◌, ◌++◌, length, Option, Some, None, refl}
use Rattle.std.proofs.Common.{subst, sym}
use Rattle.std.specs.Prelude.{IsTrue, if◌then◌else◌}
use Rattle.histories.specs.rule.Histories.{recorded, moment_at}
use Rattle.histories.proofs.Growth.{grows_entry}
use Rattle.histories.proofs.Last.{IsLast-unique, IsLast-old, IsLast-new}
use Rattle.histories.proofs.Places.{moment_at-old, moment_at-new}
use Rattle.pressure.specs.rule.Pressures.{Observation, IsMetAt}
use Rattle.signal_causes.specs.rule.Stretches.{WasLastMet}

old_met : (h : List Observation) (at : ℕ) (o : Option ℕ) → WasLastMet h o
    → WasLastMet (h ++ recorded at false ∷ []) o
old_met h at (Some m) (t, last, is) = (
  t,
  IsLast-old (length h) _ _ _ (grows_entry IsTrue h (recorded at false)) (λ e. let so : IsTrue false = e in cc) t last,
  moment_at-old h (recorded at false) t m is,
)
old_met h at None none = λ t met. elim ((grows_entry IsTrue h (recorded at false)).split t met) [
  | inl old ↦ none t old
  | inr w ↦ let so : IsTrue false = w.1 in cc
]

pub last_met_more : (h : List Observation) (at : ℕ) (met : Bool) (o new : Option ℕ) → WasLastMet h o
    → new ≡ (if met then Some at else o) → WasLastMet (h ++ recorded at met ∷ []) new
last_met_more h at true o new is e =
    rw e (
      length h,
      IsLast-new (length h) _ _ _ (grows_entry IsTrue h (recorded at true)) refl,
      moment_at-new h (recorded at true),
    )
last_met_more h at false o new is e = rw e (old_met h at o is)

pub one_last_met : (h : List Observation) (moment other : Option ℕ) → WasLastMet h moment → WasLastMet h other
    → moment ≡ other
one_last_met h None None a b = refl
one_last_met h None (Some m) a (t, last, is) = absurd (a t last.holds)
one_last_met h (Some m) None (t, last, is) b = absurd (b t last.holds)
one_last_met h (Some m) (Some n) (t, last, is) (u, last', is') =
    let e : t ≡ u = IsLast-unique (IsMetAt h) t u last last' in
    sym (subst (λ (k : ℕ). moment_at h k ≡ Some m) e is) ∙ is'
