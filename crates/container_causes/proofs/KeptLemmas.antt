-- What is kept after one more tick.
use Rattle.std.proofs.Common.{◌≡◌, ◌∙◌, ◌⊎◌, ℕ, Bool, true, false, List, [], ◌∷◌, ◌++◌, length, Option, Some, None, refl}
use Rattle.std.proofs.Common.{subst, sym}
use Rattle.std.specs.Prelude.{◌↔◌, IsSomeAnd, IfSome, IsTrue}
use Rattle.histories.specs.rule.TheOne.{IsTheOne}
use Rattle.histories.proofs.Picked.{so_picked_out}
use Rattle.manifest.specs.declared.pod.ContainerSpec.{ContainerSpec}
use Rattle.state_diff.specs.declared.differ.Differ.{Differ}
use Rattle.state_diff.specs.state.Differ.{IsStateOf as IsDifferOf, Accepts}
use Rattle.state_diff.proofs.Unique.{IsNewest-unique}
use Rattle.probes.specs.rule.Ticks.{Tick as ProbeTick}
use Rattle.probe_causes.specs.state.ResultMoments.{AreMomentsOf, PassesNow}
use Rattle.containers.specs.declared.pod_event_kind.PodEventKind.{PodEventKind}
use Rattle.containers.specs.declared.pod_event_kind.PodEventKind.TheVariants.{StartupPassed}
use Rattle.containers.specs.rule.Ticks.{ContainerTick, listings, BelongsTo, results_of, AreTicksOf, StartsAt}
use Rattle.containers.specs.rule.Events.{HasStarted, Passes}
use Rattle.containers.proofs.FollowLemmas.{belongs_newest}
use Rattle.container_causes.specs.declared.instance_results.InstanceResults.{InstanceResults}
use Rattle.container_causes.specs.state.Watched.{IsKept, AreResultsOf, IsBegun, IsTaken, IsTakenTo}
use Rattle.container_causes.proofs.TakenLemmas.{kept_begun, taken_by, passes_now}

pub kept_more : (spec : ContainerSpec) (h : List ContainerTick) (x : ContainerTick) (d e : Differ)
    (started passed : Option PodEventKind) (kept begun after : Option InstanceResults) (takes : Bool)
    → IsDifferOf (listings h) d → Accepts d x.entry.seen → IsDifferOf (listings (h ++ x ∷ [])) e
    → IsTheOne (HasStarted (h ++ x ∷ []) (length h)) started → IsTheOne (Passes spec (h ++ x ∷ []) (length h)) passed
    → IsBegun spec.probes started x.moment kept begun
    → IsTaken passed takes x.moment x.entry.results begun after
    → (IsTrue takes ↔ ((b : ℕ) × BelongsTo b (h ++ x ∷ []))) → AreResultsOf spec h kept
    → AreResultsOf spec (h ++ x ∷ []) after
kept_more spec h x d e started passed kept begun after true before accepts is one one' begins taken iff results a start n
    starts =
    let b = iff.0 refl in
    let same : b.0 ≡ a = IsNewest-unique (listings (h ++ x ∷ [])) b.0 a (belongs_newest (h ++ x ∷ []) e b.0 is b.1) n in
    both begun (kept_begun spec h x e started kept begun is one begins results a start n starts) (taken.taken refl)
    (subst (λ (k : ℕ). BelongsTo k (h ++ x ∷ [])) same b.1)
  where
    one_more : (i j : InstanceResults) (ticks : List ProbeTick) → i.attempt ≡ a
        → PassesNow spec.probes.startup start ticks (results_of x) (passed ≡ Some (StartupPassed a))
        → AreMomentsOf spec.probes start ticks i.moments → AreTicksOf (h ++ x ∷ []) a (ticks ++ results_of x ∷ [])
        → IsTakenTo passed x.moment x.entry.results i j → IsKept spec (h ++ x ∷ []) a start j
    one_more i j ticks same passes moments are t = record {
      same = t.same ∙ same;
      ticks = ticks ++ results_of x ∷ [];
      are_ticks = are;
      moments = t.moments spec.probes start ticks
          (subst (λ (k : ℕ). PassesNow spec.probes.startup start ticks (results_of x) (passed ≡ Some (StartupPassed k)))
          (sym same) passes) moments;
    }

    mapped : (o : Option InstanceResults) (i : InstanceResults)
        → ((j : InstanceResults) → IsTakenTo passed x.moment x.entry.results i j → IsKept spec (h ++ x ∷ []) a start j)
        → IsSomeAnd o (IsTakenTo passed x.moment x.entry.results i) → IsSomeAnd o (IsKept spec (h ++ x ∷ []) a start)
    mapped None i f t = t
    mapped (Some j) i f t = f j t

    both : (o : Option InstanceResults)
        → IsSomeAnd o (λ i. (i.attempt ≡ a) × ((ticks : List ProbeTick) × AreTicksOf h a ticks
        × AreMomentsOf spec.probes start ticks i.moments × (StartsAt h a start ⊎ (ticks ≡ []))))
        → IfSome o (λ i. IsSomeAnd after (IsTakenTo passed x.moment x.entry.results i))
        → BelongsTo a (h ++ x ∷ []) → IsSomeAnd after (IsKept spec (h ++ x ∷ []) a start)
    both None k t belongs = absurd k
    both (Some i) (same, (ticks, are, moments, old)) t belongs =
        let is_taken = taken_by h x a start ticks belongs starts are old in
        mapped after i
        (λ j to. one_more i j ticks same (passes_now spec h x passed a start ticks one' is_taken) moments is_taken.after
        to) t
kept_more spec h x d e started passed kept begun after false before accepts is one one' begins taken iff results a start
    n starts =
    let none : (b : ℕ) → BelongsTo b (h ++ x ∷ []) → ⊥ = λ b belongs.
    (let so : IsTrue false = iff.1 (b, belongs) in cc) in
    rw (taken.idle (λ so. cc))
    (mapped begun (kept_begun spec h x e started kept begun is one begins results a start n starts) (none a))
  where
    mapped : (o : Option InstanceResults)
        → IsSomeAnd o (λ i. (i.attempt ≡ a) × ((ticks : List ProbeTick) × AreTicksOf h a ticks
        × AreMomentsOf spec.probes start ticks i.moments × (StartsAt h a start ⊎ (ticks ≡ []))))
        → (BelongsTo a (h ++ x ∷ []) → ⊥) → IsSomeAnd o (IsKept spec (h ++ x ∷ []) a start)
    mapped None k none = k
    mapped (Some i) (same, (ticks, are, moments, old)) none = record {
      same = same;
      ticks = ticks;
      are_ticks = so_picked_out (BelongsTo a) results_of h x ticks are none;
      moments = moments;
    }

-- one test for another
pub passes_same : {P Q R : Type 0} → (P ↔ Q) → (Q ↔ R) → (P ↔ R)
passes_same a b = ((λ p. b.0 (a.0 p)), (λ r. a.1 (b.1 r)))
