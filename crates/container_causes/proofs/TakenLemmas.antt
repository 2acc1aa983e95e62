-- One more tick of the newest instance.
use Rattle.std.proofs.Common.{◌≡◌, ◌⊎◌, inl, inr, ℕ, ◌<◌, List, [], ◌∷◌, ◌++◌, length, Option, Some, None, refl, subst}
use Rattle.std.proofs.Common.{sym, suc, take, drop, arith}
use Rattle.std.proofs.lemmas.List.{take-append-drop}
use Rattle.std.specs.Prelude.{◌↔◌, IsSomeAnd}
use Rattle.histories.specs.rule.Histories.{HoldsAt, ComesTrue}
use Rattle.histories.specs.rule.TheOne.{IsTheOne}
use Rattle.histories.proofs.First.{IsFirst-new, IsFirstMoment-unique}
use Rattle.histories.proofs.Picked.{so_picked_in, so_picked_front}
use Rattle.histories.proofs.Growth.{grows_so}
use Rattle.histories.proofs.Lasting.{ComesTrue-now}
use Rattle.histories.specs.state.Histories.{Lasts}
use Rattle.manifest.specs.rule.Probe.{Probe}
use Rattle.manifest.specs.declared.pod.ContainerSpec.{ContainerSpec}
use Rattle.state_diff.specs.declared.seen.CriState.TheVariants.{Running}
use Rattle.state_diff.specs.declared.differ.Differ.{Differ}
use Rattle.state_diff.specs.rule.Instances.{seen_at, IsOfAs, Listed, ListedAs, IsNewest, IsStart}
use Rattle.state_diff.specs.state.Differ.{IsStateOf as IsDifferOf}
use Rattle.state_diff.proofs.Growth.{grows_seen}
use Rattle.state_diff.proofs.Listings.{of_weaker}
use Rattle.state_diff.proofs.Unique.{IsNewest-unique}
use Rattle.probes.specs.rule.Ticks.{Tick as ProbeTick, HasPassed as PassesBy}
use Rattle.probes.proofs.Counted.{passed_lasts}
use Rattle.probe_causes.specs.state.ResultMoments.{AreMomentsOf, PassesNow}
use Rattle.containers.specs.declared.pod_event_kind.PodEventKind.{PodEventKind}
use Rattle.containers.specs.declared.pod_event_kind.PodEventKind.TheVariants.{Started, StartupPassed}
use Rattle.containers.specs.rule.Ticks.{ContainerTick, listings, BelongsTo, results_of, AreTicksOf, StartsAt, SaysOf}
use Rattle.containers.specs.rule.Probed.{HasPassed}
use Rattle.containers.specs.rule.Events.{HasStarted, Passes}
use Rattle.containers.specs.state.Step.{IsTaken}
use Rattle.containers.proofs.ProbedLemmas.{said}
use Rattle.containers.proofs.TickLemmas.{listing, long, onto, onto_at, seen_now, newest_now, start_cases, start_kept}
use Rattle.containers.proofs.FollowLemmas.{newest_before, none_before_start}
use Rattle.containers.proofs.ComesLemmas.{comes_by}
use Rattle.container_causes.specs.declared.instance_results.InstanceResults.{InstanceResults}
use Rattle.container_causes.specs.state.Watched.{IsKept, AreResultsOf, IsBegun}

-- an instance that has started was listed
pub start_listed : (h : List ContainerTick) (a start : ℕ) → StartsAt h a start → (u : ℕ) × Listed (listings h) a u
start_listed h a start s = (s.0, of_weaker a Running (seen_at (listings h) s.0) s.1.holds)

-- it does not start again
pub not_again : (h : List ContainerTick) (x : ContainerTick) (a start : ℕ) → StartsAt h a start
    → IsStart (listings (h ++ x ∷ [])) a (length h) → ⊥
not_again h x a start (t, f, e) s =
    let g = grows_seen (IsOfAs a Running) (listings h) (listing x) in
    let lt : t < length (listings h) = g.below t f.holds in
    s.none_before t (omega (arith, long h, lt)) (onto (λ k. ListedAs k a Running t) h x (g.old t f.holds))

-- so in a tick that goes on with it, none starts
none_starts : (h : List ContainerTick) (x : ContainerTick) (d : Differ) (a start b : ℕ)
    → IsDifferOf (listings (h ++ x ∷ [])) d → IsNewest (listings (h ++ x ∷ [])) a → StartsAt h a start
    → IsStart (listings (h ++ x ∷ [])) b (length h) → ⊥
none_starts h x d a start b is n old starts =
    let listed = (seen_now (IsOfAs b Running) h x).0 starts.holds in
    let newest = newest_now h x d b is (of_weaker b Running x.entry.seen listed) in
    let same : b ≡ a = IsNewest-unique (listings (h ++ x ∷ [])) b a newest n in
    not_again h x a start old (subst (λ (k : ℕ). IsStart (listings (h ++ x ∷ [])) k (length h)) same starts)

-- what begins with a tick: the instance that starts in it, or the one that was there
pub kept_begun : (spec : ContainerSpec) (h : List ContainerTick) (x : ContainerTick) (d : Differ)
    (started : Option PodEventKind) (kept begun : Option InstanceResults)
    → IsDifferOf (listings (h ++ x ∷ [])) d → IsTheOne (HasStarted (h ++ x ∷ []) (length h)) started
    → IsBegun spec.probes started x.moment kept begun → AreResultsOf spec h kept
    → (a start : ℕ) → IsNewest (listings (h ++ x ∷ [])) a → StartsAt (h ++ x ∷ []) a start
    → IsSomeAnd begun (λ i. (i.attempt ≡ a) × ((ticks : List ProbeTick) × AreTicksOf h a ticks
    × AreMomentsOf spec.probes start ticks i.moments × (StartsAt h a start ⊎ (ticks ≡ []))))
kept_begun spec h x d started kept begun is one begins results a start n starts =
    elim (start_cases h x a start starts) [
      | inl old ↦
          let l = start_listed h a start old in
          let none : (b : ℕ) → started ≡ Some (Started b) → ⊥ =
          λ b e. let w = (one (Started b)).0 e in none_starts h x d a start w.0 is n old w.2 in
          rw (begins.same none) (was kept (results a start (newest_before h x a l.0 n l.1) old) old)
      | inr w ↦
          let g = grows_seen (IsOfAs a Running) (listings h) (listing x) in
          let here : IsStart (listings (h ++ x ∷ [])) a (length h) =
          onto_at (λ k t. IsStart k a t) h x (IsFirst-new (length (listings h)) _ _ _ g w.2 w.1) in
          let event : started ≡ Some (Started a) = (one (Started a)).1 (a, refl, here) in
          fresh begun w.0 (none_before_start h a w.2) (begins.begins a event)
    ]
  where
    was : (o : Option InstanceResults) → IsSomeAnd o (IsKept spec h a start) → StartsAt h a start
        → IsSomeAnd o (λ i. (i.attempt ≡ a) × ((ticks : List ProbeTick) × AreTicksOf h a ticks
        × AreMomentsOf spec.probes start ticks i.moments × (StartsAt h a start ⊎ (ticks ≡ []))))
    was None k old = k
    was (Some i) k old = (k.same, (k.ticks, k.are_ticks, k.moments, inl old))

    fresh : (o : Option InstanceResults) → start ≡ x.moment → AreTicksOf h a []
        → IsSomeAnd o (λ i. (i.attempt ≡ a) × AreMomentsOf spec.probes x.moment [] i.moments)
        → IsSomeAnd o (λ i. (i.attempt ≡ a) × ((ticks : List ProbeTick) × AreTicksOf h a ticks
        × AreMomentsOf spec.probes start ticks i.moments × (StartsAt h a start ⊎ (ticks ≡ []))))
    fresh None at none k = k
    fresh (Some i) at none k =
        (k.0, ([], none, subst (λ (m : ℕ). AreMomentsOf spec.probes m [] i.moments) (sym at) k.1, inr refl))

-- the tick of an instance to which it belongs
pub taken_by : (h : List ContainerTick) (x : ContainerTick) (a start : ℕ) (ticks : List ProbeTick)
    → BelongsTo a (h ++ x ∷ []) → StartsAt (h ++ x ∷ []) a start → AreTicksOf h a ticks
    → StartsAt h a start ⊎ (ticks ≡ []) → IsTaken h x a start ticks
taken_by h x a start ticks belongs starts are begun = record {
  belongs = belongs;
  starts = starts;
  before = are;
  after = so_picked_in (BelongsTo a) results_of h x ticks are belongs;
  begun = begun;
}

-- the startup probe passes with it exactly if the tick has that event
pub passes_now : (spec : ContainerSpec) (h : List ContainerTick) (x : ContainerTick) (passed : Option PodEventKind)
    (a start : ℕ) (ticks : List ProbeTick) → IsTheOne (Passes spec (h ++ x ∷ []) (length h)) passed
    → IsTaken h x a start ticks
    → PassesNow spec.probes.startup start ticks (results_of x) (passed ≡ Some (StartupPassed a))
passes_now spec h x passed a start ticks one taken =
    by spec.probes.startup (λ w. (one (StartupPassed a)).1 (a, refl, w)) (λ e. mine ((one (StartupPassed a)).0 e))
  where
    mine : Passes spec (h ++ x ∷ []) (length h) (StartupPassed a)
        → IsSomeAnd spec.probes.startup (λ p. ComesTrue (HasPassed p a) (h ++ x ∷ []) (length h))
    mine (b, is, comes) =
        let same : b ≡ a = cc in
        subst (λ (k : ℕ). IsSomeAnd spec.probes.startup (λ p. ComesTrue (HasPassed p k) (h ++ x ∷ []) (length h))) same
        comes

    by : (startup : Option Probe)
        → (IsSomeAnd startup (λ p. ComesTrue (HasPassed p a) (h ++ x ∷ []) (length h))
        → passed ≡ Some (StartupPassed a))
        → (passed ≡ Some (StartupPassed a)
        → IsSomeAnd startup (λ p. ComesTrue (HasPassed p a) (h ++ x ∷ []) (length h)))
        → PassesNow startup start ticks (results_of x) (passed ≡ Some (StartupPassed a))
    by None onto back = (back, onto)
    by (Some p) onto back =
        let iff = comes_by (PassesBy p) h x a start ticks taken (passed_lasts p start) in
        ((λ e. iff.1 (back e)), (λ comes. onto (iff.0 comes)))
