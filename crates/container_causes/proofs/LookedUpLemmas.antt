-- What is looked up of the newest instance's results.
use Rattle.std.proofs.Common.{◌≡◌, ◌∙◌, ℕ, List, [], ◌∷◌, ◌++◌, length, Option, Some, None, subst, sym, refl}
use Rattle.std.proofs.lemmas.Result.{IfOk-weaker}
use Rattle.histories.specs.rule.Histories.{ComesTrue}
use Rattle.manifest.specs.rule.Probe.{Probe, Probes}
use Rattle.probes.specs.declared.probe_set.Cause.{Cause}
use Rattle.probes.specs.rule.Container.{IsKillOrdered as IsOrderedBy}
use Rattle.probes.specs.rule.Ticks.{startup_results, HasPassed as PassesBy}
use Rattle.probes.specs.state.Container.{AreInRange}
use Rattle.probes.proofs.Counted.{passed_lasts}
use Rattle.probes.proofs.Kills.{kill_lasts}
use Rattle.probe_causes.specs.rule.Causes.{IsFirstSuccess, IsPassMoment as PassesAt}
use Rattle.probe_causes.proofs.Startup.{success_now}
use Rattle.state_diff.specs.declared.differ.Differ.{Differ}
use Rattle.state_diff.specs.state.Differ.{IsStateOf as IsDifferOf}
use Rattle.containers.specs.declared.pod_event_kind.PodEventKind.TheVariants.{Kill, StartupPassed}
use Rattle.containers.specs.rule.Probed.{HasPassed}
use Rattle.containers.specs.rule.Events.{IsKilled, Passes}
use Rattle.containers.proofs.FollowLemmas.{belongs_newest}
use Rattle.container_causes.specs.rule.Results.{IsStartupSuccess, IsPassMoment}
use Rattle.container_causes.proofs.CauseLemmas.{lifted, said_so}
use Rattle.container_causes.proofs.ReadinessLemmas.{comes_belongs}
use Rattle.std.specs.Prelude.{IsSomeAnd, IfSome, IfOk, Result}
use Rattle.manifest.specs.declared.pod.ContainerSpec.{ContainerSpec}
use Rattle.state_diff.specs.rule.Instances.{IsNewest}
use Rattle.probes.specs.rule.Ticks.{Tick as ProbeTick}
use Rattle.containers.specs.rule.Ticks.{ContainerTick, listings, StartsAt, SaysOf}
use Rattle.containers.proofs.ProbedLemmas.{said}
use Rattle.probe_causes.specs.state.ResultMoments.{AreMomentsOf}
use Rattle.container_causes.specs.declared.instance_results.InstanceResults.{InstanceResults}
use Rattle.container_causes.specs.state.Watched.{AreResultsOf, IsKept}

-- what the kept results give by what is said of the instance
pub looked_up : (spec : ContainerSpec) (h : List ContainerTick) (a : ℕ) (kept : Option InstanceResults)
    (R : ℕ → List ProbeTick → Type 0) (G : Type 0) → AreResultsOf spec h kept → IsNewest (listings h) a → SaysOf R h a
    → IfSome kept (λ i. (start : ℕ) (ticks : List ProbeTick) → AreMomentsOf spec.probes start ticks i.moments
    → R start ticks → G) → G
looked_up spec h a kept R G results newest s give = by kept (results a s.start newest s.starts) give
  where
    by : (o : Option InstanceResults) → IsSomeAnd o (IsKept spec h a s.start)
        → IfSome o (λ i. (start : ℕ) (ticks : List ProbeTick) → AreMomentsOf spec.probes start ticks i.moments
        → R start ticks → G) → G
    by None k give = absurd k
    by (Some i) k give = give s.start k.ticks k.moments (said R h a s.start k.ticks s.starts k.are_ticks s)

if_some : {A : Type 0} (P Q : A → Type 0) (o : Option A) → ((x : A) → P x → Q x) → IfSome o P → IfSome o Q
if_some P Q None f p = p
if_some P Q (Some x) f p = f x p

-- a list that is found is the one of which it is said
pub found_by : {T E : Type 0} (items : T → List ℕ) (result : Result T E) (spec : ContainerSpec)
    (h : List ContainerTick) (a : ℕ) (kept : Option InstanceResults)
    (R : Probes → List ℕ → ℕ → List ProbeTick → Type 0) (moments : List ℕ) → AreResultsOf spec h kept
    → IsNewest (listings h) a → SaysOf (R spec.probes moments) h a
    → IfSome kept (λ i. (probes : Probes) (start : ℕ) (ticks : List ProbeTick) (ms : List ℕ)
    → AreMomentsOf probes start ticks i.moments → R probes ms start ticks → IfOk result (λ v. items v ≡ ms))
    → IfOk result (λ v. SaysOf (R spec.probes (items v)) h a)
found_by items result spec h a kept R moments results newest s give =
    IfOk-weaker result _ _ (λ v e. subst (λ (ms : List ℕ). SaysOf (R spec.probes ms) h a) (sym e) s)
    (looked_up spec h a kept (R spec.probes moments) (IfOk result (λ v. items v ≡ moments)) results newest s
    (if_some _ _ kept (λ i f start ticks are so. f spec.probes start ticks moments are so) give))

-- the instance that is to be killed is the newest
pub killed_newest : (spec : ContainerSpec) (h : List ContainerTick) (x : ContainerTick) (d : Differ) (a : ℕ)
    (cause : Cause) → AreInRange spec.probes → IsDifferOf (listings (h ++ x ∷ [])) d
    → IsKilled spec (h ++ x ∷ []) (length h) (Kill a cause) → IsNewest (listings (h ++ x ∷ [])) a
killed_newest spec h x d a cause range is (b, of, e, comes) =
    let same : b ≡ a = cc in
    let belongs = comes_belongs (λ start. IsOrderedBy spec.probes start of)
    (λ start. (kill_lasts spec.probes start of range).none) h x b comes in
    subst (λ (k : ℕ). IsNewest (listings (h ++ x ∷ [])) k) same (belongs_newest (h ++ x ∷ []) d b is belongs)

-- the number of a success, which is how many results there are
abbrev IsCounted : Option Probe → ℕ → ℕ → List ProbeTick → Type 0
IsCounted startup number start ticks =
    IsSomeAnd startup (λ p. IsFirstSuccess p start ticks number × (number ≡ length (startup_results p start ticks)))

counted : (startup : Option Probe) (h : List ContainerTick) (x : ContainerTick) (d : Differ) (a : ℕ)
    → IsDifferOf (listings (h ++ x ∷ [])) d
    → IsSomeAnd startup (λ p. ComesTrue (HasPassed p a) (h ++ x ∷ []) (length h))
    → IsNewest (listings (h ++ x ∷ [])) a × ((number : ℕ) × SaysOf (IsCounted startup number) (h ++ x ∷ []) a)
counted None h x d a is comes = absurd comes
counted (Some p) h x d a is comes = (
  belongs_newest (h ++ x ∷ []) d a is
      (comes_belongs (PassesBy p) (λ start. (passed_lasts p start).none) h x a comes),
  lifted (PassesBy p) (λ number start ticks. IsCounted (Some p) number start ticks)
      (λ start. (passed_lasts p start).none)
      (λ start ticks next now not. (_, (success_now p start ticks next now not, refl))) h x a comes,
)

-- the count that is found is that number
number_of : (probes : Probes) (startup : Option Probe) (number result start : ℕ) (ticks : List ProbeTick)
    → probes.startup ≡ startup → IsCounted startup number start ticks
    → ((probe : Probe) → probes.startup ≡ Some probe → result ≡ length (startup_results probe start ticks))
    → result ≡ number
number_of probes None number result start ticks is are give = absurd are
number_of probes (Some p) number result start ticks is are give = give p is ∙ sym are.1

first_of : (startup : Option Probe) (number start : ℕ) (ticks : List ProbeTick) → IsCounted startup number start ticks
    → IsSomeAnd startup (λ p. IsFirstSuccess p start ticks number)
first_of None number start ticks are = are
first_of (Some p) number start ticks are = are.0

pub startup_found : (spec : ContainerSpec) (h : List ContainerTick) (x : ContainerTick) (d : Differ) (a result : ℕ)
    (kept : Option InstanceResults) → IsDifferOf (listings (h ++ x ∷ [])) d → AreResultsOf spec (h ++ x ∷ []) kept
    → Passes spec (h ++ x ∷ []) (length h) (StartupPassed a)
    → IfSome kept (λ i. (probes : Probes) (start : ℕ) (ticks : List ProbeTick) (probe : Probe)
    → AreMomentsOf probes start ticks i.moments → probes.startup ≡ Some probe
    → result ≡ length (startup_results probe start ticks))
    → IsStartupSuccess spec a (h ++ x ∷ []) result
startup_found spec h x d a result kept is results (b, e, comes) give =
    let same : b ≡ a = cc in
    let mine = subst (λ (k : ℕ). IsSomeAnd spec.probes.startup
    (λ p. ComesTrue (HasPassed p k) (h ++ x ∷ []) (length h))) same comes in
    let w = counted spec.probes.startup h x d a is mine in
    let number = looked_up spec (h ++ x ∷ []) a kept (IsCounted spec.probes.startup w.1.0) (result ≡ w.1.0) results w.0
    w.1.1
    (if_some _ _ kept (λ i f start ticks are so.
    number_of spec.probes spec.probes.startup w.1.0 result start ticks refl so
    (λ probe some. f spec.probes start ticks probe are some)) give) in
    subst (λ (n : ℕ). IsStartupSuccess spec a (h ++ x ∷ []) n) (sym number)
    (said_so (IsCounted spec.probes.startup w.1.0) _ (h ++ x ∷ []) a
    (λ start ticks are. first_of spec.probes.startup w.1.0 start ticks are) w.1.1)

-- the moment in which startup of the instance with this start passed
pub pass_found : (spec : ContainerSpec) (h : List ContainerTick) (a start : ℕ) (moment : Option ℕ)
    (kept : Option InstanceResults) → IsSomeAnd kept (IsKept spec h a start) → StartsAt h a start
    → IfSome kept (λ i. (probes : Probes) (begin : ℕ) (ticks : List ProbeTick)
    → AreMomentsOf probes begin ticks i.moments → PassesAt probes.startup begin ticks moment)
    → IsPassMoment spec a h moment
pass_found spec h a start moment None kept starts give = absurd kept
pass_found spec h a start moment (Some i) kept starts give = record {
  start = start;
  starts = starts;
  ticks = kept.ticks;
  are_ticks = kept.are_ticks;
  says = give spec.probes start kept.ticks kept.moments;
}
