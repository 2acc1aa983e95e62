-- The results that led to an event: one list, some for each event, and the event by them.
use Rattle.std.proofs.Common.{◌≡◌, inl, inr, ℕ, List, [], ◌∷◌, ◌++◌, length, Option, Some, None, subst}
use Rattle.std.specs.Prelude.{IsSomeAnd, map}
use Rattle.histories.specs.rule.Histories.{HoldsAt, ComesTrue}
use Rattle.histories.proofs.Picked.{picked_one, so_picked_back, so_picked_in}
use Rattle.manifest.specs.rule.Probe.{Probe}
use Rattle.manifest.specs.declared.pod.ContainerSpec.{ContainerSpec}
use Rattle.probes.specs.declared.probe_set.Cause.{Cause}
use Rattle.probes.specs.rule.Ticks.{Tick as ProbeTick, HasPassed as PassesBy}
use Rattle.probes.specs.rule.Container.{IsKillOrdered as IsOrderedBy}
use Rattle.probes.specs.state.Container.{AreInRange}
use Rattle.probes.proofs.Counted.{passed_lasts}
use Rattle.probes.proofs.Kills.{kill_lasts}
use Rattle.probe_causes.specs.rule.Causes.{AreKillFailures as KillBy, AreReadySuccesses as ReadyBy}
use Rattle.probe_causes.specs.rule.Causes.{AreUnreadyFailures as UnreadyBy, IsFirstSuccess}
use Rattle.probe_causes.proofs.Kills.{one_kill, some_kill_now, kill_follows}
use Rattle.probe_causes.proofs.Readiness.{one_ready, one_unready}
use Rattle.probe_causes.proofs.Startup.{success_now}
use Rattle.containers.specs.declared.pod_event_kind.PodEventKind.TheVariants.{Kill, StartupPassed}
use Rattle.containers.specs.rule.Ticks.{ContainerTick, BelongsTo, results_of, AreTicksOf, SaysOf}
use Rattle.containers.specs.rule.Probed.{HasPassed, IsKillOrdered}
use Rattle.containers.specs.rule.Events.{IsKilled, Passes}
use Rattle.containers.proofs.ProbedLemmas.{said}
use Rattle.containers.proofs.TickLemmas.{start_cases}
use Rattle.containers.proofs.FollowLemmas.{none_before_start}
use Rattle.containers.proofs.FoundLemmas.{belongs_or_not, some_list_of_results}
use Rattle.containers.proofs.ComesLemmas.{said_now, said_before}
use Rattle.container_causes.specs.rule.Results.{AreKillFailures, AreReadySuccesses, AreUnreadyFailures, IsStartupSuccess}

-- what is said of an instance, of one list at most, is of one list
said_one : {M : Type 0} (R : M → ℕ → List ProbeTick → Type 0)
    → ((start : ℕ) (ticks : List ProbeTick) (m n : M) → R m start ticks → R n start ticks → m ≡ n)
    → (h : List ContainerTick) (a : ℕ) (m n : M) → SaysOf (R m) h a → SaysOf (R n) h a → m ≡ n
said_one R one h a m n s t =
    one s.start s.ticks m n s.says (said (R n) h a s.start s.ticks s.starts s.are_ticks t)

-- what follows from what is said
pub said_so : (Q R : ℕ → List ProbeTick → Type 0) (h : List ContainerTick) (a : ℕ)
    → ((start : ℕ) (ticks : List ProbeTick) → Q start ticks → R start ticks) → SaysOf Q h a → SaysOf R h a
said_so Q R h a f s = record {
  start = s.start;
  starts = s.starts;
  ticks = s.ticks;
  are_ticks = s.are_ticks;
  says = f s.start s.ticks s.says;
}

-- where each tick with which Q comes to hold has an m, what comes true of an instance has one
pub lifted : {M : Type 0} (Q : ℕ → List ProbeTick → Type 0) (R : M → ℕ → List ProbeTick → Type 0)
    → ((start : ℕ) → Q start [] → ⊥)
    → ((start : ℕ) (ticks : List ProbeTick) (next : ProbeTick) → Q start (ticks ++ next ∷ []) → (Q start ticks → ⊥)
    → (m : M) × R m start (ticks ++ next ∷ []))
    → (h : List ContainerTick) (x : ContainerTick) (a : ℕ)
    → ComesTrue (λ k. SaysOf Q k a) (h ++ x ∷ []) (length h) → (m : M) × SaysOf (R m) (h ++ x ∷ []) a
lifted {M} Q R nothing step h x a comes =
    let s = said_now Q h x a comes in
    elim (belongs_or_not a (h ++ x ∷ [])) [
      | inl belongs ↦
          let before = some_list_of_results h a in
          let after : AreTicksOf (h ++ x ∷ []) a (before.0 ++ results_of x ∷ []) =
          so_picked_in (BelongsTo a) results_of h x before.0 before.1 belongs in
          let now : Q s.start (before.0 ++ results_of x ∷ []) =
          said Q (h ++ x ∷ []) a s.start (before.0 ++ results_of x ∷ []) s.starts after s in
          let found = step s.start before.0 (results_of x) now (not s before.0 before.1) in (
            found.0,
            record {
              start = s.start;
              starts = s.starts;
              ticks = before.0 ++ results_of x ∷ [];
              are_ticks = after;
              says = found.1;
            },
          )
      | inr none ↦
          absurd (not s s.ticks (so_picked_back (BelongsTo a) results_of h x s.ticks s.are_ticks none) s.says)
    ]
  where
    not : (s : SaysOf Q (h ++ x ∷ []) a) (ticks : List ProbeTick) → AreTicksOf h a ticks → Q s.start ticks → ⊥
    not s ticks are q = elim (start_cases h x a s.start s.starts) [
      | inl old ↦
          said_before Q h x a
          (record { start = s.start; starts = old; ticks = ticks; are_ticks = are; says = q }) comes
      | inr w ↦
          let empty : ticks ≡ [] =
          picked_one (HoldsAt (BelongsTo a) h) (map results_of h) ticks [] are (none_before_start h a w.2) in
          nothing s.start (subst (λ (ts : List ProbeTick). Q s.start ts) empty q)
    ]

-- kills
pub some_kill_failures : (spec : ContainerSpec) (h : List ContainerTick) (x : ContainerTick) (a : ℕ) (cause : Cause)
    → AreInRange spec.probes → ComesTrue (IsKillOrdered spec cause a) (h ++ x ∷ []) (length h)
    → (moments : List ℕ) × AreKillFailures spec cause a (h ++ x ∷ []) moments
some_kill_failures spec h x a cause range comes =
    lifted (λ start. IsOrderedBy spec.probes start cause) (λ moments start ticks. KillBy spec.probes start cause ticks moments)
    (λ start. (kill_lasts spec.probes start cause range).none)
    (λ start ticks next now not. some_kill_now spec.probes start cause ticks next range now not) h x a comes

pub killed_failures : (spec : ContainerSpec) (h : List ContainerTick) (x : ContainerTick) (a : ℕ) (cause : Cause)
    → AreInRange spec.probes → IsKilled spec (h ++ x ∷ []) (length h) (Kill a cause)
    → (moments : List ℕ) × AreKillFailures spec cause a (h ++ x ∷ []) moments
killed_failures spec h x a cause range (b, of, is, comes) =
    let same : b ≡ a = cc in
    let same' : of ≡ cause = cc in
    some_kill_failures spec h x a cause range
    (subst (λ (k : Cause). ComesTrue (IsKillOrdered spec k a) (h ++ x ∷ []) (length h)) same'
    (subst (λ (k : ℕ). ComesTrue (IsKillOrdered spec of k) (h ++ x ∷ []) (length h)) same comes))

pub one_list_of_kill_failures : (spec : ContainerSpec) (h : List ContainerTick) (a : ℕ) (cause : Cause)
    (moments others : List ℕ) → AreKillFailures spec cause a h moments → AreKillFailures spec cause a h others
    → moments ≡ others
one_list_of_kill_failures spec h a cause moments others s t =
    said_one (λ ms start ticks. KillBy spec.probes start cause ticks ms)
    (λ start ticks m n are are'. one_kill spec.probes start cause ticks m n are are') h a moments others s t

pub kill_by_failures : (spec : ContainerSpec) (h : List ContainerTick) (a : ℕ) (cause : Cause) (moments : List ℕ)
    → AreKillFailures spec cause a h moments → IsKillOrdered spec cause a h
kill_by_failures spec h a cause moments s =
    said_so _ (λ start. IsOrderedBy spec.probes start cause) h a
    (λ start ticks are. kill_follows spec.probes start cause ticks moments are) s

-- readiness
pub one_list_of_successes : (spec : ContainerSpec) (h : List ContainerTick) (a : ℕ) (moments others : List ℕ)
    → AreReadySuccesses spec a h moments → AreReadySuccesses spec a h others → moments ≡ others
one_list_of_successes spec h a moments others s t =
    said_one (λ ms start ticks. ReadyBy spec.probes start ticks ms)
    (λ start ticks m n are are'. one_ready spec.probes start ticks m n are are') h a moments others s t

pub one_list_of_failures : (spec : ContainerSpec) (h : List ContainerTick) (a : ℕ) (moments others : List ℕ)
    → AreUnreadyFailures spec a h moments → AreUnreadyFailures spec a h others → moments ≡ others
one_list_of_failures spec h a moments others s t =
    said_one (λ ms start ticks. UnreadyBy spec.probes start ticks ms)
    (λ start ticks m n are are'. one_unready spec.probes start ticks m n are are') h a moments others s t

-- startup
success_with : (startup : Option Probe) (h : List ContainerTick) (x : ContainerTick) (a : ℕ)
    → IsSomeAnd startup (λ p. ComesTrue (HasPassed p a) (h ++ x ∷ []) (length h))
    → (number : ℕ) × SaysOf (λ start ticks. IsSomeAnd startup (λ p. IsFirstSuccess p start ticks number)) (h ++ x ∷ []) a
success_with None h x a comes = absurd comes
success_with (Some p) h x a comes =
    lifted (PassesBy p) (λ number start ticks. IsFirstSuccess p start ticks number) (λ start. (passed_lasts p start).none)
    (λ start ticks next now not. (_, success_now p start ticks next now not)) h x a comes

pub some_startup_success : (spec : ContainerSpec) (h : List ContainerTick) (x : ContainerTick) (a : ℕ)
    → Passes spec (h ++ x ∷ []) (length h) (StartupPassed a)
    → (number : ℕ) × IsStartupSuccess spec a (h ++ x ∷ []) number
some_startup_success spec h x a (b, is, comes) =
    let same : b ≡ a = cc in
    success_with spec.probes.startup h x a
    (subst (λ (k : ℕ). IsSomeAnd spec.probes.startup (λ p. ComesTrue (HasPassed p k) (h ++ x ∷ []) (length h))) same comes)
