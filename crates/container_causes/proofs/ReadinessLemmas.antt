-- The results by which a container becomes ready, and unready.
use Rattle.std.proofs.Common.{◌≡◌, inl, inr, ℕ, suc, List, [], ◌∷◌, ◌++◌, length, refl}
use Rattle.std.proofs.Common.{subst, arith}
use Rattle.std.specs.Prelude.{IsSome, map}
use Rattle.std.proofs.lemmas.List.{take_all}
use Rattle.histories.specs.rule.Histories.{HoldsAt, ComesTrue}
use Rattle.histories.proofs.Growth.{grows_so}
use Rattle.histories.proofs.Picked.{picked_one, so_picked_back, so_picked_in}
use Rattle.manifest.specs.declared.pod.ContainerSpec.{ContainerSpec}
use Rattle.state_diff.specs.declared.seen.CriState.TheVariants.{Running, Exited}
use Rattle.state_diff.specs.declared.differ.Differ.{Differ}
use Rattle.state_diff.specs.rule.Instances.{IsNewest, IsState, IsExit}
use Rattle.state_diff.specs.state.Differ.{IsStateOf as IsDifferOf, Accepts}
use Rattle.state_diff.proofs.Growth.{IsExit-old}
use Rattle.state_diff.proofs.Unique.{IsNewest-unique}
use Rattle.probes.specs.rule.Ticks.{Tick as ProbeTick}
use Rattle.probes.specs.rule.Container.{IsInstanceReady}
use Rattle.probes.specs.state.Container.{AreInRange}
use Rattle.probe_causes.proofs.Readiness.{some_ready, some_unready, not_ready_yet}
use Rattle.containers.specs.declared.pod_event_kind.PodEventKind.TheVariants.{Ready, Unready}
use Rattle.containers.specs.rule.Ticks.{ContainerTick, listings, BelongsTo, results_of, AreTicksOf, StartsAt, SaysOf}
use Rattle.containers.specs.rule.Probed.{Serves, IsContainerReady}
use Rattle.containers.specs.rule.Events.{WasReady, ChangesReadiness}
use Rattle.containers.proofs.ProbedLemmas.{said}
use Rattle.containers.proofs.TickLemmas.{listing, onto, start_cases, start_kept, newest_now}
use Rattle.containers.proofs.FollowLemmas.{belongs_now, newest_before, none_before_start}
use Rattle.containers.proofs.FoundLemmas.{belongs_or_not, some_list_of_results}
use Rattle.containers.proofs.ComesLemmas.{said_now, said_before}
use Rattle.container_causes.specs.rule.Results.{AreReadySuccesses, AreUnreadyFailures}
use Rattle.container_causes.specs.state.Watched.{RunsOn}
use Rattle.container_causes.proofs.RunsOnLemmas.{goes_on}
use Rattle.container_causes.proofs.TakenLemmas.{start_listed}

-- an instance of which something comes true belongs to the tick
pub comes_belongs : (Q : ℕ → List ProbeTick → Type 0) → ((start : ℕ) → Q start [] → ⊥) → (h : List ContainerTick)
    (x : ContainerTick) (a : ℕ) → ComesTrue (λ k. SaysOf Q k a) (h ++ x ∷ []) (length h) → BelongsTo a (h ++ x ∷ [])
comes_belongs Q nothing h x a comes = elim (belongs_or_not a (h ++ x ∷ [])) [
  | inl belongs ↦ belongs
  | inr none ↦
      let s = said_now Q h x a comes in
      absurd (not s s.ticks (so_picked_back (BelongsTo a) results_of h x s.ticks s.are_ticks none) s.says)
]
  where
    not : (s : SaysOf Q (h ++ x ∷ []) a) (ticks : List ProbeTick) → AreTicksOf h a ticks → Q s.start ticks → ⊥
    not s ticks are q = elim (start_cases h x a s.start s.starts) [
      | inl old ↦
          said_before Q h x a
          (record { start = s.start; starts = old; ticks = ticks; are_ticks = are; says = q }) comes
      | inr w ↦
          let empty : ticks ≡ [] =
          picked_one (HoldsAt (BelongsTo a) h) (map results_of h) ticks [] are (none_before_start h a w.2) in
          nothing s.start (subst (λ (ts : List ProbeTick). Q s.start ts) empty q)
    ]

-- without an exit after a tick there was none before
pub no_exit_before : (h : List ContainerTick) (x : ContainerTick) (a : ℕ)
    → ((t : ℕ) → IsExit (listings (h ++ x ∷ [])) a t → ⊥) → (t : ℕ) → IsExit (listings h) a t → ⊥
no_exit_before h x a never t e = never t (onto (λ k. IsExit k a t) h x (IsExit-old (listings h) a (listing x) t e))

-- a running instance has not exited
pub running_no_exit : (h : List ContainerTick) (a : ℕ) → IsState (listings h) a Running
    → (t : ℕ) → IsExit (listings h) a t → ⊥
running_no_exit h a (inl w) t e = let no : Running ≡ Exited = w.1 in cc
running_no_exit h a (inr w) t e = w.0 t e

-- readiness of the container before the last tick
was_ready_by : (spec : ContainerSpec) (h : List ContainerTick) (x : ContainerTick) → IsContainerReady spec h
    → WasReady spec (h ++ x ∷ []) (length h)
was_ready_by spec [] x (a, serves, says) = absurd (says.starts.1.holds)
was_ready_by spec (y ∷ h) x ready = (
  length h,
  refl,
  (grows_so (IsContainerReady spec) (y ∷ h) x).old (length h)
      (record { within = omega arith; so = rw (take_all (suc (length h)) (y ∷ h) (omega arith)) ready }),
)

ready_before : (spec : ContainerSpec) (h : List ContainerTick) (x : ContainerTick)
    → WasReady spec (h ++ x ∷ []) (length h) → IsContainerReady spec h
ready_before spec h x (u, next, holds) = elim ((grows_so (IsContainerReady spec) h x).split u holds) [
  | inl old ↦ all h u next old
  | inr w ↦ let e : u ≡ length h = w.0 in absurd (omega (arith, next))
]
  where
    all : (h : List ContainerTick) (u : ℕ) → suc u ≡ length h → HoldsAt (IsContainerReady spec) h u
        → IsContainerReady spec h
    all h u next old = subst (IsContainerReady spec) (take_all (suc u) h (omega (arith, next))) old.so

-- an instance that started before the tick, and runs after it, ran before: had it been ready, so had the container
not_ready_before : (spec : ContainerSpec) (h : List ContainerTick) (x : ContainerTick) (a start : ℕ)
    (ticks : List ProbeTick) → RunsOn h → Serves spec (h ++ x ∷ []) a → StartsAt h a start → AreTicksOf h a ticks
    → (WasReady spec (h ++ x ∷ []) (length h) → ⊥) → IsInstanceReady spec.probes start ticks → ⊥
not_ready_before spec h x a start ticks on serves old are not ready =
    let l = start_listed h a start old in
    let newest = newest_before h x a l.0 serves.newest l.1 in
    let runs = on a start newest old (no_exit_before h x a (running_no_exit (h ++ x ∷ []) a serves.runs)) in
    not (was_ready_by spec h x (
      a,
      record { role = serves.role; newest = newest; runs = runs },
      record { start = start; starts = old; ticks = ticks; are_ticks = are; says = ready },
    ))

-- a container with a readiness probe that becomes ready has the successes for it
pub ready_has_successes : (spec : ContainerSpec) (h : List ContainerTick) (x : ContainerTick) (d : Differ)
    → AreInRange spec.probes → IsDifferOf (listings h) d → Accepts d x.entry.seen → RunsOn h
    → IsSome spec.probes.readiness → IsContainerReady spec (h ++ x ∷ [])
    → (WasReady spec (h ++ x ∷ []) (length h) → ⊥)
    → (a : ℕ) × IsNewest (listings (h ++ x ∷ [])) a
    × ((moments : List ℕ) × AreReadySuccesses spec a (h ++ x ∷ []) moments)
ready_has_successes spec h x d range is accepts on some (a, serves, s) not =
    elim (belongs_or_not a (h ++ x ∷ [])) [
      | inl belongs ↦
          let before = some_list_of_results h a in
          let after : AreTicksOf (h ++ x ∷ []) a (before.0 ++ results_of x ∷ []) =
          so_picked_in (BelongsTo a) results_of h x before.0 before.1 belongs in
          let now = said (IsInstanceReady spec.probes) (h ++ x ∷ []) a s.start (before.0 ++ results_of x ∷ []) s.starts
          after s in
          let found = some_ready spec.probes s.start before.0 (results_of x) range some now
          (earlier before.0 before.1) in (
            a,
            serves.newest,
            (
              found.0,
              record {
                start = s.start;
                starts = s.starts;
                ticks = before.0 ++ results_of x ∷ [];
                are_ticks = after;
                says = found.1;
              },
            ),
          )
      | inr none ↦
          absurd (earlier s.ticks (so_picked_back (BelongsTo a) results_of h x s.ticks s.are_ticks none) s.says)
    ]
  where
    earlier : (ticks : List ProbeTick) → AreTicksOf h a ticks → IsInstanceReady spec.probes s.start ticks → ⊥
    earlier ticks are ready = elim (start_cases h x a s.start s.starts) [
      | inl old ↦ not_ready_before spec h x a s.start ticks on serves old are not ready
      | inr w ↦
          let empty : ticks ≡ [] =
          picked_one (HoldsAt (BelongsTo a) h) (map results_of h) ticks [] are (none_before_start h a w.2) in
          not_ready_yet spec.probes s.start some range
          (subst (λ (ts : List ProbeTick). IsInstanceReady spec.probes s.start ts) empty ready)
    ]

-- a container that is no longer ready, and whose instance did not exit, has the failures for it
pub unready_has_failures : (spec : ContainerSpec) (h : List ContainerTick) (x : ContainerTick) (d e : Differ)
    → AreInRange spec.probes → IsDifferOf (listings h) d → Accepts d x.entry.seen
    → IsDifferOf (listings (h ++ x ∷ [])) e → (IsContainerReady spec (h ++ x ∷ []) → ⊥)
    → WasReady spec (h ++ x ∷ []) (length h) → (b : ℕ) → IsNewest (listings h) b
    → ((t : ℕ) → IsExit (listings (h ++ x ∷ [])) b t → ⊥)
    → IsNewest (listings (h ++ x ∷ [])) b × ((moments : List ℕ) × AreUnreadyFailures spec b (h ++ x ∷ []) moments)
unready_has_failures spec h x d e range is accepts is' not was b newest never =
    let w = ready_before spec h x was in by w.0 w.1 w.2 (IsNewest-unique (listings h) w.0 b w.1.newest newest)
  where
    by : (a : ℕ) → Serves spec h a → SaysOf (IsInstanceReady spec.probes) h a → a ≡ b
        → IsNewest (listings (h ++ x ∷ [])) b × ((moments : List ℕ) × AreUnreadyFailures spec b (h ++ x ∷ []) moments)
    by a serves s same =
        let runs = subst (λ (k : ℕ). IsState (listings h) k Running) same serves.runs in
        let says = subst (λ (k : ℕ). SaysOf (IsInstanceReady spec.probes) h k) same s in
        let on = goes_on (listings h) d (listing x) b is accepts newest runs
        (λ t exit. never t (onto (λ k. IsExit k b t) h x exit)) in
        let running = onto (λ k. IsState k b Running) h x on.1 in
        let belongs = belongs_now h x b on.0 running in
        let now = newest_now h x e b is' on.0 in
        let starts = start_kept h x b says.start says.starts in
        let after : AreTicksOf (h ++ x ∷ []) b (says.ticks ++ results_of x ∷ []) =
        so_picked_in (BelongsTo b) results_of h x says.ticks says.are_ticks belongs in
        let ended : IsInstanceReady spec.probes says.start (says.ticks ++ results_of x ∷ []) → ⊥ = λ ready. not (
          b,
          record { role = serves.role; newest = now; runs = running },
          record {
            start = says.start;
            starts = starts;
            ticks = says.ticks ++ results_of x ∷ [];
            are_ticks = after;
            says = ready;
          },
        ) in
        let found = some_unready spec.probes says.start says.ticks (results_of x) range says.says ended in (
          now,
          (
            found.0,
            record {
              start = says.start;
              starts = starts;
              ticks = says.ticks ++ results_of x ∷ [];
              are_ticks = after;
              says = found.1;
            },
          ),
        )

-- what the events say of readiness
pub became_ready : (spec : ContainerSpec) (h : List ContainerTick) (x : ContainerTick)
    → ChangesReadiness spec (h ++ x ∷ []) (length h) Ready
    → IsContainerReady spec (h ++ x ∷ []) × (WasReady spec (h ++ x ∷ []) (length h) → ⊥)
became_ready spec h x (inl w) = (w.1, w.2)
became_ready spec h x (inr w) = let no : Ready ≡ Unready = w.0 in absurd (cc)

pub became_unready : (spec : ContainerSpec) (h : List ContainerTick) (x : ContainerTick)
    → ChangesReadiness spec (h ++ x ∷ []) (length h) Unready
    → (IsContainerReady spec (h ++ x ∷ []) → ⊥) × WasReady spec (h ++ x ∷ []) (length h)
became_unready spec h x (inl w) = let no : Unready ≡ Ready = w.0 in absurd (cc)
became_unready spec h x (inr w) = (w.1, w.2)
