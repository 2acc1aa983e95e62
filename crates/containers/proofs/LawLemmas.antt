-- The laws of a container.
use Rattle.std.proofs.Common.{◌≡◌, inl, inr, ℕ, suc, ◌≤◌, List, ◌++◌, map, take, drop, Option, Some, refl}
use Rattle.std.proofs.Common.{subst, sym, arith}
use Rattle.std.proofs.lemmas.Bool.{cases_lt}
use Rattle.std.proofs.lemmas.List.{take-append-drop, take-take}
use Rattle.histories.specs.rule.Histories.{HoldsAt, ComesTrue}
use Rattle.histories.proofs.First.{IsFirst-unique, IsFirstMoment-unique}
use Rattle.histories.proofs.Picked.{picked_one, so_picked_front}
use Rattle.histories.proofs.TheOne.{IsTheOne-unique}
use Rattle.manifest.specs.declared.pod.ContainerSpec.{ContainerSpec}
use Rattle.probes.specs.declared.probe_set.Cause.{Cause}
use Rattle.probes.specs.declared.probe_set.Cause.TheVariants.{Startup, Liveness}
use Rattle.probes.specs.rule.Ticks.{Tick as ProbeTick}
use Rattle.probes.specs.rule.Container.{IsKillOrdered as IsOrderedBy}
use Rattle.probes.specs.state.Container.{AreInRange}
use Rattle.probes.proofs.Kills.{kill_lasts, one_cause}
use Rattle.containers.specs.declared.pod_event_kind.PodEventKind.{PodEventKind}
use Rattle.containers.specs.declared.pod_event_kind.PodEventKind.TheVariants.{Kill}
use Rattle.containers.specs.declared.events.ContainerEvents.{ContainerEvents}
use Rattle.containers.specs.rule.Ticks.{ContainerTick, BelongsTo, results_of}
use Rattle.containers.specs.rule.Probed.{IsKillOrdered}
use Rattle.containers.specs.rule.Exits.{IsToRestart}
use Rattle.containers.specs.rule.Events.{IsKilled}
use Rattle.containers.specs.state.Laws.{OneListOfExits, OneListOfResults, RestartsTheNewest, KilledOnce}
use Rattle.containers.specs.state.Laws.{OneListOfEvents}
use Rattle.containers.proofs.ComesLemmas.{start_later}
use Rattle.containers.proofs.RestartLemmas.{exits_one}

pub one_list_of_exits : OneListOfExits
one_list_of_exits = exits_one

pub one_list_of_results : OneListOfResults
one_list_of_results h a ticks others are are' = picked_one (HoldsAt (BelongsTo a) h) (map results_of h) ticks others are
    are'

pub restarts_the_newest : RestartsTheNewest
restarts_the_newest policy max_restart_delay spec h t a (b, e, to, due) =
    let same : b ≡ a = cc in
    let newest : IsToRestart policy spec h a = subst (λ (c : ℕ). IsToRestart policy spec h c) same to in
    (newest.newest, (newest.exited.0, newest.exited.1))

-- a kill order stands at each later tick at which something is said of the instance
stands : (spec : ContainerSpec) (h later : List ContainerTick) (a : ℕ) (cause other : Cause) → AreInRange spec.probes
    → IsKillOrdered spec cause a h
    → (s : IsKillOrdered spec other a (h ++ later)) → IsOrderedBy spec.probes s.start cause s.ticks
stands spec h later a cause other range k s =
    let begins = start_later h later a k.start k.starts in
    let one : Some k.start ≡ Some s.start = IsFirstMoment-unique _ _ (Some k.start) (Some s.start) begins s.starts in
    let same : k.start ≡ s.start = cc in
    let w = so_picked_front (BelongsTo a) results_of h later s.ticks k.ticks s.are_ticks k.are_ticks in
    let first : IsOrderedBy spec.probes s.start cause k.ticks =
    subst (λ (m : ℕ). IsOrderedBy spec.probes m cause k.ticks) same k.says in
    subst (λ (ts : List ProbeTick). IsOrderedBy spec.probes s.start cause ts) (sym w.1)
    ((kill_lasts spec.probes s.start cause range).more k.ticks w.0 first)

causes_agree : (spec : ContainerSpec) (start : ℕ) (ticks : List ProbeTick) (cause other : Cause)
    → AreInRange spec.probes → IsOrderedBy spec.probes start cause ticks
    → IsOrderedBy spec.probes start other ticks → cause ≡ other
causes_agree spec start ticks Startup Startup range k l = refl
causes_agree spec start ticks Liveness Liveness range k l = refl
causes_agree spec start ticks Startup Liveness range k l = absurd (one_cause spec.probes start ticks range k l)
causes_agree spec start ticks Liveness Startup range k l = absurd (one_cause spec.probes start ticks range l k)

-- of two orders the causes agree
ordered : (spec : ContainerSpec) (h : List ContainerTick) (a t u : ℕ) (cause other : Cause) → AreInRange spec.probes
    → t ≤ u
    → HoldsAt (IsKillOrdered spec cause a) h t → HoldsAt (IsKillOrdered spec other a) h u → cause ≡ other
ordered spec h a t u cause other range le k l =
    let whole : take (suc t) (take (suc u) h) ++ drop (suc t) (take (suc u) h) ≡ take (suc u) h =
    take-append-drop (suc t) (take (suc u) h) in
    let first : take (suc t) (take (suc u) h) ≡ take (suc t) h = take-take (suc t) (suc u) h (omega arith) in
    let early : IsKillOrdered spec cause a (take (suc t) (take (suc u) h)) =
    subst (λ (g : List ContainerTick). IsKillOrdered spec cause a g) (sym first) k.so in
    let late : IsKillOrdered spec other a (take (suc t) (take (suc u) h) ++ drop (suc t) (take (suc u) h)) =
    subst (λ (g : List ContainerTick). IsKillOrdered spec other a g) (sym whole) l.so in
    causes_agree spec late.start late.ticks cause other range
    (stands spec (take (suc t) (take (suc u) h)) (drop (suc t) (take (suc u) h)) a cause other range early late)
    late.says

either_way : (spec : ContainerSpec) (h : List ContainerTick) (a t u : ℕ) (cause other : Cause) → AreInRange spec.probes
    → HoldsAt (IsKillOrdered spec cause a) h t → HoldsAt (IsKillOrdered spec other a) h u → cause ≡ other
either_way spec h a t u cause other range k l = elim (cases_lt u t) [
  | inl lt ↦ sym (ordered spec h a u t other cause range (omega arith) l k)
  | inr ge ↦ ordered spec h a t u cause other range (omega arith) k l
]

killed_of : (spec : ContainerSpec) (h : List ContainerTick) (t a : ℕ) (cause : Cause)
    → IsKilled spec h t (Kill a cause) → ComesTrue (IsKillOrdered spec cause a) h t
killed_of spec h t a cause (b, other, e, f) =
    let same : a ≡ b = cc in
    let same' : cause ≡ other = cc in
    subst (λ (d : Cause). ComesTrue (IsKillOrdered spec d a) h t) (sym same')
    (subst (λ (c : ℕ). ComesTrue (IsKillOrdered spec other c) h t) (sym same) f)

pub killed_once : KilledOnce
killed_once spec h t u a cause other range killed killed' =
    let k = killed_of spec h t a cause killed in
    let l = killed_of spec h u a other killed' in
    let same : cause ≡ other = either_way spec h a t u cause other range k.holds l.holds in
    let k' = subst (λ (d : Cause). ComesTrue (IsKillOrdered spec d a) h t) same k in
    (IsFirst-unique (HoldsAt (IsKillOrdered spec other a) h) t u k' l, same)

events_same : (e f : ContainerEvents) → e.gone ≡ f.gone → e.started ≡ f.started → e.died ≡ f.died
    → e.passed ≡ f.passed → e.kill ≡ f.kill
    → e.readiness ≡ f.readiness → e.backoff ≡ f.backoff → e.restart ≡ f.restart → e ≡ f
events_same e f gone started died passed kill readiness backoff restart =
    let made : (a b c d i j k l : Option PodEventKind) → ContainerEvents = λ a b c d i j k l.
    record { gone = a; started = b; died = c; passed = d; kill = i; readiness = j; backoff = k; restart = l } in
    let A : Option PodEventKind → Type 0 =
    λ o. e ≡ made o e.started e.died e.passed e.kill e.readiness e.backoff e.restart in
    let B : Option PodEventKind → Type 0 =
    λ o. e ≡ made f.gone o e.died e.passed e.kill e.readiness e.backoff e.restart in
    let C : Option PodEventKind → Type 0 =
    λ o. e ≡ made f.gone f.started o e.passed e.kill e.readiness e.backoff e.restart in
    let D : Option PodEventKind → Type 0 =
    λ o. e ≡ made f.gone f.started f.died o e.kill e.readiness e.backoff e.restart in
    let I : Option PodEventKind → Type 0 =
    λ o. e ≡ made f.gone f.started f.died f.passed o e.readiness e.backoff e.restart in
    let J : Option PodEventKind → Type 0 =
    λ o. e ≡ made f.gone f.started f.died f.passed f.kill o e.backoff e.restart in
    let K : Option PodEventKind → Type 0 =
    λ o. e ≡ made f.gone f.started f.died f.passed f.kill f.readiness o e.restart in
    let L : Option PodEventKind → Type 0 =
    λ o. e ≡ made f.gone f.started f.died f.passed f.kill f.readiness f.backoff o in
    subst L restart (subst K backoff
    (subst J readiness (subst I kill (subst D passed (subst C died (subst B started (subst A gone refl)))))))

pub one_list_of_events : OneListOfEvents
one_list_of_events policy max_restart_delay spec h t e f are are' =
    events_same e f (IsTheOne-unique _ _ _ are.gone are'.gone) (IsTheOne-unique _ _ _ are.started are'.started)
    (IsTheOne-unique _ _ _ are.died are'.died)
    (IsTheOne-unique _ _ _ are.passed are'.passed) (IsTheOne-unique _ _ _ are.kill are'.kill)
    (IsTheOne-unique _ _ _ are.readiness are'.readiness)
    (IsTheOne-unique _ _ _ are.backoff are'.backoff) (IsTheOne-unique _ _ _ are.restart are'.restart)
