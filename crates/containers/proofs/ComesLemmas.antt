-- What comes true of an instance by one more tick.
use Rattle.std.proofs.Common.{◌≡◌, inl, inr, ℕ, suc, ◌<◌, List, [], ◌∷◌, ◌++◌, length, take, drop, Option, Some, None}
use Rattle.std.proofs.Common.{subst, sym, append-nil, append_assoc, arith}
use Rattle.std.specs.Prelude.{◌↔◌, IsSomeAnd, IsTrue}
use Rattle.std.proofs.lemmas.Bool.{cases_eq}
use Rattle.std.proofs.lemmas.List.{take-append-drop}
use Rattle.histories.specs.rule.Histories.{HoldsAt, ComesTrue}
use Rattle.histories.specs.state.Histories.{Lasts}
use Rattle.histories.proofs.First.{IsFirst-new, IsFirstMoment-unique}
use Rattle.histories.proofs.Growth.{grows_so, so_last}
use Rattle.histories.proofs.Lasting.{ComesTrue-now}
use Rattle.histories.proofs.Picked.{so_picked_back, so_picked_front}
use Rattle.manifest.specs.rule.Probe.{Probe}
use Rattle.manifest.specs.declared.pod.ContainerSpec.{ContainerSpec}
use Rattle.state_diff.specs.declared.differ.Differ.{Differ}
use Rattle.state_diff.specs.rule.Instances.{IsOf}
use Rattle.state_diff.specs.state.Differ.{IsStateOf as IsDifferOf, Accepts as DifferAccepts}
use Rattle.state_diff.proofs.Listings.{one_listed}
use Rattle.probes.specs.declared.probe_set.Cause.{Cause}
use Rattle.probes.specs.declared.probe_set.Verdicts.{Verdicts}
use Rattle.probes.specs.rule.Ticks.{Tick as ProbeTick, HasPassed as PassesBy}
use Rattle.probes.specs.rule.Container.{IsPassTick, IsKillOrdered as IsOrderedBy}
use Rattle.probes.specs.state.Container.{AreInRange}
use Rattle.probes.specs.state.ProbeSet.{AreVerdicts}
use Rattle.probes.proofs.Counted.{passed_lasts}
use Rattle.probes.proofs.Kills.{kill_lasts}
use Rattle.containers.specs.rule.Ticks.{ContainerTick, listings, BelongsTo, results_of, AreTicksOf, StartsAt, SaysOf}
use Rattle.containers.specs.rule.Probed.{HasPassed, IsKillOrdered}
use Rattle.containers.specs.state.Step.{IsTaken, AreVerdictsOf}
use Rattle.containers.proofs.ProbedLemmas.{said}
use Rattle.containers.proofs.TickLemmas.{start_kept, start_cases}
use Rattle.containers.proofs.FollowLemmas.{belongs_listed, start_belongs}

-- a start is there in no empty history
none_of_none : (a start : ℕ) (h : List ContainerTick) → StartsAt h a start → h ≡ [] → ⊥
none_of_none a start [] s e = s.1.holds
none_of_none a start (y ∷ h) s e = absurd (cc)

-- it stays, whatever is recorded later
pub start_later : (h later : List ContainerTick) (a start : ℕ) → StartsAt h a start → StartsAt (h ++ later) a start
start_later h [] a start s = subst (λ (k : List ContainerTick). StartsAt k a start) (sym (append-nil h)) s
start_later h (x ∷ later) a start s =
    subst (λ (k : List ContainerTick). StartsAt k a start) (append_assoc h (x ∷ []) later)
    (start_later (h ++ x ∷ []) later a start (start_kept h x a start s))

-- what was said at the end of the ticks before was so at one of them
pub said_before : (Q : ℕ → List ProbeTick → Type 0) (h : List ContainerTick) (x : ContainerTick) (a : ℕ)
    → SaysOf Q h a → ComesTrue (λ k. SaysOf Q k a) (h ++ x ∷ []) (length h) → ⊥
said_before Q h x a s f =
    let P : List ContainerTick → Type 0 = λ k. SaysOf Q k a in
    let w = so_last P h (none_of_none a s.start h s.starts) s in
    let within : w.0 < length h = w.1.within in
    f.none_before w.0 within ((grows_so P h x).old w.0 w.1)

-- at the new tick it is so
pub said_now : (Q : ℕ → List ProbeTick → Type 0) (h : List ContainerTick) (x : ContainerTick) (a : ℕ)
    → ComesTrue (λ k. SaysOf Q k a) (h ++ x ∷ []) (length h) → SaysOf Q (h ++ x ∷ []) a
said_now Q h x a f =
    let P : List ContainerTick → Type 0 = λ k. SaysOf Q k a in
    elim ((grows_so P h x).split (length h) f.holds) [
      | inl old ↦ let lt : length h < length h = old.within in absurd (omega arith)
      | inr w ↦ w.1
    ]

-- of an instance to which the tick does not belong nothing comes true
pub not_comes : (Q : ℕ → List ProbeTick → Type 0) (h : List ContainerTick) (x : ContainerTick) (d : Differ) (a : ℕ)
    → IsDifferOf (listings h) d → DifferAccepts d x.entry.seen
    → (BelongsTo a (h ++ x ∷ []) → ⊥) → ComesTrue (λ k. SaysOf Q k a) (h ++ x ∷ []) (length h) → ⊥
not_comes Q h x d a is accepts none f =
    let s = said_now Q h x a f in
    elim (start_cases h x a s.start s.starts) [
      | inl old ↦ said_before Q h x a
          (record {
            start = s.start;
            starts = old;
            ticks = s.ticks;
            are_ticks = so_picked_back (BelongsTo a)
                results_of h x s.ticks s.are_ticks none;
            says = s.says;
          }) f
      | inr w ↦ none (start_belongs h x d a is accepts w.1)
    ]

-- and of one to which it does, what its probes say comes true
pub comes_by : (Q : ℕ → List ProbeTick → Type 0) (h : List ContainerTick) (x : ContainerTick) (a start : ℕ)
    (ticks : List ProbeTick) → IsTaken h x a start ticks → Lasts (Q start)
    → (ComesTrue (Q start) (ticks ++ results_of x ∷ []) (length ticks) ↔ ComesTrue (λ k. SaysOf Q k a) (h ++ x ∷ [])
    (length h))
comes_by Q h x a start ticks is lasts =
    let P : List ContainerTick → Type 0 = λ k. SaysOf Q k a in
    let now = ComesTrue-now (Q start) ticks (results_of x) lasts in (
      (λ c.
          let w = now.0 c in
          IsFirst-new (length h) _ _ _ (grows_so P h x) (λ t s. w.1 (earlier t s))
          (record {
            start = start;
            starts = is.starts;
            ticks = ticks ++ results_of x ∷ [];
            are_ticks = is.after;
            says = w.0;
          })),
      (λ f. now.1 (
        said Q (h ++ x ∷ []) a start (ticks ++ results_of x ∷ []) is.starts is.after (said_now Q h x a f),
        (λ q. elim (is.begun) [
          | inl old ↦ said_before Q h x a
              (record { start = start; starts = old; ticks = ticks; are_ticks = is.before; says = q }) f
          | inr e ↦ lasts.none (subst (λ (ts : List ProbeTick). Q start ts) e q)
        ]),
      )),
    )
  where
    earlier : (t : ℕ) → HoldsAt (λ k. SaysOf Q k a) h t → Q start ticks
    earlier t s =
        let k = take (suc t) h in
        let later = drop (suc t) h in
        let whole : k ++ later ≡ h = take-append-drop (suc t) h in
        let begins : StartsAt h a s.so.start = subst (λ (g : List ContainerTick). StartsAt g a s.so.start) whole
        (start_later k later a s.so.start s.so.starts) in
        let one : Some s.so.start ≡ Some start = IsFirstMoment-unique _ _ (Some s.so.start) (Some start)
        (start_kept h x a s.so.start begins) is.starts in
        let same : s.so.start ≡ start = cc in
        let all : AreTicksOf (k ++ later) a ticks = subst (λ (g : List ContainerTick). AreTicksOf g a ticks)
        (sym whole) is.before in
        let w = so_picked_front (BelongsTo a) results_of k later ticks s.so.ticks all s.so.are_ticks in
        let first : Q start s.so.ticks = subst (λ (m : ℕ). Q m s.so.ticks) same s.so.says in
        subst (λ (ts : List ProbeTick). Q start ts) (sym w.1) (lasts.more s.so.ticks w.0 first)

-- by the tick's verdicts
pub comes_of : (Q : ℕ → List ProbeTick → Type 0) (V : Verdicts → Type 0) (spec : ContainerSpec)
    (h : List ContainerTick) (x : ContainerTick) (d : Differ) (o : Option Verdicts)
    → IsDifferOf (listings h) d → DifferAccepts d x.entry.seen → AreVerdictsOf spec h x o
    → (AreInRange spec.probes → (start : ℕ) → Lasts (Q start))
    → ((start : ℕ) (ticks : List ProbeTick) (v : Verdicts)
    → AreVerdicts spec.probes start (ticks ++ results_of x ∷ []) (length ticks) v
    → (V v ↔ ComesTrue (Q start) (ticks ++ results_of x ∷ []) (length ticks)))
    → (a : ℕ) → ((IsSomeAnd x.entry.seen (IsOf a) × IsSomeAnd o V) ↔ ComesTrue (λ k. SaysOf Q k a) (h ++ x ∷ [])
    (length h))
comes_of Q V spec h x d None is accepts (range, none) lasts same a = (
  (λ w. absurd w.1),
  (λ f. absurd (not_comes Q h x d a is accepts (none a) f)),
)
comes_of Q V spec h x d (Some v) is accepts (range, (b, start, ticks, taken, are)) lasts same a =
    let listed = belongs_listed h x b taken.belongs in
    let iff = same start ticks v are in
    let by = comes_by Q h x b start ticks taken (lasts range start) in (
      (λ w.
          let e : b ≡ a = one_listed x.entry.seen b a listed w.0 in
          subst (λ (c : ℕ). ComesTrue (λ k. SaysOf Q k c) (h ++ x ∷ []) (length h)) e (by.0 (iff.0 w.1))),
      (λ f. elim (cases_eq b a) [
        | inl e ↦ (
          subst (λ (c : ℕ). IsSomeAnd x.entry.seen (IsOf c)) e listed,
          iff.1 (by.1 (subst (λ (c : ℕ). ComesTrue (λ k. SaysOf Q k c) (h ++ x ∷ []) (length h)) (sym e) f)),
        )
        | inr ne ↦ absurd (not_comes Q h x d a is accepts
            (λ belongs. ne (one_listed x.entry.seen b a listed (belongs_listed h x a belongs))) f)
      ]),
    )

-- the startup probe passes
passes_with : (startup : Option Probe) (spec : ContainerSpec) (h : List ContainerTick) (x : ContainerTick)
    (d : Differ) (o : Option Verdicts)
    → IsDifferOf (listings h) d → DifferAccepts d x.entry.seen → AreVerdictsOf spec h x o
    → ((start : ℕ) (ticks : List ProbeTick) (v : Verdicts)
    → AreVerdicts spec.probes start (ticks ++ results_of x ∷ []) (length ticks) v
    → (IsTrue v.passed ↔ IsSomeAnd startup
    (λ probe. IsPassTick probe start (ticks ++ results_of x ∷ []) (length ticks))))
    → (a : ℕ) → ((IsSomeAnd x.entry.seen (IsOf a) × IsSomeAnd o (λ v. IsTrue v.passed))
    ↔ IsSomeAnd startup (λ probe. ComesTrue (HasPassed probe a) (h ++ x ∷ []) (length h)))
passes_with None spec h x d None is accepts are same a = ((λ w. w.1), (λ w. absurd w))
passes_with None spec h x d (Some v) is accepts (range, (b, start, ticks, taken, verdicts)) same a =
    ((λ w. (same start ticks v verdicts).0 w.1), (λ w. absurd w))
passes_with (Some probe) spec h x d o is accepts are same a =
    comes_of (PassesBy probe) (λ v. IsTrue v.passed) spec h x d o is accepts are
    (λ range start. passed_lasts probe start) same a

pub passes_by : (spec : ContainerSpec) (h : List ContainerTick) (x : ContainerTick) (d : Differ) (o : Option Verdicts)
    → IsDifferOf (listings h) d → DifferAccepts d x.entry.seen → AreVerdictsOf spec h x o
    → (a : ℕ) → ((IsSomeAnd x.entry.seen (IsOf a) × IsSomeAnd o (λ v. IsTrue v.passed))
    ↔ IsSomeAnd spec.probes.startup (λ probe. ComesTrue (HasPassed probe a) (h ++ x ∷ []) (length h)))
passes_by spec h x d o is accepts are a = passes_with spec.probes.startup spec h x d o is accepts are
    (λ start ticks v verdicts. verdicts.passed) a

-- the kill order comes
pub kill_by : (spec : ContainerSpec) (h : List ContainerTick) (x : ContainerTick) (d : Differ) (o : Option Verdicts)
    → IsDifferOf (listings h) d → DifferAccepts d x.entry.seen → AreVerdictsOf spec h x o
    → (a : ℕ) (cause : Cause) → ((IsSomeAnd x.entry.seen (IsOf a) × IsSomeAnd o (λ v. v.kill ≡ Some cause))
    ↔ ComesTrue (IsKillOrdered spec cause a) (h ++ x ∷ []) (length h))
kill_by spec h x d o is accepts are a cause =
    comes_of (λ start. IsOrderedBy spec.probes start cause) (λ v. v.kill ≡ Some cause) spec h x d o is accepts are
    (λ range start. kill_lasts spec.probes start cause range) (λ start ticks v verdicts. verdicts.kill cause) a
