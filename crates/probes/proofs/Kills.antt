-- Kill orders, as ticks are added: they last, and exclude each other.
use Rattle.std.proofs.Common.{◌≡◌, inl, inr, ℕ, ◌-◌, ◌<◌, ◌≤◌, List, [], ◌++◌, Option, Some, None, arith}
use Rattle.std.proofs.lemmas.List.Elements.{filter_map-append}
use Rattle.manifest.specs.declared.outcome.Outcome.TheVariants.{Failure}
use Rattle.manifest.specs.rule.Probe.{Probe, Probes}
use Rattle.manifest.specs.state.Probe.{HasNumbersInRange}
use Rattle.probes.specs.declared.probe_set.Cause.{Cause}
use Rattle.probes.specs.declared.probe_set.Cause.TheVariants.{Startup, Liveness}
use Rattle.probes.specs.rule.Ticks.{Tick, belonging, IsStarted, HasStartupFailed, HasLivenessFailed}
use Rattle.probes.specs.rule.Container.{AreCounted, IsKillOrdered}
use Rattle.probes.specs.state.Container.{AreInRange}
use Rattle.probes.proofs.Runs.{EndsRun-old}
use Rattle.histories.specs.state.Histories.{Lasts}
use Rattle.probes.proofs.Counted.{FailsWithin-more, not_both, passed_by, AreCounted-more}

-- a startup that has failed stays so
pub HasStartupFailed-more : (startup : Option Probe) (start : ℕ) (ticks later : List Tick)
    → HasStartupFailed startup start ticks → HasStartupFailed startup start (ticks ++ later)
HasStartupFailed-more None start ticks later fails = fails
HasStartupFailed-more (Some p) start ticks later fails =
    rw (filter_map-append (λ t. belonging p (t.moment - start) t.entry.startup) ticks later)
    (FailsWithin-more p.failure_threshold _ _ fails)

HasStartupFailed-none : (startup : Option Probe) (start : ℕ) → HasNumbersInRange startup
    → HasStartupFailed startup start [] → ⊥
HasStartupFailed-none None start range fails = fails
HasStartupFailed-none (Some p) start range fails = let least : 1 ≤ p.failure_threshold = range.some_failures in
    let none : p.failure_threshold ≤ 0 = fails.enough in absurd (omega arith)

-- so does a liveness probe
pub HasLivenessFailed-more : (liveness : Option Probe) (start : ℕ) (ticks later : List Tick)
    → HasLivenessFailed liveness start ticks → HasLivenessFailed liveness start (ticks ++ later)
HasLivenessFailed-more None start ticks later fails = fails
HasLivenessFailed-more (Some p) start ticks later (e, run) =
    rw (filter_map-append (λ t. belonging p (t.moment - start) t.entry.liveness) ticks later)
    (e, EndsRun-old Failure p.failure_threshold _ _ e run)

pub HasLivenessFailed-none : (liveness : Option Probe) (start : ℕ) → HasNumbersInRange liveness
    → HasLivenessFailed liveness start [] → ⊥
HasLivenessFailed-none None start range fails = fails
HasLivenessFailed-none (Some p) start range (e, run) =
    let least : 1 ≤ p.failure_threshold = range.some_failures in
    let among : e ≤ 0 = run.among in
    let enough : p.failure_threshold ≤ e = run.enough in
    absurd (omega arith)

-- where a tick counts, startup has passed
counted_started : (startup : Option Probe) (start : ℕ) (ticks c : List Tick) → (c ≡ [] → ⊥)
    → AreCounted startup start ticks c → IsStarted startup start ticks
counted_started None start ticks c some is = tt
counted_started (Some p) start ticks c some (inl (t, f, is)) = passed_by p start ticks t f
counted_started (Some p) start ticks c some (inr (never, is)) = absurd (some is)

failed_some : (liveness : Option Probe) (start : ℕ) (c : List Tick) → HasNumbersInRange liveness
    → HasLivenessFailed liveness start c → c ≡ [] → ⊥
failed_some liveness start c range fails is = HasLivenessFailed-none liveness start range (rw is at fails)

-- a kill order stands
pub kill_lasts : (probes : Probes) (start : ℕ) (cause : Cause) → AreInRange probes
    → Lasts (IsKillOrdered probes start cause)
kill_lasts probes start Startup range = record {
  none = HasStartupFailed-none probes.startup start range.startup;
  more = HasStartupFailed-more probes.startup start;
}
kill_lasts probes start Liveness range = record {
  none = λ (c, are, fails). none c are fails;
  more = λ ticks later (c, are, fails). (
    c ++ later,
    AreCounted-more probes.startup start ticks later c
        (counted_started probes.startup start ticks c (failed_some probes.liveness start c range.liveness fails) are)
        are,
    HasLivenessFailed-more probes.liveness start c later fails,
  );
}
  where
    empty : (startup : Option Probe) (c : List Tick) → AreCounted startup start [] c → c ≡ []
    empty None c is = is
    empty (Some p) c (inl (t, f, is)) = let within : t < 0 = f.holds.within in absurd (omega arith)
    empty (Some p) c (inr (never, is)) = is

    none : (c : List Tick) → AreCounted probes.startup start [] c → HasLivenessFailed probes.liveness start c → ⊥
    none c are fails = failed_some probes.liveness start c range.liveness fails (empty probes.startup c are)

-- a failed startup and a failed liveness probe exclude each other
pub one_kill : (startup liveness : Option Probe) (start : ℕ) (ticks c : List Tick) → HasNumbersInRange liveness
    → HasStartupFailed startup start ticks → AreCounted startup start ticks c
    → HasLivenessFailed liveness start c → ⊥
one_kill None liveness start ticks c range fails are dead = fails
one_kill (Some p) liveness start ticks c range fails (inl (t, f, is)) dead = not_both p.failure_threshold _
    (passed_by p start ticks t f) fails
one_kill (Some p) liveness start ticks c range fails (inr (never, is)) dead = failed_some liveness start c range dead is

pub one_cause : (probes : Probes) (start : ℕ) (ticks : List Tick) → AreInRange probes
    → IsKillOrdered probes start Startup ticks → IsKillOrdered probes start Liveness ticks → ⊥
one_cause probes start ticks range fails (c, are, dead) = one_kill probes.startup probes.liveness start ticks c
    range.liveness fails are dead
