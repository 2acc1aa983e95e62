-- What holds of the delays whatever the exits were.
use Rattle.std.specs.Prelude.{◌≡◌, ◌↔◌, ℕ, ◌<◌, ◌≤◌, List, [], ◌∷◌, ◌++◌, Contains, min, ◌*◌, map}
use Rattle.histories.specs.rule.Histories.{recorded}
use Rattle.manifest.specs.rule.RestartDelay.{most_max_delay}
use Rattle.restarts.specs.declared.backoff.Backoff.{Backoff}
use Rattle.restarts.specs.rule.Exits.{Exit, long_run}
use Rattle.restarts.specs.rule.Delays.{IsDelay}
use Rattle.restarts.specs.state.Backoff.{IsStateOf}

-- every list of exits has exactly one delay
abbrev pub EveryListHasOneDelay : Type 0
EveryListHasOneDelay =
    (max_restart_delay : ℕ) (exits : List Exit) →
    ((delay : ℕ) × IsDelay max_restart_delay exits delay)
    × ((c d : ℕ) → IsDelay max_restart_delay exits c → IsDelay max_restart_delay exits d → c ≡ d)

-- a delay is 0, or one of 10, 20, 40, 80, 160 and 300 s, or the maximum where that is less
abbrev pub DelayIsOneOfSeven : Type 0
DelayIsOneOfSeven =
    (max_restart_delay : ℕ) (exits : List Exit) (delay : ℕ) → max_restart_delay ≤ most_max_delay
    → IsDelay max_restart_delay exits delay
    → Contains (0 ∷ map (min max_restart_delay) (10 ∷ 20 ∷ 40 ∷ 80 ∷ 160 ∷ 300 ∷ [])) delay

-- after a long run the delay is 0
abbrev pub LongRunResets : Type 0
LongRunResets =
    (max_restart_delay : ℕ) (exits : List Exit) (moment run delay : ℕ) → long_run ≤ run
    → IsDelay max_restart_delay (exits ++ recorded moment run ∷ []) delay → delay ≡ 0

-- after a run that is not long the delay does not fall
abbrev pub DelayDoesNotFall : Type 0
DelayDoesNotFall =
    (max_restart_delay : ℕ) (exits : List Exit) (moment run before after : ℕ) → run < long_run
    → IsDelay max_restart_delay exits before → IsDelay max_restart_delay (exits ++ recorded moment run ∷ []) after
    → before ≤ after

-- after a run that is not long a delay above 0 doubles, up to the maximum
abbrev pub DelayDoubles : Type 0
DelayDoubles =
    (max_restart_delay : ℕ) (exits : List Exit) (moment run before after : ℕ) → run < long_run → 0 < before
    → IsDelay max_restart_delay exits before → IsDelay max_restart_delay (exits ++ recorded moment run ∷ []) after
    → after ≡ min max_restart_delay (2 * before)

-- the state of a back-off depends only on the exits from the last long run on
abbrev pub LongRunForgets : Type 0
LongRunForgets =
    (max_restart_delay : ℕ) (earlier later : List Exit) (moment run : ℕ) (backoff : Backoff) → long_run ≤ run
    → (IsStateOf max_restart_delay (earlier ++ recorded moment run ∷ later) backoff
    ↔ IsStateOf max_restart_delay (recorded moment run ∷ later) backoff)
