-- Laws of what decides on a restart and of the exits that count, over the definitions alone.
use Rattle.std.specs.Prelude.{◌≡◌, ◌↔◌, ◌<◌, ℕ, ℤ, true, List, [], length, Option, Some, slice_get}
use Rattle.histories.specs.rule.Histories.{IsFirstPlace}
use Rattle.manifest.specs.declared.policy.Policy.{Policy}
use Rattle.manifest.specs.declared.pod.Role.{Role}
use Rattle.manifest.specs.declared.own_restarts.RestartRule.{RestartRule}
use Rattle.manifest.specs.declared.own_restarts.OwnRestarts.{OwnRestarts}
use Rattle.restarts.specs.rule.Exits.{Exit, IsNumber}
use Rattle.restarts.specs.rule.Delays.{delay_of, IsDelay}
use Rattle.restarts.specs.rule.Own.{matches, WantsRestartBy}
use Rattle.restarts.specs.rule.Policy.{WantsRestart}
use Rattle.restart_causes.specs.declared.exit_count.ExitCount.{ExitCount}
use Rattle.restart_causes.specs.rule.ExitCounts.{IsExitCount, doublings_of, delay_by}
use Rattle.restart_causes.specs.rule.Decisions.{first_match, decision_after}

-- exits, each of an attempt, have a count
abbrev pub SomeExitCount : Type 0
SomeExitCount = (attempts : List ℕ) (exits : List Exit) → length attempts ≡ length exits → (exits ≡ [] → ⊥)
    → (count : ExitCount) × IsExitCount attempts exits count

-- and one alone
abbrev pub OneExitCount : Type 0
OneExitCount = (attempts : List ℕ) (exits : List Exit) (count other : ExitCount)
    → IsExitCount attempts exits count → IsExitCount attempts exits other → count ≡ other

-- the delay after the last exit follows from it
abbrev pub DelayFollows : Type 0
DelayFollows = (max_restart_delay : ℕ) (attempts : List ℕ) (exits : List Exit) (count : ExitCount)
    → IsExitCount attempts exits count
    → IsDelay max_restart_delay exits (delay_by max_restart_delay (doublings_of count.number))

-- a rule of the container matches the code
abbrev pub MatchesAt : ℤ → List RestartRule → ℕ → Type 0
MatchesAt code rules place = (rule : RestartRule) × (slice_get rules place ≡ Some rule) × (matches code rule ≡ true)

-- the rule that decides is the first that matches
abbrev pub FirstMatches : Type 0
FirstMatches = (code : ℤ) (rules : List RestartRule) → IsFirstPlace (MatchesAt code rules) (first_match code rules)

-- a restart follows by the policy that decides if it follows by the rules
abbrev pub RestartFollows : Type 0
RestartFollows = (policy : Policy) (own : Option OwnRestarts) (role : Role) (code : ℤ)
    → (WantsRestart (decision_after policy own role code).policy role code ↔ WantsRestartBy policy own role code)
