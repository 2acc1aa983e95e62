-- What a tick lists of a container of a pod, by their numbers.
use Rattle.std.specs.Prelude.{ℕ, Option, option_and_then}
use Rattle.state_diff.specs.declared.seen.Seen.{Seen}
use Rattle.observations.specs.rule.Pods.{PodObs}
use Rattle.observations.specs.declared.tick.TickObs.{TickObs}
use Rattle.observations.specs.rule.Observations.{shown_of, listed_in}

-- what a tick lists of a container of a pod, both by number
abbrev pub seen_of : TickObs → ℕ → ℕ → Option Seen
seen_of tick pod container = option_and_then (λ (shown : PodObs). listed_in shown container) (shown_of tick pod)
