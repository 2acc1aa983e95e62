-- What a tick shows of one container, and the values that it is kept as.
use Rattle.std.specs.Prelude.{ℕ, ℤ, [], ◌∷◌, Option, Some, None, refl}
use Rattle.manifest.specs.declared.outcome.Outcome.{Outcome}
use Rattle.manifest.specs.declared.outcome.Outcome.TheVariants as outcomes
use Rattle.state_diff.specs.declared.seen.CriState.TheVariants as states
use Rattle.state_diff.specs.declared.seen.Seen.{Seen}
use Rattle.observations.specs.declared.container.ContainerObs.{ContainerObs}
use Rattle.observations.specs.declared.packed_container.PackedContainer.{PackedContainer}
use Rattle.observations.specs.declared.packed_container.ListedState.{ListedState}
use Rattle.observations.specs.declared.packed_container.ListedState.TheVariants as listed
use Rattle.observations.specs.declared.packed_container.PackedResult.{PackedResult}
use Rattle.observations.specs.declared.packed_container.PackedResult.TheVariants as kept

-- the instance that is listed
abbrev pub seen_as : ListedState → ℕ → ℤ → Option Seen
seen_as listed.Unlisted attempt code = None
seen_as listed.Created attempt code =
    Some (record { attempt = attempt; state = states.Created; code = None; code_given = refl })
seen_as listed.Running attempt code =
    Some (record { attempt = attempt; state = states.Running; code = None; code_given = refl })
seen_as listed.Exited attempt code =
    Some (record { attempt = attempt; state = states.Exited; code = Some code; code_given = refl })
seen_as listed.Unknown attempt code =
    Some (record { attempt = attempt; state = states.Unknown; code = None; code_given = refl })

abbrev pub outcome_of : PackedResult → Option Outcome
outcome_of kept.Absent = None
outcome_of kept.Success = Some outcomes.Success
outcome_of kept.Failure = Some outcomes.Failure
outcome_of kept.Unknown = Some outcomes.Unknown

-- what these values show
abbrev pub shown_as : PackedContainer → ContainerObs
shown_as k = record {
  seen = seen_as k.state k.attempt k.code;
  results = outcome_of k.startup ∷ outcome_of k.liveness ∷ outcome_of k.readiness ∷ [];
}
