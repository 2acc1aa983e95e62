-- What the lines so far have given.
use Rattle.std.specs.Prelude.{ℕ, Bool, true, false, List, [], ◌∷◌, ◌++◌, length, Option, Some, None, option_map}
use Rattle.manifest.specs.declared.pod.PodSpec.{PodSpec}
use Rattle.node_config.specs.declared.node.NodeConfig.{NodeConfig}
use Rattle.node_config.specs.declared.node.Format.{Format}
use Rattle.node_config.specs.declared.node.Version.{Version}
use Rattle.node_config.specs.declared.node.Version.TheVariants.{One, Two, Three}
use Rattle.observations.specs.declared.tick.TickObs.{TickObs}
use Rattle.roster.specs.rule.Roll.{Roll}
use Rattle.roster.specs.rule.Roll as rolls

pub record TraceSoFar : Type 0 where
  -- the format that the text is read by
  pub format : Format
  pub node : Option NodeConfig
  -- the pods, and which of them are present
  pub roll : Roll
  pub ticks : List TickObs

-- the version of the format, once the node line has come
abbrev pub version_in : TraceSoFar → Option Version
version_in past = option_map (λ (node : NodeConfig). node.version) past.node

-- whether the version reads the extended format's members of pod lines (`spared`), tick lines (`judged`) and their
-- entries (`unsampled`, `deleting`, `failed`): version 3 alone does; the others ignore them
abbrev pub heeds_words : Option Version → Bool
heeds_words None = false
heeds_words (Some One) = false
heeds_words (Some Two) = false
heeds_words (Some Three) = true

abbrev pub heeds : TraceSoFar → Bool
heeds past = heeds_words (version_in past)

abbrev pub of_node : TraceSoFar → NodeConfig → TraceSoFar
of_node past node = record past { node = Some node }

abbrev pub with_roll : TraceSoFar → Roll → TraceSoFar
with_roll past roll = record past { roll = roll }

-- a pod is appended to the earlier ones; it arrives after the ticks so far
abbrev pub with_pod : TraceSoFar → PodSpec → TraceSoFar
with_pod past pod = with_roll past (rolls.with_pod past.roll pod (length past.ticks))

-- the pod with the number is gone; it leaves after the ticks so far
abbrev pub without : TraceSoFar → ℕ → TraceSoFar
without past number = with_roll past (rolls.without past.roll number (length past.ticks))

abbrev pub with_tick : TraceSoFar → TickObs → TraceSoFar
with_tick past tick = record past { ticks = past.ticks ++ tick ∷ [] }
