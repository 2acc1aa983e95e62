-- What a tick shows of one pod.
use Rattle.std.specs.Prelude.{ℕ, Bool, false, List, Option, None, replicate}
use Rattle.manifest.specs.rule.Gates.{most_gates}
use Rattle.observations.specs.declared.container.ContainerObs.{ContainerObs}
use Rattle.observations.specs.declared.usage.Sampling.{Sampling}
use Rattle.observations.specs.declared.words.PodWords.{PodWords}
use Rattle.observations.specs.declared.resize.Resize.{Resize}

-- no status of any condition that a readiness gate may name
abbrev pub no_gates : List (Option Bool)
no_gates = replicate most_gates None

-- the words of a tick that has none on the pod
abbrev pub no_words : PodWords
no_words = record { deleting = false; failed = None; gates = no_gates }

-- the moment in seconds, an observation for each container by number, the sampling of the pod's use of its node, the
-- tick's words on the pod, and the resizes of its containers
pub record PodObs : Type 0 where
  pub at : ℕ
  pub containers : List ContainerObs
  pub sampling : Sampling
  pub words : PodWords
  pub resized : List Resize
