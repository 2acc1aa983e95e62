-- What a tick shows of one pod, as it is kept in a block.
use Rattle.std.specs.Prelude.{ℕ, List, [], ◌∷◌, Option, Some, None}
use Rattle.observations.specs.declared.container.ContainerObs.{ContainerObs}
use Rattle.observations.specs.declared.containers.Containers.{Containers}
use Rattle.observations.specs.declared.containers.Containers.TheVariants as containers
use Rattle.observations.specs.declared.packed_container.PackedContainer.{PackedContainer}
use Rattle.observations.specs.declared.packed_containers.PackedContainers.{PackedContainers}
use Rattle.observations.specs.declared.packed_containers.PackedContainers.TheVariants as shown
use Rattle.observations.specs.declared.usage.Sampling.{Sampling}
use Rattle.observations.specs.declared.usage.Sampling.TheVariants.{Unsaid, Unsampled, Sampled}
use Rattle.observations.specs.declared.usage.Usage.{Usage}
use Rattle.observations.specs.declared.words.PodWords.{PodWords}
use Rattle.observations.specs.declared.resize.Resize.{Resize}
use Rattle.observations.specs.state.Whole.{memory_as, usage_as}
use Rattle.observations.specs.rule.Pods.{PodObs, no_words}

abbrev pub resized_obs : ℕ → List ContainerObs → Sampling → PodWords → List Resize → PodObs
resized_obs at containers sampling words resized = record {
  at = at;
  containers = containers;
  sampling = sampling;
  words = words;
  resized = resized;
}

-- without a resize
abbrev pub told_obs : ℕ → List ContainerObs → Sampling → PodWords → PodObs
told_obs at containers sampling words = resized_obs at containers sampling words []

-- without a word
abbrev pub pod_obs : ℕ → List ContainerObs → Sampling → PodObs
pod_obs at containers sampling = told_obs at containers sampling no_words

-- what is kept of containers in a block
abbrev pub containers_in : Containers → List PackedContainer
containers_in (containers.One one) = one ∷ []
containers_in (containers.Two one two) = one ∷ two ∷ []
containers_in (containers.More more) = more.items

-- what is kept of the containers
abbrev pub kept_in : PackedContainers → List PackedContainer
kept_in (shown.One one) = one ∷ []
kept_in (shown.Two one two) = one ∷ two ∷ []
kept_in (shown.OneWithMemory one memory) = one ∷ []
kept_in (shown.TwoWithMemory one two memory) = one ∷ two ∷ []
kept_in (shown.Unused containers) = containers.items
kept_in (shown.Unsampled containers) = containers_in containers.value
kept_in (shown.Whole whole) = containers_in whole.value.containers
kept_in (shown.Used used) = containers_in used.value.containers
kept_in (shown.Told told) = containers_in told.value.containers

-- the sampling of a tick, as its packed containers keep it
abbrev pub sampling_in : PackedContainers → Sampling
sampling_in (shown.Unsampled containers) = Unsampled
sampling_in (shown.OneWithMemory one memory) = Sampled (memory_as memory)
sampling_in (shown.TwoWithMemory one two memory) = Sampled (memory_as memory)
sampling_in (shown.Whole whole) = Sampled (usage_as whole.value.usage)
sampling_in (shown.Used used) = Sampled used.value.usage
sampling_in (shown.Told told) = told.value.sampling
sampling_in s = Unsaid

-- the tick's words on the pod
abbrev pub words_in : PackedContainers → PodWords
words_in (shown.Told told) = told.value.words
words_in s = no_words

-- the tick's resizes of the pod's containers
abbrev pub resized_in : PackedContainers → List Resize
resized_in (shown.Told told) = told.value.resized.items
resized_in s = []

-- the sample that was taken, if one was
abbrev pub sample_in : Sampling → Option Usage
sample_in Unsaid = None
sample_in Unsampled = None
sample_in (Sampled usage) = Some usage
