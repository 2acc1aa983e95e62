-- The QoS class of a pod (Kubernetes, "Pod Quality of Service Classes").
use Rattle.std.specs.Prelude.{List, All, Any}
use Rattle.manifest.specs.declared.pod.ContainerSpec.{ContainerSpec}
use Rattle.qos.specs.declared.class.Qos.{Qos}
use Rattle.qos.specs.declared.class.Qos.TheVariants.{Guaranteed, Burstable, BestEffort}
use Rattle.qos.specs.rule.Container.{IsGuaranteed, HasSomeRequestOrLimit}

-- Guaranteed: every container, init containers and sidecars too, has cpu and memory limits, and
-- requests that equal them. Burstable: not so, and some container has a cpu or memory request or
-- limit. BestEffort: neither.
abbrev pub IsOfClass : List ContainerSpec → Qos → Type 0
IsOfClass containers Guaranteed = All IsGuaranteed containers
IsOfClass containers Burstable = (All IsGuaranteed containers → ⊥) × Any HasSomeRequestOrLimit containers
IsOfClass containers BestEffort = (All IsGuaranteed containers → ⊥) × (Any HasSomeRequestOrLimit containers → ⊥)
