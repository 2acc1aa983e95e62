-- Why a container has not finished (Kubernetes, "Pod Lifecycle", "Container states"). R container: its newest instance
-- is running.
use Rattle.std.specs.Prelude.{ℤ}
use Rattle.phase.specs.rule.Facts.{Facts}
use Rattle.phase_causes.specs.declared.waits.Unfinished.{Unfinished}
use Rattle.phase_causes.specs.declared.waits.Unfinished.TheVariants as why

abbrev pub HasExited : {C : Type 0} → Facts C → C → Type 0
HasExited facts container = (code : ℤ) × facts.exited container code

abbrev pub IsUnfinished : {C : Type 0} → Facts C → (C → Type 0) → C → Unfinished → Type 0
IsUnfinished facts R container (why.Restarting code) = facts.exited container code
IsUnfinished facts R container why.Running = (HasExited facts container → ⊥) × R container
IsUnfinished facts R container why.Waiting = (HasExited facts container → ⊥) × (R container → ⊥)
