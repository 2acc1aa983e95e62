-- What decides whether a restart follows an exit (Kubernetes, "Pod Lifecycle", "Individual container restart policy and
-- rules"; "Sidecar Containers").
use Rattle.std.specs.Prelude.{ℕ, suc, ℤ, List, [], ◌∷◌, Option, Some, None, option_map, if◌then◌else◌}
use Rattle.manifest.specs.declared.policy.Policy.{Policy}
use Rattle.manifest.specs.declared.policy.Policy.TheVariants.{Always}
use Rattle.manifest.specs.declared.pod.Role.{Role}
use Rattle.manifest.specs.declared.pod.Role.TheVariants.{Init, Sidecar, App}
use Rattle.manifest.specs.declared.own_restarts.RestartRule.{RestartRule}
use Rattle.manifest.specs.declared.own_restarts.OwnRestarts.{OwnRestarts}
use Rattle.restarts.specs.rule.Own.{matches}
use Rattle.restart_causes.specs.declared.decision.Decider.TheVariants as by
use Rattle.restart_causes.specs.declared.decision.Decision.{Decision}

-- the place of the first rule that matches the code, if one does
abbrev pub first_match : ℤ → List RestartRule → Option ℕ
first_match code [] = None
first_match code (rule ∷ rules) = if matches code rule then Some 0 else option_map suc (first_match code rules)

-- the rule at this place, or else the container's own policy
abbrev pub own_decision : Policy → Option ℕ → Decision
own_decision policy (Some place) = record { by = by.Rule place; policy = Always }
own_decision policy None = record { by = by.Container; policy = policy }

-- the first of the container's rules that matches, else its own policy, else the pod's
abbrev pub decision_by : Policy → Option OwnRestarts → ℤ → Decision
decision_by policy None code = record { by = by.Pod; policy = policy }
decision_by policy (Some own) code = own_decision own.policy (first_match code own.rules)

-- what decides after an exit with this code, and the policy that it gives; a sidecar's is Always
abbrev pub decision_after : Policy → Option OwnRestarts → Role → ℤ → Decision
decision_after policy own Sidecar code = record { by = by.Sidecar; policy = Always }
decision_after policy own Init code = decision_by policy own code
decision_after policy own App code = decision_by policy own code
