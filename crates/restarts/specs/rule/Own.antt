-- After which exits a container is started again that may have a restart policy and rules of its own (Kubernetes, "Pod
-- Lifecycle", "Individual container restart policy and rules").
use Rattle.std.specs.Prelude.{ℤ, Bool, not, if◌then◌else◌, List, Option, Some, None}
use Rattle.std.specs.Ordering.{int_eq}
use Rattle.std.specs.List.{list_any}
use Rattle.manifest.specs.declared.policy.Policy.{Policy}
use Rattle.manifest.specs.declared.policy.Policy.TheVariants.{Always}
use Rattle.manifest.specs.declared.pod.Role.{Role}
use Rattle.manifest.specs.declared.own_restarts.ExitCodeOperator.{ExitCodeOperator}
use Rattle.manifest.specs.declared.own_restarts.ExitCodeOperator.TheVariants.{In, NotIn}
use Rattle.manifest.specs.declared.own_restarts.RestartRule.{RestartRule}
use Rattle.manifest.specs.declared.own_restarts.OwnRestarts.{OwnRestarts}
use Rattle.restarts.specs.rule.Policy.{WantsRestart}

-- the code is one of these
abbrev pub is_one_of : List ℤ → ℤ → Bool
is_one_of values code = list_any (λ value. int_eq value code) values

-- the code passes the operator's test
abbrev pub passes : ExitCodeOperator → List ℤ → ℤ → Bool
passes In values code = is_one_of values code
passes NotIn values code = not (is_one_of values code)

-- the rule matches the code
abbrev pub matches : ℤ → RestartRule → Bool
matches code rule = passes rule.operator rule.values code

-- the policy that decides after an exit with this code: Always if some rule of the container matches the code, else the
-- container's own policy, else the pod's
abbrev pub policy_after : Policy → Option OwnRestarts → ℤ → Policy
policy_after policy None code = policy
policy_after policy (Some own) code = if list_any (matches code) own.rules then Always else own.policy

-- a container of this role that exited with this code is to restart
abbrev pub WantsRestartBy : Policy → Option OwnRestarts → Role → ℤ → Type 0
WantsRestartBy policy own role code = WantsRestart (policy_after policy own code) role code
