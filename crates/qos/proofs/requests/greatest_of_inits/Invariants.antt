use Rattle.std.proofs.Common.{◌≡◌, drop, max}
use Rattle.qos.specs.rule.Requests.{greatest_of_inits}
use Rattle.qos.proofs.requests.greatest_of_inits.Given as goal

abbrev pub invariant-loop-container : goal.invariant-loop-container
invariant-loop-container l = max (greatest_of_inits l.resource (drop l.container-index l.containers))
    l.greatest ≡ greatest_of_inits l.resource l.containers
