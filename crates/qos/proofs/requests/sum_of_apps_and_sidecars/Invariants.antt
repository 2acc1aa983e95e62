use Rattle.std.proofs.Common.{◌≡◌, ◌≤◌, ◌+◌, ◌*◌, drop}
use Rattle.quantity.specs.rule.Quantity.{greatest_quantity}
use Rattle.qos.specs.rule.Requests.{sum_of_apps_and_sidecars}
use Rattle.qos.proofs.requests.sum_of_apps_and_sidecars.Given as goal

abbrev pub invariant-loop-container : goal.invariant-loop-container
invariant-loop-container l = record {
  total : l.sum + sum_of_apps_and_sidecars l.resource (drop l.container-index l.containers) ≡ sum_of_apps_and_sidecars
      l.resource l.containers;
  bound : l.sum ≤ l.container-index * greatest_quantity;
}
