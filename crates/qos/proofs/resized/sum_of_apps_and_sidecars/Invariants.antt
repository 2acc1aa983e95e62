use Rattle.std.proofs.Common.{◌≡◌, ◌≤◌, ◌+◌, ◌*◌, length, drop}
use Rattle.quantity.specs.rule.Quantity.{greatest_quantity}
use Rattle.qos.specs.rule.Requests.{sum_of_apps_and_sidecars}
use Rattle.qos.specs.rule.Resized.{with_resources}
use Rattle.qos.proofs.resized.sum_of_apps_and_sidecars.Given as goal

abbrev pub invariant-loop-container : goal.invariant-loop-container
invariant-loop-container l = record {
  total : l.sum + sum_of_apps_and_sidecars l.resource
      (with_resources (drop l.container-index l.containers) l.rest)
      ≡ sum_of_apps_and_sidecars l.resource (with_resources l.containers l.resources);
  bound : l.sum ≤ l.container-index * greatest_quantity;
  each : length l.rest ≡ length (drop l.container-index l.containers);
}
