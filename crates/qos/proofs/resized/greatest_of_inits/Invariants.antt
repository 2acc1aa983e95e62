use Rattle.std.proofs.Common.{◌≡◌, length, drop, max}
use Rattle.qos.specs.rule.Requests.{greatest_of_inits}
use Rattle.qos.specs.rule.Resized.{with_resources}
use Rattle.qos.proofs.resized.greatest_of_inits.Given as goal

abbrev pub invariant-loop-container : goal.invariant-loop-container
invariant-loop-container l = record {
  total : max (greatest_of_inits l.resource (with_resources (drop l.container-index l.containers) l.rest)) l.greatest
      ≡ greatest_of_inits l.resource (with_resources l.containers l.resources);
  each : length l.rest ≡ length (drop l.container-index l.containers);
}
