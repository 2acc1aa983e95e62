use Rattle.std.proofs.Common.{arith, rules}
use Rattle.std.proofs.lemmas.Grind.{common_steps}
use Rattle.manifest.specs.declared.pod.Place.TheVariants.{InitContainers, Containers}
use Rattle.manifest_reader.proofs.Placed.{each_of}
use Rattle.manifest_reader.proofs.reading.containers_of.Goals as goal

pub new-requires : goal.new-requires
new-requires c = record {
  init = c.in_ok-init.init.items;
  apps = c.in_ok-apps.apps.items;
  in_order = c.in_ok-all.ensures;
  init_first = each_of InitContainers _ c.in_ok-init.ensures.of;
  apps_last = each_of Containers _ c.in_ok-apps.ensures.of;
  some = grind (arith, common_steps);
  few = grind (arith, common_steps);
  apart = search rules;
}
