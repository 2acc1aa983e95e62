use Rattle.std.proofs.Common.{◌≡◌, ◌+◌, length, option_map}
use Rattle.lists.specs.rule.Names.{place_of}
use Rattle.manifest.specs.rule.Containers.{names_of}
use Rattle.manifest.proofs.pod.place_of.Given as goal

abbrev pub invariant-others : goal.invariant-others
invariant-others l = record {
  within : l.place + length l.rest ≡ length l.fn.containers;
  found : place_of (names_of l.fn.containers) l.fn.name ≡ option_map (λ i. i + l.place)
      (place_of (names_of l.rest) l.fn.name);
}

abbrev pub decreases-others : goal.decreases-others
decreases-others l = length l.rest
