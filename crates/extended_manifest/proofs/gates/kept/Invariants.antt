use Rattle.std.proofs.Common.{◌≡◌, ◌++◌, map, drop}
use Rattle.extended_manifest.proofs.gates.kept.Given as goal

abbrev pub invariant-loop-name : goal.invariant-loop-name
invariant-loop-name l = l.gates ++ map (λ n. n.now) (drop l.name-index l.names) ≡ map (λ n. n.now) l.names
