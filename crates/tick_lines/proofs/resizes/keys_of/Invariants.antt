use Rattle.std.proofs.Common.{◌≡◌, ◌++◌, map}
use Rattle.std.specs.Prelude.{string_bytes}
use Rattle.tick_lines.proofs.resizes.keys_of.Given as goal

abbrev pub invariant-loop-name : goal.invariant-loop-name
invariant-loop-name g l =
    map string_bytes l.names.items ++ map (λ m. string_bytes m.0) l.name-iterator
    ≡ map (λ m. string_bytes m.0) l.fn.members.entries
