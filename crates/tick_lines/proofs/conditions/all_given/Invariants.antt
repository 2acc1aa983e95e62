use Rattle.std.proofs.Common.{◌≡◌, ◌++◌}
use Rattle.std.specs.Prelude.{option_map}
use Rattle.tick_lines.specs.state.Conditions.{given_members, all_statuses}
use Rattle.tick_lines.proofs.conditions.all_given.Given as goal

abbrev pub invariant-loop-name : goal.invariant-loop-name
invariant-loop-name l =
    all_statuses (given_members l.fn.noted.entries)
    ≡ option_map (λ rest. l.list.items ++ rest) (all_statuses (given_members l.name-iterator))
