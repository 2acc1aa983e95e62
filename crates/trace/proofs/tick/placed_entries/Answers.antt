use Rattle.std.proofs.Common.{◌∙◌, List, ℕ, ap, length, refl}
use Rattle.trace.specs.rule.Placing.{number_in}
use Rattle.trace.proofs.Placed.{as_many, by_names, known_pods}
use Rattle.trace.proofs.tick.placed_entries.Goals as goal

pub entries_of_pods-requires : goal.entries_of_pods-requires
entries_of_pods-requires c = ap (λ (ns : List ℕ). length ns) c.as_slice.ensures
    ∙ as_many (number_in c.args.roster.now) c.as_slice-entries.result.now c.in_ok-numbers.numbers
    c.in_ok-numbers.ensures

pub returns-clause-gives : goal.returns-clause-gives
returns-clause-gives c =
    by_names c.args.heeds (λ v. v.items) c.entries_of_pods.result c.args.roster.now c.args.roster.now c.pods.result.now
    c.as_slice.result.now c.in_ok-numbers.numbers c.as_slice-entries.result.now
    c.args.written.now.entries c.pods.ensures refl c.as_slice.ensures
    c.as_slice-entries.ensures c.in_ok-numbers.ensures c.entries_of_pods.ensures

pub returns-clause-known : goal.returns-clause-known
returns-clause-known c =
    known_pods c.args.heeds (λ v. v.items) c.entries_of_pods.result c.pods.result.now c.args.roster.now.pods
    c.as_slice.result.now c.as_slice-entries.result.now c.pods.ensures c.entries_of_pods.ensures
