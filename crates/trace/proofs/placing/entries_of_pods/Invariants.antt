use Rattle.std.proofs.Common.{◌≡◌, drop}
use Rattle.json_fields.proofs.Each.{with_front}
use Rattle.trace.specs.state.Placing.{entries_of_pods}
use Rattle.trace.proofs.placing.entries_of_pods.Given as goal

abbrev pub invariant-loop-place : goal.invariant-loop-place
invariant-loop-place l = with_front l.all.items
    (entries_of_pods l.heeds l.pods (drop l.place l.numbers) (drop l.place l.entries))
    ≡ entries_of_pods l.heeds l.pods l.numbers l.entries
