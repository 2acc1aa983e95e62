use Rattle.std.proofs.Common.{◌≡◌, length}
use Rattle.serde_json.specs.View.{view}
use Rattle.manifest_reader.specs.state.Found.{name_in}
use Rattle.manifest_reader.specs.state.Checks.{is_name_twice_before}
use Rattle.manifest_reader.proofs.checks.is_name_twice_before.Given as goal

abbrev pub invariant-loop-rest : goal.invariant-loop-rest
invariant-loop-rest l =
    is_name_twice_before (λ v. name_in (view v)) l.rest l.behind
    ≡ is_name_twice_before (λ v. name_in (view v)) l.fn.values l.behind

abbrev pub decreases-loop-rest : goal.decreases-loop-rest
decreases-loop-rest l = length l.rest
