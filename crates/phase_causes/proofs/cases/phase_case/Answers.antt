use Rattle.std.proofs.Common.{◌≡◌, ◌∙◌, true, false, sym}
use Rattle.std.specs.Prelude.{Any}
use Rattle.phase.specs.rule.RawPhase.{IsAwaited}
use Rattle.phase.specs.rule.ByContainer.{HasFailedForGood}
use Rattle.phase.specs.state.Restarts.{of_restart_view, Wants}
use Rattle.phase_causes.proofs.CaseLemmas.{at_some, have_stopped, some_failed}
use Rattle.phase_causes.proofs.cases.phase_case.Goals as goal

pub returns-in-Some-first_sought : goal.returns-in-Some-first_sought
returns-in-Some-first_sought c =
    let failed = at_some (HasFailedForGood of_restart_view Wants) c.args.containers.now in
    ((λ some. let w = failed some in c.in_default.ensures w.0 w.1), c.in-Some-first_sought.ensures)

pub returns-in-Some-first_sought-2 : goal.returns-in-Some-first_sought-2
returns-in-Some-first_sought-2 c =
    let failed = at_some (HasFailedForGood of_restart_view Wants) c.args.containers.now in
    let awaited = at_some (IsAwaited of_restart_view) c.args.containers.now in (
      record {
        none_failed = λ some. let w = failed some in c.in_default.ensures w.0 w.1;
        none_awaited = λ some. let w = awaited some in c.in_default-first_sought.ensures w.0 w.1;
      },
      c.in-Some-first_sought-2.ensures,
    )

pub returns-then-all_complete : goal.returns-then-all_complete
returns-then-all_complete c =
    let failed = at_some (HasFailedForGood of_restart_view Wants) c.args.containers.now in
    let awaited = at_some (IsAwaited of_restart_view) c.args.containers.now in (
      record {
        none_failed = λ some. let w = failed some in c.in_default.ensures w.0 w.1;
        none_awaited = λ some. let w = awaited some in c.in_default-first_sought.ensures w.0 w.1;
      },
      have_stopped c.args.containers.now c.in_default-first_sought-2.ensures,
      c.all_complete.ensures.0 c.if-all_complete.true,
    )

pub returns-else-all_complete : goal.returns-else-all_complete
returns-else-all_complete c =
    let failed = at_some (HasFailedForGood of_restart_view Wants) c.args.containers.now in
    let awaited = at_some (IsAwaited of_restart_view) c.args.containers.now in
    let stopped = have_stopped c.args.containers.now c.in_default-first_sought-2.ensures in (
      record {
        none_failed = λ some. let w = failed some in c.in_default.ensures w.0 w.1;
        none_awaited = λ some. let w = awaited some in c.in_default-first_sought.ensures w.0 w.1;
      },
      stopped,
      some_failed c.args.containers.now stopped
          (λ all. absurd (let e : false ≡ true = sym c.if-all_complete.false ∙ c.all_complete.ensures.1 all in cc)),
    )
