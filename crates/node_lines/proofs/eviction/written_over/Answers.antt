use Rattle.std.proofs.lemmas.Result.{err_from_is_err_and}
use Rattle.serde_json.specs.View.{view}
use Rattle.node_lines.proofs.Written.{AreRead, written_well, reclaims_refused}
use Rattle.node_lines.proofs.eviction.written_over.Goals as goal

pub returns-in_err-reclaims-clause-gives : goal.returns-in_err-reclaims-clause-gives
returns-in_err-reclaims-clause-gives c =
    let p = err_from_is_err_and c.from_residual-in_err-reclaims.result c.from_residual-in_err-reclaims.ensures.1 in
    let read : AreRead c.args.capacity.now (view c.args.node.now) c.in_ok-hard.hard c.in_ok-soft.soft
    c.in_ok-graces.graces = record {
      hard_is = rw (← c.field.ensures) c.in_ok-hard.ensures.gives;
      soft_is = rw (← c.field-2.ensures) c.in_ok-soft.ensures.gives;
      graces_are = rw (← c.field-3.ensures) c.in_ok-graces.ensures;
    } in
    rw (p.1, p.2) (reclaims_refused _ _ _ _ _ c.in_err-reclaims.field-0.0 read
    (rw (← c.field-4.ensures) c.in_err-reclaims.ensures.gives))

pub returns-clause-gives : goal.returns-clause-gives
returns-clause-gives c =
    written_well _ _ _ _ _ _ (record {
      hard_is = rw (← c.field.ensures) c.in_ok-hard.ensures.gives;
      soft_is = rw (← c.field-2.ensures) c.in_ok-soft.ensures.gives;
      graces_are = rw (← c.field-3.ensures) c.in_ok-graces.ensures;
    }) (rw (← c.field-4.ensures) c.in_ok-reclaims.ensures.gives)
