use Rattle.std.proofs.Common.{◌<◌, All, IfErr, IfOk, IsErrOf, ap, length, subst}
use Rattle.roster.specs.rule.Roll.{Roll}
use Rattle.trace.specs.declared.placing.PlacedEntry.{PlacedEntry}
use Rattle.json_fields.specs.state.Reading.{GivesUnless}
use Rattle.trace.specs.state.Memory.{is_memory}
use Rattle.trace.specs.rule.TraceSoFar.{TraceSoFar}
use Rattle.trace.specs.rule.Placing.{placed_of}
use Rattle.trace.proofs.tick.placed_of.Goals as goal

pub returns-clause-gives : goal.returns-clause-gives
returns-clause-gives c =
    subst (λ (r : Roll). GivesUnless is_memory (λ v. v.items) c.placed_by.result
    (placed_of c.args.heeds r c.args.written.now.entries))
    (ap (λ (p : TraceSoFar). p.roll) c.so_far.view_is) c.placed_by.ensures.gives

pub returns-clause-known : goal.returns-clause-known
returns-clause-known c =
    subst (λ (r : Roll). IfOk c.placed_by.result (λ v. All (λ (e : PlacedEntry). e.pod < length r.pods) v.items))
    (ap (λ (p : TraceSoFar). p.roll) c.so_far.view_is) c.placed_by.ensures.known

pub returns-clause-faults : goal.returns-clause-faults
returns-clause-faults c =
    subst (λ (r : Roll). IfErr (placed_of c.args.heeds r c.args.written.now.entries) (IsErrOf c.placed_by.result))
    (ap (λ (p : TraceSoFar). p.roll) c.so_far.view_is) c.placed_by.ensures.faults
