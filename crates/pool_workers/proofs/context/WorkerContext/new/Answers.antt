use Rattle.std.proofs.Common.{Option, ap, ◌∙◌, arith}
use Rattle.std.specs.List.{sum_by}
use Rattle.std.specs.Option.{option_to_list}
use Rattle.pod_piece.specs.rule.Piece.{Piece}
use Rattle.worker_results.specs.state.Done.{weigh}
use Rattle.pool_workers.proofs.Room.{none_taken}
use Rattle.pool_workers.proofs.context.WorkerContext.new.Goals as goal

pub invariant_of-result-clause-unused : goal.invariant_of-result-clause-unused
invariant_of-result-clause-unused g c = record {
  stands = c.requires.own;
  none = λ handle there. none_taken c.args.handles.items c.args.own handle (c.requires.fresh (λ _. 1)) there;
}

pub invariant_of-result-clause-matched : goal.invariant_of-result-clause-matched
invariant_of-result-clause-matched g c = λ weight. (
    let new = c.new.ensures in
    let done = ap (λ v. weigh weight v.items) new.done ∙ ap (weigh weight) c.requires.empty in
    let uncounted = ap (λ v. weigh weight v.items) new.uncounted ∙ ap (weigh weight) c.requires.empty_uncounted in
    let none = ap (λ (o : Option Piece). weigh weight (option_to_list o)) new.none in
    let owner = ap (sum_by weight) c.requires.none in
    let fresh = c.requires.fresh weight in
    omega arith)
