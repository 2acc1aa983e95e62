use Rattle.std.proofs.Common.{rules}
use Rattle.piece_deques.proofs.Lists.{maps_same}
use Rattle.pool_workers.specs.state.Contexts.{context_tag}
use Rattle.pool_workers.proofs.threads.run.Goals as goal

pub returns-clause-same : goal.returns-clause-same
returns-clause-same g c = maps_same context_tag _ _ (search rules) (λ k d in'. search rules)

pub returns-clause-emptied : goal.returns-clause-emptied
returns-clause-emptied g c = λ k d in'. search rules
