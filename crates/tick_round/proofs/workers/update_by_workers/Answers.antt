use Rattle.std.proofs.Common.{ap}
use Rattle.std.proofs.lemmas.Result.{IfOk-weaker}
use Rattle.tick_round.proofs.Rounds.{all_pending}
use Rattle.tick_round.proofs.workers.update_by_workers.Goals as goal

pub update_all-updated-requires-clause-pending : goal.update_all-updated-requires-clause-pending
update_all-updated-requires-clause-pending g c κs within = all_pending c.args.pieces.items c.args.book c.requires.may

pub put_together-requires-clause-whole : goal.put_together-requires-clause-whole
put_together-requires-clause-whole g c =
    IfOk-weaker c.update_all-updated.result _ _ (λ r h. ap (λ s. s.parts) h.2) c.update_all-updated.ensures.share
