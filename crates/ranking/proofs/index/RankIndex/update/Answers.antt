use Rattle.std.proofs.lemmas.Result.{on_ok_weaker}
use Rattle.ranking.proofs.Held.{updated}
use Rattle.ranking.proofs.index.RankIndex.update.Goals as goal

pub returns-clause-updated : goal.returns-clause-updated
returns-clause-updated c = on_ok_weaker c.put-2.result
    (λ keyed held after is are. updated c.args.moment held after c.args.self.now c.put-2.new.self c.args.status.now
    c.rank_key.result (c.may_be_evicted.ensures.0 c.if-not-may_be_evicted.false)
    c.put-2.ensures.signal c.put-2.ensures.dedicated (rw (← c.put.view_is) c.rank_key.ensures) keyed is are)
    c.put-2.ensures.keyed
