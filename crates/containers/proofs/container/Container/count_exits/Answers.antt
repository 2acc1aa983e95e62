use Rattle.histories.specs.rule.Histories.{recorded}
use Rattle.containers.proofs.CountLemmas.{counted_more}
use Rattle.containers.proofs.container.Container.count_exits.Goals as goal

pub returns-clause-counted : goal.returns-clause-counted
returns-clause-counted c = λ max_restart_delay h observed exits d before first after accepts changes are counted.
    counted_more max_restart_delay h (recorded c.args.at observed) exits d c.args.self.now.differ
    c.args.changes.now c.args.start c.run.result
    c.run_until-gone.result c.and-died.result c.count_both.result c.count_both.new.backoff before after accepts
    changes are first (c.run.ensures _ after) c.run_until-gone.ensures c.and-died.ensures
    (c.count_both.ensures.state max_restart_delay exits counted)
    (c.count_both.ensures.delay max_restart_delay exits counted)
