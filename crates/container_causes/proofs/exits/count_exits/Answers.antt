use Rattle.std.proofs.Common.{subst}
use Rattle.container_causes.specs.state.Exits.{left, exited}
use Rattle.container_causes.proofs.CountedLemmas.{Counts, counted_more}
use Rattle.container_causes.proofs.exits.count_exits.Goals as goal

pub returns : goal.returns
returns c = λ h x before after same is accepts now first runs one other kept.
    counted_more h x before after c.args.start c.args.run c.args.gone c.args.died c.death_of.result c.death_of-2.result
    c.args.count c.count_exit-before.result c.count_exit.result is accepts now first runs one other c.death_of.ensures
    c.death_of-2.ensures kept
    (subst (λ m. Counts (left c.death_of.result c.args.start m) m c.args.count c.count_exit-before.result) same
    (subst (λ l. Counts l c.args.at c.args.count c.count_exit-before.result) c.left.ensures
    c.count_exit-before.ensures))
    (subst (λ m. Counts (exited c.death_of-2.result c.args.run) m c.count_exit-before.result c.count_exit.result) same
    (subst (λ l. Counts l c.args.at c.count_exit-before.result c.count_exit.result) c.exited.ensures
    c.count_exit.ensures))
