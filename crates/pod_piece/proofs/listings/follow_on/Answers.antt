use Rattle.std.proofs.Common.{◌++◌, ◌∷◌, [], List, Bool, None, IsTrue, sym, subst}
use Rattle.pod_state.specs.declared.lifecycle.Lifecycle.{Lifecycle}
use Rattle.pod_state.specs.rule.Pods.{PodTick, pod_tick, IsEnd, HasEnded}
use Rattle.pod_state.specs.rule.Lifecycles.{IsLifecycleOf}
use Rattle.pod_state.specs.state.Listings.{AreListed}
use Rattle.pod_state.proofs.EndLemmas.{counted_all}
use Rattle.pod_piece.specs.state.Listings.{IsOver}
use Rattle.pod_piece.proofs.listings.follow_on.Goals as goal

pub returns-then-had_ended : goal.returns-then-had_ended
returns-then-had_ended c = λ pod max_restart_delay evicted h over listed is.
    let ended : HasEnded pod evicted h = subst (λ (b : Bool). IsOver pod evicted h b) c.if-had_ended.true over in
    let next = c.follow.ensures pod h (listed.ended ended) in
    record { as_many = next.as_many; ended = λ e. next }

pub returns-then-has_ended : goal.returns-then-has_ended
returns-then-has_ended c = λ pod max_restart_delay evicted h over listed is.
    let none : IsEnd pod evicted h None = subst (λ (b : Bool). IsOver pod evicted h b) c.if-had_ended.false over in
    let x = pod_tick c.args.observed.now in
    let end = is.progress.so_far.phase in
    let all = subst (λ (k : List PodTick). AreListed pod k c.list.new.differs.items)
    (counted_all pod evicted h x none end.0 end.1)
    (c.list.ensures pod max_restart_delay evicted end.0 (h ++ x ∷ []) end.1 is) in
    record { as_many = all.as_many; ended = λ e. all }

pub returns-else-has_ended : goal.returns-else-has_ended
returns-else-has_ended c = λ pod max_restart_delay evicted h over listed is.
    let k = h ++ pod_tick c.args.observed.now ∷ [] in
    let now : IsLifecycleOf pod evicted k c.lifecycle.result =
    subst (λ (l : Lifecycle). IsLifecycleOf pod evicted k l) (sym c.lifecycle.ensures) is.progress.so_far in
    record {
      as_many = listed.as_many;
      ended = λ e. let t : IsTrue c.has_ended.result = (c.has_ended.ensures.ended pod evicted k now).1 e in absurd (cc);
    }
