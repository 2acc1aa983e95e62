use Rattle.std.proofs.Common.{◌≡◌, ◌∙◌, ◌++◌, ◌∷◌, [], ℕ, Bool, List, length, Option, Some, ap, subst}
use Rattle.std.specs.Prelude.{◌||◌}
use Rattle.pod_state.specs.rule.Pods.{PodTick, pod_tick, says_failed}
use Rattle.pod_state.specs.state.Lifecycles.{IsNext, IsProgressOf}
use Rattle.pod_state.specs.state.Containers.{AreContainersOf}
use Rattle.pod_state.specs.state.States.{IsStateOf}
use Rattle.pod_state.proofs.NodeEnds.{ends_said}
use Rattle.pod_state.proofs.StateLemmas.{before_end, events_lives}
use Rattle.pod_state.proofs.state.PodState.settle.Goals as goal

-- the lifecycle after the tick
progress : (c : goal.After-self-5-1) (max_restart_delay : ℕ) (evicted : Option ℕ) (h : List PodTick)
    → (evicted ≡ Some (length h) → ⊥)
    → IsStateOf c.args.pod.now max_restart_delay evicted h c.args.self.now
    → AreContainersOf c.args.pod.now max_restart_delay (h ++ pod_tick c.args.observed.now ∷ []) c.args.next.now
    → IsProgressOf c.args.pod.now evicted (h ++ pod_tick c.args.observed.now ∷ []) c.advance.new.self
progress c max_restart_delay evicted h stays st after =
    let pod = c.args.pod.now in
    let x = pod_tick c.args.observed.now in
    subst (λ (m : ℕ). IsNext m c.args.views.now c.all_ready-ready.result c.are_true.result
    c.says_failed-failed.result c.args.self.now.lifecycle c.advance.new.self) c.at.ensures c.advance.ensures
    pod evicted h x.entry
    (λ lives. c.requires.views max_restart_delay (h ++ x ∷ []) after)
    (λ lives. c.all_ready-ready.ensures pod max_restart_delay (h ++ x ∷ []) after)
    (λ lives. c.are_true.ensures pod (h ++ x ∷ []) (c.next-gates.ensures (length pod.gates) h st.gates))
    (λ lives. ends_said evicted h x c.says_failed-failed.result stays c.says_failed-failed.ensures) st.progress

-- whether it is leaving with it
leaves : (c : goal.After-self-5-1) → c.is_leaving-leaving.result
    ≡ ((c.args.self.now.deleting || (pod_tick c.args.observed.now).entry.words.deleting)
    || says_failed (pod_tick c.args.observed.now))
leaves c =
    c.is_leaving-leaving.ensures
    ∙ ap (λ (b : Bool). b || c.says_failed-failed.result) c.deleting_with-deleting.ensures
    ∙ ap (λ (b : Bool). (c.args.self.now.deleting || c.args.observed.now.words.deleting) || b)
    c.says_failed-failed.ensures

pub returns-clause-ok : goal.returns-clause-ok
returns-clause-ok c = λ max_restart_delay evicted h stays st.
    let pod = c.args.pod.now in
    before_end pod max_restart_delay evicted h (pod_tick c.args.observed.now) c.args.self.now _ c.args.next.now st
    c.requires.lives c.copy_from_slice.ensures.items c.deleting_with-deleting.ensures
    (c.next-gates.ensures (length pod.gates) h) (c.requires.containers pod max_restart_delay h)
    (progress c max_restart_delay evicted h stays st)

pub returns-clause-events : goal.returns-clause-events
returns-clause-events c = λ max_restart_delay evicted h stays st.
    let pod = c.args.pod.now in
    events_lives pod max_restart_delay evicted h (pod_tick c.args.observed.now) c.args.self.now c.advance.new.self
    c.args.made.now c.is_leaving-leaving.result _ _ st c.requires.lives stays
    (c.requires.made max_restart_delay h)
    (λ before. (progress c max_restart_delay evicted h stays st
    (c.requires.containers pod max_restart_delay h before)).so_far.phase)
    c.phase_event-change.ensures (leaves c) c.in_ok-events.ensures
