use Rattle.std.proofs.Common.{◌∙◌, sym}
use Rattle.std.proofs.lemmas.Bool.{iff_false}
use Rattle.pod_state.proofs.following.is_ready_or_init.Goals as goal

pub returns-then-is_init : goal.returns-then-is_init
returns-then-is_init c = λ spec max_restart_delay h st.
    let role = (c.view.ensures spec max_restart_delay h st).role in
    ((λ t not. absurd (not (sym role ∙ c.is_init.ensures.0 c.if-is_init.true))), (λ f. c.if-is_init.true))

pub returns-else-is_init : goal.returns-else-is_init
returns-else-is_init c = λ spec max_restart_delay h st.
    let role = (c.view.ensures spec max_restart_delay h st).role in
    let is = c.is_ready.ensures spec max_restart_delay h st in
    ((λ t not. is.0 t), (λ f. is.1 (f (λ e. iff_false c.is_init.ensures c.if-is_init.false (role ∙ e)))))
