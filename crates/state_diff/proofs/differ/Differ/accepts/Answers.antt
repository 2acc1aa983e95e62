use Rattle.state_diff.proofs.Acceptable.{same_test, is_acceptable_is}
use Rattle.state_diff.proofs.differ.Differ.accepts.Goals as goal

pub returns-clause-acceptable : goal.returns-clause-acceptable
returns-clause-acceptable c = λ h st.
    let is = st.accepts c.args.seen in
    ((λ e. is.0 (c.follows.ensures.0 e)), (λ w. c.follows.ensures.1 (is.1 w)))

pub returns-clause-computed : goal.returns-clause-computed
returns-clause-computed c = λ h st.
    let is = st.accepts c.args.seen in
    same_test _ _ ((λ e. is.0 (c.follows.ensures.0 e)), (λ w. c.follows.ensures.1 (is.1 w)))
    (is_acceptable_is h c.args.seen)
