use Rattle.std.proofs.Common.{◌≡◌, ◌∙◌, ◌++◌, ℕ, List, append_assoc, ap, codes, string_bytes}
use Rattle.std.proofs.Common.{OnOk, Result, Ok, Err}
use Rattle.event_list.specs.rule.Text.{node_event_words, threshold_words}
use Rattle.event_list.proofs.text.add_reclaim.Goals as goal

-- one more phrase, where its call has a value
one_more : {X E : Type 0} (r : Result X E) (old now new a b : List ℕ) → now ≡ old ++ a → OnOk r (new ≡ now ++ b)
    → OnOk r (new ≡ old ++ (a ++ b))
one_more (Ok x) old now new a b is more = more ∙ (ap (λ (xs : List ℕ). xs ++ b) is ∙ append_assoc old a b)
one_more (Err e) old now new a b is more = more

pub returns-clause-ok : goal.returns-clause-ok
unfolding node_event_words
returns-clause-ok c =
    one_more c.add_threshold.result (string_bytes c.args.text.now) (string_bytes c.add.new.text)
    (string_bytes c.add_threshold.new.text) (codes "node reclaim ") (threshold_words c.args.key)
    c.in_ok-add.ensures.ok c.add_threshold.ensures.ok
