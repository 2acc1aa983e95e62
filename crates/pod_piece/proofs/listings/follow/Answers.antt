use Rattle.std.proofs.Common.{◌≡◌, ◌∙◌, ℕ, ◌<◌, ◌++◌, ◌∷◌, [], List, Option, length, slice_index_or, sym, subst, arith}
use Rattle.std.proofs.lemmas.List.{length-set}
use Rattle.histories.specs.rule.Histories.{recorded}
use Rattle.histories.proofs.Items.{any_default, set_each, set_rest}
use Rattle.state_diff.specs.declared.differ.Differ.{Differ}
use Rattle.state_diff.specs.declared.seen.Seen.{Seen}
use Rattle.state_diff.specs.state.Differ.{IsStateOf}
use Rattle.state_diff.specs.rule.Instances.{Tick}
use Rattle.pod_state.specs.state.Listings.{listed_in}
use Rattle.pod_piece.proofs.ListingLemmas.{listed_more}
use Rattle.pod_piece.proofs.listings.follow.Goals as goal

pub loop-number-preserved : goal.loop-number-preserved
loop-number-preserved c =
    let i = c.loop-number.number in
    let so_far = c.loop-number.invariant in
    let old = c.args.differs.now.items in
    let x = c.index.result.now in
    let P : ℕ → Differ → Type 0 = λ n d. (e : Differ) (h : List Tick) → IsStateOf h (slice_index_or old n e)
    → IsStateOf (h ++ recorded c.args.observed.now.at (listed_in c.args.observed.now.containers n) ∷ []) d in
    let long : c.len-number-end.result ≡ length old = omega (arith, c.len-number-end.ensures, c.args.differs.now.ok) in
    let below : i < length old = omega (arith, long, c.loop-number-test.true) in
    let lt : i < length c.loop-number.differs.items = omega (arith, so_far.as_many, below) in
    let same : (e : Differ) → slice_index_or old i e ≡ x = λ e. any_default old i e x below
    ∙ sym (so_far.rest i x (omega arith)) ∙ sym c.index.ensures in
    let here : P i c.after.result = λ e h is.
    subst (λ (o : Option Seen). IsStateOf (h ++ recorded c.args.observed.now.at o ∷ []) c.after.result)
    c.listed_in-seen.ensures
    (subst (λ (m : ℕ). IsStateOf (h ++ recorded m c.listed_in-seen.result ∷ []) c.after.result) c.at-at.ensures
    (c.after.ensures h (subst (λ (d : Differ). IsStateOf h d) (same e) is))) in
    let all = set_each P c.loop-number.differs.items c.after.result i lt
    (λ n d below e h is. so_far.each n d e below h is) here in
    record {
      as_many = length-set c.loop-number.differs.items i c.after.result ∙ so_far.as_many;
      each = λ n d e below h is. all n d below e h is;
      rest = λ n d above. set_rest c.loop-number.differs.items c.after.result i n d above
          ∙ so_far.rest n d (omega (arith, above));
    }

pub returns : goal.returns
returns c = λ pod h are.
    let long : c.len-number-end.result ≡ length c.args.differs.now.items =
    omega (arith, c.len-number-end.ensures, c.args.differs.now.ok) in
    listed_more pod h c.args.observed.now c.args.differs.now.items c.loop-number.differs.items are
    c.loop-number.invariant.as_many
    (λ n d e lt k is. c.loop-number.invariant.each n d e (omega (arith, lt, long)) k is)
