-- Contexts that are laid out, by themselves and by their tags.
use Rattle.std.proofs.Common.{◌≡◌, ℕ, List, All, map, length, sym, ap, ◌∙◌, subst}
use Rattle.std.proofs.lemmas.List.{length-map}
use Rattle.std.proofs.lemmas.List.Elements.{All-map}
use Rattle.pod_piece.specs.rule.Piece.{Piece}
use Rattle.piece_deques.proofs.Lists.{all_unmap, map_map}
use Rattle.pool_workers.specs.declared.context.WorkerContext.{WorkerContext}
use Rattle.worker_results.specs.state.Done.{weigh}
use Rattle.pool_workers.specs.state.Dealing.{dealt_to}
use Rattle.pool_workers.specs.state.Permits.{FilledDeque, pushed_sum}
use Rattle.pool_workers.specs.state.Contexts.{Tag, context_deque, context_tag, filled_in, IsLaid, AreLaid}

module _ {D U E O : Type 0} {g : _} where
  filled_are : (contexts : List (WorkerContext D U E O g))
      → filled_in (map context_tag contexts) ≡ map context_deque contexts
  filled_are contexts = map_map context_tag (λ (t : Tag). t.filled) contexts

  pub are_laid : (pieces : List Piece) (contexts : List (WorkerContext D U E O g)) (n : ℕ) → n ≡ length contexts
      → AreLaid pieces (map context_tag contexts)
      → All (λ b. IsLaid n (map context_deque contexts) (context_tag b)) contexts
  are_laid pieces contexts n count laid =
      let tags = map context_tag contexts in
      let many : length tags ≡ n = length-map contexts context_tag ∙ sym count in
      all_unmap context_tag (IsLaid n (map context_deque contexts)) contexts
      (subst (λ k. All (IsLaid k (map context_deque contexts)) tags) many
      (subst (λ (p : List FilledDeque). All (IsLaid (length tags) p) tags) (filled_are contexts) laid.each))

  pub laid_pushed : (pieces : List Piece) (contexts : List (WorkerContext D U E O g))
      → AreLaid pieces (map context_tag contexts)
      → (weight : ℕ → ℕ) → pushed_sum weight (map context_deque contexts) ≡ weigh weight pieces
  laid_pushed pieces contexts laid weight = ap (pushed_sum weight) (sym (filled_are contexts)) ∙ laid.pushed weight

  pub to_laid : (pieces : List Piece) (contexts : List (WorkerContext D U E O g)) (n : ℕ) (filled : List FilledDeque)
      → n ≡ length contexts → map context_deque contexts ≡ filled → All (λ b. IsLaid n filled (context_tag b)) contexts
      → map (λ (p : FilledDeque). p.pushed) filled ≡ dealt_to n pieces
      → ((weight : ℕ → ℕ) → pushed_sum weight filled ≡ weigh weight pieces)
      → AreLaid pieces (map context_tag contexts)
  to_laid pieces contexts n filled count at laid dealt pushed =
      let tags = map context_tag contexts in
      let many : n ≡ length tags = count ∙ sym (length-map contexts context_tag) in
      let there : filled ≡ filled_in tags = sym at ∙ sym (filled_are contexts) in
      record {
        each =
            subst (λ k. All (IsLaid k (filled_in tags)) tags) many
            (subst (λ (p : List FilledDeque). All (IsLaid n p) tags) there
            (All-map (IsLaid n filled) context_tag contexts laid));
        dealt =
            ap (map (λ (p : FilledDeque). p.pushed)) (sym there) ∙ dealt ∙ ap (λ (k : ℕ). dealt_to k pieces) many;
        pushed = λ weight. ap (pushed_sum weight) (sym there) ∙ pushed weight;
      }
