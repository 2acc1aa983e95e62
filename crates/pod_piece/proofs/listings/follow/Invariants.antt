use Rattle.std.proofs.Common.{◌≡◌, ℕ, ◌<◌, ◌≤◌, ◌∷◌, ◌++◌, [], List, length, slice_index_or}
use Rattle.histories.specs.rule.Histories.{recorded}
use Rattle.state_diff.specs.declared.differ.Differ.{Differ}
use Rattle.state_diff.specs.rule.Instances.{Tick}
use Rattle.state_diff.specs.state.Differ.{IsStateOf}
use Rattle.pod_piece.specs.state.Listings.{listed_in}
use Rattle.pod_piece.proofs.listings.follow.Given as goal

abbrev pub invariant-loop-number : goal.invariant-loop-number
invariant-loop-number l = record {
  as_many : length l.differs.items ≡ length l.initial.differs.items;
  each : (n : ℕ) (d e : Differ) → n < l.number → (h : List Tick)
      → IsStateOf h (slice_index_or l.initial.differs.items n e)
      → IsStateOf (h ++ recorded l.observed.at (listed_in l.observed.containers n) ∷ [])
      (slice_index_or l.differs.items n d);
  rest : (n : ℕ) (d : Differ) → l.number ≤ n → slice_index_or l.differs.items n d ≡ slice_index_or
      l.initial.differs.items n d;
}
