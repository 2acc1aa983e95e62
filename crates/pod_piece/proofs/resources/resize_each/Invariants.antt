use Rattle.std.proofs.Common.{◌≡◌, ℕ, ◌<◌, ◌≤◌, length, slice_index_or}
use Rattle.std.specs.Prelude.{unwrap_or}
use Rattle.manifest.specs.rule.Resources.{Resources}
use Rattle.observations.specs.rule.Resizes.{resized_to}
use Rattle.pod_piece.proofs.resources.resize_each.Given as goal

abbrev pub invariant-loop-number : goal.invariant-loop-number
invariant-loop-number l = record {
  as_many : length l.all.items ≡ length l.initial.all.items;
  each : (n : ℕ) (d e : Resources) → n < l.number → slice_index_or l.all.items n d
      ≡ unwrap_or (resized_to l.resizes n) (slice_index_or l.initial.all.items n e);
  rest : (n : ℕ) (d : Resources) → l.number ≤ n → slice_index_or l.all.items n d
      ≡ slice_index_or l.initial.all.items n d;
}
