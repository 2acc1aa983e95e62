use Rattle.std.proofs.Common.{◌≡◌, ◌+◌, replicate}
use Rattle.round_core.specs.state.Pool.{idle}
use Rattle.played_round.proofs.played.idle_workers.Given as goal

abbrev pub invariant-loop-count : goal.invariant-loop-count
invariant-loop-count g l = record {
  idle : l.workers.items ≡ replicate l._count idle;
  parts : l.share.parts + l._count ≡ l.fn.share.parts;
  totals : l.share.totals ≡ l.fn.share.totals;
}
