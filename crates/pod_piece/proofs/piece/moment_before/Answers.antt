use Rattle.std.proofs.Common.{◌∙◌, ℕ, Some, ap, arith}
use Rattle.pod_piece.proofs.LastTicks.{moment_taken}
use Rattle.pod_piece.proofs.piece.moment_before.Goals as goal

pub returns : goal.returns
returns c = ap (λ (m : ℕ). Some m) c.at-2.ensures
    ∙ moment_taken c.args.history.now c.args.place c.at.result.now (omega (arith, c.if-place-eq0.false)) c.requires
    c.at.ensures
