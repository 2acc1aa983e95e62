use Rattle.std.proofs.Common.{◌≡◌, ◌∙◌, true, ap, sym}
use Rattle.observations.specs.rule.Reasons.{is_reason}
use Rattle.observations.proofs.Reasons.{short}
use Rattle.observations.proofs.reason.EndReason.of.Goals as goal

pub returns-in-Err : goal.returns-in-Err
returns-in-Err c =
    let is : is_reason c.args.text.now ≡ true =
    ap is_reason (sym c.as_bytes.ensures.value) ∙ sym c.is_reason.ensures ∙ c.if-not-is_reason.false in
    let fits = c.in-Err.ensures.variant.1 (short c.args.text.now is) in absurd (cc)
