use Rattle.quantity.proofs.Forms.{ten_some}
use Rattle.quantity.proofs.form.form_at.Goals as goal

pub nonzero_div-result : goal.nonzero_div-result
nonzero_div-result c = rw c.pow-unit.ensures (ten_some _)

pub nonzero_rem-result : goal.nonzero_rem-result
nonzero_rem-result c = rw c.pow-unit.ensures (ten_some _)
