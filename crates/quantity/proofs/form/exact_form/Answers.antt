use Rattle.std.proofs.Common.{sym}
use Rattle.quantity.specs.state.Printed.{form_count}
use Rattle.quantity.proofs.FirstForm.{first_of_none, first_more_is_none, first_is_some}
use Rattle.quantity.proofs.form.exact_form.Goals as goal

pub loop-place-init : goal.loop-place-init
loop-place-init c = first_of_none c.args.thousandths

pub returns-then-is_some : goal.returns-then-is_some
returns-then-is_some c = first_is_some c.args.thousandths c.loop-place.place form_count c.form_at-form.result
    c.loop-place.invariant c.form_at-form.ensures (sym c.if-is_some.ensures) c.loop-place-test.true

pub loop-place-preserved : goal.loop-place-preserved
loop-place-preserved c = first_more_is_none c.args.thousandths c.loop-place.place c.form_at-form.result
    c.loop-place.invariant c.form_at-form.ensures (sym c.if-is_some.ensures)
