use Rattle.std.proofs.Common.{◌≡◌, None}
use Rattle.quantity.specs.state.Printed.{first_form}
use Rattle.quantity.proofs.form.exact_form.Given as goal

abbrev pub invariant-loop-place : goal.invariant-loop-place
invariant-loop-place l = first_form l.fn.thousandths l.place ≡ None
