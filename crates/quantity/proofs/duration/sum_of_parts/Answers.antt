use Rattle.std.proofs.Common.{◌≡◌, ◌≤◌, ◌<◌, ◌+◌, arith, rules, sym, ◌∙◌, length, Ok, Err}
use Rattle.std.proofs.lemmas.Bool.Decides.{nat_tests}
use Rattle.std.proofs.lemmas.Result.{err_from_is_err_and}
use Rattle.quantity.specs.rule.Duration.{piece_seconds, end_of_time}
use Rattle.quantity.proofs.Durations.{sum_next, sum_refused, sum_large}
use Rattle.quantity.proofs.duration.sum_of_parts.Goals as goal

pub returns-in_err-sum : goal.returns-in_err-sum
returns-in_err-sum c =
    let p = err_from_is_err_and c.from_residual.result c.from_residual.ensures.1 in
    let some : 0 < length c.loop-rest.rest.now = grind (arith, nat_tests) in
    let is : piece_seconds c.loop-rest.rest.now ≡ Err c.in_err-sum.field-0.0 = search rules in
    rw (p.1, p.2) (sym (sym c.loop-rest.invariant.0 ∙ sum_refused c.loop-rest.sum c.in_err-sum.field-0.0
    c.loop-rest.rest.now some is))

pub returns-then-sum-ge-END_OF_TIME : goal.returns-then-sum-ge-END_OF_TIME
returns-then-sum-ge-END_OF_TIME c =
    let some : 0 < length c.loop-rest.rest.now = omega (arith, c.in_ok-sum.ensures.unit) in
    let is : piece_seconds c.loop-rest.rest.now ≡ Ok c.in_ok-sum.field-0 = search rules in
    let large : end_of_time ≤ c.loop-rest.sum + c.in_ok-sum.field-0 = omega arith in
    sym (sym c.loop-rest.invariant.0 ∙ sum_large c.loop-rest.sum c.in_ok-sum.field-0 c.loop-rest.rest.now some is large)

pub loop-rest-preserved : goal.loop-rest-preserved
loop-rest-preserved c =
    let some : 0 < length c.loop-rest.rest.now = omega (arith, c.in_ok-sum.ensures.unit) in
    let is : piece_seconds c.loop-rest.rest.now ≡ Ok c.in_ok-sum.field-0 = search rules in
    let small : c.loop-rest.sum + c.in_ok-sum.field-0 < end_of_time = omega arith in (
      rw (c.split_at.ensures.back, c.count_digits-digits.ensures)
          (sym (sum_next c.loop-rest.sum c.in_ok-sum.field-0 c.loop-rest.rest.now some is small)
          ∙ c.loop-rest.invariant.0),
      small,
    )
