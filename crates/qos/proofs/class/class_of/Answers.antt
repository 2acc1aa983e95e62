use Rattle.std.proofs.lemmas.Bool.{iff_false}
use Rattle.qos.proofs.class.class_of.Goals as goal

pub returns-then-all_guaranteed : goal.returns-then-all_guaranteed
returns-then-all_guaranteed c = c.all_guaranteed.ensures.0 c.if-all_guaranteed.true

pub returns-then-some_has_request_or_limit : goal.returns-then-some_has_request_or_limit
returns-then-some_has_request_or_limit c = (
  iff_false c.all_guaranteed.ensures c.if-all_guaranteed.false,
  c.some_has_request_or_limit.ensures.0 c.if-some_has_request_or_limit.true,
)

pub returns-else-some_has_request_or_limit : goal.returns-else-some_has_request_or_limit
returns-else-some_has_request_or_limit c = (
  iff_false c.all_guaranteed.ensures c.if-all_guaranteed.false,
  iff_false c.some_has_request_or_limit.ensures c.if-some_has_request_or_limit.false,
)
