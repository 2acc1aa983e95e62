use Rattle.std.proofs.Common.{Some, None}
use Rattle.json_fields.proofs.OnTape.{is_next, items_kept, next_item}
use Rattle.json_fields.proofs.tape.TapeItems.next.Goals as goal
use Rattle.json_fields.proofs.tape.TapeItems.next.Goals.{in-Some, in-None}

pub invariant_of-result : goal.invariant_of-result
invariant_of-result c =
    (is_next c.self.inside.items c.next.new.self c.in-Some.element c.self.invariant c.in-Some.ensures.value).0

pub invariant_of-self : goal.invariant_of-self
invariant_of-self c =
    items_kept c.self.inside.items c.next.new.self c.next.result c.self.invariant c.next.ensures.value
    c.next.ensures.stays

pub returns-clause-value : goal.returns-clause-value
returns-clause-value c =
    rw (← c.self.view_is)
    (elim c.match-next.branch [
      | in-Some w ↦ rw w.result-is
          (next_item c.self.inside.items c.next.new.self (Some w.in-Some.element) c.self.invariant
          w.in-Some.ensures.value)
      | in-None w ↦ rw w.result-is
          (next_item c.self.inside.items c.next.new.self None c.self.invariant w.in-None.ensures.value)
    ])
