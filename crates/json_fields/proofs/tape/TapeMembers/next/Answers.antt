use Rattle.json_fields.proofs.OnMembers.{next_is, members_kept, none_left}
use Rattle.json_fields.proofs.tape.TapeMembers.next.Goals as goal
use Rattle.json_fields.proofs.tape.TapeMembers.next.Goals.{in-Some, in-None}

pub invariant_of-result : goal.invariant_of-result
invariant_of-result c =
    (next_is c.self.inside.members c.next.new.self c.in-Some.element c.in-Some.name.now c.self.invariant
    c.in-Some.ensures.value).0

pub invariant_of-self : goal.invariant_of-self
invariant_of-self c =
    members_kept c.self.inside.members c.next.new.self (λ m. (m.0.now, m.1)) c.next.result
    c.self.invariant c.next.ensures.value c.next.ensures.stays

pub returns-clause-value : goal.returns-clause-value
returns-clause-value c =
    rw (← c.self.view_is)
    (elim c.match-next.branch [
      | in-Some w ↦ rw w.result-is
          (next_is c.self.inside.members c.next.new.self w.in-Some.element w.in-Some.name.now c.self.invariant
          w.in-Some.ensures.value).2
      | in-None w ↦ rw w.result-is
          (none_left c.self.inside.members c.next.new.self c.self.invariant w.in-None.ensures.value)
    ])
