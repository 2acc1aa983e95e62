use Rattle.std.proofs.Common.{◌∙◌, sym}
use Rattle.trace.proofs.NotedPods.{shown_earlier, shown_noted}
use Rattle.trace.proofs.slots.note_pod.Goals as goal

pub returns-then-is_some-clause-earlier : goal.returns-then-is_some-clause-earlier
returns-then-is_some-clause-earlier c = λ at es ps is lt.
    shown_earlier at es ps c.args.slots.now c.args.number _ _ is lt (sym c.if-is_some.true ∙ c.is_some.ensures)

pub returns-clause-earlier : goal.returns-clause-earlier
returns-clause-earlier c = λ at es ps is lt.
    shown_earlier at es ps c.args.slots.now c.args.number _ _ is lt (sym c.if-is_some.false ∙ c.is_some.ensures)

pub returns-clause-noted : goal.returns-clause-noted
returns-clause-noted c = λ at es ps e p is here pod says new.
    shown_noted at es ps e p c.args.slots.now c.args.number c.args.shown _ is here pod says
    (sym c.if-is_some.false ∙ c.is_some.ensures)
