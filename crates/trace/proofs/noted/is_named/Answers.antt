use Rattle.std.proofs.Common.{◌∙◌, List, ℕ, ap, bytes_eq}
use Rattle.trace.proofs.NamedContainers.{named_at, none_at}
use Rattle.trace.proofs.noted.is_named.Goals as goal

pub returns-in-Some : goal.returns-in-Some
returns-in-Some c =
    named_at c.args.pod.now.containers c.as_slice.result.now c.args.name.now c.args.number c.in-Some.container.now
    c.eq.result c.as_slice.ensures.containers c.as_slice.ensures.same c.in-Some.ensures.lookup.3.0
    c.in-Some.ensures.lookup.1
    (c.eq.ensures ∙ ap (λ (name : List ℕ). bytes_eq c.args.name.now name) c.as_str.ensures)

pub returns-in-None : goal.returns-in-None
returns-in-None c =
    none_at c.args.pod.now.containers c.as_slice.result.now c.args.name.now c.args.number c.as_slice.ensures.same
    c.in-None.ensures.lookup.3
