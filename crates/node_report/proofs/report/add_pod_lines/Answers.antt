use Rattle.std.proofs.Common.{◌≡◌, ◌∙◌, ℕ, List, Option, ap, subst}
use Rattle.manifest.specs.declared.pod.PodSpec.{PodSpec}
use Rattle.pod_piece.specs.declared.order.EvictOrder.{EvictOrder}
use Rattle.pod_piece.specs.rule.Piece.{Piece}
use Rattle.pod_piece.specs.rule.Status.{reason_in, disrupted_at}
use Rattle.pod_piece.specs.state.Status.{IsStatusOf}
use Rattle.node_report.specs.rule.Lines.{pod_text}
use Rattle.node_report.proofs.report.add_pod_lines.Goals as goal

pub returns : goal.returns
returns c = λ config ticks evictions pod is.
    let status = c.status.result.now in
    let shown = subst (λ (p : Piece). IsStatusOf p status) is c.status.ensures in
    let same : c.pod.result.now ≡ pod = c.pod.ensures ∙ ap (λ (p : Piece). p.pod) is in
    let Text : PodSpec → Option EvictOrder → List ℕ =
    λ q o. pod_text c.args.number q status.class status.phase status.conditions (reason_in o status.failure)
    (disrupted_at o status.failure) status.containers.items in
    record {
      lines = Text c.pod.result.now status.order;
      are = record {
        lifecycle = record { phase = status.phase; conditions = status.conditions };
        is_lifecycle = shown.lifecycle;
        containers = status.containers.items;
        are_statuses = shown.containers;
        qos = status.class;
        is_qos = shown.class;
        failure = status.failure;
        is_failure = shown.failure;
        text = ap (λ (q : PodSpec). Text q status.order) same ∙ ap (λ (o : Option EvictOrder). Text pod o) shown.order;
      };
      added = c.in_ok-add_pod_text.ensures;
    }
