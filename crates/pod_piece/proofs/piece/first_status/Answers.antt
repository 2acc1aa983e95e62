use Rattle.std.proofs.Common.{◌≡◌, ◌∙◌, List, [], length, None, true, false, rules, SFits, w32}
use Rattle.std.proofs.Common.{refl, ap, sym, subst, arith}
use Rattle.std.proofs.lemmas.Int.{ints}
use Rattle.pod_state.specs.declared.lifecycle.Lifecycle.{Lifecycle}
use Rattle.pod_state.specs.rule.Lifecycles.{IsLifecycleOf}
use Rattle.pod_piece.specs.declared.status.NewestUsage.{NewestUsage}
use Rattle.manifest.specs.rule.Resources.{Resources}
use Rattle.qos.specs.rule.Resized.{resized}
use Rattle.pod_piece.specs.rule.Resources.{AreResourcesOf}
use Rattle.pod_piece.specs.rule.Status.{requests_of}
use Rattle.pod_piece.specs.rule.Usage.{IsUsageOf}
use Rattle.pod_piece.specs.state.Resources.{first_resources}
use Rattle.pod_piece.proofs.Failures.{by_node, no_failure}
use Rattle.pod_piece.proofs.PieceLemmas.{has_containers}
use Rattle.pod_piece.proofs.ResourceLemmas.{no_resources}
use Rattle.pod_piece.proofs.UsageLemmas.{no_usage}
use Rattle.pod_piece.proofs.piece.first_status.Goals as goal

pub show-requires : goal.show-requires
show-requires c =
    let have = has_containers c.args.pod.now c.args.max_restart_delay None [] c.args.state.now (c.requires None) in
    omega (arith, have, c.in_ok-containers.ensures.len, ap length c.as_slice-count.ensures.same)

pub returns : goal.returns
returns c =
    let pod = c.args.pod.now in
    let is = c.requires None in
    let phase = is.progress.so_far.phase in
    record {
      number_is = refl;
      lifecycle = subst (λ (l : Lifecycle). IsLifecycleOf pod None [] l) (sym c.lifecycle-lifecycle.ensures)
          is.progress.so_far;
      containers = c.show.ensures pod c.args.max_restart_delay None phase.0 [] phase.1
          (by_node pod None [] phase.0 None false refl tt phase.1 (no_failure pod)) is;
      class = c.pod_class.ensures;
      resources = subst (λ (rs : List Resources). AreResourcesOf pod None [] rs)
          (sym (c.in_ok-resources.ensures ∙ ap first_resources c.as_slice.ensures.same)) (no_resources pod None);
      requests = c.of-requests.ensures
          ∙ ap (λ (rs : List Resources). requests_of (resized pod rs)) c.deref.ensures.value;
      usage = subst (λ (u : NewestUsage). IsUsageOf pod None [] u) (sym c.nothing.ensures) (no_usage pod None);
      priority = let fits : SFits w32 c.args.pod.now.priority = search rules in omega (arith, ints);
      spared = refl;
      order = refl;
      failure = no_failure pod;
    }
