use Rattle.std.proofs.Common.{◌≡◌, ◌∙◌, List, ℕ, ◌∷◌, ◌++◌, [], length, ap, sym, subst}
use Rattle.std.proofs.lemmas.List.{map_push}
use Rattle.manifest.specs.declared.pod.ContainerSpec.{ContainerSpec}
use Rattle.manifest.specs.declared.pod.PodSpec.{PodSpec}
use Rattle.following.specs.state.Followed.{HasFollowed}
use Rattle.roster.specs.rule.Roll.{Roll}
use Rattle.trace.specs.state.Pod.{container_counts}
use Rattle.trace.proofs.reading.with_pod.Goals as goal

pub invariant_of-result : goal.invariant_of-result
invariant_of-result c =
    let old = c.so_far.inside in
    let following = c.in_ok-following.following in
    let count = length c.args.pod.containers in
    let pods : c.in_ok-roster.roster.pods ≡ old.roster.pods ++ c.args.pod ∷ [] =
    ap (λ (r : Roll). r.pods) c.in_ok-roster.ensures in
    let counts : container_counts c.in_ok-roster.roster.pods ≡ container_counts old.roster.pods ++ count ∷ [] =
    ap container_counts pods ∙ map_push (λ (p : PodSpec). length p.containers) old.roster.pods c.args.pod in
    let more = c.in_ok-following.ensures old.ticks (container_counts old.roster.pods) c.so_far.invariant in
    let taken = subst (λ (cs : List ContainerSpec). HasFollowed old.ticks
    (container_counts old.roster.pods ++ length cs ∷ []) following) c.as_slice.ensures.same more in
    subst (λ (cs : List ℕ). HasFollowed old.ticks cs following) (sym counts) taken
