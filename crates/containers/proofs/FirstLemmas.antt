-- A container that no tick has shown yet.
use Rattle.std.proofs.Common.{◌≡◌, inl, inr, ℕ, ◌<◌, false, [], arith}
use Rattle.std.specs.Prelude.{IsTrue, Contains}
use Rattle.manifest.specs.declared.pod.ContainerSpec.{ContainerSpec}
use Rattle.manifest.specs.declared.pod.Role.{Role}
use Rattle.state_diff.specs.declared.differ.Differ.{Differ}
use Rattle.state_diff.specs.rule.Instances.{IsExit}
use Rattle.state_diff.specs.state.Differ.{IsStateOf as IsDifferOf}
use Rattle.probes.specs.declared.probe_set.ProbeSet.{ProbeSet}
use Rattle.probes.specs.state.ProbeSet.{Follows}
use Rattle.restarts.specs.declared.backoff.Backoff.{Backoff}
use Rattle.restarts.specs.state.Backoff.{IsStateOf as IsBackoffOf}
use Rattle.containers.specs.rule.Exits.{AreExits}
use Rattle.containers.specs.state.Container.{IsStateOf}

none_yet : (a t : ℕ) → IsExit [] a t → ⊥
none_yet a t e = elim (e.holds) [ inl q ↦ q | inr w ↦ let lt : t < 0 = w.0 in omega arith ]

no_exits : AreExits [] []
no_exits = record {
  attempts = [];
  in_order = λ i j a b lt e f. cc;
  all = λ a. (
    (λ c. let w : Contains [] a = c in absurd (let lt : w.0 < 0 = w.1 in omega arith)),
    (λ w. absurd (none_yet a w.0 w.1)),
  );
  each = tt;
}

pub first_is : (spec : ContainerSpec) (max_restart_delay : ℕ) (role : Role) (differ : Differ) (probes : ProbeSet)
    (backoff : Backoff)
    → role ≡ spec.role → IsDifferOf [] differ → Follows probes spec.probes → IsBackoffOf max_restart_delay [] backoff
    → IsStateOf spec max_restart_delay []
    (record { role = role; differ = differ; probes = probes; backoff = backoff; was_started = false })
first_is spec max_restart_delay role differ probes backoff same is follows backs = record {
  role = same;
  rising = λ t u m n lt e f. cc;
  differ = is;
  follows = follows;
  probed = λ a start newest starts. absurd (newest.listed.1);
  exits = [];
  are_exits = no_exits;
  backoff = backs;
  was_started = (
    (λ e. absurd (let x : IsTrue false = e in cc)),
    (λ w. let lt : w.0 < 0 = w.1.within in
        absurd (omega arith)),
  );
}
