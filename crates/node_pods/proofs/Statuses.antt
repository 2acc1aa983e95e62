-- The statuses of a piece, and of one that was evicted.
use Rattle.std.proofs.Common.{◌≡◌, ◌∙◌, inl, inr, ℕ, suc, ◌-◌, ◌<◌, List, [], length, Option}
use Rattle.std.proofs.Common.{Some, None, refl, ap, sym, subst, arith}
use Rattle.std.proofs.lemmas.List.{take_all}
use Rattle.histories.specs.rule.Histories.{last_moment, up_to, HoldsAt}
use Rattle.histories.proofs.Places.{moment_at-below}
use Rattle.manifest.specs.declared.pod.PodSpec.{PodSpec}
use Rattle.manifest.specs.rule.Resources.{Resources}
use Rattle.observations.specs.declared.usage.Usage.{Usage}
use Rattle.phase.specs.rule.RawPhase.{IsTerminal}
use Rattle.qos.specs.rule.Resized.{resized}
use Rattle.pod_state.specs.rule.Pods.{PodTick, EndsPod, IsPhase}
use Rattle.pod_state.proofs.EndLemmas.{IsPhase-unique, end_terminal, ended_is}
use Rattle.pod_piece.specs.declared.order.EvictOrder.{EvictOrder}
use Rattle.pod_piece.specs.declared.status.PodStatus.{PodStatus}
use Rattle.pod_piece.specs.rule.Piece.{Piece, ticks}
use Rattle.pod_piece.specs.rule.Status.{requests_of}
use Rattle.pod_piece.specs.state.Piece.{evicted_at, new_piece, with_eviction}
use Rattle.pod_piece.specs.state.Status.{IsStatusOf}
use Rattle.pod_piece.proofs.Waiting.{ticks_free}
use Rattle.pod_piece.proofs.ResourceLemmas.{one_resources}
use Rattle.pod_piece.proofs.UsageLemmas.{one_usage}
use Rattle.ranking.proofs.LawLemmas.{RankAlike}
use Rattle.node_pods.specs.state.Laws.{AreAlike}

abbrev made : (memory volumes logs writable inodes pids : Option ℕ) → Usage
made memory volumes logs writable inodes pids =
    record { memory = memory; volumes = volumes; logs = logs; writable = writable; inodes = inodes; pids = pids }

-- two statuses of a piece
pub alike : (piece : Piece) (p q : PodStatus) → IsStatusOf piece p → IsStatusOf piece q → AreAlike p q
alike piece p q a b = record {
  number = a.number_is ∙ sym b.number_is;
  phase = IsPhase-unique piece.pod (evicted_at piece) (ticks piece) p.phase q.phase
      a.lifecycle.phase b.lifecycle.phase;
  requests = a.requests
      ∙ ap (λ (rs : List Resources). requests_of (resized piece.pod rs))
      (one_resources piece.pod (evicted_at piece) (ticks piece) p.resources.items q.resources.items
      a.resources b.resources)
      ∙ sym b.requests;
  usage = one_usage piece.pod (evicted_at piece) (ticks piece) p.usage q.usage a.usage b.usage;
  priority = a.priority ∙ sym b.priority;
}

pub rank_alike : (piece : Piece) (p q : PodStatus) → IsStatusOf piece p → IsStatusOf piece q → RankAlike p q
rank_alike piece p q a b =
    let are = alike piece p q a b in
    record { usage = are.usage; requests = are.requests; priority = are.priority; number = are.number }

-- a pod that nothing was handed to has not ended
pub new_lives : (n : ℕ) (pod : PodSpec) (max_restart_delay : ℕ) (p : PodStatus)
    → IsStatusOf (new_piece n pod max_restart_delay) p
    → IsTerminal p.phase → ⊥
new_lives n pod max_restart_delay p is ended =
    let end = (ended_is pod None [] p.phase is.lifecycle.phase).0 ended in
    let within : end.0 < 0 = end.1.holds.within in
    absurd (omega arith)

-- the last of some ticks is one at which the pod is evicted
ends_last : (pod : PodSpec) (h : List PodTick) → 0 < length h
    → HoldsAt (EndsPod pod (Some (length h - 1))) h (length h - 1)
ends_last pod h some =
    let n = length h - 1 in
    let whole : up_to h n ≡ h = take_all (suc n) h (omega (arith, some)) in
    let P : List PodTick → Type 0 = λ k. EndsPod pod (Some n) k in
    let long : length h ≡ suc n = omega (arith, some) in
    record { within = omega (arith, some); so = subst P (sym whole) (inr (n, long, inl refl)) }

phase_of_ended : (pod : PodSpec) (evicted : Option ℕ) (h : List PodTick) (p : PodStatus) (t : ℕ)
    → HoldsAt (EndsPod pod evicted) h t → IsPhase pod evicted h p.phase → IsTerminal p.phase
phase_of_ended pod evicted h p t ends (None, none, by) = absurd (none t ends)
phase_of_ended pod evicted h p t ends (Some u, end, by) =
    end_terminal pod evicted h p.phase u (Some u, end, by) end

-- the phase of a pod that was evicted by its last tick
pub evicted_ended : (piece : Piece) (order : EvictOrder) (m : ℕ) (p : PodStatus) → piece.waiting ≡ 0
    → last_moment piece.handed ≡ Some m → IsStatusOf (with_eviction piece order) p → IsTerminal p.phase
evicted_ended piece order m p free last is =
    let h = piece.handed in
    let lt : length h - 1 < length h = moment_at-below h (length h - 1) m last in
    let P : List PodTick → Type 0 = λ k. IsPhase piece.pod (Some (length h - 1)) k p.phase in
    phase_of_ended piece.pod (Some (length h - 1)) h p (length h - 1) (ends_last piece.pod h (omega (arith, lt)))
    (subst P (ticks_free (with_eviction piece order) free) is.lifecycle.phase)
