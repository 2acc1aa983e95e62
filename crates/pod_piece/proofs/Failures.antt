-- How the node has ended a pod, after one more tick; and whether it has.
use Rattle.std.proofs.Common.{◌≡◌, ◌∙◌, ◌⊎◌, inl, inr, ℕ, ◌<◌, Bool, true, false, List, [], ◌∷◌, ◌++◌, length, Option}
use Rattle.std.proofs.Common.{Some, None, refl, ap, sym, subst, arith}
use Rattle.std.specs.Prelude.{◌↔◌, ◌||◌, IsTrue, IsSome, IsSomeAnd, is_some, IfSome, not, option_map, option_and_then}
use Rattle.std.specs.Prelude.{if◌then◌else◌, slice_get}
use Rattle.std.proofs.lemmas.Bool.{cases_Bool}
use Rattle.histories.proofs.Decide.{OrNot}
use Rattle.histories.proofs.Lists.{slice_get-old}
use Rattle.phase.specs.rule.RawPhase.{IsTerminal}
use Rattle.phase.proofs.DecideLemmas.{terminal_cases}
use Rattle.manifest.specs.declared.pod.PodSpec.{PodSpec}
use Rattle.pod_state.specs.rule.Pods.{PodTick, IsEnd, HasEnded, EndsByNode, IsEndedByNode, says_failed}
use Rattle.pod_state.proofs.EndLemmas.{IsEnd-unique, IsPhase-unique, end_old, end_new, end_last}
use Rattle.pod_state.proofs.FoundLemmas.{some_end, place_or_not}
use Rattle.pod_state.proofs.NodeEnds.{last_there}
use Rattle.pod_piece.specs.declared.piece.EvictionRecord.{EvictionRecord}
use Rattle.pod_piece.specs.declared.status.PodFailure.{PodFailure}
use Rattle.pod_piece.specs.rule.Piece.{place_of}
use Rattle.pod_piece.specs.declared.status.PodStatus.{PodStatus}
use Rattle.pod_piece.specs.rule.Status.{failure_in, failure_at, IsFailure, MayBeEvicted, IsStatusAfter}

-- there is one
pub one_failure : (pod : PodSpec) (eviction : Option EvictionRecord) (h : List PodTick) (p q : Option PodFailure)
    → IsFailure pod eviction h p → IsFailure pod eviction h q → p ≡ q
one_failure pod (Some e) h p q is was = is ∙ sym was
one_failure pod None h p q is was =
    is.2 ∙ ap (option_and_then (failure_at h)) (IsEnd-unique pod None h is.0 was.0 is.1 was.1) ∙ sym was.2

pub some_failure : (pod : PodSpec) (eviction : Option EvictionRecord) (h : List PodTick)
    → (failure : Option PodFailure) × IsFailure pod eviction h failure
some_failure pod (Some e) h = (None, refl)
some_failure pod None h =
    let end = some_end pod None h in (option_and_then (failure_at h) end.0, (end.0, end.1, refl))

-- of a pod that no tick has shown
pub no_failure : (pod : PodSpec) → IsFailure pod None [] None
no_failure pod = (None, (λ t s. let lt : t < 0 = s.within in absurd (omega arith)), refl)

-- for this reason at a moment
abbrev failed : ℕ → List ℕ → PodFailure
failed at reason = record { at = at; reason = reason }

-- a tick that doesn't end the pod says nothing of it
unsaid : (x : PodTick) → (IsTrue (says_failed x) → ⊥) → failure_in x ≡ None
unsaid x silent = by x.entry.words.failed silent
  where
    by : (o : Option (List ℕ)) → (IsTrue (is_some o) → ⊥)
        → option_map (failed x.moment) o ≡ None
    by None silent = refl
    by (Some reason) silent = absurd (silent refl)

-- after one more tick of a pod that had ended, and of one that had not
failure_ended : (pod : PodSpec) (h : List PodTick) (x : PodTick) (failure : Option PodFailure)
    → HasEnded pod None h → IsFailure pod None h failure → IsFailure pod None (h ++ x ∷ []) failure
failure_ended pod h x failure ended is =
    let t = ended.0 in
    let lt : t < length h = ended.1.holds.within in (
      Some t,
      end_old pod None h x t ended.1,
      is.2 ∙ ap (option_and_then (failure_at h)) (IsEnd-unique pod None h is.0 (Some t) is.1 ended.1)
          ∙ ap (option_and_then failure_in) (sym (slice_get-old h (x ∷ []) t lt)),
    )

failure_lives : (pod : PodSpec) (end : Option ℕ) (h : List PodTick) (x : PodTick)
    → IsEnd pod None h None → IsEnd pod None (h ++ x ∷ []) end → IsFailure pod None (h ++ x ∷ []) (failure_in x)
failure_lives pod None h x none now = (None, now, unsaid x (λ says. end_last pod None h x now (inr says)))
failure_lives pod (Some t) h x none now =
    let here : t ≡ length h = end_new pod None h x t none now in (
      Some t,
      now,
      ap (option_and_then failure_in) (sym (last_there h x))
          ∙ ap (failure_at (h ++ x ∷ [])) (sym here),
    )

pub failure_more : (pod : PodSpec) (eviction : Option EvictionRecord) (end : Option ℕ) (h : List PodTick) (x : PodTick)
    (failure : Option PodFailure) (ended : Bool) → IfSome (place_of eviction) (λ place. HasEnded pod (Some place) h)
    → IsFailure pod eviction h failure → (IsTrue ended ↔ HasEnded pod (place_of eviction) h)
    → IsEnd pod (place_of eviction) (h ++ x ∷ []) end
    → IsFailure pod eviction (h ++ x ∷ []) (if not ended then failure_in x else failure)
failure_more pod (Some e) end h x failure true over is says now = is
failure_more pod (Some e) end h x failure false over is says now =
    absurd (let w : IsTrue false = says.1 over in cc)
failure_more pod None end h x failure true over is says now = failure_ended pod h x failure (says.0 refl) is
failure_more pod None end h x failure false over is says now =
    failure_lives pod end h x (still is.0 is.1) now
  where
    still : (o : Option ℕ) → IsEnd pod None h o → IsEnd pod None h None
    still None e = e
    still (Some t) e = absurd (let w : IsTrue false = says.1 (t, e) in cc)

-- whether the node has ended the pod
tick_says : (h : List PodTick) (t : ℕ) → (IsSome (failure_at h t) ↔ IsEndedByNode None h t)
tick_says h t = by (slice_get h t)
  where
    said : (at : ℕ) (o : Option (List ℕ)) → (IsSome (option_map (failed at) o) ↔ IsTrue (is_some o))
    said at None = ((λ w. w), (λ w. w))
    said at (Some reason) = ((λ w. refl), (λ w. refl))

    by : (o : Option PodTick) → (IsSome (option_and_then failure_in o)
        ↔ ((None ≡ Some t) ⊎ IsSomeAnd o (λ tick. IsTrue (says_failed tick))))
    by None = (
      (λ w. let v : false ≡ true = w in absurd (cc)),
      (λ w. elim w [ inl e ↦ absurd (cc) | inr v ↦ absurd v ]),
    )
    by (Some x) = (
      (λ w. inr ((said x.moment x.entry.words.failed).0 w)),
      (λ w. elim w [ inl e ↦ absurd (cc) | inr v ↦ (said x.moment x.entry.words.failed).1 v ]),
    )

pub by_node : (pod : PodSpec) (eviction : Option EvictionRecord) (h : List PodTick) (end : Option ℕ)
    (failure : Option PodFailure) (b : Bool) → b ≡ (is_some eviction || is_some failure)
    → IfSome (place_of eviction) (λ place. end ≡ Some place) → IsEnd pod (place_of eviction) h end
    → IsFailure pod eviction h failure → (IsTrue b ↔ EndsByNode (place_of eviction) h end)
by_node pod (Some e) h end failure b is ends now fails = (
  (λ t. subst (EndsByNode (Some e.place) h) (sym ends) (inl refl)),
  (λ w. is),
)
by_node pod None h end failure b is ends now fails =
    let same : failure ≡ option_and_then (failure_at h) end =
    fails.2 ∙ ap (option_and_then (failure_at h)) (IsEnd-unique pod None h fails.0 end fails.1 now) in
    let whole : b ≡ is_some (option_and_then (failure_at h) end) =
    is ∙ ap (λ (o : Option PodFailure). is_some o) same in
    let of_end = by end in (
      (λ t. of_end.0 (sym whole ∙ t)),
      (λ w. whole ∙ of_end.1 w),
    )
  where
    by : (o : Option ℕ) → (IsTrue (is_some (option_and_then (failure_at h) o)) ↔ EndsByNode None h o)
    by None = ((λ w. let v : false ≡ true = w in absurd (cc)), (λ w. absurd w))
    by (Some t) = tick_says h t

-- a tick of the moment may evict the pod, or not
pub may_or_not : (at : ℕ) (status : PodStatus) → OrNot (MayBeEvicted at status)
may_or_not at status = elim (cases_Bool status.spared) [
  | inl spared ↦ inr (λ may. absurd (let w : true ≡ false = sym spared ∙ may.not_spared in cc))
  | inr not ↦ elim (terminal_cases status.phase) [
    | inl ended ↦ elim (place_or_not (option_map (λ (f : PodFailure). f.at) status.failure) at) [
      | inl says ↦ inl (record { not_spared = not; lives = λ t. says })
      | inr silent ↦ inr (λ may. silent (may.lives ended))
    ]
    | inr lives ↦ inl (record { not_spared = not; lives = λ t. absurd (lives t) })
  ]
]

-- two statuses of a pod are one in this
pub may_by : (number : ℕ) (pod : PodSpec) (eviction : Option EvictionRecord) (h : List PodTick) (p q : PodStatus)
    (at : ℕ) → IsStatusAfter number pod eviction h p → IsStatusAfter number pod eviction h q → MayBeEvicted at p
    → MayBeEvicted at q
may_by number pod eviction h p q at is was may = record {
  not_spared = was.spared ∙ sym is.spared ∙ may.not_spared;
  lives = λ ended.
      let phase = IsPhase-unique pod (place_of eviction) h q.phase p.phase was.lifecycle.phase is.lifecycle.phase in
      let failure = one_failure pod eviction h q.failure p.failure was.failure is.failure in
      ap (option_map (λ (f : PodFailure). f.at)) failure ∙ may.lives (subst IsTerminal phase ended);
}
