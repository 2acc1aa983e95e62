-- With which tick the node ends a pod.
use Rattle.std.proofs.Common.{◌≡◌, ◌⊎◌, inl, inr, ℕ, zero, suc, ◌<◌, Bool, List, [], ◌∷◌, ◌++◌}
use Rattle.std.proofs.Common.{length, Option, Some, refl, sym, subst, arith}
use Rattle.std.specs.Prelude.{◌↔◌, IsSomeAnd, IsTrue, slice_get}
use Rattle.histories.specs.rule.Histories.{up_to}
use Rattle.histories.proofs.Lists.{slice_get-old}
use Rattle.pod_state.specs.rule.Pods.{PodTick, says_failed, IsEndedByNode}
use Rattle.pod_state.specs.state.Lifecycles.{EndsWith}

-- it is the same where the tick at the place is
same_there : (evicted : Option ℕ) (h k : List PodTick) (t : ℕ) → slice_get h t ≡ slice_get k t
    → IsEndedByNode evicted h t → IsEndedByNode evicted k t
same_there evicted h k t same is =
    subst (λ (o : Option PodTick). (evicted ≡ Some t) ⊎ IsSomeAnd o (λ tick. IsTrue (says_failed tick))) same is

-- among the ticks up to it
up_to-at : (h : List PodTick) (t : ℕ) → t < length h → slice_get (up_to h t) t ≡ slice_get h t
up_to-at [] t lt = absurd (omega arith)
up_to-at (x ∷ h) zero lt = refl
up_to-at (x ∷ h) (suc t) lt = up_to-at h t (omega arith)

pub ended_up_to : (evicted : Option ℕ) (h : List PodTick) (t : ℕ) → t < length h
    → (IsEndedByNode evicted (up_to h t) t ↔ IsEndedByNode evicted h t)
ended_up_to evicted h t lt =
    let same = up_to-at h t lt in
    (same_there evicted (up_to h t) h t same, same_there evicted h (up_to h t) t (sym same))

-- among one more
pub ended_old : (evicted : Option ℕ) (h : List PodTick) (x : PodTick) (t : ℕ) → t < length h
    → (IsEndedByNode evicted h t ↔ IsEndedByNode evicted (h ++ x ∷ []) t)
ended_old evicted h x t lt =
    let same = slice_get-old h (x ∷ []) t lt in
    (same_there evicted h (h ++ x ∷ []) t (sym same), same_there evicted (h ++ x ∷ []) h t same)

-- the last of these ticks does
pub last_there : (h : List PodTick) (x : PodTick) → slice_get (h ++ x ∷ []) (length h) ≡ Some x
last_there [] x = refl
last_there (y ∷ h) x = last_there h x

pub ended_now : (evicted : Option ℕ) (h : List PodTick) (x : PodTick)
    → (EndsWith evicted h x ↔ IsEndedByNode evicted (h ++ x ∷ []) (length h))
ended_now evicted h x =
    let P : Option PodTick → Type 0 =
    λ o. (evicted ≡ Some (length h)) ⊎ IsSomeAnd o (λ tick. IsTrue (says_failed tick)) in
    (subst P (sym (last_there h x)), subst P (last_there h x))

-- a tick that evicts nobody does where it says so
pub ends_said : (evicted : Option ℕ) (h : List PodTick) (x : PodTick) (says : Bool)
    → (evicted ≡ Some (length h) → ⊥) → says ≡ says_failed x → (IsTrue says ↔ EndsWith evicted h x)
ends_said evicted h x says stays is = (
  (λ t. inr (subst IsTrue is t)),
  (λ ends. elim ends [
    | inl here ↦ absurd (stays here)
    | inr said ↦ subst IsTrue (sym is) said
  ]),
)
