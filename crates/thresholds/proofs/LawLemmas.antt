-- The laws of thresholds.
use Rattle.std.proofs.Common.{◌≡◌, ◌⊎◌, inl, inr, ℕ, ◌+◌, ◌-◌, ◌<◌, List, [], ◌∷◌, ◌++◌, length, Option, Some, None}
use Rattle.std.proofs.Common.{refl, subst, sym, append_assoc, append-nil, arith}
use Rattle.std.specs.Option.{option_or}
use Rattle.histories.specs.rule.Histories.{moment_at}
use Rattle.histories.proofs.Places.{entry_at-below}
use Rattle.thresholds.specs.rule.Samples.{Sample, IsBelow, IsBelowAt}
use Rattle.thresholds.specs.rule.Thresholds.{IsActive, IsActiveSince, IsDue}
use Rattle.thresholds.specs.state.Laws.{DueIsActive, HardIsDueWhenActive, NoReclaimIsBelowNow, ActiveGoesOn}
use Rattle.thresholds.specs.state.Laws.{OneActiveSince}
use Rattle.thresholds.proofs.Active.{active_more, active_or_not, none_active}
use Rattle.thresholds.proofs.Since.{since_goes_on, since_none, since_some, since_unique}

pub due_is_active : DueIsActive
due_is_active limit reclaim grace h due = due.active

-- since when, after the samples that follow
since_after : (limit reclaim : ℕ) (later h : List Sample) (since : Option ℕ) → IsActiveSince limit reclaim h since
    → IsActive limit reclaim h ⊎ (IsActive limit reclaim h → ⊥)
    → (o : Option ℕ) × IsActiveSince limit reclaim (h ++ later) o
since_after limit reclaim [] h since is or = let P : List Sample → Type 0 = λ k. IsActiveSince limit reclaim k since
    in (since, subst P (sym (append-nil h)) is)
since_after limit reclaim (x ∷ later) h since is or =
    let P : List Sample → Type 0 = λ k. (o : Option ℕ) × IsActiveSince limit reclaim k o in
    let next = active_or_not limit reclaim x.moment x.entry h or in
    subst P (append_assoc h (x ∷ []) later) (elim next [
      | inl on ↦ since_after limit reclaim later (h ++ x ∷ []) (option_or since (Some x.moment))
          (since_goes_on limit reclaim h x since on is) (inl on)
      | inr off ↦ since_after limit reclaim later (h ++ x ∷ []) None (since_none limit reclaim (h ++ x ∷ []) off)
          (inr off)
    ])

since_of : (limit reclaim : ℕ) (h : List Sample) → (o : Option ℕ) × IsActiveSince limit reclaim h o
since_of limit reclaim h = since_after limit reclaim h [] None
    (since_none limit reclaim [] (none_active limit reclaim)) (inr (none_active limit reclaim))

-- a list of samples has a last moment, if it has a sample
moment_of : (y : Sample) (h : List Sample) → (m : ℕ) × (moment_at (y ∷ h) (length h) ≡ Some m)
moment_of y [] = (y.moment, refl)
moment_of y (z ∷ h) = moment_of z h

due_at_once : (limit reclaim : ℕ) (h : List Sample) → IsActive limit reclaim h → IsDue limit reclaim 0 h
due_at_once limit reclaim [] a = absurd (none_active limit reclaim a)
due_at_once limit reclaim (y ∷ h) a =
    let since = since_of limit reclaim (y ∷ h) in
    let last = moment_of y h in
    let e : length h ≡ length (y ∷ h) - 1 = omega arith in
    let P : ℕ → Type 0 = λ k. moment_at (y ∷ h) k ≡ Some last.0 in
    from since.0 since.1 last.0 (subst P e last.1)
  where
    from : (o : Option ℕ) → IsActiveSince limit reclaim (y ∷ h) o → (m : ℕ)
        → moment_at (y ∷ h) (length (y ∷ h) - 1) ≡ Some m → IsDue limit reclaim 0 (y ∷ h)
    from None is m now = absurd (let e = (since_some limit reclaim (y ∷ h) None is).1 a in cc)
    from (Some since) is m now = record {
      active = a;
      since = since;
      is_since = is;
      now = m;
      is_now = now;
      passed = omega arith;
    }

pub hard_is_due_when_active : HardIsDueWhenActive
hard_is_due_when_active limit reclaim h = ((λ due. due.active), due_at_once limit reclaim h)

pub no_reclaim_is_below_now : NoReclaimIsBelowNow
no_reclaim_is_below_now limit h = (
  (λ a.
      let within : a.place < length h = entry_at-below (IsBelow limit) h a.place a.below in
      let P : ℕ → Type 0 = λ k. IsBelowAt h k (length h - 1) in
      let e : limit + 0 ≡ limit = omega arith in
      subst P e (a.not_cleared (length h - 1) (omega arith) (omega arith))),
  (λ b.
      let within : length h - 1 < length h = entry_at-below (IsBelow limit) h (length h - 1) b in
      record {
        place = length h - 1;
        below = b;
        not_cleared = λ t le lt.
            let same : length h - 1 ≡ t = omega arith in
            let e : limit ≡ limit + 0 = omega arith in
            let P : ℕ → Type 0 = λ k. IsBelowAt h k t in
            let Q : ℕ → Type 0 = λ k. IsBelowAt h limit k in
            subst P e (subst Q same b);
      }),
)

pub active_goes_on : ActiveGoesOn
active_goes_on limit reclaim at value h = active_more limit reclaim at value h

pub one_active_since : OneActiveSince
one_active_since = record {
  exists = since_of;
  unique = since_unique;
  some = since_some;
}
