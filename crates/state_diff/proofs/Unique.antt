-- There is one newest attempt, and of an instance one state and one exit code.
use Rattle.std.proofs.Common.{◌≡◌, inl, inr, ℕ, ℤ, ◌≤◌, List, Option, Some, None, subst, sym, ◌∙◌, arith}
use Rattle.std.specs.Prelude.{IsSomeAnd}
use Rattle.histories.proofs.First.{IsFirst-unique}
use Rattle.state_diff.specs.declared.seen.Seen.{Seen}
use Rattle.state_diff.specs.declared.seen.CriState.{CriState}
use Rattle.state_diff.specs.declared.seen.CriState.TheVariants.{Running}
use Rattle.state_diff.specs.rule.Instances.{Tick, seen_at, IsOf, ListedAs, IsNewest, IsState, IsCodeAt, IsExitCode}
use Rattle.state_diff.specs.rule.Instances.{Ends}
use Rattle.state_diff.specs.state.Laws.{OneOfEach}
use Rattle.state_diff.proofs.Steps.{IsEffective-unique}

pub IsNewest-unique : (h : List Tick) (a b : ℕ) → IsNewest h a → IsNewest h b → a ≡ b
IsNewest-unique h a b n m =
    let x : a ≤ b = m.greatest a n.listed.0 n.listed.1 in
    let y : b ≤ a = n.greatest b m.listed.0 m.listed.1 in
    omega arith

pub IsState-unique : (h : List Tick) (a : ℕ) (s s' : CriState) → IsState h a s → IsState h a s' → s ≡ s'
IsState-unique h a s s' (inl w) (inl v) = w.1 ∙ sym v.1
IsState-unique h a s s' (inl w) (inr v) = absurd (v.0 w.0.0 w.0.1)
IsState-unique h a s s' (inr w) (inl v) = absurd (w.0 v.0.0 v.0.1)
IsState-unique h a s s' (inr w) (inr v) = IsEffective-unique h a s s' w.1 v.1

one_code : (a : ℕ) (k k' : ℤ) (o : Option Seen) → IsSomeAnd o (λ seen. (seen.attempt ≡ a) × (seen.code ≡ Some k))
    → IsSomeAnd o (λ seen. (seen.attempt ≡ a) × (seen.code ≡ Some k')) → k ≡ k'
one_code a k k' None q r = absurd q
one_code a k k' (Some s) q r = let e : Some k ≡ Some k' = sym q.1 ∙ r.1 in cc

pub of_coded : (a : ℕ) (k : ℤ) (o : Option Seen) → IsSomeAnd o (λ seen. (seen.attempt ≡ a) × (seen.code ≡ Some k))
    → IsSomeAnd o (IsOf a)
of_coded a k None q = q
of_coded a k (Some s) q = q.0

pub IsCodeAt-unique : (h : List Tick) (a : ℕ) (k k' : ℤ) (t : ℕ) → IsCodeAt h a k t → IsCodeAt h a k' t → k ≡ k'
IsCodeAt-unique h a k k' t (inl q) (inl r) = one_code a k k' (seen_at h t) q r
IsCodeAt-unique h a k k' t (inl q) (inr r) = absurd (r.0 (of_coded a k (seen_at h t) q))
IsCodeAt-unique h a k k' t (inr q) (inl r) = absurd (q.0 (of_coded a k' (seen_at h t) r))
IsCodeAt-unique h a k k' t (inr q) (inr r) = q.1 ∙ sym r.1

pub IsExitCode-unique : (h : List Tick) (a : ℕ) (k k' : ℤ) → IsExitCode h a k → IsExitCode h a k' → k ≡ k'
IsExitCode-unique h a k k' (t, e, c) (u, f, d) =
    let same : t ≡ u = IsFirst-unique (Ends h a) t u e f in
    let P : ℕ → Type 0 = λ v. IsCodeAt h a k v in
    IsCodeAt-unique h a k k' u (subst P same c) d

pub one_of_each : OneOfEach
one_of_each = record {
  newest = IsNewest-unique;
  start = λ h a t u. IsFirst-unique (ListedAs h a Running) t u;
  exit = λ h a t u. IsFirst-unique (Ends h a) t u;
  code = IsExitCode-unique;
  state = IsState-unique;
}
