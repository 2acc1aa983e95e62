-- The statements of the laws.
use Rattle.std.specs.Prelude.{◌≡◌, ◌≢◌, ◌⊎◌, ◌↔◌, ℕ, ◌<◌, Bool, Option, Some}
use Rattle.std.specs.declared.cmp.Ordering.TheVariants.{Less}
use Rattle.signals.specs.declared.signal.Signal.{Signal}
use Rattle.pod_piece.specs.declared.status.PodStatus.{PodStatus}
use Rattle.ranking.specs.rule.Order.{IsBefore, IsVictim}
use Rattle.ranking.specs.state.Keys.{key_of, rank_cmp}
use Rattle.ranking.specs.state.Index.{AreHeldAfter, AreHeldWithout}

-- the lesser key belongs to the pod that is ranked before the other
abbrev pub LesserKeyIsBefore : Type 0
LesserKeyIsBefore = (signal : Signal) (has_dedicated_imagefs : Bool) (p q : PodStatus)
    → ((rank_cmp (key_of signal has_dedicated_imagefs p) (key_of signal has_dedicated_imagefs q) ≡ Less)
    ↔ IsBefore signal has_dedicated_imagefs p q)

-- of two pods with different numbers one is ranked before the other, and not the other before it; and the
-- order is transitive
pub record OrderIsTotal : Type 0 where
  pub some : (signal : Signal) (has_dedicated_imagefs : Bool) (p q : PodStatus) → p.number ≢ q.number
      → IsBefore signal has_dedicated_imagefs p q ⊎ IsBefore signal has_dedicated_imagefs q p
  pub not_both : (signal : Signal) (has_dedicated_imagefs : Bool) (p q : PodStatus)
      → IsBefore signal has_dedicated_imagefs p q → IsBefore signal has_dedicated_imagefs q p → ⊥
  pub goes_on : (signal : Signal) (has_dedicated_imagefs : Bool) (p q r : PodStatus)
      → IsBefore signal has_dedicated_imagefs p q → IsBefore signal has_dedicated_imagefs q r
      → IsBefore signal has_dedicated_imagefs p r

-- of finitely many pods, each held under its number, one is ranked before all others, if any is held
abbrev pub SomeVictim : Type 0
SomeVictim = (signal : Signal) (has_dedicated_imagefs : Bool) (held : ℕ → Option PodStatus) (count : ℕ)
    → ((n : ℕ) (p : PodStatus) → held n ≡ Some p → (n < count) × (p.number ≡ n))
    → (victim : Option ℕ) × IsVictim signal has_dedicated_imagefs (λ n p. held n ≡ Some p) victim

-- of the pods that are held at most one is ranked before all others
abbrev pub OneVictim : Type 0
OneVictim = (signal : Signal) (has_dedicated_imagefs : Bool) (held : ℕ → Option PodStatus) (one other : Option ℕ)
    → IsVictim signal has_dedicated_imagefs (λ n p. held n ≡ Some p) one
    → IsVictim signal has_dedicated_imagefs (λ n p. held n ≡ Some p) other → one ≡ other

-- what is held after an update exists, and is determined
pub record OneIsHeldAfter : Type 0 where
  pub exists : (moment : ℕ) (held : ℕ → Option PodStatus) (status : PodStatus)
      → (after : ℕ → Option PodStatus) × AreHeldAfter moment held status after
  pub unique : (moment : ℕ) (held : ℕ → Option PodStatus) (status : PodStatus)
      (one other : ℕ → Option PodStatus) → AreHeldAfter moment held status one
      → AreHeldAfter moment held status other → (n : ℕ) → one n ≡ other n

-- what is held after a removal exists, and is determined
pub record OneIsHeldWithout : Type 0 where
  pub exists : (held : ℕ → Option PodStatus) (number : ℕ)
      → (after : ℕ → Option PodStatus) × AreHeldWithout held number after
  pub unique : (held : ℕ → Option PodStatus) (number : ℕ) (one other : ℕ → Option PodStatus)
      → AreHeldWithout held number one → AreHeldWithout held number other → (n : ℕ) → one n ≡ other n
