-- The delay by doublings and the maximum.
use Rattle.std.proofs.Common.{◌≡◌, ◌∙◌, inl, inr, ℕ, zero, suc, ◌*◌, ◌^◌, ◌<◌, ◌≤◌, Bool, true, false, List, Some, None}
use Rattle.std.proofs.Common.{min, nat_lt, refl, ap, sym, subst, arith}
use Rattle.std.specs.Prelude.{if◌then◌else◌, unwrap_or}
use Rattle.std.proofs.Math.Nat.{pow-le-pow_right}
use Rattle.std.proofs.lemmas.Bool.{ltb-true, ltb-false}
use Rattle.restarts.specs.rule.Exits.{Exit}
use Rattle.restarts.specs.rule.Delays.{delay_of, IsDelay}
use Rattle.restart_causes.specs.declared.exit_count.ExitCount.{ExitCount}
use Rattle.restart_causes.specs.rule.ExitCounts.{IsExitCount, doublings_of, delay_by, cap_of}

capped : (greatest delay : ℕ) (b : Bool) → nat_lt greatest delay ≡ b
    → min greatest delay ≡ unwrap_or (if b then Some greatest else None) delay
capped greatest delay true less = let lt : greatest < delay = ltb-true greatest delay less in omega arith
capped greatest delay false less = let le : delay ≤ greatest = ltb-false greatest delay less in omega arith

pub same_delay : (greatest number : ℕ) → delay_of greatest number ≡ delay_by greatest (doublings_of number)
same_delay greatest zero = refl
same_delay greatest (suc zero) = refl
same_delay greatest (suc (suc n)) = capped greatest (10 * 2 ^ n) (nat_lt greatest (10 * 2 ^ n)) refl

pub delay_follows : (greatest : ℕ) (attempts : List ℕ) (exits : List Exit) (count : ExitCount)
    → IsExitCount attempts exits count → IsDelay greatest exits (delay_by greatest (doublings_of count.number))
delay_follows greatest attempts exits count is = (
  count.number,
  record { start = is.start; beginning = is.beginning; counted = is.counted },
  sym (same_delay greatest count.number),
)

-- so often doubled, 10 s are more than any maximum
pub far_doubled : (greatest n : ℕ) → greatest ≤ 300 → 5 ≤ n → greatest < 10 * 2 ^ n
far_doubled greatest n few le =
    let more : 2 ^ 5 ≤ 2 ^ n = pow-le-pow_right {n = 2} (omega arith) {i = 5} {j = n} (omega arith) in omega arith
