-- The delay of a number.
use Rattle.std.proofs.Common.{◌<◌, ◌+◌, ◌*◌, ◌≡◌, ℕ, zero, suc, ◌^◌, ◌≤◌, List, [], ◌∷◌, min, refl, ap, ◌∙◌, sym}
use Rattle.std.proofs.Common.{subst, inl, inr, arith}
use Rattle.std.proofs.Math.Nat.{pow-le-pow_right}
use Rattle.std.proofs.lemmas.Bool.{cases_lt}
use Rattle.std.proofs.lemmas.Grind.{pow_more}
use Rattle.std.specs.Prelude.{Contains, map}
use Rattle.restarts.specs.rule.Exits.{Exit}
use Rattle.restarts.specs.rule.Delays.{delay_of, IsDelay}
use Rattle.restarts.specs.state.Counts.{IsCountOf}

-- it does not fall
pub delay_of-rises : (max_restart_delay m n : ℕ) → m ≤ n → delay_of max_restart_delay m ≤ delay_of max_restart_delay n
delay_of-rises max_restart_delay zero n le = omega arith
delay_of-rises max_restart_delay (suc zero) n le = omega arith
delay_of-rises max_restart_delay (suc (suc m)) zero le = absurd (omega arith)
delay_of-rises max_restart_delay (suc (suc m)) (suc zero) le = absurd (omega arith)
delay_of-rises max_restart_delay (suc (suc m)) (suc (suc n)) le =
    let more : 2 ^ m ≤ 2 ^ n = pow-le-pow_right {n = 2} (omega arith) {i = m} {j = n} (omega arith) in omega arith

-- from the second on it doubles, up to the greatest
pub delay_of-doubles : (max_restart_delay n : ℕ) → 0 < delay_of max_restart_delay n
    → delay_of max_restart_delay (n + 1) ≡ min max_restart_delay
    (2 * delay_of max_restart_delay n)
delay_of-doubles max_restart_delay zero some = absurd (omega arith)
delay_of-doubles max_restart_delay (suc zero) some = absurd (omega arith)
delay_of-doubles max_restart_delay (suc (suc n)) some =
    let next : suc (suc n) + 1 ≡ suc (suc (n + 1)) = omega arith in
    let twice : 2 ^ (n + 1) ≡ 2 ^ n * 2 = pow_more 2 n in
    let so : min max_restart_delay (10 * 2 ^ (n + 1))
    ≡ min max_restart_delay (2 * min max_restart_delay (10 * 2 ^ n)) = omega arith in
    ap (delay_of max_restart_delay) next ∙ so

-- from 7 on it is the greatest
delay_of-max_restart_delay : (max_restart_delay n : ℕ) → max_restart_delay ≤ 320 → 7 ≤ n
    → delay_of max_restart_delay n ≡ max_restart_delay
delay_of-max_restart_delay max_restart_delay zero few le = absurd (omega arith)
delay_of-max_restart_delay max_restart_delay (suc zero) few le = absurd (omega arith)
delay_of-max_restart_delay max_restart_delay (suc (suc n)) few le =
    let more : 2 ^ 5 ≤ 2 ^ n = pow-le-pow_right {n = 2} (omega arith) {i = 5} {j = n} (omega arith) in omega arith

-- so counting up to 7 is enough
pub delay_of-counted : (max_restart_delay n : ℕ) → max_restart_delay ≤ 320
    → delay_of max_restart_delay (min n 7) ≡ delay_of max_restart_delay n
delay_of-counted max_restart_delay n few = elim (cases_lt n 7) [
  | inl lt ↦ let e : min n 7 ≡ n = omega arith in ap (delay_of max_restart_delay) e
  | inr ge ↦
      let e : min n 7 ≡ 7 = omega arith in
      ap (delay_of max_restart_delay) e ∙ delay_of-max_restart_delay max_restart_delay 7 few (omega arith)
      ∙ sym (delay_of-max_restart_delay max_restart_delay n few ge)
]

abbrev pub Seven : ℕ → List ℕ
Seven max_restart_delay = 0 ∷ map (min max_restart_delay) (10 ∷ 20 ∷ 40 ∷ 80 ∷ 160 ∷ 300 ∷ [])

-- the delays up to 7
among : (max_restart_delay n : ℕ) → max_restart_delay ≤ 300 → n ≤ 7
    → Contains (Seven max_restart_delay) (delay_of max_restart_delay n)
among max_restart_delay zero few le = (0, omega arith, refl)
among max_restart_delay (suc zero) few le = (0, omega arith, refl)
among max_restart_delay (suc (suc zero)) few le = (1, omega arith, refl)
among max_restart_delay (suc (suc (suc zero))) few le = (2, omega arith, refl)
among max_restart_delay (suc (suc (suc (suc zero)))) few le = (3, omega arith, refl)
among max_restart_delay (suc (suc (suc (suc (suc zero))))) few le = (4, omega arith, refl)
among max_restart_delay (suc (suc (suc (suc (suc (suc zero)))))) few le = (5, omega arith, refl)
among max_restart_delay (suc (suc (suc (suc (suc (suc (suc zero))))))) few le =
    let same : min max_restart_delay 300 ≡ min max_restart_delay 320 = omega arith in (6, omega arith, same)
among max_restart_delay (suc (suc (suc (suc (suc (suc (suc (suc n)))))))) few le = absurd (omega arith)

pub delay_of-among : (max_restart_delay n : ℕ) → max_restart_delay ≤ 300
    → Contains (Seven max_restart_delay) (delay_of max_restart_delay n)
delay_of-among max_restart_delay n few =
    let P : ℕ → Type 0 = λ d. Contains (Seven max_restart_delay) d in
    subst P (delay_of-counted max_restart_delay n (omega arith)) (among max_restart_delay (min n 7) few (omega arith))

-- the delay of the count is that of the exits, on the node with this greatest delay
pub IsDelay-of_count : (kept max_restart_delay : ℕ) (exits : List Exit) (count delay : ℕ) → kept ≤ 300
    → kept ≡ max_restart_delay
    → IsCountOf exits count → delay ≡ delay_of kept count
    → IsDelay max_restart_delay exits delay
IsDelay-of_count kept max_restart_delay exits count delay few same of is = (
  of.0,
  of.1,
  is ∙ ap (delay_of kept) of.2 ∙ delay_of-counted kept of.0 (omega arith) ∙ ap (λ g. delay_of g of.0)
      same,
)
