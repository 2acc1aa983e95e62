-- The number of the last exit.
use Rattle.std.proofs.Common.{◌≡◌, inl, inr, ℕ, ◌+◌, ◌<◌, ◌≤◌, List, [], ◌∷◌, ◌++◌, length, refl, sym, subst}
use Rattle.std.proofs.Common.{append_assoc, append-nil, arith, length-append}
use Rattle.std.proofs.lemmas.Bool.{cases_lt}
use Rattle.restarts.specs.rule.Exits.{Exit, IsNumber}
use Rattle.restarts.proofs.Places.{beginning_short, beginning_long, beginning_unique, beginning_forgets}
use Rattle.restarts.proofs.Places.{beginning_remembers}

pub number_none : IsNumber [] 0
number_none = record { start = 0; beginning = inr (refl, λ t long. long); counted = refl }

-- after a short run the number is one more
pub number_short : (exits : List Exit) (last : Exit) (n : ℕ) → last.entry < 600 → IsNumber exits n
    → IsNumber (exits ++ last ∷ []) (n + 1)
number_short exits last n short num = record {
  start = num.start;
  beginning = beginning_short exits last num.start short num.beginning;
  counted = let so : num.start + n ≡ length exits = num.counted in omega (arith, length-append exits (last ∷ []));
}

-- after a long run it is 1
pub number_long : (exits : List Exit) (last : Exit) → 600 ≤ last.entry → IsNumber (exits ++ last ∷ []) 1
number_long exits last long = record {
  start = length exits;
  beginning = beginning_long exits last long;
  counted = omega (arith, length-append exits (last ∷ []));
}

-- there is one number
pub number_unique : (exits : List Exit) (m n : ℕ) → IsNumber exits m → IsNumber exits n → m ≡ n
number_unique exits m n p q =
    let mp : p.start + m ≡ length exits = p.counted in
    let nq : q.start + n ≡ length exits = q.counted in
    let same : p.start ≡ q.start = beginning_unique exits p.start q.start p.beginning q.beginning in
    omega arith

-- after one more exit there is a number
number_more : (exits : List Exit) (last : Exit) (n : ℕ) → IsNumber exits n → (m : ℕ) × IsNumber (exits ++ last ∷ []) m
number_more exits last n num = elim (cases_lt last.entry 600) [
  | inl short ↦ (n + 1, number_short exits last n short num)
  | inr long ↦ (1, number_long exits last long)
]

number_after : (later exits : List Exit) (n : ℕ) → IsNumber exits n → (m : ℕ) × IsNumber (exits ++ later) m
number_after [] exits n num = let P : List Exit → Type 0 = λ xs. IsNumber xs n in
    (n, subst P (sym (append-nil exits)) num)
number_after (x ∷ later) exits n num =
    let next = number_more exits x n num in
    let P : List Exit → Type 0 = λ xs. (m : ℕ) × IsNumber xs m in
    subst P (append_assoc exits (x ∷ []) later) (number_after later (exits ++ x ∷ []) next.0 next.1)

-- so every list has one
pub number_of : (exits : List Exit) → (n : ℕ) × IsNumber exits n
number_of exits = number_after exits [] 0 number_none

-- the exits before a long run play no part
pub number_forgets : (earlier later : List Exit) (long : Exit) (n : ℕ) → 600 ≤ long.entry
    → IsNumber (earlier ++ long ∷ later) n → IsNumber (long ∷ later) n
number_forgets earlier later long n is num =
    let so : num.start + n ≡ length (earlier ++ long ∷ later) = num.counted in
    let from = beginning_forgets earlier later long num.start is num.beginning in
    let start : num.start ≡ length earlier + from.0 = from.1 in
    record { start = from.0; beginning = from.2; counted = omega (arith, length-append earlier (long ∷ later)) }

pub number_remembers : (earlier later : List Exit) (long : Exit) (n : ℕ) → 600 ≤ long.entry
    → IsNumber (long ∷ later) n → IsNumber (earlier ++ long ∷ later) n
number_remembers earlier later long n is num =
    let so : num.start + n ≡ length (long ∷ later) = num.counted in
    record {
      start = length earlier + num.start;
      beginning = beginning_remembers earlier later long num.start is num.beginning;
      counted = omega (arith, length-append earlier (long ∷ later));
    }
