-- From where the exits count, when others stand before or after.
use Rattle.std.proofs.Common.{◌≡◌, inl, inr, ℕ, ◌+◌, ◌-◌, ◌<◌, ◌≤◌, List, [], ◌∷◌, ◌++◌, length, subst, sym, ◌∙◌}
use Rattle.std.proofs.Common.{arith, length-append}
use Rattle.std.specs.Prelude.{◌↔◌}
use Rattle.std.proofs.lemmas.Bool.{cases_lt}
use Rattle.histories.specs.rule.Histories.{IsLast, last_moment}
use Rattle.histories.proofs.First.{Grows, none_more}
use Rattle.histories.proofs.Growth.{grows_entry}
use Rattle.histories.proofs.Last.{IsLast-unique, IsLast-old, IsLast-new, IsLast-moved, IsLast-moved_back}
use Rattle.histories.proofs.Ahead.{ahead, moment_at-ahead}
use Rattle.restarts.specs.rule.Exits.{Exit, IsLong, IsBeginning}

grows : (exits : List Exit) (x : Exit) → Grows (length exits) (IsLong exits) (IsLong (exits ++ x ∷ [])) (600 ≤ x.entry)
grows exits x = grows_entry (λ run. 600 ≤ run) exits x

moved : (earlier exits : List Exit) (t : ℕ) → (IsLong exits t ↔ IsLong (earlier ++ exits) (length earlier + t))
moved earlier exits t = ahead (λ run. 600 ≤ run) earlier exits t

-- after a short run the exits count from where they did
pub beginning_short : (exits : List Exit) (x : Exit) (start : ℕ) → x.entry < 600 → IsBeginning exits start
    → IsBeginning (exits ++ x ∷ []) start
beginning_short exits x start short from = elim from [
  | inl f ↦ inl (IsLast-old (length exits) _ _ _ (grows exits x) (λ long. let far : 600 ≤ x.entry = long in
      absurd (omega arith)) start f)
  | inr w ↦ inr (
    w.0,
    none_more (length exits) _ _ _ (grows exits x) w.1 (λ long. let far : 600 ≤ x.entry = long in
        absurd (omega arith)),
  )
]

-- after a long one from its own place
pub beginning_long : (exits : List Exit) (x : Exit) → 600 ≤ x.entry → IsBeginning (exits ++ x ∷ []) (length exits)
beginning_long exits x long = inl (IsLast-new (length exits) _ _ _ (grows exits x) long)

-- they count from one place
pub beginning_unique : (exits : List Exit) (s t : ℕ) → IsBeginning exits s → IsBeginning exits t → s ≡ t
beginning_unique exits s t (inl f) (inl g) = IsLast-unique (IsLong exits) s t f g
beginning_unique exits s t (inl f) (inr w) = absurd (w.1 s f.holds)
beginning_unique exits s t (inr w) (inl g) = absurd (w.1 t g.holds)
beginning_unique exits s t (inr v) (inr w) = v.0 ∙ sym w.0

-- exits before a long run play no part
pub beginning_forgets : (earlier later : List Exit) (x : Exit) (start : ℕ) → 600 ≤ x.entry
    → IsBeginning (earlier ++ x ∷ later) start
    → (t : ℕ) × (start ≡ length earlier + t) × IsBeginning (x ∷ later) t
beginning_forgets earlier later x start long (inl f) =
    let from : length earlier ≤ start = elim (cases_lt start (length earlier)) [
      | inl lt ↦ absurd (f.none_after (length earlier + 0) (omega arith) ((moved earlier (x ∷ later) 0).0 long))
      | inr le ↦ le
    ] in
    let e : start ≡ length earlier + (start - length earlier) = omega arith in
    let P : ℕ → Type 0 = λ k. IsLast (IsLong (earlier ++ x ∷ later)) k in (
      start - length earlier,
      e,
      inl (IsLast-moved_back (length earlier) _ _ (moved earlier (x ∷ later))
          (start - length earlier) (subst P e f)),
    )
beginning_forgets earlier later x start long (inr w) =
    absurd (w.1 (length earlier + 0) ((moved earlier (x ∷ later) 0).0 long))

pub beginning_remembers : (earlier later : List Exit) (x : Exit) (t : ℕ) → 600 ≤ x.entry → IsBeginning (x ∷ later) t
    → IsBeginning (earlier ++ x ∷ later) (length earlier + t)
beginning_remembers earlier later x t long (inl f) =
    inl (IsLast-moved (length earlier) _ _ (moved earlier (x ∷ later)) t f)
beginning_remembers earlier later x t long (inr w) = absurd (w.1 0 long)

-- the last exit of a list that goes on is that of what follows
pub last_moment-after : (earlier : List Exit) (x : Exit) (later : List Exit)
    → last_moment (earlier ++ x ∷ later) ≡ last_moment (x ∷ later)
last_moment-after earlier x later =
    moment_at-ahead earlier (x ∷ later) (length (x ∷ later) - 1) (length (earlier ++ x ∷ later) - 1)
    (omega (arith, length-append earlier (x ∷ later)))
