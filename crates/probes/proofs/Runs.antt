-- Runs of one outcome in a list of results, when one more result comes.
use Rattle.std.proofs.Common.{◌≡◌, ◌⊎◌, inl, inr, ℕ, suc, zero, ◌+◌, ◌<◌, ◌≤◌, List, [], ◌∷◌, ◌++◌, length, Some}
use Rattle.std.proofs.Common.{sym, subst, length-append, ◌∙◌, arith}
use Rattle.std.specs.Prelude.{◌↔◌, slice_get}
use Rattle.std.proofs.lemmas.Bool.{cases_lt}
use Rattle.std.proofs.lemmas.List.{length_push}
use Rattle.std.proofs.lemmas.Option.{same_Some}
use Rattle.histories.proofs.Lists.{slice_get-old, slice_get-kept, slice_get-new}
use Rattle.manifest.specs.declared.outcome.Outcome.{Outcome}
use Rattle.manifest.specs.declared.outcome.Outcome.TheVariants.{Success, Failure}
use Rattle.probes.specs.rule.Outcomes.{EndsRun, FailsInARow, HoldsAfter}
use Rattle.probes.specs.state.Outcomes.{IsRunLength}

-- the new element, where its place is known by an equation
slice_get-at : {X : Type 0} (xs : List X) (x : X) (k : ℕ) → k ≡ length xs → slice_get (xs ++ x ∷ []) k ≡ Some x
slice_get-at xs x k is = rw is (slice_get-new xs x)

-- a run stays where it is
pub EndsRun-old : (o : Outcome) (n : ℕ) (xs ys : List Outcome) (e : ℕ) → EndsRun o n xs e → EndsRun o n (xs ++ ys) e
EndsRun-old o n xs ys e r = record {
  among = let b : e ≤ length xs = r.among in omega (arith, length-append xs ys);
  enough = r.enough;
  all = λ k lt le. slice_get-kept xs ys k o (r.all k lt le);
}

-- a run that ends before the new result was there before
pub EndsRun-before : (o : Outcome) (n : ℕ) (xs : List Outcome) (x : Outcome) (e : ℕ) → e ≤ length xs
    → EndsRun o n (xs ++ x ∷ []) e → EndsRun o n xs e
EndsRun-before o n xs x e b r = record {
  among = b;
  enough = r.enough;
  all = λ k lt le. sym (slice_get-old xs (x ∷ []) k (omega arith)) ∙ r.all k lt le;
}

-- a run ends before the new result, or with it
pub EndsRun-split : (o : Outcome) (n : ℕ) (xs : List Outcome) (x : Outcome) (e : ℕ) → EndsRun o n (xs ++ x ∷ []) e
    → EndsRun o n xs e ⊎ (e ≡ length (xs ++ x ∷ []))
EndsRun-split o n xs x e r =
    let b : e ≤ length (xs ++ x ∷ []) = r.among in
    elim (cases_lt (length xs) e) [
      | inl lt ↦ inr (omega (arith, length_push xs x))
      | inr ge ↦ inl (EndsRun-before o n xs x e ge r)
    ]

-- nothing is a run
pub EndsRun-none : (o : Outcome) (xs : List Outcome) → EndsRun o 0 xs (length xs)
EndsRun-none o xs = record { among = omega arith; enough = omega arith; all = λ k lt le. absurd (omega arith) }

-- a run goes on with one more of its outcome
pub EndsRun-more : (o : Outcome) (m : ℕ) (xs : List Outcome) (x : Outcome) → x ≡ o → EndsRun o m xs (length xs)
    → EndsRun o (suc m) (xs ++ x ∷ []) (length (xs ++ x ∷ []))
EndsRun-more o m xs x is r = record {
  among = omega arith;
  enough = let b : m ≤ length xs = r.enough in omega (arith, length_push xs x);
  all = λ k lt le.
      let below : k < length xs + 1 = omega (arith, length_push xs x) in
      let reach : length xs + 1 ≤ k + suc m = omega (arith, length_push xs x) in
      elim (cases_lt k (length xs)) [
        | inl old ↦ slice_get-kept xs (x ∷ []) k o (r.all k old (omega arith))
        | inr new ↦ let at : k ≡ length xs = omega arith in let there : slice_get (xs ++ x ∷ []) k ≡ Some x =
            slice_get-at xs x k at in cc
      ];
}

-- a run that ends with the new result was one shorter before it
pub EndsRun-less : (o : Outcome) (m : ℕ) (xs : List Outcome) (x : Outcome)
    → EndsRun o (suc m) (xs ++ x ∷ []) (length (xs ++ x ∷ []))
    → (x ≡ o) × EndsRun o m xs (length xs)
EndsRun-less o m xs x r = (
  same_Some x o (sym (slice_get-new xs x) ∙ r.all (length xs) (omega (arith, length_push xs x))
      (omega (arith, length_push xs x))),
  record {
    among = omega arith;
    enough = let b : suc m ≤ length (xs ++ x ∷ []) = r.enough in omega (arith, length_push xs x);
    all = λ k lt le. sym (slice_get-old xs (x ∷ []) k lt) ∙ r.all k (omega (arith, length_push xs x))
        (omega (arith, length_push xs x));
  },
)

-- the length of the run at the end, after a result of its outcome
IsRunLength-more : (o : Outcome) (limit : ℕ) (xs : List Outcome) (x : Outcome) (n n' : ℕ) → x ≡ o
    → IsRunLength o limit xs n
    → n' ≤ limit → ((m : ℕ) → suc m ≤ limit → ((suc m ≤ n') ↔ (m ≤ n))) → IsRunLength o limit (xs ++ x ∷ []) n'
IsRunLength-more o limit xs x n n' is r within step = record { within = within; run = run }
  where
    run : (m : ℕ) → m ≤ limit → ((m ≤ n') ↔ EndsRun o m (xs ++ x ∷ []) (length (xs ++ x ∷ [])))
    run zero le = ((λ _. EndsRun-none o (xs ++ x ∷ [])), (λ _. omega arith))
    run (suc m) le = (
      (λ lt. EndsRun-more o m xs x is ((r.run m (omega arith)).0 ((step m le).0 lt))),
      (λ e. (step m le).1 ((r.run m (omega arith)).1 (EndsRun-less o m xs x e).1)),
    )

pub IsRunLength-suc : (o : Outcome) (limit : ℕ) (xs : List Outcome) (x : Outcome) (n n' : ℕ) → x ≡ o → n < limit
    → n' ≡ n + 1
    → IsRunLength o limit xs n → IsRunLength o limit (xs ++ x ∷ []) n'
IsRunLength-suc o limit xs x n n' is lt e r =
    IsRunLength-more o limit xs x n n' is r (omega arith) (λ m le. ((λ a. omega arith), (λ a. omega arith)))

pub IsRunLength-full : (o : Outcome) (limit : ℕ) (xs : List Outcome) (x : Outcome) (n : ℕ) → x ≡ o → limit ≤ n
    → IsRunLength o limit xs n → IsRunLength o limit (xs ++ x ∷ []) n
IsRunLength-full o limit xs x n is ge r =
    IsRunLength-more o limit xs x n n is r r.within (λ m le. ((λ a. omega arith), (λ a. omega arith)))

-- after another result there is no run
pub IsRunLength-end : (o : Outcome) (limit : ℕ) (xs : List Outcome) (x : Outcome) → (x ≡ o → ⊥)
    → IsRunLength o limit (xs ++ x ∷ []) 0
IsRunLength-end o limit xs x other = record { within = omega arith; run = run }
  where
    run : (m : ℕ) → m ≤ limit → ((m ≤ 0) ↔ EndsRun o m (xs ++ x ∷ []) (length (xs ++ x ∷ [])))
    run zero le = ((λ _. EndsRun-none o (xs ++ x ∷ [])), (λ _. omega arith))
    run (suc m) le = ((λ lt. absurd (omega arith)), (λ e. absurd (other (EndsRun-less o m xs x e).0)))

-- the run has reached the limit
pub IsRunLength-reaches : (o : Outcome) (limit : ℕ) (xs : List Outcome) (n : ℕ) → IsRunLength o limit xs n
    → ((n ≡ limit) ↔ EndsRun o limit xs (length xs))
IsRunLength-reaches o limit xs n r = (
  (λ e. (r.run limit (omega arith)).0 (omega arith)),
  (λ e. let ge : limit ≤ n = (r.run limit (omega arith)).1 e in let le : n ≤ limit = r.within in omega arith),
)

-- enough failures stand next to each other, after one more result
pub FailsInARow-more : (f : ℕ) (xs : List Outcome) (x : Outcome)
    → (FailsInARow f (xs ++ x ∷ []) ↔ (FailsInARow f xs ⊎ EndsRun Failure f (xs ++ x ∷ []) (length (xs ++ x ∷ []))))
FailsInARow-more f xs x = (
  (λ (e, r). elim (EndsRun-split Failure f xs x e r) [
    | inl old ↦ inl (e, old)
    | inr at ↦ inr (let P : ℕ → Type 0 = λ k. EndsRun Failure f (xs ++ x ∷ []) k in subst P at r)
  ]),
  (λ w. elim w [
    | inl old ↦ (old.0, EndsRun-old Failure f xs (x ∷ []) old.0 old.1)
    | inr now
        ↦ (length (xs ++ x ∷ []), now)
  ]),
)

-- readiness holds after one more result: enough successes end with it, or it held and not enough
-- failures do
pub HoldsAfter-more : (s f : ℕ) (xs : List Outcome) (x : Outcome)
    → (HoldsAfter s f (xs ++ x ∷ []) ↔ (EndsRun Success s (xs ++ x ∷ []) (length (xs ++ x ∷ []))
    ⊎ (HoldsAfter s f xs × (EndsRun Failure f (xs ++ x ∷ []) (length (xs ++ x ∷ [])) → ⊥))))
HoldsAfter-more s f xs x = (
  (λ (e, r, none). elim (EndsRun-split Success s xs x e r) [
    | inl old ↦ inr (
      (e, old, (λ later lt fails. none later lt (EndsRun-old Failure f xs (x ∷ []) later fails))),
      (λ fails. none (length (xs ++ x ∷ [])) (let b : e ≤ length xs = old.among in omega (arith, length_push xs x))
          fails),
    )
    | inr at ↦ inl (let P : ℕ → Type 0 = λ k. EndsRun Success s (xs ++ x ∷ []) k in subst P at r)
  ]),
  (λ w. elim w [
    | inl now ↦ (
      length (xs ++ x ∷ []),
      now,
      (λ later lt fails. let b : later ≤ length (xs ++ x ∷ []) = fails.among in
          absurd (omega arith)),
    )
    | inr old ↦ (
      old.0.0,
      EndsRun-old Success s xs (x ∷ []) old.0.0 old.0.1,
      (λ later lt fails. elim (EndsRun-split Failure f xs x later fails) [
        | inl before ↦ old.0.2 later lt before
        | inr at ↦ old.1 (let P : ℕ → Type 0 = λ k. EndsRun Failure f (xs ++ x ∷ []) k in subst P at fails)
      ]),
    )
  ]),
)
