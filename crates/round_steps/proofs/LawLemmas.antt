-- The laws of a steps file.
use Rattle.std.proofs.Common.{◌≡◌, ◌≢◌, ◌<◌, ℕ, List, [], ◌∷◌, ◌++◌, length, filter}
use Rattle.std.proofs.Common.{◌∙◌, refl, ap, sym, subst, arith, ap₂, inl, inr, codes}
use Rattle.std.proofs.lemmas.List.Elements.{filter-append}
use Rattle.std.proofs.lemmas.Bool.{cases_order}
use Rattle.round_steps.specs.declared.step.Step.{Step}
use Rattle.round_steps.specs.declared.step.Step.TheVariants.{Pop, Steal, Update, Enter}
use Rattle.round_steps.specs.state.Spelling.{Names, NamesBoth, Spells, spells_pop, spells_steal, spells_update}
use Rattle.round_steps.specs.state.Spelling.{spells_enter}
use Rattle.round_steps.specs.state.Steps.{counts, SpellInOrder, AreSteps, IsFirstFault}
use Rattle.round_steps.specs.state.Laws.{OneSpelling, OneAnswer}
use Rattle.round_steps.proofs.InOrder.{counted_first}
use Rattle.round_steps.proofs.Numbers.{one_number, one_pair}
use Rattle.round_steps.proofs.Words.{apart, same_rest}

-- no line begins with two bytes
other : {C : Type 0} (line : List ℕ) (v w : ℕ) (vs ws : List ℕ) → v ≢ w → line ≡ v ∷ vs → line ≡ w ∷ ws → C
other line v w vs ws differ is so = absurd (apart line v w vs ws differ is so)

-- a line spells one step at most
pub one_spelling : OneSpelling
one_spelling line _ _ (spells_pop r w is names) (spells_pop r' w' so names') =
    ap Pop (one_number r w w' names (same_rest (λ x. Names x w') (codes "pop ") line r r' is so names'))
one_spelling line _ _ (spells_pop _ _ is _) (spells_steal _ _ _ so _) = other line 112 115 _ _ (omega arith) is so
one_spelling line _ _ (spells_pop _ _ is _) (spells_update _ _ so _) = other line 112 117 _ _ (omega arith) is so
one_spelling line _ _ (spells_pop _ _ is _) (spells_enter _ _ so _) = other line 112 101 _ _ (omega arith) is so
one_spelling line _ _ (spells_steal _ _ _ is _) (spells_pop _ _ so _) = other line 115 112 _ _ (omega arith) is so
one_spelling line _ _ (spells_steal r t o is both) (spells_steal r' t' o' so both') =
    let pair = one_pair r t o t' o' both (same_rest (λ x. NamesBoth x t' o') (codes "steal ") line r r' is so both') in
    ap₂ Steal pair.0 pair.1
one_spelling line _ _ (spells_steal _ _ _ is _) (spells_update _ _ so _) = other line 115 117 _ _ (omega arith) is so
one_spelling line _ _ (spells_steal _ _ _ is _) (spells_enter _ _ so _) = other line 115 101 _ _ (omega arith) is so
one_spelling line _ _ (spells_update _ _ is _) (spells_pop _ _ so _) = other line 117 112 _ _ (omega arith) is so
one_spelling line _ _ (spells_update _ _ is _) (spells_steal _ _ _ so _) = other line 117 115 _ _ (omega arith) is so
one_spelling line _ _ (spells_update r w is names) (spells_update r' w' so names') =
    ap Update (one_number r w w' names (same_rest (λ x. Names x w') (codes "update ") line r r' is so names'))
one_spelling line _ _ (spells_update _ _ is _) (spells_enter _ _ so _) = other line 117 101 _ _ (omega arith) is so
one_spelling line _ _ (spells_enter _ _ is _) (spells_pop _ _ so _) = other line 101 112 _ _ (omega arith) is so
one_spelling line _ _ (spells_enter _ _ is _) (spells_steal _ _ _ so _) = other line 101 115 _ _ (omega arith) is so
one_spelling line _ _ (spells_enter _ _ is _) (spells_update _ _ so _) = other line 101 117 _ _ (omega arith) is so
one_spelling line _ _ (spells_enter r w is names) (spells_enter r' w' so names') =
    ap Enter (one_number r w w' names (same_rest (λ x. Names x w') (codes "enter ") line r r' is so names'))

same_steps : (lines : List (List ℕ)) (a b : List Step) → SpellInOrder lines a → SpellInOrder lines b → a ≡ b
same_steps [] [] [] p q = refl
same_steps [] [] (t ∷ b) p q = absurd q
same_steps [] (s ∷ a) b p q = absurd p
same_steps (line ∷ lines) [] b p q = absurd p
same_steps (line ∷ lines) (s ∷ a) [] p q = absurd q
same_steps (line ∷ lines) (s ∷ a) (t ∷ b) p q =
    let first : s ≡ t = one_spelling line s t p.0 q.0 in
    let others : a ≡ b = same_steps lines a b p.1 q.1 in
    cc

-- a line behind other lines spells a step behind theirs
pub step_behind : (before : List (List ℕ)) (line : List ℕ) (after : List (List ℕ)) (all some : List Step)
    → SpellInOrder (before ++ line ∷ after) all → SpellInOrder before some
    → (step : Step) × Spells line step × (length some < length all)
step_behind [] line after [] some p q = absurd p
step_behind [] line after (s ∷ all) [] p q = (s, p.0, omega arith)
step_behind [] line after (s ∷ all) (t ∷ some) p q = absurd q
step_behind (l ∷ before) line after [] some p q = absurd p
step_behind (l ∷ before) line after (s ∷ all) [] p q = absurd q
step_behind (l ∷ before) line after (s ∷ all) (t ∷ some) p q =
    let later = step_behind before line after all some p.1 q.1 in
    (later.0, later.1, omega (arith, later.2))

-- lines that say steps have no first fault
pub not_faulty : (lines : List (List ℕ)) (all : List Step) (number : ℕ) → AreSteps lines all
    → IsFirstFault lines number → ⊥
not_faulty lines all number are fault =
    let at = fault.reached in
    let kept : filter counts (fault.line ∷ at.after) ≡ fault.line ∷ filter counts at.after =
    counted_first fault.line at.after fault.faulty.counted in
    let cut : filter counts lines ≡ filter counts at.before ++ fault.line ∷ filter counts at.after =
    ap (filter counts) at.lines_are ∙ filter-append counts at.before (fault.line ∷ at.after)
    ∙ ap (λ (ls : List (List ℕ)). filter counts at.before ++ ls) kept in
    let one = step_behind (filter counts at.before) fault.line (filter counts at.after) all fault.steps
    (subst (λ (ls : List (List ℕ)). SpellInOrder ls all) cut are.spelled) at.said.spelled in
    let many = fault.faulty.faulty one.0 one.1 in
    absurd (omega (arith, many, one.2, are.few))

-- of two cuts of a list the first has the longer front begin with its own and its line
pub front_of : {A : Type 0} (a b : List A) (x y : A) (xs ys : List A) → a ++ x ∷ xs ≡ b ++ y ∷ ys
    → length a < length b
    → (mid : List A) × (b ≡ a ++ x ∷ mid)
front_of [] [] x y xs ys e lt = absurd (omega arith)
front_of [] (z ∷ b) x y xs ys e lt = let same : x ≡ z = cc in (b, cc)
front_of (w ∷ a) [] x y xs ys e lt = absurd (omega arith)
front_of (w ∷ a) (z ∷ b) x y xs ys e lt =
    let rest : a ++ x ∷ xs ≡ b ++ y ∷ ys = cc in
    let same : w ≡ z = cc in
    let later = front_of a b x y xs ys rest (omega arith) in
    (later.0, cc)

-- no faulty line stands before the first one
pub none_before : (lines : List (List ℕ)) (m n : ℕ) → (one : IsFirstFault lines m) (other : IsFirstFault lines n)
    → length one.reached.before < length other.reached.before → ⊥
none_before lines m n one other lt =
    let at = one.reached in
    let behind = other.reached in
    let mid = front_of at.before behind.before one.line other.line at.after behind.after
    (sym at.lines_are ∙ behind.lines_are) lt in
    not_faulty behind.before other.steps m behind.said
    (record {
      line = one.line;
      steps = one.steps;
      reached = record {
        before = at.before;
        after = mid.0;
        lines_are = mid.1;
        number_is = at.number_is;
        said = at.said;
      };
      faulty = one.faulty;
    })

same_number : (lines : List (List ℕ)) (m n : ℕ) → IsFirstFault lines m → IsFirstFault lines n → m ≡ n
same_number lines m n one other =
    elim (cases_order (length one.reached.before) (length other.reached.before)) [
      | inl is ↦ omega (arith, is, one.reached.number_is, other.reached.number_is)
      | inr (inl lt) ↦ absurd (none_before lines m n one other lt)
      | inr (inr gt) ↦ absurd (none_before lines n m other one gt)
    ]

pub one_answer : OneAnswer
one_answer =
    record {
      steps = λ lines a b p q. same_steps (filter counts lines) a b p.spelled q.spelled;
      fault = same_number;
      apart = not_faulty;
    }
