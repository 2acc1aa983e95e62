-- A text of which some lines were read.
use Rattle.std.proofs.Common.{◌≡◌, ◌+◌, ◌<◌, ◌≤◌, ◌^◌, ℕ, List, [], ◌∷◌, ◌++◌, length, MatchOption, Option, None}
use Rattle.std.proofs.Common.{Some, Bor}
use Rattle.std.proofs.Common.{◌∙◌, refl, ap, sym, subst, arith, append_assoc, length-append, eqb}
use Rattle.std.proofs.lemmas.List.{length_push}
use Rattle.std.proofs.lemmas.List.Splits.{length-slice_split}
use Rattle.std.proofs.lemmas.List.Sums.{count_by-le-length}
use Rattle.round_steps.specs.declared.step.Step.{Step}
use Rattle.round_steps.specs.declared.fault.StepsFault.{StepsFault}
use Rattle.round_steps.specs.declared.fault.StepsFault.TheVariants.{TooLong, Line, OutOfMemory}
use Rattle.round_steps.specs.state.Steps.{lines_of, longest_steps_file, AreSteps, IsFirstFault, IsFirstFaultBy}
use Rattle.round_steps.specs.state.Steps.{IsReached, IsFaultOf}

-- the lines before the rest say the steps
pub record HasRead (text rest : List ℕ) (number : ℕ) (steps : List Step) : Type 0 where
  pub before : List (List ℕ)
  pub lines_are : lines_of text ≡ before ++ lines_of rest
  pub number_is : number ≡ length before
  pub said : AreSteps before steps

pub nothing_read : (text : List ℕ) → HasRead text text 0 []
nothing_read text =
    record { before = []; lines_are = refl; number_is = refl; said = record { spelled = tt; few = omega arith } }

-- the line says what makes the new steps of the old ones
abbrev pub Adds : List Step → List ℕ → List Step → Type 0
Adds old line new = (lines : List (List ℕ)) → AreSteps lines old → AreSteps (lines ++ line ∷ []) new

pub line_read : (text rest behind line : List ℕ) (number : ℕ) (old new : List Step) → HasRead text rest number old
    → lines_of rest ≡ line ∷ lines_of behind → Adds old line new → HasRead text behind (number + 1) new
line_read text rest behind line number old new has cut adds =
    record {
      before = has.before ++ line ∷ [];
      lines_are = has.lines_are ∙ ap (λ (ls : List (List ℕ)). has.before ++ ls) cut
          ∙ sym (append_assoc has.before (line ∷ []) (lines_of behind));
      number_is = sym (length_push has.before line ∙ ap (λ n. n + 1) (sym has.number_is));
      said = adds has.before has.said;
    }

pub all_read : (text rest line : List ℕ) (number : ℕ) (old new : List Step) → HasRead text rest number old
    → lines_of rest ≡ line ∷ [] → Adds old line new → AreSteps (lines_of text) new
all_read text rest line number old new has cut adds =
    subst (λ (ls : List (List ℕ)). AreSteps ls new)
    (sym (has.lines_are ∙ ap (λ (ls : List (List ℕ)). has.before ++ ls) cut)) (adds has.before has.said)

-- the first line, whatever stands behind it
first_of : (rest line : List ℕ) (behind : Option (Bor (List ℕ)))
    → MatchOption behind (lines_of rest ≡ line ∷ []) (λ b. lines_of rest ≡ line ∷ lines_of b.now)
    → (after : List (List ℕ)) × (lines_of rest ≡ line ∷ after)
first_of rest line None cut = ([], cut)
first_of rest line (Some b) cut = (lines_of b.now, cut)

pub reached : (text rest line : List ℕ) (number : ℕ) (steps : List Step) (behind : Option (Bor (List ℕ)))
    → HasRead text rest number steps
    → MatchOption behind (lines_of rest ≡ line ∷ []) (λ b. lines_of rest ≡ line ∷ lines_of b.now)
    → IsReached (lines_of text) (number + 1) line steps
reached text rest line number steps behind has cut =
    let first = first_of rest line behind cut in
    record {
      before = has.before;
      after = first.0;
      lines_are = has.lines_are ∙ ap (λ (ls : List (List ℕ)). has.before ++ ls) first.1;
      number_is = ap (λ n. n + 1) has.number_is;
      said = has.said;
    }

-- a line is refused where it was reached
pub line_refused : (lines : List (List ℕ)) (number : ℕ) (line : List ℕ) (steps : List Step) (fault : StepsFault)
    → IsReached lines number line steps → IsFaultOf number line steps fault → IsFirstFaultBy lines fault
line_refused lines number line steps TooLong at of = of
line_refused lines number line steps (Line n) at of =
    subst (IsFirstFault lines) (sym of.0) (record { line = line; steps = steps; reached = at; faulty = of.1 })
line_refused lines number line steps OutOfMemory at of =
    record { number = number; line = line; steps = steps; step = of.0; reached = at; says = of.1 }

-- a text has few lines
pub number_fits : (text rest : List ℕ) (number : ℕ) (steps : List Step) → length text ≤ longest_steps_file
    → HasRead text rest number steps → number + 1 < 2 ^ 64
number_fits text rest number steps short has =
    omega (
      arith,
      has.number_is,
      ap length has.lines_are,
      length-append has.before (lines_of rest),
      length-slice_split (λ (b : ℕ). eqb b 10) text,
      count_by-le-length (λ (b : ℕ). eqb b 10) text,
    )
