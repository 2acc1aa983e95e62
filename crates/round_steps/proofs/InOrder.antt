-- Lines that spell steps, one line more and one line faulty.
use Rattle.std.proofs.Common.{◌≡◌, ◌≢◌, ◌<◌, ℕ, List, [], ◌∷◌, ◌++◌, length, filter, Option, Some}
use Rattle.std.proofs.Common.{◌∙◌, refl, ap, sym, subst, arith, append-nil}
use Rattle.std.specs.Prelude.{Ok}
use Rattle.std.proofs.lemmas.List.Elements.{filter-append}
use Rattle.std.proofs.lemmas.List.{length_push}
use Rattle.round_steps.specs.declared.step.Step.{Step}
use Rattle.round_steps.specs.state.Spelling.{Spells}
use Rattle.round_steps.specs.state.Steps.{counts, most_steps, SpellInOrder, AreSteps, SaysBehind}

-- an empty line more
pub empty_more : (lines : List (List ℕ)) (steps : List Step) → AreSteps lines steps
    → AreSteps (lines ++ [] ∷ []) steps
empty_more lines steps are =
    let kept : filter counts (lines ++ [] ∷ []) ≡ filter counts lines =
    filter-append counts lines ([] ∷ []) ∙ append-nil _ in
    record {
      spelled = subst (λ (ls : List (List ℕ)). SpellInOrder ls steps) (sym kept) are.spelled;
      few = are.few;
    }

in_order_more : (lines : List (List ℕ)) (steps : List Step) (line : List ℕ) (step : Step)
    → SpellInOrder lines steps → Spells line step
    → SpellInOrder (lines ++ line ∷ []) (steps ++ step ∷ [])
in_order_more [] [] line step all one = (one, tt)
in_order_more [] (s ∷ steps) line step all one = absurd all
in_order_more (l ∷ lines) [] line step all one = absurd all
in_order_more (l ∷ lines) (s ∷ steps) line step all one = (all.0, in_order_more lines steps line step all.1 one)

pub counted_first : (line : List ℕ) (lines : List (List ℕ)) → line ≢ []
    → filter counts (line ∷ lines) ≡ line ∷ filter counts lines
counted_first [] lines some = absurd (some refl)
counted_first (b ∷ bs) lines some = refl

-- a line more that spells a step
pub step_more : (lines : List (List ℕ)) (steps : List Step) (line : List ℕ) (step : Step) → AreSteps lines steps
    → line ≢ []
    → Spells line step → length steps < most_steps → AreSteps (lines ++ line ∷ []) (steps ++ step ∷ [])
step_more lines steps line step are some one lt =
    let kept : filter counts (lines ++ line ∷ []) ≡ filter counts lines ++ line ∷ [] =
    filter-append counts lines (line ∷ [])
    ∙ ap (λ (ls : List (List ℕ)). filter counts lines ++ ls) (counted_first line [] some) in
    let spelled = in_order_more (filter counts lines) steps line step are.spelled one in
    record {
      spelled = subst (λ (ls : List (List ℕ)). SpellInOrder ls (steps ++ step ∷ [])) (sym kept) spelled;
      few = omega (arith, length_push steps step);
    }

-- the same by what the line says
pub said_more : (lines : List (List ℕ)) (steps slice : List Step) (number : ℕ) (line : List ℕ) (said : Option Step)
    (step : Step) → slice ≡ steps → SaysBehind (length slice) number line (Ok said) → said ≡ Some step
    → AreSteps lines steps → AreSteps (lines ++ line ∷ []) (steps ++ step ∷ [])
said_more lines steps slice number line said step same says is are =
    let it : SaysBehind (length slice) number line (Ok (Some step)) =
    subst (λ (s : Option Step). SaysBehind (length slice) number line (Ok s)) is says in
    step_more lines steps line step are it.0 it.1
    (subst (λ (ss : List Step). length ss < most_steps) same it.2)
