-- Lines by the word with which they begin.
use Rattle.std.proofs.Common.{◌≡◌, ◌≢◌, ℕ, List, ◌∷◌, ◌++◌, codes, get_or, ap, sym, subst, arith, ◌∙◌}
use Rattle.std.proofs.lemmas.List.{append_cancel_left}
use Rattle.round_steps.specs.declared.step.Step.{Step}
use Rattle.round_steps.specs.state.Spelling.{Names, NamesBoth, Spells, spells_pop, spells_steal, spells_update}
use Rattle.round_steps.specs.state.Spelling.{spells_enter}

pub apart : (line : List ℕ) (v w : ℕ) (vs ws : List ℕ) → v ≢ w → line ≡ v ∷ vs → line ≡ w ∷ ws → ⊥
apart line v w vs ws other is so = other (ap (λ (l : List ℕ). get_or l 0 0) (sym is ∙ so))

pub same_rest : (P : List ℕ → Type 0) (word line text other : List ℕ) → line ≡ word ++ text
    → line ≡ word ++ other → P other → P text
same_rest P word line text other is so holds = subst P (append_cancel_left word other text (sym so ∙ is)) holds

-- where no number of a worker stands behind the word, the line spells nothing
pub not_pop : (line text : List ℕ) → line ≡ codes "pop " ++ text → ((worker : ℕ) → Names text worker → ⊥)
    → (step : Step) → Spells line step → ⊥
not_pop line text is none _ (spells_pop other w so names) =
    none w (same_rest (λ r. Names r w) (codes "pop ") line text other is so names)
not_pop line text is none _ (spells_steal other t o so both) = apart line 112 115 _ _ (omega arith) is so
not_pop line text is none _ (spells_update other w so names) = apart line 112 117 _ _ (omega arith) is so
not_pop line text is none _ (spells_enter other w so names) = apart line 112 101 _ _ (omega arith) is so

pub not_steal : (line text : List ℕ) → line ≡ codes "steal " ++ text
    → ((thief owner : ℕ) → NamesBoth text thief owner → ⊥)
    → (step : Step) → Spells line step → ⊥
not_steal line text is none _ (spells_pop other w so names) = apart line 115 112 _ _ (omega arith) is so
not_steal line text is none _ (spells_steal other t o so both) =
    none t o (same_rest (λ r. NamesBoth r t o) (codes "steal ") line text other is so both)
not_steal line text is none _ (spells_update other w so names) = apart line 115 117 _ _ (omega arith) is so
not_steal line text is none _ (spells_enter other w so names) = apart line 115 101 _ _ (omega arith) is so

pub not_update : (line text : List ℕ) → line ≡ codes "update " ++ text → ((worker : ℕ) → Names text worker → ⊥)
    → (step : Step) → Spells line step → ⊥
not_update line text is none _ (spells_pop other w so names) = apart line 117 112 _ _ (omega arith) is so
not_update line text is none _ (spells_steal other t o so both) = apart line 117 115 _ _ (omega arith) is so
not_update line text is none _ (spells_update other w so names) =
    none w (same_rest (λ r. Names r w) (codes "update ") line text other is so names)
not_update line text is none _ (spells_enter other w so names) = apart line 117 101 _ _ (omega arith) is so

pub not_enter : (line text : List ℕ) → line ≡ codes "enter " ++ text → ((worker : ℕ) → Names text worker → ⊥)
    → (step : Step) → Spells line step → ⊥
not_enter line text is none _ (spells_pop other w so names) = apart line 101 112 _ _ (omega arith) is so
not_enter line text is none _ (spells_steal other t o so both) = apart line 101 115 _ _ (omega arith) is so
not_enter line text is none _ (spells_update other w so names) = apart line 101 117 _ _ (omega arith) is so
not_enter line text is none _ (spells_enter other w so names) =
    none w (same_rest (λ r. Names r w) (codes "enter ") line text other is so names)
