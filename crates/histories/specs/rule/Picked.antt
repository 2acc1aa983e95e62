-- What stands at some of the places of a list.
use Rattle.std.specs.Prelude.{◌≡◌, ◌⊎◌, ℕ, suc, List, [], ◌∷◌}

-- what stands at the places of which P holds, in order
abbrev pub ArePicked : {A : Type 0} → (ℕ → Type 0) → List A → List A → Type 0
ArePicked P [] picked = picked ≡ []
ArePicked P (x ∷ xs) picked =
    (P 0 × ((rest : _) × ArePicked (λ t. P (suc t)) xs rest × (picked ≡ x ∷ rest)))
    ⊎ ((P 0 → ⊥) × ArePicked (λ t. P (suc t)) xs picked)
