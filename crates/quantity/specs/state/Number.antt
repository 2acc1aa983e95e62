-- The longest run of digits with at most one point that a text begins with.
use Rattle.std.specs.Prelude.{◌≡◌, ℕ, List, [], ◌∷◌, ◌++◌, ◌==◌, if◌then◌else◌}
use Rattle.std.specs.Prelude.{length, All, count_by, ◌≤◌, ◌⊎◌, true}
use Rattle.std.specs.Char.{is_ascii_digit}
use Rattle.quantity.specs.rule.Number.{whole_of, has_point, fraction_of}

-- digits, and at most one point
abbrev pub IsRun : List ℕ → Type 0
IsRun run = All (λ byte. (is_ascii_digit byte ≡ true) ⊎ (byte ≡ 46)) run × (count_by (λ byte. byte == 46) run ≤ 1)

-- the run that a text begins with
abbrev pub run_of : List ℕ → List ℕ
run_of text = whole_of text ++ (if has_point text then 46 ∷ fraction_of text else [])

-- the text begins with this run, goes on with the rest, and begins with no longer run
pub record IsLongestRun (text run rest : List ℕ) : Type 0 where
  pub text_is : text ≡ run ++ rest
  pub is_run : IsRun run
  pub longest : (other more : List ℕ) → text ≡ other ++ more → IsRun other → length other ≤ length run
