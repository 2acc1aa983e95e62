-- A text cut at the first of its bytes that is some byte.
use Rattle.std.proofs.Common.{◌≡◌, ◌≢◌, ℕ, false, List, [], ◌∷◌, ◌++◌, All, MatchOption, Option, None}
use Rattle.std.proofs.Common.{Some, Bor}
use Rattle.std.proofs.Common.{refl, eqb}
use Rattle.std.proofs.lemmas.Bool.{ne_eqb}
use Rattle.std.proofs.lemmas.List.Elements.{All-head, All-tail}
use Rattle.std.proofs.lemmas.List.Splits.{slice_split_none, slice_split_at}
use Rattle.round_steps.specs.state.Steps.{lines_of}

-- none of the bytes is s
abbrev pub IsFreeOf : ℕ → List ℕ → Type 0
IsFreeOf s bytes = All (λ b. b ≢ s) bytes

-- there is one cut at most
pub cut_once : (s : ℕ) (a b c d : List ℕ) → IsFreeOf s a → IsFreeOf s c → a ++ s ∷ b ≡ c ++ s ∷ d → (a ≡ c) × (b ≡ d)
cut_once s [] b [] d free free' e = (refl, cc)
cut_once s [] b (y ∷ c) d free free' e = let same : y ≡ s = cc in absurd (All-head (λ (b : ℕ). b ≢ s) y c free' same)
cut_once s (x ∷ a) b [] d free free' e = let same : x ≡ s = cc in absurd (All-head (λ (b : ℕ). b ≢ s) x a free same)
cut_once s (x ∷ a) b' (y ∷ c) d free free' e =
    let rest : a ++ s ∷ b' ≡ c ++ s ∷ d = cc in
    let same : x ≡ y = cc in
    let P : ℕ → Type 0 = λ b. b ≢ s in
    let later = cut_once s a b' c d (All-tail P x a free) (All-tail P y c free') rest in
    (cc, later.1)

-- where a byte stands, it is one of them
pub stands_in : (s : ℕ) (a b : List ℕ) → IsFreeOf s (a ++ s ∷ b) → ⊥
stands_in s [] b free = All-head (λ (b : ℕ). b ≢ s) s b free refl
stands_in s (x ∷ a) b free = stands_in s a b (All-tail (λ (b : ℕ). b ≢ s) x (a ++ s ∷ b) free)

no_newline : (bytes : List ℕ) → IsFreeOf 10 bytes → All (λ (b : ℕ). eqb b 10 ≡ false) bytes
no_newline bytes free k d lt = ne_eqb _ 10 (free k d lt)

pub last_line : (text line : List ℕ) → IsFreeOf 10 line → text ≡ line → lines_of text ≡ line ∷ []
last_line text line free is = rw is (slice_split_none (λ (b : ℕ). eqb b 10) line (no_newline line free))

pub next_line : (text line behind : List ℕ) → IsFreeOf 10 line → text ≡ line ++ 10 ∷ behind
    → lines_of text ≡ line ∷ lines_of behind
next_line text line behind free is =
    rw is (slice_split_at (λ (b : ℕ). eqb b 10) line 10 behind (no_newline line free) refl)

-- the first line, by what a cut says
pub first_line : (text line : List ℕ) (behind : Option (Bor (List ℕ))) → IsFreeOf 10 line
    → MatchOption behind (text ≡ line) (λ b. text ≡ line ++ 10 ∷ b.now)
    → MatchOption behind (lines_of text ≡ line ∷ []) (λ b. lines_of text ≡ line ∷ lines_of b.now)
first_line text line None free is = last_line text line free is
first_line text line (Some behind) free is = next_line text line behind.now free is
