-- Texts that are the number of a worker, or of two.
use Rattle.std.proofs.Common.{◌≡◌, ◌≢◌, ◌/◌, ◌%◌, ◌<◌, ◌≤◌, ℕ, List, [], ◌∷◌, ◌++◌}
use Rattle.std.proofs.Common.{MatchOption, Option, None, Some, Bor}
use Rattle.std.proofs.Common.{◌∙◌, ap, sym, subst, arith, unwrap_or}
use Rattle.std.proofs.lemmas.List.Elements.{All-cons, All-nil}
use Rattle.round_steps.specs.state.Spelling.{digit, last_worker, two_bytes, Names, NamesBoth}
use Rattle.round_steps.proofs.Cutting.{IsFreeOf, cut_once, stands_in}

same_pair : (p q : ℕ × ℕ) → Some p ≡ Some q → (p.0 ≡ q.0) × (p.1 ≡ q.1)
same_pair p q e = (ap (λ o. (unwrap_or o p).0) e, ap (λ o. (unwrap_or o p).1) e)

-- the byte is no digit
abbrev pub IsNoDigit : ℕ → Type 0
IsNoDigit byte = (n : ℕ) → n < 10 → byte ≢ digit n

-- the first byte of a number is a digit, and so is the second
pub tens_no_digit : (text : List ℕ) (tens ones : ℕ) → two_bytes text ≡ Some (tens, ones) → IsNoDigit tens
    → (worker : ℕ) → Names text worker → ⊥
tens_no_digit text tens ones is none worker names =
    let same : tens ≡ digit (worker / 10) = (same_pair _ _ (sym is ∙ names.digits)).0 in
    let known : worker ≤ last_worker = names.known in
    none (worker / 10) (omega arith) same

pub ones_no_digit : (text : List ℕ) (tens ones : ℕ) → two_bytes text ≡ Some (tens, ones) → IsNoDigit ones
    → (worker : ℕ) → Names text worker → ⊥
ones_no_digit text tens ones is none worker names =
    let same : ones ≡ digit (worker % 10) = (same_pair _ _ (sym is ∙ names.digits)).1 in
    none (worker % 10) (omega arith) same

-- neither byte is a space
free_bytes : (text : List ℕ) (tens ones : ℕ) → two_bytes text ≡ Some (tens, ones) → tens ≢ 32 → ones ≢ 32
    → IsFreeOf 32 text
free_bytes [] tens ones is t o = cc
free_bytes (a ∷ []) tens ones is t o =
    let P : ℕ → Type 0 = λ b. b ≢ 32 in
    let one : a ≡ ones = (same_pair _ _ is).1 in
    All-cons P a [] (λ e. o (sym one ∙ e)) (All-nil P)
free_bytes (a ∷ b ∷ []) tens ones is t o =
    let P : ℕ → Type 0 = λ b. b ≢ 32 in
    let both = same_pair _ _ is in
    let first : a ≡ tens = both.0 in
    let second : b ≡ ones = both.1 in
    All-cons P a (b ∷ []) (λ e. t (sym first ∙ e)) (All-cons P b [] (λ e. o (sym second ∙ e)) (All-nil P))
free_bytes (a ∷ b ∷ c ∷ bytes) tens ones is t o = cc

-- a number has no space in it
pub no_space : (text : List ℕ) (worker : ℕ) → Names text worker → IsFreeOf 32 text
no_space text worker names = free_bytes text _ _ names.digits (omega arith) (omega arith)

-- the numbers of two workers stand where the text is cut at its first space
pub both_where_cut : (text front behind : List ℕ) (first second : ℕ) → IsFreeOf 32 front → text ≡ front ++ 32 ∷ behind
    → NamesBoth text first second → Names front first × Names behind second
both_where_cut text front behind first second free is both =
    let cut = cut_once 32 both.front both.behind front behind (no_space both.front first both.names_first) free
    (sym both.is ∙ is) in (
      subst (λ (t : List ℕ). Names t first) cut.0 both.names_first,
      subst (λ (t : List ℕ). Names t second) cut.1 both.names_second,
    )

-- without a space there are no two numbers
pub no_second : (text front : List ℕ) → IsFreeOf 32 front → text ≡ front → (first second : ℕ)
    → NamesBoth text first second → ⊥
no_second text front free is first second both =
    stands_in 32 both.front both.behind (subst (IsFreeOf 32) (sym is ∙ both.is) free)

-- what stands before the first space is no number
pub not_first : (text front : List ℕ) (behind : Option (Bor (List ℕ))) → IsFreeOf 32 front
    → MatchOption behind (text ≡ front) (λ b. text ≡ front ++ 32 ∷ b.now) → ((worker : ℕ) → Names front worker → ⊥)
    → (first second : ℕ) → NamesBoth text first second → ⊥
not_first text front None free is none first second both = no_second text front free is first second both
not_first text front (Some b) free is none first second both =
    none first (both_where_cut text front b.now first second free is both).0

-- what stands behind it is none
pub not_second : (text front behind : List ℕ) → IsFreeOf 32 front → text ≡ front ++ 32 ∷ behind
    → ((worker : ℕ) → Names behind worker → ⊥) → (first second : ℕ) → NamesBoth text first second → ⊥
not_second text front behind free is none first second both =
    none second (both_where_cut text front behind first second free is both).1

-- a text is one number at most
pub one_number : (text : List ℕ) (v w : ℕ) → Names text v → Names text w → v ≡ w
one_number text v w one other =
    let both = same_pair _ _ (sym one.digits ∙ other.digits) in
    let tens : digit (v / 10) ≡ digit (w / 10) = both.0 in
    let ones : digit (v % 10) ≡ digit (w % 10) = both.1 in
    omega arith

-- and two numbers in one way at most
pub one_pair : (text : List ℕ) (a b c d : ℕ) → NamesBoth text a b → NamesBoth text c d → (a ≡ c) × (b ≡ d)
one_pair text a b c d one other =
    let cut = both_where_cut text one.front one.behind c d (no_space one.front a one.names_first) one.is other in
    (one_number one.front a c one.names_first cut.0, one_number one.behind b d one.names_second cut.1)
