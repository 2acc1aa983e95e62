-- Blank lines: those that a text begins with, and that none has a value.
use Rattle.std.proofs.Common.{◌≡◌, ◌==◌, ◌||◌, ℕ, zero, suc, ◌+◌, List, [], ◌∷◌, drop, true, false, IsSome, None}
use Rattle.std.proofs.Common.{◌∙◌, ap, option_and_then, Option, Some, refl, arith, inl, inr}
use Rattle.std.proofs.lemmas.Bool.{and_parts, cases_Bool, eqb-true, or_cases}
use Rattle.std.specs.List.{prefix_len}
use Rattle.json.specs.Json.{Json, document, if_last, max_depth, value}
use Rattle.json.specs.Lex.{between, class, fresh, lex, punctuate, space, tokens}
use Rattle.json_lines.specs.rule.Lines.{is_blank, is_blank_byte}

pub blank_first : (line : List ℕ) (lines : List (List ℕ)) → is_blank line ≡ true
    → prefix_len is_blank (line ∷ lines) ≡ 1 + prefix_len is_blank lines
blank_first line lines blank = rw blank refl

-- what is left behind the first of the items that are left
pub drop_first : {A : Type 0} (n : ℕ) (xs : List A) (x : A) (ys : List A) → x ∷ ys ≡ drop n xs → ys ≡ drop (n + 1) xs
drop_first zero [] x ys cut = absurd (cc)
drop_first zero (y ∷ xs) x ys cut = cc
drop_first (suc n) [] x ys cut = absurd (cc)
drop_first (suc n) (y ∷ xs) x ys cut =
    let moved : suc n + 1 ≡ suc (n + 1) = omega arith in
    rw moved (drop_first n xs x ys cut)

-- a blank text has no lexeme, so no token and no value
blank_is_space : (b : ℕ) → is_blank_byte b ≡ true → class b ≡ space
blank_is_space b blank =
    elim (or_cases (b == 32 || b == 9) (b == 13) blank) [
      | inl early ↦
          elim (or_cases (b == 32) (b == 9) early) [
            | inl is ↦ rw (eqb-true b 32 is) refl
            | inr is ↦ rw (eqb-true b 9 is) refl
          ]
      | inr is ↦ rw (eqb-true b 13 is) refl
    ]

none_lexed : (line : List ℕ) → is_blank line ≡ true → lex between line ≡ []
unfolding lex
none_lexed [] blank = refl
none_lexed (b ∷ bs) blank =
    let both = and_parts (is_blank_byte b) (is_blank bs) blank in
    rw (blank_is_space b both.0) (none_lexed bs both.1)

no_token : punctuate fresh [] ≡ []
unfolding punctuate
no_token = refl

no_value : (depth : ℕ) → value depth [] ≡ None
unfolding value
no_value zero = refl
no_value (suc depth) = refl

none_said : (line : List ℕ) → is_blank line ≡ true → document line ≡ None
none_said line blank =
    let none : tokens line ≡ [] = ap (punctuate fresh) (none_lexed line blank) ∙ no_token in
    ap (λ ts. option_and_then (λ p. if_last p.0 p.1) (value max_depth ts)) none
    ∙ ap (option_and_then (λ p. if_last p.0 p.1)) (no_value max_depth)

not_some : (o : Option Json) → IsSome o → o ≡ None → ⊥
not_some (Some j) some none = absurd (cc)
not_some None some none = absurd (cc)

pub some_not_blank : (line : List ℕ) → IsSome (document line) → is_blank line ≡ false
some_not_blank line some = elim (cases_Bool (is_blank line)) [
  | inl blank ↦ absurd (not_some (document line) some (none_said line blank))
  | inr other ↦ other
]
