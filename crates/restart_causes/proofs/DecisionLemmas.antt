-- The first rule that matches, and what follows from the decision.
use Rattle.std.proofs.Common.{◌≡◌, ◌∙◌, inl, inr, ℕ, zero, suc, ◌+◌, ◌<◌, ℤ, Bool, true, false, List, [], ◌∷◌, Option}
use Rattle.std.proofs.Common.{Some, None, option_map, refl, ap, sym, subst, arith}
use Rattle.std.specs.Prelude.{◌↔◌, ◌||◌, slice_get, if◌then◌else◌}
use Rattle.std.specs.List.{list_any}
use Rattle.std.proofs.lemmas.Option.{same_Some}
use Rattle.histories.specs.rule.Histories.{IsFirst, IsFirstPlace}
use Rattle.manifest.specs.declared.policy.Policy.{Policy}
use Rattle.manifest.specs.declared.policy.Policy.TheVariants.{Always}
use Rattle.manifest.specs.declared.pod.Role.{Role}
use Rattle.manifest.specs.declared.pod.Role.TheVariants.{Init, Sidecar, App}
use Rattle.manifest.specs.declared.own_restarts.RestartRule.{RestartRule}
use Rattle.manifest.specs.declared.own_restarts.OwnRestarts.{OwnRestarts}
use Rattle.restarts.specs.rule.Own.{matches, policy_after, WantsRestartBy}
use Rattle.restarts.specs.rule.Policy.{WantsRestart}
use Rattle.restart_causes.specs.rule.Decisions.{first_match, own_decision, decision_by, decision_after}
use Rattle.restart_causes.specs.state.Laws.{MatchesAt}

pub counted_on : (n : ℕ) (o : Option ℕ)
    → option_map (λ k. n + k) (option_map suc o) ≡ option_map (λ k. n + 1 + k) o
counted_on n None = refl
counted_on n (Some k) = let e : n + suc k ≡ n + 1 + k = omega arith in ap (λ k. Some k) e

pub first_matches : (code : ℤ) (rules : List RestartRule) → IsFirstPlace (MatchesAt code rules) (first_match code rules)
first_matches code [] = λ t (rule, at, _). absurd (cc)
first_matches code (rule ∷ rules) = here (first_matches code rules) (matches code rule) refl
  where
    later : (o : Option ℕ) → matches code rule ≡ false → IsFirstPlace (MatchesAt code rules) o
        → IsFirstPlace (MatchesAt code (rule ∷ rules)) (option_map suc o)
    later None not none = no
      where
        no : (t : ℕ) → MatchesAt code (rule ∷ rules) t → ⊥
        no zero (r, at, m) = let e : rule ≡ r = same_Some rule r at in absurd (cc)
        no (suc t) w = none t w
    later (Some place) not f = record { holds = f.holds; none_before = no }
      where
        no : (u : ℕ) → u < suc place → MatchesAt code (rule ∷ rules) u → ⊥
        no zero lt (r, at, m) = let e : rule ≡ r = same_Some rule r at in absurd (cc)
        no (suc u) lt w = f.none_before u (omega arith) w

    here : IsFirstPlace (MatchesAt code rules) (first_match code rules) → (b : Bool) → matches code rule ≡ b
        → IsFirstPlace (MatchesAt code (rule ∷ rules)) (if b then Some 0 else option_map suc (first_match code rules))
    here rest true m = record { holds = (rule, refl, m); none_before = λ u lt w. absurd (omega arith) }
    here rest false not = later (first_match code rules) not rest

any_match : (code : ℤ) (rules : List RestartRule) (policy : Policy)
    → (if list_any (matches code) rules then Always else policy) ≡ (own_decision policy (first_match code rules)).policy
any_match code [] policy = refl
any_match code (rule ∷ rules) policy = here (any_match code rules policy) (matches code rule) refl
  where
    shifted : (o : Option ℕ) → (own_decision policy (option_map suc o)).policy ≡ (own_decision policy o).policy
    shifted None = refl
    shifted (Some place) = refl

    here : (if list_any (matches code) rules then Always else policy)
        ≡ (own_decision policy (first_match code rules)).policy → (b : Bool) → matches code rule ≡ b
        → (if list_any (matches code) (rule ∷ rules) then Always else policy)
        ≡ (own_decision policy (if b then Some 0 else option_map suc (first_match code rules))).policy
    here rest true m = ap (λ b. if b || list_any (matches code) rules then Always else policy) m
    here rest false not =
        ap (λ b. if b || list_any (matches code) rules then Always else policy) not ∙ rest
        ∙ sym (shifted (first_match code rules))

same_policy : (policy : Policy) (own : Option OwnRestarts) (code : ℤ)
    → policy_after policy own code ≡ (decision_by policy own code).policy
same_policy policy None code = refl
same_policy policy (Some own) code = any_match code own.rules own.policy

pub restart_follows : (policy : Policy) (own : Option OwnRestarts) (role : Role) (code : ℤ)
    → (WantsRestart (decision_after policy own role code).policy role code ↔ WantsRestartBy policy own role code)
restart_follows policy own Sidecar code = ((λ w. w), (λ w. w))
restart_follows policy own Init code =
    let P : Policy → Type 0 = λ p. WantsRestart p Init code in
    ((λ w. subst P (sym (same_policy policy own code)) w), (λ w. subst P (same_policy policy own code) w))
restart_follows policy own App code =
    let P : Policy → Type 0 = λ p. WantsRestart p App code in
    ((λ w. subst P (sym (same_policy policy own code)) w), (λ w. subst P (same_policy policy own code) w))
