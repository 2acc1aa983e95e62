-- An instance is what it is kept as.
use Rattle.std.proofs.Common.{◌≡◌, ◌∙◌, ℕ, ℤ, pos, true, false, Option, Some, None, refl, ap, sym, subst}
use Rattle.std.proofs.Math.Bool.{Bool-set}
use Rattle.std.specs.Prelude.{is_some, unwrap_or}
use Rattle.state_diff.specs.declared.seen.CriState.{CriState}
use Rattle.state_diff.specs.declared.seen.CriState.TheVariants.{Exited}
use Rattle.state_diff.specs.declared.seen.Seen.{Seen}
use Rattle.state_diff.specs.rule.States.{is_exited}

abbrev seen_with : (attempt : ℕ) (state : CriState) (code : Option ℤ) → is_some code ≡ is_exited state → Option Seen
seen_with attempt state code given = Some (record { attempt = attempt; state = state; code = code; code_given = given })

-- that its exit code is given exactly when it has exited is said in one way
pub one_seen : (attempt : ℕ) (state : CriState) (code : Option ℤ) (given given' : is_some code ≡ is_exited state)
    → seen_with attempt state code given ≡ seen_with attempt state code given'
one_seen attempt state code given given' = ap (seen_with attempt state code) (Bool-set _ _ given given')

pub one_exited : (attempt : ℕ) (code code' : ℤ) (given : is_some (Some code) ≡ is_exited Exited) → code ≡ code'
    → seen_with attempt Exited (Some code) given ≡ seen_with attempt Exited (Some code') refl
one_exited attempt code code' given same =
    let Like : ℤ → Type 0 = λ k. seen_with attempt Exited (Some code) given ≡ seen_with attempt Exited (Some k) refl in
    subst Like same (one_seen attempt Exited (Some code) given refl)

-- an instance of this state and this exit code
pub same_seen : (seen : Seen) (state : CriState) (code : Option ℤ) (given : is_some code ≡ is_exited state)
    → seen.state ≡ state → seen.code ≡ code
    → seen_with seen.attempt state code given ≡ Some seen
same_seen seen state code given is has =
    let Like : CriState → Option ℤ → Type 0 = λ s k. (g : is_some k ≡ is_exited s)
    → seen_with seen.attempt s k g ≡ Some seen in
    subst (λ s. Like s code) is
    (subst (Like seen.state) has (λ g. one_seen seen.attempt seen.state seen.code g seen.code_given)) given

-- one that has not exited has no exit code
without_code : (state : CriState) (code : Option ℤ) → is_some code ≡ is_exited state → is_exited state ≡ false
    → code ≡ None
without_code state None given alive = refl
without_code state (Some k) given alive = let t : true ≡ false = given ∙ alive in absurd (cc)

-- an instance of a state that has not exited
pub same_unexited : (seen : Seen) (state : CriState) (given : false ≡ is_exited state) (found : Option Seen)
    → seen.state ≡ state → found ≡ Some seen → seen_with seen.attempt state None given ≡ found
same_unexited seen state given found is there =
    same_seen seen state None given is
    (without_code seen.state seen.code seen.code_given (ap is_exited is ∙ sym given)) ∙ sym there

-- one that has exited has
pub with_code : (state : CriState) (code : Option ℤ) → is_some code ≡ is_exited state → is_exited state ≡ true
    → code ≡ Some (unwrap_or code (pos 0))
with_code state (Some k) given gone = refl
with_code state None given gone = let t : false ≡ true = given ∙ gone in absurd (cc)
