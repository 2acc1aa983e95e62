-- The order of keys is total, and tells all keys apart.
use Rattle.std.proofs.Common.{◌≡◌, ◌⊎◌, inl, inr, ℕ, Bool, true, false, cond, refl, sym, ap, subst, ◌∙◌}
use Rattle.std.specs.Prelude.{ℤ}
use Rattle.std.specs.Ordering.{nat_cmp, int_cmp, bool_cmp, is_eq}
use Rattle.std.specs.declared.cmp.Ordering.{Ordering}
use Rattle.std.specs.declared.cmp.Ordering.TheVariants.{Less, Equal, Greater}
use Rattle.std.specs.Cmp.{IsTotalOrder, nat_cmp_total, int_cmp_total, bool_cmp_total, on_total, then_total, back_total}
use Rattle.std.proofs.lemmas.Cmp.{tied_itself}
use Rattle.std.proofs.lemmas.Map.Lookups.{CmpEqualImpliesEq, exact_unsigned, exact_signed, exact_pairs}
use Rattle.ranking.specs.declared.key.RankKey.{RankKey}
use Rattle.ranking.specs.state.Keys.{rank_cmp}

-- an order that is total and tells all apart
pub record IsExact {K : Type 0} (R : K → K → Ordering) : Type 0 where
  pub total : IsTotalOrder R
  pub exact : CmpEqualImpliesEq R

pub numbers_exact : IsExact nat_cmp
numbers_exact = record { total = nat_cmp_total; exact = exact_unsigned }

exact_bool : CmpEqualImpliesEq bool_cmp
exact_bool true true e = refl
exact_bool false false e = refl
exact_bool true false e = absurd (cc)
exact_bool false true e = absurd (cc)

abbrev Fields : Type 0
Fields = Bool × (Bool × (ℤ × (Bool × (ℕ × (ℕ × ℕ)))))

fields : RankKey → Fields
fields k =
    (k.follows_unsampled, (k.within_request, (k.priority, (k.is_sampled, (k.excess.0, (k.shortfall, k.number))))))

made : Fields → RankKey
made f = record {
  follows_unsampled = f.0;
  within_request = f.1.0;
  priority = f.1.1.0;
  is_sampled = f.1.1.1.0;
  excess = record { 0 = f.1.1.1.1.0 };
  shortfall = f.1.1.1.1.1.0;
  number = f.1.1.1.1.1.1;
}

exact_keys : CmpEqualImpliesEq rank_cmp
unfolding fields made
exact_keys j k e =
    let numbers = exact_pairs nat_cmp nat_cmp exact_unsigned exact_unsigned in
    let margins = exact_pairs (λ (x y : ℕ). nat_cmp y x) _ (λ x y r. sym (exact_unsigned y x r)) numbers in
    let samples = exact_pairs bool_cmp _ exact_bool margins in
    let priorities = exact_pairs int_cmp _ exact_signed samples in
    let requests = exact_pairs bool_cmp _ exact_bool priorities in
    let same : fields j ≡ fields k = exact_pairs bool_cmp _ exact_bool requests (fields j) (fields k) e in
    ap made same

keys_total : IsTotalOrder rank_cmp
keys_total =
    then_total (on_total (λ (k : RankKey). k.follows_unsampled) bool_cmp_total)
    (then_total (on_total (λ (k : RankKey). k.within_request) bool_cmp_total)
    (then_total (on_total (λ (k : RankKey). k.priority) int_cmp_total)
    (then_total (on_total (λ (k : RankKey). k.is_sampled) bool_cmp_total)
    (then_total (on_total (λ (k : RankKey). k.excess.0) (back_total nat_cmp_total))
    (then_total (on_total (λ (k : RankKey). k.shortfall) nat_cmp_total)
    (on_total (λ (k : RankKey). k.number) nat_cmp_total))))))

pub keys_exact : IsExact rank_cmp
keys_exact = record { total = keys_total; exact = exact_keys }

-- a test that tells whether two are one
abbrev pub IsTestOf : {K : Type 0} → K → K → Bool → Type 0
IsTestOf a b test = ((test ≡ true) × (a ≡ b)) ⊎ ((test ≡ false) × (a ≡ b → ⊥))

pub tested : {K : Type 0} {R : K → K → Ordering} → IsExact R → (a b : K) → IsTestOf a b (is_eq (R a b))
tested {K = K} {R = R} x a b = by (R a b) refl
  where
    apart : (o : Ordering) → R a b ≡ o → (o ≡ Equal → ⊥) → a ≡ b → ⊥
    apart o e n same =
        let P : K → Type 0 = λ y. R a y ≡ Equal in
        n (sym e ∙ subst P same (tied_itself x.total a))

    by : (o : Ordering) → R a b ≡ o → IsTestOf a b (is_eq o)
    by Equal e = inl (refl, x.exact a b e)
    by Less e = inr (refl, apart Less e (λ f. absurd (cc)))
    by Greater e = inr (refl, apart Greater e (λ f. absurd (cc)))

-- after is before, but for the value v at k
abbrev pub IsWith : {K X : Type 0} → (K → K → Ordering) → (K → X) → K → X → (K → X) → Type 0
IsWith {K} R before k v after = (q : K) → after q ≡ cond (is_eq (R k q)) v (before q)

pub with_here : {K X : Type 0} {R : K → K → Ordering} → IsExact R → (before : K → X) (k : K) (v : X) (after : K → X)
    → IsWith R before k v after → (q : K) → k ≡ q → after q ≡ v
with_here x before k v after is q same = elim (tested x k q) [
  | inl w ↦ is q ∙ ap (λ t. cond t v (before q)) w.0
  | inr w ↦ absurd (w.1 same)
]

pub with_other : {K X : Type 0} {R : K → K → Ordering} → IsExact R → (before : K → X) (k : K) (v : X) (after : K → X)
    → IsWith R before k v after → (q : K) → (k ≡ q → ⊥) → after q ≡ before q
with_other x before k v after is q apart = elim (tested x k q) [
  | inl w ↦ absurd (apart w.1)
  | inr w ↦ is q ∙ ap (λ t. cond t v (before q)) w.0
]
