-- A set of keys beside the keys by number, after a change of both.
use Rattle.std.proofs.Common.{◌≡◌, inl, inr, ℕ, Bool, true, false, cond, refl, sym, ap, subst, ◌∙◌}
use Rattle.std.specs.Prelude.{not, Option, Some, None}
use Rattle.std.specs.Ordering.{nat_cmp, is_eq}
use Rattle.ranking.specs.declared.key.RankKey.{RankKey}
use Rattle.ranking.specs.state.Keys.{rank_cmp}
use Rattle.ranking.specs.state.Index.{Matches}
use Rattle.ranking.proofs.KeyOrder.{numbers_exact, keys_exact, tested, IsWith, with_here, with_other}

-- a new key of a pod that had none
pub put_new : (has more : RankKey → Bool) (keys then : ℕ → Option RankKey) (key : RankKey)
    → Matches has keys → keys key.number ≡ None
    → IsWith rank_cmp has key true more → IsWith nat_cmp keys key.number (Some key) then → Matches more then
put_new has more keys then key m none put at = record { sound = sound; complete = complete; numbered = numbered }
  where
    here : (n : ℕ) → key.number ≡ n → then n ≡ Some key
    here n same = with_here numbers_exact keys key.number (Some key) then at n same

    elsewhere : (n : ℕ) → (key.number ≡ n → ⊥) → then n ≡ keys n
    elsewhere n apart = with_other numbers_exact keys key.number (Some key) then at n apart

    not_its : (k : RankKey) → keys k.number ≡ Some k → key.number ≡ k.number → ⊥
    not_its k found e =
        let P : ℕ → Type 0 = λ n. keys n ≡ None in
        let gone : keys k.number ≡ None = subst P e none in
        absurd (cc)

    sound : (k : RankKey) → more k ≡ true → then k.number ≡ Some k
    sound k is = elim (tested keys_exact key k) [
      | inl w ↦ here k.number (ap (λ (x : RankKey). x.number) w.1) ∙ ap (λ x. Some x) w.1
      | inr w ↦
          let was : has k ≡ true = sym (with_other keys_exact has key true more put k w.1) ∙ is in
          let found : keys k.number ≡ Some k = m.sound k was in
          elsewhere k.number (not_its k found) ∙ found
    ]

    complete : (n : ℕ) (k : RankKey) → then n ≡ Some k → more k ≡ true
    complete n k is = elim (tested numbers_exact key.number n) [
      | inl w ↦
          let found : then n ≡ Some key = here n w.1 in
          let same : key ≡ k = cc in
          with_here keys_exact has key true more put k same
      | inr w ↦
          let was : keys n ≡ Some k = sym (elsewhere n w.1) ∙ is in
          let old : has k ≡ true = m.complete n k was in
          elim (tested keys_exact key k) [
            | inl v ↦ with_here keys_exact has key true more put k v.1
            | inr v ↦ with_other keys_exact has key true more put k v.1 ∙ old
          ]
    ]

    numbered : (n : ℕ) (k : RankKey) → then n ≡ Some k → k.number ≡ n
    numbered n k is = elim (tested numbers_exact key.number n) [
      | inl w ↦
          let found : then n ≡ Some key = here n w.1 in
          let same : key ≡ k = cc in
          sym (ap (λ (x : RankKey). x.number) same) ∙ w.1
      | inr w ↦ m.numbered n k (sym (elsewhere n w.1) ∙ is)
    ]

-- a key taken out
pub put_out : (has less : RankKey → Bool) (keys then : ℕ → Option RankKey) (n : ℕ) (key : RankKey)
    → Matches has keys → keys n ≡ Some key
    → IsWith rank_cmp has key false less → IsWith nat_cmp keys n None then → Matches less then
put_out has less keys then n key m some out at = record { sound = sound; complete = complete; numbered = numbered }
  where
    elsewhere : (i : ℕ) → (n ≡ i → ⊥) → then i ≡ keys i
    elsewhere i apart = with_other numbers_exact keys n None then at i apart

    its : (k : RankKey) → keys k.number ≡ Some k → n ≡ k.number → key ≡ k
    its k found e =
        let P : ℕ → Type 0 = λ x. keys x ≡ Some key in
        let here : keys k.number ≡ Some key = subst P e some in
        cc

    sound : (k : RankKey) → less k ≡ true → then k.number ≡ Some k
    sound k is = elim (tested keys_exact key k) [
      | inl w ↦
          let gone : less k ≡ false = with_here keys_exact has key false less out k w.1 in
          let e : less k ≡ true = is in
          absurd (cc)
      | inr w ↦
          let was : has k ≡ true = sym (with_other keys_exact has key false less out k w.1) ∙ is in
          let found : keys k.number ≡ Some k = m.sound k was in
          elsewhere k.number (λ e. w.1 (its k found e)) ∙ found
    ]

    complete : (i : ℕ) (k : RankKey) → then i ≡ Some k → less k ≡ true
    complete i k is = elim (tested numbers_exact n i) [
      | inl w ↦ let here : then i ≡ None = with_here numbers_exact keys n None then at i w.1 in absurd (cc)
      | inr w ↦
          let was : keys i ≡ Some k = sym (elsewhere i w.1) ∙ is in
          let old : has k ≡ true = m.complete i k was in
          elim (tested keys_exact key k) [
            | inl v ↦
                let x : key.number ≡ n = m.numbered n key some in
                let y : k.number ≡ i = m.numbered i k was in
                let f : key.number ≡ k.number = ap (λ (x : RankKey). x.number) v.1 in
                absurd (w.1 (sym x ∙ f ∙ y))
            | inr v ↦ with_other keys_exact has key false less out k v.1 ∙ old
          ]
    ]

    numbered : (i : ℕ) (k : RankKey) → then i ≡ Some k → k.number ≡ i
    numbered i k is = elim (tested numbers_exact n i) [
      | inl w ↦ let here : then i ≡ None = with_here numbers_exact keys n None then at i w.1 in absurd (cc)
      | inr w ↦ m.numbered i k (sym (elsewhere i w.1) ∙ is)
    ]

-- a new key in the place of the pod's old one
pub put_changed : (has more less : RankKey → Bool) (keys then : ℕ → Option RankKey) (key old : RankKey)
    → Matches has keys → has key ≡ false → keys key.number ≡ Some old
    → IsWith rank_cmp has key true more → IsWith rank_cmp more old false less
    → IsWith nat_cmp keys key.number (Some key) then → Matches less then
put_changed has more less keys then key old m new some put out at =
    put_new without_old less without_number then key mid
    (with_here numbers_exact keys key.number None without_number (λ i. refl) key.number refl) also_key also_number
  where
    without_old : RankKey → Bool
    without_old q = cond (is_eq (rank_cmp old q)) false (has q)

    without_number : ℕ → Option RankKey
    without_number i = cond (is_eq (nat_cmp key.number i)) None (keys i)

    mid : Matches without_old without_number
    mid = put_out has without_old keys without_number key.number old m some (λ q. refl) (λ i. refl)

    apart : key ≡ old → ⊥
    apart e =
        let P : RankKey → Type 0 = λ k. has k ≡ false in
        let x : has old ≡ true = m.complete key.number old some in
        let y : has old ≡ false = subst P e new in
        absurd (cc)

    also_key : IsWith rank_cmp without_old key true less
    also_key q = elim (tested keys_exact key q) [
      | inl w ↦
          let here : more q ≡ true = with_here keys_exact has key true more put q w.1 in
          let there : less q ≡ more q = with_other keys_exact more old false less out q (λ e. apart (w.1 ∙ sym e)) in
          there ∙ here ∙ sym (ap (λ t. cond t true (without_old q)) w.0)
      | inr w ↦
          let there : more q ≡ has q = with_other keys_exact has key true more put q w.1 in
          out q ∙ ap (λ t. cond (is_eq (rank_cmp old q)) false t) there
          ∙ sym (ap (λ t. cond t true (without_old q)) w.0)
    ]

    also_number : IsWith nat_cmp without_number key.number (Some key) then
    also_number i = elim (tested numbers_exact key.number i) [
      | inl w ↦
          at i ∙ ap (λ t. cond t (Some key) (keys i)) w.0 ∙ sym (ap (λ t. cond t (Some key) (without_number i)) w.0)
      | inr w ↦
          let there : without_number i ≡ keys i = ap (λ t. cond t None (keys i)) w.0 in
          at i ∙ ap (λ t. cond (is_eq (nat_cmp key.number i)) (Some key) t) (sym there)
    ]

-- a key put in and taken out again
pub put_back : (has more less : RankKey → Bool) (keys then : ℕ → Option RankKey) (key : RankKey)
    → Matches has keys → has key ≡ false
    → IsWith rank_cmp has key true more → IsWith rank_cmp more key false less
    → ((n : ℕ) → then n ≡ keys n) → Matches less then
put_back has more less keys then key m new put out same =
    record {
      sound = λ k e. same k.number ∙ m.sound k (sym (is k) ∙ e);
      complete = λ n k e. is k ∙ m.complete n k (sym (same n) ∙ e);
      numbered = λ n k e. m.numbered n k (sym (same n) ∙ e);
    }
  where
    is : (q : RankKey) → less q ≡ has q
    is q = elim (tested keys_exact key q) [
      | inl w ↦
          let P : RankKey → Type 0 = λ k. has k ≡ false in
          with_here keys_exact more key false less out q w.1 ∙ sym (subst P w.1 new)
      | inr w ↦
          with_other keys_exact more key false less out q w.1 ∙ with_other keys_exact has key true more put q w.1
    ]

-- an insertion that says that the key is new
pub was_new : (t b : Bool) → t ≡ not b → t ≡ true → b ≡ false
was_new t true e f = absurd (cc)
was_new t false e f = refl
