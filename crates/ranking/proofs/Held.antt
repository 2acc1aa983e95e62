-- An index after a change, and its first pod.
use Rattle.std.proofs.Common.{◌≡◌, inl, inr, ℕ, ◌<◌, List, [], ◌∷◌, length, Bool, true, false, cond}
use Rattle.std.proofs.Common.{refl, sym, ap, subst, ◌∙◌, arith}
use Rattle.std.specs.Prelude.{◌≢◌, ◌↔◌, ◌==◌, IsTrue, Option, Some, None, option_map, if◌then◌else◌}
use Rattle.std.specs.List.{list_any}
use Rattle.std.specs.Ordering.{nat_cmp, is_gt}
use Rattle.std.specs.declared.cmp.Ordering.{Ordering}
use Rattle.std.specs.declared.cmp.Ordering.TheVariants.{Less, Equal, Greater}
use Rattle.std.proofs.lemmas.Bool.{cases_eq}
use Rattle.std.proofs.lemmas.Bool.Decides.{eqb_tells}
use Rattle.signals.specs.declared.signal.Signal.{Signal}
use Rattle.pod_piece.specs.declared.status.PodStatus.{PodStatus}
use Rattle.pod_piece.specs.rule.Status.{MayBeEvicted}
use Rattle.ranking.specs.declared.key.RankKey.{RankKey}
use Rattle.ranking.specs.state.Keys.{key_of, rank_cmp}
use Rattle.ranking.specs.rule.Order.{IsBefore, IsVictim}
use Rattle.ranking.specs.state.Index.{Ranks, Matches, IsIndexOf, AreHeldWithout, AreHeldAfter, key_at}
use Rattle.ranking.proofs.KeyOrder.{numbers_exact, keys_exact, IsWith, with_here, with_other}
use Rattle.ranking.proofs.Tells.{tells_keys}

-- a test that fails
pub fails : {P : Type 0} (test : Bool) → (IsTrue test ↔ P) → test ≡ false → P → ⊥
fails test is no_test p = let e : test ≡ true = is.1 p in absurd (cc)

-- the index after what is held under one number has changed
pub changed : (held after : ℕ → Option PodStatus) (old new : Ranks) (number : ℕ) (now : Option PodStatus)
    → new.signal ≡ old.signal → new.has_dedicated_imagefs ≡ old.has_dedicated_imagefs
    → ((p : PodStatus) → now ≡ Some p → p.number ≡ number)
    → after number ≡ now → ((n : ℕ) → n ≢ number → after n ≡ held n)
    → key_at new.keys number ≡ option_map (key_of old.signal old.has_dedicated_imagefs) now
    → ((n : ℕ) → n ≢ number → key_at new.keys n ≡ key_at old.keys n)
    → IsIndexOf held old → IsIndexOf after new
changed held after old new number now signal dedicated its here others its_key other_keys is =
    record { numbered = numbered; keyed = keyed }
  where
    key : Option PodStatus → Option RankKey
    key o = option_map (key_of old.signal old.has_dedicated_imagefs) o

    numbered : (n : ℕ) (p : PodStatus) → after n ≡ Some p → p.number ≡ n
    numbered n p e = elim (cases_eq n number) [
      | inl same ↦
          let P : ℕ → Type 0 = λ i. after i ≡ Some p in
          its p (sym here ∙ subst P same e) ∙ sym same
      | inr apart ↦ is.numbered n p (sym (others n apart) ∙ e)
    ]

    each : (n : ℕ) → key_at new.keys n ≡ key (after n)
    each n = elim (cases_eq n number) [
      | inl same ↦
          let P : ℕ → Type 0 = λ i. key_at new.keys i ≡ key (after i) in
          subst P (sym same) (its_key ∙ ap key (sym here))
      | inr apart ↦ other_keys n apart ∙ is.keyed n ∙ ap key (sym (others n apart))
    ]

    keyed : (n : ℕ) → key_at new.keys n ≡ option_map (key_of new.signal new.has_dedicated_imagefs) (after n)
    keyed n =
        let P : Signal → Type 0 = λ s. key_at new.keys n ≡ option_map (key_of s new.has_dedicated_imagefs) (after n) in
        let Q : Bool → Type 0 = λ d. key_at new.keys n ≡ option_map (key_of old.signal d) (after n) in
        subst P (sym signal) (subst Q (sym dedicated) (each n))

pub removed : (held after : ℕ → Option PodStatus) (old new : Ranks) (number : ℕ)
    → new.signal ≡ old.signal → new.has_dedicated_imagefs ≡ old.has_dedicated_imagefs
    → IsWith nat_cmp (key_at old.keys) number None (key_at new.keys)
    → IsIndexOf held old → AreHeldWithout held number after → IsIndexOf after new
removed held after old new number signal dedicated keys is are =
    changed held after old new number None signal dedicated (λ p e. absurd (cc)) are.gone are.others
    (with_here numbers_exact (key_at old.keys) number None (key_at new.keys) keys number refl)
    (λ n apart. with_other numbers_exact (key_at old.keys) number None (key_at new.keys) keys n (λ e. apart (sym e)))
    is

pub out_without : (moment : ℕ) (held after : ℕ → Option PodStatus) (status : PodStatus)
    → (MayBeEvicted moment status → ⊥) → AreHeldAfter moment held status after
    → AreHeldWithout held status.number after
out_without moment held after status out are = record { gone = are.out out; others = are.others }

pub updated : (moment : ℕ) (held after : ℕ → Option PodStatus) (old new : Ranks) (status : PodStatus) (key : RankKey)
    → MayBeEvicted moment status
    → new.signal ≡ old.signal → new.has_dedicated_imagefs ≡ old.has_dedicated_imagefs
    → key ≡ key_of old.signal old.has_dedicated_imagefs status
    → ((n : ℕ) → key_at new.keys n ≡ (if key.number == n then Some key else key_at old.keys n))
    → IsIndexOf held old → AreHeldAfter moment held status after → IsIndexOf after new
updated moment held after old new status key may signal dedicated its keys is are =
    changed held after old new status.number (Some status) signal dedicated number
    (are.in_place may) are.others here others is
  where
    number : (p : PodStatus) → Some status ≡ Some p → p.number ≡ status.number
    number p e = let same : status ≡ p = cc in sym (ap (λ (s : PodStatus). s.number) same)

    at : key.number ≡ status.number
    at = ap (λ (k : RankKey). k.number) its

    here : key_at new.keys status.number ≡ Some (key_of old.signal old.has_dedicated_imagefs status)
    here = elim (eqb_tells key.number status.number) [
      | inl w ↦
          keys status.number ∙ ap (λ t. cond t (Some key) (key_at old.keys status.number)) w.0 ∙ ap (λ k. Some k) its
      | inr w ↦ absurd (w.1 at)
    ]

    others : (n : ℕ) → n ≢ status.number → key_at new.keys n ≡ key_at old.keys n
    others n apart = elim (eqb_tells key.number n) [
      | inl w ↦ absurd (apart (sym w.1 ∙ at))
      | inr w ↦ keys n ∙ ap (λ t. cond t (Some key) (key_at old.keys n)) w.0
    ]

pub empty_any : (ks : List RankKey) (test : RankKey → Bool) → (0 < length ks → ⊥) → list_any test ks ≡ false
empty_any [] test n = refl
empty_any (k ∷ ks) test n = absurd (n (omega arith))

mapped : (f : PodStatus → RankKey) (o : Option PodStatus) (k : RankKey) → option_map f o ≡ Some k
    → (p : PodStatus) × (o ≡ Some p) × (f p ≡ k)
mapped f None k e = absurd (cc)
mapped f (Some p) k e = (p, refl, cc)

pub none_first : (held : ℕ → Option PodStatus) (ranks : Ranks) (has : RankKey → Bool)
    → Matches has (key_at ranks.keys) → IsIndexOf held ranks → ((k : RankKey) → has k ≡ false)
    → IsVictim ranks.signal ranks.has_dedicated_imagefs (λ n p. held n ≡ Some p) None
none_first held ranks has m is empty n p live =
    let key = key_of ranks.signal ranks.has_dedicated_imagefs in
    let there : key_at ranks.keys n ≡ Some (key p) = is.keyed n ∙ ap (option_map key) live in
    let x : has (key p) ≡ true = m.complete n (key p) there in
    let y : has (key p) ≡ false = empty (key p) in
    absurd (cc)

not_greater : (o : Ordering) → is_gt o ≡ false → (o ≡ Equal → ⊥) → o ≡ Less
not_greater Less e n = refl
not_greater Equal e n = absurd (n refl)
not_greater Greater e n = absurd (cc)

pub some_first : (held : ℕ → Option PodStatus) (ranks : Ranks) (has : RankKey → Bool) (k : RankKey)
    → Matches has (key_at ranks.keys) → IsIndexOf held ranks → has k ≡ true
    → ((q : RankKey) → has q ≡ true → is_gt (rank_cmp k q) ≡ false)
    → IsVictim ranks.signal ranks.has_dedicated_imagefs (λ n p. held n ≡ Some p) (Some k.number)
some_first held ranks has k m is member least = (found.0, found.1, before)
  where
    key : PodStatus → RankKey
    key p = key_of ranks.signal ranks.has_dedicated_imagefs p

    found : (p : PodStatus) × (held k.number ≡ Some p) × (key p ≡ k)
    found = mapped key (held k.number) k (sym (is.keyed k.number) ∙ m.sound k member)

    apart : (i : ℕ) (q : PodStatus) → q.number ≡ i → i ≢ k.number → rank_cmp k (key q) ≡ Equal → ⊥
    apart i q number other same =
        other (sym (ap (λ (x : RankKey). x.number) (keys_exact.exact k (key q) same) ∙ number))

    before : (i : ℕ) (q : PodStatus) → held i ≡ Some q → i ≢ k.number
        → IsBefore ranks.signal ranks.has_dedicated_imagefs found.0 q
    before i q e other =
        let there : key_at ranks.keys i ≡ Some (key q) = is.keyed i ∙ ap (option_map key) e in
        let le : is_gt (rank_cmp k (key q)) ≡ false = least (key q) (m.complete i (key q) there) in
        let less = not_greater (rank_cmp k (key q)) le (apart i q (is.numbered i q e) other) in
        let P : RankKey → Type 0 = λ j. rank_cmp j (key q) ≡ Less in
        (tells_keys ranks.signal ranks.has_dedicated_imagefs found.0 q).less.0 (subst P (sym found.2) less)
