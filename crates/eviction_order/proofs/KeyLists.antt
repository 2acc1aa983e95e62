-- Keys that ascend are those of pods in the order of eviction.
use Rattle.std.proofs.Common.{◌≡◌, ◌∙◌, ◌⊎◌, inl, inr, ℕ, zero, suc, ◌<◌, List, [], ◌∷◌, ◌++◌, length, Bool, true, Option}
use Rattle.std.proofs.Common.{BTreeSet, Some, map, take, get_or, ◌+◌, refl, sym, ap, subst, arith}
use Rattle.std.proofs.lemmas.List.{take_more}
use Rattle.std.specs.Prelude.{◌≢◌, ◌↔◌, Contains, IsTrue}
use Rattle.std.specs.BTreeSet.{contains, IsOrdered}
use Rattle.std.proofs.lemmas.Map.Views.{btree_set_contains_iff}
use Rattle.std.specs.List.Sorted.{IsStrictlySortedBy}
use Rattle.std.specs.declared.cmp.Ordering.TheVariants.{Less, Equal}
use Rattle.std.proofs.lemmas.Cmp.{tied_itself}
use Rattle.std.proofs.lemmas.List.Elements.{Contains-push, Contains-append_left, Contains-append_cases}
use Rattle.std.proofs.lemmas.Option.{same_Some}
use Rattle.signals.specs.declared.signal.Signal.{Signal}
use Rattle.pod_piece.specs.declared.status.PodStatus.{PodStatus}
use Rattle.ranking.specs.declared.key.RankKey.{RankKey}
use Rattle.ranking.specs.rule.Order.{IsBefore}
use Rattle.ranking.specs.state.Keys.{key_of, rank_cmp}
use Rattle.ranking.proofs.Tells.{tells_keys}
use Rattle.ranking.proofs.KeyOrder.{keys_exact, tested, IsWith, with_here, with_other}
use Rattle.eviction_order.specs.rule.Ranked.{Without, AreRanked}
use Rattle.eviction_order.specs.state.Keys.{AreKeysOf}

-- a key is one of these
abbrev pub In : RankKey → List RankKey → Type 0
In q [] = ⊥
In q (k ∷ ks) = (q ≡ k) ⊎ In q ks

-- these are the keys of the candidates
pub record AreKeys (signal : Signal) (dedicated : Bool) (C : ℕ → PodStatus → Type 0) (ks : List RankKey)
    : Type 0 where
  pub sound : (k : RankKey) → In k ks → (p : PodStatus) × C k.number p × (key_of signal dedicated p ≡ k)
  pub complete : (n : ℕ) (p : PodStatus) → C n p → In (key_of signal dedicated p) ks
  pub numbered : (n : ℕ) (p : PodStatus) → C n p → p.number ≡ n
  pub alike : (n : ℕ) (p q : PodStatus) → C n p → C n q → key_of signal dedicated p ≡ key_of signal dedicated q

-- the first of ascending keys is less than each later one
less_than : (k q : RankKey) (ks : List RankKey) → IsStrictlySortedBy rank_cmp (k ∷ ks) → In q ks → rank_cmp k q ≡ Less
unfolding IsStrictlySortedBy
less_than k q [] up i = absurd i
less_than k q (x ∷ ks) up (inl e) = subst (λ (y : RankKey). rank_cmp k y ≡ Less) (sym e) up.0.0
less_than k q (x ∷ ks) up (inr i) = less_than k q ks (up.0.1, up.1.1) i

-- the keys behind the first are those of the other candidates
rest_keys : (signal : Signal) (dedicated : Bool) (C : ℕ → PodStatus → Type 0) (k : RankKey) (ks : List RankKey)
    → IsStrictlySortedBy rank_cmp (k ∷ ks) → AreKeys signal dedicated C (k ∷ ks)
    → AreKeys signal dedicated (Without k.number C) ks
rest_keys signal dedicated C k ks up are = record {
  sound = λ q i.
      let w = are.sound q (inr i) in (
        w.0,
        (w.1, λ same. not_same q i w.0 w.1 w.2 same),
        w.2,
      );
  complete = λ n p w. other n p w.0 w.1 (are.complete n p w.0);
  numbered = λ n p w. are.numbered n p w.0;
  alike = λ n p q v w. are.alike n p q v.0 w.0;
}
  where
    not_same : (q : RankKey) → In q ks → (p : PodStatus) → C q.number p → key_of signal dedicated p ≡ q
        → q.number ≡ k.number → ⊥
    not_same q i p c is same =
        let first = are.sound k (inl refl) in
        let there : C k.number p = subst (λ (n : ℕ). C n p) same c in
        let one : q ≡ k = sym is ∙ are.alike k.number p first.0 there first.1 ∙ first.2 in
        let less : rank_cmp k k ≡ Less = subst (λ (y : RankKey). rank_cmp k y ≡ Less) one (less_than k q ks up i) in
        let tied : rank_cmp k k ≡ Equal = tied_itself keys_exact.total k in
        cc

    other : (n : ℕ) (p : PodStatus) → C n p → n ≢ k.number → In (key_of signal dedicated p) (k ∷ ks)
        → In (key_of signal dedicated p) ks
    other n p c apart (inl e) =
        absurd (apart (sym (are.numbered n p c) ∙ ap (λ (key : RankKey). key.number) e))
    other n p c apart (inr i) = i

pub in_order : (signal : Signal) (dedicated : Bool) (C : ℕ → PodStatus → Type 0) (ks : List RankKey)
    → IsStrictlySortedBy rank_cmp ks → AreKeys signal dedicated C ks
    → AreRanked signal dedicated C (map (λ (k : RankKey). k.number) ks)
unfolding IsStrictlySortedBy
in_order signal dedicated C [] up are = λ n p c. are.complete n p c
in_order signal dedicated C (k ∷ ks) up are =
    let first = are.sound k (inl refl) in (
      (first.0, first.1, λ m q c apart. before first.0 first.2 m q c apart),
      in_order signal dedicated (Without k.number C) ks up.1 (rest_keys signal dedicated C k ks up are),
    )
  where
    before : (p : PodStatus) → key_of signal dedicated p ≡ k → (m : ℕ) (q : PodStatus) → C m q → m ≢ k.number
        → IsBefore signal dedicated p q
    before p is m q c apart =
        let later = (rest_keys signal dedicated C k ks up are).complete m q (c, apart) in
        let less = less_than k (key_of signal dedicated q) ks up later in
        (tells_keys signal dedicated p q).less.0
        (subst (λ (j : RankKey). rank_cmp j (key_of signal dedicated q) ≡ Less) (sym is) less)

-- a set with one key more
pub one_in : (has more : RankKey → Bool) (xs : List RankKey) (x : RankKey)
    → ((k : RankKey) → (IsTrue (has k) ↔ Contains xs k)) → IsWith rank_cmp has x true more
    → (k : RankKey) → (IsTrue (more k) ↔ Contains (xs ++ x ∷ []) k)
one_in has more xs x are is k = elim (tested keys_exact x k) [
  | inl w ↦ (
    (λ e. subst (λ (y : RankKey). Contains (xs ++ x ∷ []) y) w.1 (Contains-push xs x)),
    (λ c. with_here keys_exact has x true more is k w.1),
  )
  | inr w ↦
      let same : more k ≡ has k = with_other keys_exact has x true more is k w.1 in (
        (λ e. Contains-append_left xs (x ∷ []) k ((are k).0 (sym same ∙ e))),
        (λ c. same ∙ (are k).1 (before k w.1 (Contains-append_cases xs (x ∷ []) k c))),
      )
]
  where
    before : (k : RankKey) → (x ≡ k → ⊥) → Contains xs k ⊎ Contains (x ∷ []) k → Contains xs k
    before k apart (inl c) = c
    before k apart (inr (zero, lt, e)) = absurd (apart e)
    before k apart (inr (suc j, lt, e)) = absurd (omega arith)

-- what the list of a set's keys contains
in_of : (q : RankKey) (ks : List RankKey) → Contains ks q → In q ks
in_of q [] (j, lt, e) = absurd (omega arith)
in_of q (k ∷ ks) (zero, lt, e) = inl (sym e)
in_of q (k ∷ ks) (suc j, lt, e) = inr (in_of q ks (j, omega arith, e))

of_in : (q : RankKey) (ks : List RankKey) → In q ks → Contains ks q
of_in q [] i = absurd i
of_in q (k ∷ ks) (inl e) = (0, omega arith, sym e)
of_in q (k ∷ ks) (inr i) = let c = of_in q ks i in (suc c.0, let lt : c.0 < length ks = c.1 in omega arith, c.2)

-- the keys of pods that are held, in a list of the same keys
pub keys_held : (signal : Signal) (dedicated : Bool) (held : ℕ → Option PodStatus) (keys sorted : List RankKey)
    → AreKeysOf signal dedicated held keys → ((k : RankKey) → (Contains sorted k ↔ Contains keys k))
    → AreKeys signal dedicated (λ n p. held n ≡ Some p) sorted
keys_held signal dedicated held keys sorted are same = record {
  sound = λ k i. are.sound k ((same k).0 (of_in k sorted i));
  complete = λ n p e. in_of (key_of signal dedicated p) sorted ((same (key_of signal dedicated p)).1
      (are.complete n p e));
  numbered = are.numbered;
  alike = λ n p q e f.
      let both : Some p ≡ Some q = sym e ∙ f in
      ap (key_of signal dedicated) (same_Some p q both);
}

-- with the next key of a list
pub set_more : (keys : List RankKey) (i : ℕ) (x : RankKey) (has more : RankKey → Bool) → i < length keys
    → x ≡ get_or keys i x → ((k : RankKey) → (IsTrue (has k) ↔ Contains (take i keys) k))
    → IsWith rank_cmp has x true more → (k : RankKey) → (IsTrue (more k) ↔ Contains (take (i + 1) keys) k)
set_more keys i x has more lt at are is k =
    let e : take (i + 1) keys ≡ take i keys ++ x ∷ [] =
    take_more keys i x lt ∙ ap (λ (y : RankKey). take i keys ++ y ∷ []) (sym at) in
    rw e (one_in has more (take i keys) x are is k)

-- the keys of a set ascend
pub ascending : (order : BTreeSet RankKey) → IsOrdered rank_cmp order → IsStrictlySortedBy rank_cmp order.keys
ascending order is = is

-- and are those that it contains
pub same_keys : (order : BTreeSet RankKey) (keys sorted : List RankKey) → sorted ≡ order.keys
    → ((k : RankKey) → (IsTrue (contains rank_cmp order k) ↔ Contains keys k)) → (k : RankKey)
    → (Contains sorted k ↔ Contains keys k)
same_keys order keys sorted is are k =
    let iff = btree_set_contains_iff keys_exact.total keys_exact.exact order k in
    rw is ((λ c. (are k).0 (iff.1 c)), (λ c. iff.0 ((are k).1 c)))
