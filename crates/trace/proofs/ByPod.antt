-- Where the entries of each pod stand, entry by entry.
use Rattle.std.proofs.Common.{◌≡◌, ◌∙◌, ◌⊎◌, ℕ, suc, ◌+◌, ◌<◌, ◌==◌, ◌||◌, Bool, true, false, cond, List, []}
use Rattle.std.proofs.Common.{◌∷◌, ◌++◌, length, get_or, Option, Some, None, is_some, option_map, refl, ap, sym, subst}
use Rattle.std.proofs.Common.{inl, inr, arith, take, drop}
use Rattle.std.specs.Prelude.{slice_get}
use Rattle.std.specs.List.{list_any}
use Rattle.std.proofs.Math.ListN.{set}
use Rattle.std.proofs.Math.Seq.{take-append_seam}
use Rattle.std.proofs.lemmas.Bool.{eqb-true, eqb-false}
use Rattle.std.proofs.lemmas.List.{get_or-set_same, get_or-set_other, length-set, length-take-le, take_more}
use Rattle.std.proofs.lemmas.Option.{slice_get-get_or}
use Rattle.trace.specs.declared.placing.PlacedEntry.{PlacedEntry}
use Rattle.trace.specs.state.ByPod.{first_entry, AreFirst}
use Rattle.trace.specs.rule.Observed.{entry_for}
use Rattle.trace.specs.rule.Placing.{has_twice, are_of_one_pod}
use Rattle.trace.proofs.Twice.{turned, twice_more}

later : (b : Bool) (o p : Option ℕ) (n : ℕ) → p ≡ cond (is_some o) o (cond b (Some n) None)
    → option_map (λ k. k + 1) p ≡ cond (is_some (option_map (λ k. k + 1) o)) (option_map (λ k. k + 1) o)
    (cond b (Some (suc n)) None)
later b (Some k) p n e = ap (option_map (λ k. k + 1)) e
later true None p n e = ap (option_map (λ k. k + 1)) e ∙ ap Some (omega arith)
later false None p n e = ap (option_map (λ k. k + 1)) e

-- one entry more is its pod's first where the pod has none before it
pub first_more : (es : List PlacedEntry) (e : PlacedEntry) (n : ℕ)
    → first_entry (es ++ e ∷ []) n
    ≡ cond (is_some (first_entry es n)) (first_entry es n) (cond (e.pod == n) (Some (length es)) None)
first_more [] e n = elim (e.pod == n) as (λ b. cond b (Some 0) (option_map (λ k. k + 1) None) ≡ cond b (Some 0) None) [
  | true ↦ refl
  | false ↦ refl
]
first_more (x ∷ xs) e n =
    elim (x.pod == n) as (λ b. cond b (Some 0) (option_map (λ k. k + 1) (first_entry (xs ++ e ∷ []) n))
    ≡ cond (is_some (cond b (Some 0) (option_map (λ k. k + 1) (first_entry xs n))))
    (cond b (Some 0) (option_map (λ k. k + 1) (first_entry xs n))) (cond (e.pod == n) (Some (suc (length xs))) None)) [
      | true ↦ refl
      | false ↦ later (e.pod == n) (first_entry xs n) (first_entry (xs ++ e ∷ []) n) (length xs) (first_more xs e n)
    ]

some_later : (b : Bool) (o : Option ℕ) → is_some (cond b (Some 0) (option_map (λ k. k + 1) o)) ≡ (b || is_some o)
some_later true o = refl
some_later false None = refl
some_later false (Some k) = refl

-- a pod has an entry where one of them is the first
one_first : (es : List PlacedEntry) (n : ℕ) → list_any (λ y. y.pod == n) es ≡ is_some (first_entry es n)
one_first [] n = refl
one_first (x ∷ xs) n =
    ap (λ (b : Bool). (x.pod == n) || b) (one_first xs n) ∙ sym (some_later (x.pod == n) (first_entry xs n))

-- it makes a pod stand twice where that has an entry before it
pub twice_with : (es : List PlacedEntry) (e : PlacedEntry)
    → has_twice are_of_one_pod (es ++ e ∷ []) ≡ (has_twice are_of_one_pod es || is_some (first_entry es e.pod))
twice_with es e =
    twice_more are_of_one_pod (λ x y. turned x.pod y.pod) es e
    ∙ ap (λ (b : Bool). has_twice are_of_one_pod es || b) (one_first es e.pod)

none_step : (b : Bool) (x : PlacedEntry) (o : Option ℕ) (rest : Option PlacedEntry)
    → cond b (Some 0) (option_map (λ k. k + 1) o) ≡ None → (o ≡ None → rest ≡ None) → cond b (Some x) rest ≡ None
none_step true x o rest e h = absurd (cc)
none_step false x None rest e h = h refl
none_step false x (Some k) rest e h = absurd (cc)

some_step : (b : Bool) (x : PlacedEntry) (xs : List PlacedEntry) (o : Option ℕ) (rest : Option PlacedEntry) (k : ℕ)
    → cond b (Some 0) (option_map (λ k. k + 1) o) ≡ Some k → ((m : ℕ) → o ≡ Some m → rest ≡ slice_get xs m)
    → cond b (Some x) rest ≡ slice_get (x ∷ xs) k
some_step true x xs o rest k e h = let is : 0 ≡ k = cc in subst (λ (j : ℕ). Some x ≡ slice_get (x ∷ xs) j) is refl
some_step false x xs None rest k e h = absurd (cc)
some_step false x xs (Some m) rest k e h =
    let next : m + 1 ≡ k = cc in
    let is : suc m ≡ k = omega arith in
    subst (λ (j : ℕ). rest ≡ slice_get (x ∷ xs) j) is (h m refl)

-- a pod with no place has no entry
pub no_entry : (es : List PlacedEntry) (n : ℕ) → first_entry es n ≡ None → entry_for es n ≡ None
no_entry [] n e = refl
no_entry (x ∷ xs) n e = none_step (x.pod == n) x (first_entry xs n) (entry_for xs n) e (no_entry xs n)

-- one with a place has the entry that stands there
pub entry_there : (es : List PlacedEntry) (n k : ℕ) → first_entry es n ≡ Some k → entry_for es n ≡ slice_get es k
entry_there [] n k e = absurd (cc)
entry_there (x ∷ xs) n k e = some_step (x.pod == n) x xs (first_entry xs n) (entry_for xs n) k e
    (λ m is. entry_there xs n m is)

within_step : (b : Bool) (o : Option ℕ) (n k : ℕ) → cond b (Some 0) (option_map (λ k. k + 1) o) ≡ Some k
    → ((m : ℕ) → o ≡ Some m → m < n) → k < suc n
within_step true o n k e h = let is : 0 ≡ k = cc in omega arith
within_step false None n k e h = absurd (cc)
within_step false (Some m) n k e h = let is : m + 1 ≡ k = cc in let lt = h m refl in omega arith

pub first_within : (es : List PlacedEntry) (n k : ℕ) → first_entry es n ≡ Some k → k < length es
first_within [] n k e = absurd (cc)
first_within (x ∷ xs) n k e = within_step (x.pod == n) (first_entry xs n) (length xs) k e
    (λ m is. first_within xs n m is)

pub entry_stands : (es : List PlacedEntry) (n k : ℕ) (e : PlacedEntry) → first_entry es n ≡ Some k → e ≡ get_or es k e
    → Some e ≡ entry_for es n
entry_stands es n k e here is =
    ap Some is ∙ sym (entry_there es n k here ∙ slice_get-get_or es k e (first_within es n k here))

kept : (f : Option ℕ) (b : Bool) (o : Option ℕ) → (is_some f ≡ true) ⊎ (b ≡ false)
    → cond (is_some f) f (cond b o None) ≡ f
kept (Some k) b o h = refl
kept None b o (inl some) = absurd (cc)
kept None b o (inr other) = rw other refl

-- a pod that the noted entry is not of, or that has an earlier one, keeps its place
earlier_or_other : (es : List PlacedEntry) (e : PlacedEntry) (pods : ℕ) (old : List (Option ℕ))
    → AreFirst es pods old → true ≡ is_some (get_or old e.pod None) → (n : ℕ) → n < pods → (t : Bool)
    → (e.pod == n) ≡ t → (is_some (first_entry es n) ≡ true) ⊎ ((e.pod == n) ≡ false)
earlier_or_other es e pods old is earlier n lt true here =
    let same : get_or old e.pod None ≡ first_entry es n =
    ap (λ (k : ℕ). get_or old k None) (eqb-true e.pod n here) ∙ is.first n lt in
    inl (sym (earlier ∙ ap (λ (o : Option ℕ). is_some o) same))
earlier_or_other es e pods old is earlier n lt false other = inr other

none_is : (o : Option ℕ) → false ≡ is_some o → o ≡ None
none_is None e = refl
none_is (Some k) e = absurd (cc)

-- a pod without an earlier entry gets its place from the noted one
noted_at : (es : List PlacedEntry) (e : PlacedEntry) (pods : ℕ) (old : List (Option ℕ)) → e.pod < pods
    → AreFirst es pods old → false ≡ is_some (get_or old e.pod None) → (n : ℕ) → n < pods → (t : Bool)
    → (e.pod == n) ≡ t → get_or (set old e.pod (Some (length es))) n None
    ≡ cond (is_some (first_entry es n)) (first_entry es n) (cond (e.pod == n) (Some (length es)) None)
noted_at es e pods old within is new n lt true here =
    let at : e.pod ≡ n = eqb-true e.pod n here in
    let count = is.count in
    let none : first_entry es n ≡ None =
    sym (is.first n lt) ∙ ap (λ (k : ℕ). get_or old k None) (sym at) ∙ none_is (get_or old e.pod None) new in
    ap (λ (k : ℕ). get_or (set old e.pod (Some (length es))) k None) (sym at)
    ∙ get_or-set_same old e.pod (Some (length es)) None (omega arith)
    ∙ sym (ap (λ (o : Option ℕ). cond (is_some o) o (cond (e.pod == n) (Some (length es)) None)) none
    ∙ ap (λ (b : Bool). cond b (Some (length es)) None) here)
noted_at es e pods old within is new n lt false other =
    get_or-set_other old e.pod n (Some (length es)) None (λ at. eqb-false e.pod n other (sym at)) ∙ is.first n lt
    ∙ sym (kept (first_entry es n) (e.pod == n) (Some (length es)) (inr other))

-- the first places, once the next entry is noted
pub first_noted : (es : List PlacedEntry) (e : PlacedEntry) (pods : ℕ) (old new : List (Option ℕ)) (b : Bool)
    → e.pod < pods → AreFirst es pods old → b ≡ is_some (get_or old e.pod None)
    → new ≡ cond b old (set old e.pod (Some (length es))) → AreFirst (es ++ e ∷ []) pods new
first_noted es e pods old new true within is earlier same = record {
  count = ap (λ (places : List (Option ℕ)). length places) same ∙ is.count;
  first = λ n lt.
      ap (λ (places : List (Option ℕ)). get_or places n None) same ∙ is.first n lt
      ∙ sym (first_more es e n
      ∙ kept (first_entry es n) (e.pod == n) (Some (length es)) (earlier_or_other es e pods old is earlier n lt
      (e.pod == n) refl));
}
first_noted es e pods old new false within is earlier same = record {
  count = ap (λ (places : List (Option ℕ)). length places) same
      ∙ length-set old e.pod (Some (length es)) ∙ is.count;
  first = λ n lt.
      ap (λ (places : List (Option ℕ)). get_or places n None) same
      ∙ noted_at es e pods old within is earlier n lt (e.pod == n) refl ∙ sym (first_more es e n);
}

one_entry_more : (entries : List PlacedEntry) (i : ℕ) (e : PlacedEntry) → i < length entries → e ≡ get_or entries i e
    → take i entries ++ e ∷ [] ≡ take (i + 1) entries
one_entry_more entries i e lt is =
    ap (λ (x : PlacedEntry). take i entries ++ x ∷ []) is ∙ sym (take_more entries i e lt)

-- a turn of the loop over the entries: what it notes of the pods
pub turn_notes : (entries : List PlacedEntry) (i : ℕ) (e : PlacedEntry) (pods : ℕ) (old new : List (Option ℕ))
    (b : Bool) → i < length entries → e ≡ get_or entries i e → e.pod < pods → AreFirst (take i entries) pods old
    → b ≡ is_some (get_or old e.pod None) → new ≡ cond b old (set old e.pod (Some i))
    → AreFirst (take (i + 1) entries) pods new
turn_notes entries i e pods old new b lt is within first earlier same =
    let count : length (take i entries) ≡ i = length-take-le i entries (omega arith) in
    subst (λ (es : List PlacedEntry). AreFirst es pods new) (one_entry_more entries i e lt is)
    (first_noted (take i entries) e pods old new b within first earlier
    (same ∙ ap (λ (k : ℕ). cond b old (set old e.pod (Some k))) (sym count)))

-- and whether one stands twice
pub turn_repeats : (entries : List PlacedEntry) (i : ℕ) (e : PlacedEntry) (pods : ℕ) (old : List (Option ℕ))
    (twice b : Bool) → i < length entries → e ≡ get_or entries i e → e.pod < pods
    → AreFirst (take i entries) pods old → b ≡ is_some (get_or old e.pod None)
    → twice ≡ has_twice are_of_one_pod (take i entries)
    → (twice || b) ≡ has_twice are_of_one_pod (take (i + 1) entries)
turn_repeats entries i e pods old twice b lt is within first earlier before =
    ap (λ (t : Bool). t || b) before
    ∙ ap (λ (t : Bool). has_twice are_of_one_pod (take i entries) || t)
    (earlier ∙ ap (λ (o : Option ℕ). is_some o) (first.first e.pod within))
    ∙ sym (twice_with (take i entries) e)
    ∙ ap (λ (es : List PlacedEntry). has_twice are_of_one_pod es) (one_entry_more entries i e lt is)

-- a list that was written over whole
pub written_over : {A : Type 0} (new old : List A) (n : ℕ) → length new ≡ n
    → take n (new ++ drop (length new) old) ≡ new
written_over new old n e =
    ap (λ (k : ℕ). take k (new ++ drop (length new) old)) (sym e) ∙ take-append_seam new (drop (length new) old)
