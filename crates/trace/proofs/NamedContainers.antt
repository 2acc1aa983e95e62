-- The place of a container that is found by its number.
use Rattle.std.proofs.Common.{◌≡◌, ◌∙◌, ℕ, suc, zero, ◌+◌, ◌||◌, Bool, true, false, cond, List, [], ◌∷◌, Option, Some}
use Rattle.std.proofs.Common.{None, ◌<◌, ◌≤◌, length, get_or, option_map, refl, ap, sym, arith, bytes_eq}
use Rattle.std.specs.List.{list_any}
use Rattle.std.specs.Prelude.{◌↔◌, IsTrue, slice_get}
use Rattle.std.proofs.lemmas.Slice.Eq.{bytes_eq-Decides}
use Rattle.std.proofs.lemmas.Option.{slice_get-get_or}
use Rattle.manifest.specs.rule.Containers.{has_twice, names_of}
use Rattle.manifest.specs.state.Containers.{AreContainers}
use Rattle.manifest.specs.declared.pod.ContainerSpec.{ContainerSpec}
use Rattle.lists.specs.rule.Names.{place_of}

same_bytes : (xs ys : List ℕ) → bytes_eq xs ys ≡ true → xs ≡ ys
same_bytes xs ys e = (bytes_eq-Decides xs ys).0 e

is_itself : (xs : List ℕ) → bytes_eq xs xs ≡ true
is_itself xs = (bytes_eq-Decides xs xs).1 refl

first_none : (a b : Bool) → (a || b) ≡ false → a ≡ false
first_none true b e = e
first_none false b e = refl

rest_none : (a b : Bool) → (a || b) ≡ false → b ≡ false
rest_none true b e = absurd (cc)
rest_none false b e = e

none_there : {A : Type 0} (is : A → Bool) (xs : List A) (k : ℕ) (x : A) → list_any is xs ≡ false
    → slice_get xs k ≡ Some x → is x ≡ false
none_there is [] k x none there = absurd (cc)
none_there is (y ∷ ys) zero x none there =
    let same : y ≡ x = cc in ap is (sym same) ∙ first_none (is y) (list_any is ys) none
none_there is (y ∷ ys) (suc k) x none there = none_there is ys k x (rest_none (is y) (list_any is ys) none) there

-- of containers with names of their own, the one that has the name is the first that has it
pub named_there : (cs : List ContainerSpec) (name : List ℕ) (k : ℕ) (c : ContainerSpec) → has_twice cs ≡ false
    → slice_get cs k ≡ Some c → name ≡ c.name → place_of (names_of cs) name ≡ Some k
named_there [] name k c apart there is = absurd (cc)
named_there (x ∷ xs) name zero c apart there is =
    let same : x ≡ c = cc in
    rw (is ∙ ap (λ (o : ContainerSpec). o.name) (sym same), is_itself x.name) refl
named_there (x ∷ xs) name (suc k) c apart there is =
    let others = first_none (list_any (λ o. bytes_eq o.name x.name) xs) (has_twice xs) apart in
    let differs : bytes_eq name x.name ≡ false =
    ap (λ (n : List ℕ). bytes_eq n x.name) is
    ∙ none_there (λ (o : ContainerSpec). bytes_eq o.name x.name) xs k c others there in
    let apart_later = rest_none (list_any (λ o. bytes_eq o.name x.name) xs) (has_twice xs) apart in
    let later = named_there xs name k c apart_later there is in
    rw (differs, later) (ap Some (omega arith))

one_more : (o : Option ℕ) (k : ℕ) → option_map (λ i. i + 1) o ≡ Some (suc k) → o ≡ Some k
one_more None k e = absurd (cc)
one_more (Some m) k e = let is : m + 1 ≡ suc k = cc in ap Some (omega arith)

not_first : (o : Option ℕ) → option_map (λ i. i + 1) o ≡ Some 0 → ⊥
not_first None e = absurd (cc)
not_first (Some m) e = let is : m + 1 ≡ 0 = cc in omega arith

later_place : (b : Bool) (o : Option ℕ) (k : ℕ) → cond b (Some 0) (option_map (λ i. i + 1) o) ≡ Some (suc k)
    → o ≡ Some k
later_place true o k e = absurd (cc)
later_place false o k e = one_more o k e

first_place : (b : Bool) (o : Option ℕ) → cond b (Some 0) (option_map (λ i. i + 1) o) ≡ Some 0 → b ≡ true
first_place true o e = refl
first_place false o e = absurd (not_first o e)

-- what stands at the place of a name has the name
there_named : (cs : List ContainerSpec) (name : List ℕ) (k : ℕ) (c : ContainerSpec) → slice_get cs k ≡ Some c
    → place_of (names_of cs) name ≡ Some k → bytes_eq name c.name ≡ true
there_named [] name k c there e = absurd (cc)
there_named (x ∷ xs) name zero c there e =
    let same : x ≡ c = cc in
    ap (λ (o : ContainerSpec). bytes_eq name o.name) (sym same)
    ∙ first_place (bytes_eq name x.name) (place_of (names_of xs) name) e
there_named (x ∷ xs) name (suc k) c there e =
    there_named xs name k c there (later_place (bytes_eq name x.name) (place_of (names_of xs) name) k e)

by_name : (cs : List ContainerSpec) (name : List ℕ) (k : ℕ) (c : ContainerSpec) (named : Bool) → has_twice cs ≡ false
    → slice_get cs k ≡ Some c → bytes_eq name c.name ≡ named
    → (IsTrue named ↔ (place_of (names_of cs) name ≡ Some k))
by_name cs name k c true apart there is =
    (λ yes. named_there cs name k c apart there (same_bytes name c.name is), λ e. refl)
by_name cs name k c false apart there is =
    (λ yes. absurd (cc), λ e. let named : bytes_eq name c.name ≡ true = there_named cs name k c there e in absurd (cc))

-- the name of the container that a look at this number finds
pub named_at : (cs seen : List ContainerSpec) (name : List ℕ) (k : ℕ) (c : ContainerSpec) (named : Bool)
    → AreContainers cs → seen ≡ cs → k < length seen → c ≡ get_or seen k c → named ≡ bytes_eq name c.name
    → (IsTrue named ↔ (place_of (names_of cs) name ≡ Some k))
named_at cs seen name k c named are same lt is at =
    let there : slice_get cs k ≡ Some c =
    ap (λ (os : List ContainerSpec). slice_get os k) (sym same) ∙ slice_get-get_or seen k c lt ∙ ap Some (sym is) in
    by_name cs name k c named are.apart there (sym at)

within_step : (b : Bool) (o : Option ℕ) (n k : ℕ) → cond b (Some 0) (option_map (λ i. i + 1) o) ≡ Some k
    → ((m : ℕ) → o ≡ Some m → m < n) → k < suc n
within_step true o n k e h = let is : 0 ≡ k = cc in omega arith
within_step false None n k e h = absurd (cc)
within_step false (Some m) n k e h = let is : m + 1 ≡ k = cc in let lt = h m refl in omega arith

-- a name's place is that of a container
pub place_within : (cs : List ContainerSpec) (name : List ℕ) (k : ℕ) → place_of (names_of cs) name ≡ Some k
    → k < length cs
place_within [] name k e = absurd (cc)
place_within (c ∷ cs) name k e =
    within_step (bytes_eq name c.name) (place_of (names_of cs) name) (length cs) k e (λ m is. place_within cs name m is)

pub none_at : (cs seen : List ContainerSpec) (name : List ℕ) (k : ℕ) → seen ≡ cs → length seen ≤ k
    → (IsTrue false ↔ (place_of (names_of cs) name ≡ Some k))
none_at cs seen name k same le = (
  λ yes. absurd (cc),
  λ e.
      let lt = place_within cs name k e in
      let count = ap (λ (os : List ContainerSpec). length os) same in
      absurd (omega arith),
)
