-- Lists that change by one element, or come as a whole.
use Rattle.std.proofs.Common.{◌≡◌, ℕ, zero, suc, ◌+◌, ◌*◌, ◌<◌, ◌≤◌, List, [], ◌∷◌, ◌++◌, map, length, set, get_or}
use Rattle.std.proofs.Common.{take, drop, reverse, All, sym, refl, ap, ◌∙◌, subst, ⊎_elim, append_assoc, add-one, arith}
use Rattle.std.specs.List.{sum_by, AllWithin}
use Rattle.std.proofs.Math.Seq.{map-set_same}
use Rattle.std.proofs.lemmas.List.{reverse-append, reverse-reverse, get_or-set_same, get_or-set_other}
use Rattle.std.proofs.lemmas.List.{take-map, take_more, drop_more, length-map}
use Rattle.std.proofs.lemmas.Bool.{cases_lt}
use Rattle.std.proofs.lemmas.List.Sums.{sum_by-cons, sum_by-set, sum_by_push}
use Rattle.std.proofs.lemmas.List.Elements.{All-push, All-take, All-drop}
use mathlib.Core.Option.{some, some-injective, some-ne-none}
use lib.ListN.{get_elem?}
use lib.Seq.{take-append_seam, drop-append_seam}
use Rattle.histories.proofs.Lists.{map_more}
use Rattle.piece_deques.specs.state.Rule.{all_parts}

pub ones : {X : Type 0} (xs : List X) → sum_by (λ _. 1) xs ≡ length xs
ones [] = refl
ones {X} (x ∷ xs) = let rest = ones xs in omega (arith, sum_by-cons (λ (_ : X). 1) x xs)

pub more_rows : (n m : ℕ) → (n + 1) * m ≡ n * m + m
more_rows n m = grind arith

pub map_reverse : {X Y : Type 0} (f : X → Y) (xs : List X) → map f (reverse xs) ≡ reverse (map f xs)
map_reverse f [] = refl
map_reverse f (x ∷ xs) =
    ap (map f) (reverse-append (x ∷ []) xs)
    ∙ (map_more f (reverse xs) x
    ∙ (ap (λ l. l ++ f x ∷ []) (map_reverse f xs) ∙ sym (reverse-append (f x ∷ []) (map f xs))))

module _ {X : Type 0} where
  -- Elements of which something holds

  pub all_left : (P : X → Type 0) (xs ys : List X) → All P (xs ++ ys) → All P xs
  all_left P xs ys h = subst (All P) (take-append_seam xs ys) (All-take P (length xs) (xs ++ ys) h)

  pub all_right : (P : X → Type 0) (xs ys : List X) → All P (xs ++ ys) → All P ys
  all_right P xs ys h = subst (All P) (drop-append_seam xs ys) (All-drop P (length xs) (xs ++ ys) h)

  pub none_all : (P : X → Type 0) (xs : List X) → xs ≡ [] → All P xs
  none_all P xs e k d in' = let l : length xs ≡ 0 = ap (λ l. length l) e in absurd (omega arith)

  pub front : (P : X → Type 0) (xs ys : List X) (x : X) → xs ≡ ys ++ x ∷ [] → All P xs → All P ys
  front P xs ys x e all = all_left P ys (x ∷ []) (subst (All P) e all)

  pub last : (P : X → Type 0) (xs ys : List X) (x : X) → xs ≡ ys ++ x ∷ [] → All P xs → P x
  last P xs ys x e all = all_right P ys (x ∷ []) (subst (All P) e all) 0 x (omega arith)

  pub grown : (P : X → Type 0) (xs ys : List X) (x : X) → ys ≡ xs ++ x ∷ [] → All P xs → P x → All P ys
  grown P xs ys x e all mine = subst (All P) (sym e) (All-push P xs x all mine)

  -- what holds of each f x holds again where the list of f x is the same
  pub all_by : {Y : Type 0} (f : X → Y) (P : Y → Type 0) (xs ys : List X) → map f ys ≡ map f xs
      → All (λ x. P (f x)) xs → All (λ x. P (f x)) ys
  all_by f P xs [] same all k d in' = absurd (omega arith)
  all_by f P [] (y ∷ ys) same all k d in' = absurd (cc)
  all_by f P (x ∷ xs) (y ∷ ys) same all zero d in' =
      let e : f x ≡ f y = cc in subst P e (all 0 d (omega arith))
  all_by f P (x ∷ xs) (y ∷ ys) same all (suc k) d in' =
      let e : map f ys ≡ map f xs = cc in
      all_by f P xs ys e (λ j d in'. all (suc j) d (omega arith)) k d (omega arith)

  pub below_set : (P : X → Type 0) (xs : List X) (i : ℕ) (y : X) → AllWithin P xs 0 (i + 1)
      → AllWithin P (set xs i y) 0 i
  below_set P xs i y all k d low high =
      subst P (sym (get_or-set_other xs i k y d (λ e. absurd (omega arith)))) (all k d low (omega arith))

  pub above_set : (P : X → Type 0) (xs : List X) (i n : ℕ) (y : X) → i < length xs → P y
      → AllWithin P xs (i + 1) n → AllWithin P (set xs i y) i n
  above_set P xs i n y in' mine all k d low high =
      ⊎_elim
      (λ (less : i < k).
      subst P (sym (get_or-set_other xs i k y d (λ e. absurd (omega arith)))) (all k d (omega arith) high))
      (λ (more : k ≤ i).
      let e : i ≡ k = omega arith in
      subst (λ j. P (get_or (set xs i y) j d)) e (subst P (sym (get_or-set_same xs i y d in')) mine))
      (cases_lt i k)

  -- Sums

  pub sum_grown : (f : X → ℕ) (xs ys : List X) (x : X) → ys ≡ xs ++ x ∷ [] → sum_by f ys ≡ sum_by f xs + f x
  sum_grown f xs ys x e = ap (sum_by f) e ∙ sum_by_push f xs x

  -- the sum after a change of one element
  pub sum_set : (f : X → ℕ) (xs : List X) (i : ℕ) (x y : X) → i < length xs → x ≡ get_or xs i x
      → sum_by f (set xs i y) + f x ≡ sum_by f xs + f y
  sum_set f xs i x y in' at = let here = ap f at in omega (arith, sum_by-set f xs i y x in')

  -- the same, where the element is found
  pub set_sum : (f : X → ℕ) (xs : List X) (i : ℕ) (x y : X) → get_elem? xs i ≡ some x
      → sum_by f (set xs i y) + f x ≡ sum_by f xs + f y
  set_sum f [] i x y e = absurd (some-ne-none x (sym e))
  set_sum f (z ∷ xs) zero x y e =
      let same : f z ≡ f x = ap f (some-injective z x e) in omega (arith, sum_by-cons f y xs, sum_by-cons f z xs)
  set_sum f (z ∷ xs) (suc i) x y e =
      let rest = set_sum f xs i x y e in omega (arith, sum_by-cons f z (set xs i y), sum_by-cons f z xs)

  pub place_within : (xs : List X) (i : ℕ) (x : X) → get_elem? xs i ≡ some x → i < length xs
  place_within [] i x e = absurd (some-ne-none x (sym e))
  place_within (y ∷ ys) zero x e = omega arith
  place_within (y ∷ ys) (suc i) x e = let rest = place_within ys i x e in omega arith

  -- numbers of parts that are at most all of them, and come to all of them each, are all of them
  most_sum : (f : X → ℕ) (xs : List X) → ((x : X) → f x ≤ all_parts) → sum_by f xs ≤ length xs * all_parts
  most_sum f [] most = omega arith
  most_sum f (x ∷ xs) most =
      let rest = most_sum f xs most in let mine = most x in omega (arith, sum_by-cons f x xs)

  pub all_full : (f : X → ℕ) (xs : List X) → ((x : X) → f x ≤ all_parts) → sum_by f xs ≡ length xs * all_parts
      → All (λ x. f x ≡ all_parts) xs
  all_full f [] most sum k d in' = absurd (omega arith)
  all_full f (x ∷ xs) most sum zero d in' =
      let rest = most_sum f xs most in let mine = most x in omega (arith, sum_by-cons f x xs)
  all_full f (x ∷ xs) most sum (suc k) d in' =
      let few = most_sum f xs most in
      let mine = most x in
      let rest : sum_by f xs ≡ length xs * all_parts = omega (arith, sum_by-cons f x xs) in
      all_full f xs most rest k d (omega arith)

  -- numbers of parts that come to all of them with n each
  pub all_less : (f : X → ℕ) (n : ℕ) (xs : List X) → All (λ x. f x + n ≡ all_parts) xs
      → sum_by f xs + length xs * n ≡ length xs * all_parts
  all_less f n [] each = omega arith
  all_less f n (x ∷ xs) each =
      let rest = all_less f n xs (λ k d in'. each (suc k) d (omega arith)) in
      let mine = each 0 x (omega arith) in
      let rows : length (x ∷ xs) * n ≡ length xs * n + n =
      ap (λ k. k * n) (sym (add-one (length xs))) ∙ more_rows (length xs) n in
      omega (arith, sum_by-cons f x xs)

  -- Maps

  pub map_set : {Y : Type 0} (f : X → Y) (xs : List X) (i : ℕ) (x y : X) → x ≡ get_or xs i x → f y ≡ f x
      → map f (set xs i y) ≡ map f xs
  map_set f xs i x y at same = map-set_same f xs i y x (same ∙ ap f at)

  pub map_here : {Y : Type 0} (f : X → Y) (xs : List X) (i : ℕ) (x : X) → i < length xs → x ≡ get_or xs i x
      → get_elem? (map f xs) i ≡ some (f x)
  map_here f [] i x in' at = absurd (omega arith)
  map_here f (y ∷ xs) zero x in' at = ap (λ z. some (f z)) (sym at)
  map_here f (y ∷ xs) (suc i) x in' at = map_here f xs i x (omega arith) at

  pub get_or_map : {Y : Type 0} (f : X → Y) (xs : List X) (i : ℕ) (x : X)
      → get_or (map f xs) i (f x) ≡ f (get_or xs i x)
  get_or_map f [] i x = refl
  get_or_map f (y ∷ ys) zero x = refl
  get_or_map f (y ∷ ys) (suc i) x = get_or_map f ys i x

  -- what holds of the elements of a list of f x holds of each f x
  pub all_unmap : {Y : Type 0} (f : X → Y) (P : Y → Type 0) (xs : List X) → All P (map f xs) → All (λ x. P (f x)) xs
  all_unmap f P xs all k d in' = subst P (get_or_map f xs k d) (all k (f d) (omega (arith, length-map xs f)))

  pub maps_same : {Y : Type 0} (f : X → Y) (xs ys : List X) → length xs ≡ length ys
      → ((k : ℕ) (d : X) → k < length ys → f (get_or xs k d) ≡ f (get_or ys k d)) → map f xs ≡ map f ys
  maps_same f [] [] len each = refl
  maps_same f [] (y ∷ ys) len each = absurd (omega arith)
  maps_same f (x ∷ xs) [] len each = absurd (omega arith)
  maps_same f (x ∷ xs) (y ∷ ys) len each =
      let rest = maps_same f xs ys (omega arith) (λ k d in'. each (suc k) d (omega arith)) in
      let first = each 0 x (omega arith) in
      λ k. first k ∷ rest k

  pub map_map : {Y Z : Type 0} (f : X → Y) (g : Y → Z) (xs : List X) → map g (map f xs) ≡ map (λ x. g (f x)) xs
  map_map f g [] = refl
  map_map f g (x ∷ xs) = ap (λ l. g (f x) ∷ l) (map_map f g xs)

  pub sum_map : {Y : Type 0} (f : X → Y) (g : Y → ℕ) (xs : List X)
      → sum_by g (map f xs) ≡ sum_by (λ x. g (f x)) xs
  sum_map f g [] = refl
  sum_map f g (x ∷ xs) =
      let rest = sum_map f g xs in
      omega (arith, sum_by-cons g (f x) (map f xs), sum_by-cons (λ x. g (f x)) x xs)

  -- what is a function of each f x is the same where the list of f x is, and adds up to the same
  pub map_same : {Y Z : Type 0} (f : X → Y) (g : Y → Z) (xs ys : List X) → map f xs ≡ map f ys
      → map (λ x. g (f x)) xs ≡ map (λ x. g (f x)) ys
  map_same f g xs ys e = sym (map_map f g xs) ∙ (ap (map g) e ∙ map_map f g ys)

  pub sum_same : {Y : Type 0} (f : X → Y) (g : Y → ℕ) (xs ys : List X) → map f xs ≡ map f ys
      → sum_by (λ x. g (f x)) xs ≡ sum_by (λ x. g (f x)) ys
  sum_same f g xs ys e = sym (sum_map f g xs) ∙ (ap (sum_by g) e ∙ sum_map f g ys)

  pub take_map_more : {Y : Type 0} (f : X → Y) (xs : List X) (i : ℕ) (x : X) → i < length xs → x ≡ get_or xs i x
      → take (i + 1) (map f xs) ≡ take i (map f xs) ++ f x ∷ []
  take_map_more f xs i x in' at =
      take-map f (i + 1) xs
      ∙ (ap (map f) (take_more xs i x in')
      ∙ (map_more f (take i xs) (get_or xs i x)
      ∙ (ap (λ l. l ++ f (get_or xs i x) ∷ []) (sym (take-map f i xs))
      ∙ ap (λ y. take i (map f xs) ++ f y ∷ []) (sym at))))

  pub drop_map_more : {Y : Type 0} (f : X → Y) (xs : List X) (i : ℕ) (x : X) → i < length xs → x ≡ get_or xs i x
      → drop i (map f xs) ≡ f x ∷ drop (i + 1) (map f xs)
  drop_map_more f xs i x in' at =
      let there : i < length (map f xs) = omega (arith, length-map xs f) in
      let mine : get_or (map f xs) i (f x) ≡ f x = get_or_map f xs i x ∙ ap f (sym at) in
      drop_more (map f xs) i (f x) there ∙ ap (λ y. y ∷ drop (i + 1) (map f xs)) mine

  -- Lists that are moved element by element, from the end

  -- the elements moved so far, and those to be moved
  pub moved : {Y Z : Type 0} (f : X → Y) (g : Z → Y) (zs rest : List Z) (z : Z) (xs ys : List X) (x : X)
      (all : List Y) → zs ≡ rest ++ z ∷ [] → ys ≡ xs ++ x ∷ [] → f x ≡ g z → map f xs ++ reverse (map g zs) ≡ all
      → map f ys ++ reverse (map g rest) ≡ all
  moved f g zs rest z xs ys x all e put same before =
      let r = reverse (map g rest) in
      let back : reverse (map g zs) ≡ g z ∷ r =
      ap (λ l. reverse (map g l)) e ∙ (ap reverse (map_more g rest z) ∙ reverse-append (map g rest) (g z ∷ [])) in
      ap (λ l. map f l ++ r) put
      ∙ (ap (λ l. l ++ r) (map_more f xs x)
      ∙ (append_assoc (map f xs) (f x ∷ []) r
      ∙ (ap (λ y. map f xs ++ y ∷ r) same ∙ (ap (λ l. map f xs ++ l) (sym back) ∙ before))))

  -- what is moved at first: all, in reverse
  pub to_move : {Y Z : Type 0} (f : X → Y) (g : Z → Y) (zs rev : List Z) (xs : List X) → xs ≡ [] → rev ≡ reverse zs
      → map f xs ++ reverse (map g rev) ≡ map g zs
  to_move f g zs rev xs none e =
      ap (λ l. map f l ++ reverse (map g rev)) none
      ∙ (ap (λ l. reverse (map g l)) e ∙ (ap reverse (map_reverse g zs) ∙ reverse-reverse (map g zs)))
