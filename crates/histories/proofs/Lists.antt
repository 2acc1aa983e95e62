-- What is at a place of a list, and of a list with one place set or one item more.
use Rattle.std.proofs.Common.{◌≡◌, ◌≢◌, ◌∙◌, ◌⊎◌, inl, inr, ℕ, zero, suc, ◌<◌, List, [], ◌∷◌, ◌++◌, length, take, map}
use Rattle.std.proofs.Common.{get_or, append_assoc, Option, Some, None, refl, ap, sym, arith}
use Rattle.std.specs.Prelude.{slice_get, slice_set, IsSome, IsSomeAnd}
use Rattle.std.proofs.lemmas.List.{take-append-le, take_all}

-- an option that has a value
pub some_given : {A : Type 0} (o : Option A) → IsSome o → (x : A) × (o ≡ Some x)
some_given None e = absurd (cc)
some_given (Some x) e = (x, refl)

-- one of whose value something holds
pub given : {A : Type 0} (P : A → Type 0) (o : Option A) → IsSomeAnd o P → (x : A) × (o ≡ Some x) × P x
given P None p = absurd p
given P (Some x) p = (x, refl, p)

-- what is at a place within a list
pub given_at : {A : Type 0} (xs : List A) (k : ℕ) → k < length xs → (x : A) × (slice_get xs k ≡ Some x)
given_at [] k lt = absurd (omega arith)
given_at (x ∷ xs) zero lt = (x, refl)
given_at (x ∷ xs) (suc k) lt = given_at xs k (omega arith)

-- a list with a place has some item
pub some_item : {A : Type 0} (xs : List A) (k : ℕ) → k < length xs → A
some_item [] k lt = absurd (omega arith)
some_item (x ∷ xs) k lt = x

pub within_and : {A : Type 0} (P : A → Type 0) (xs : List A) (t : ℕ) → IsSomeAnd (slice_get xs t) P → t < length xs
within_and P [] t p = absurd p
within_and P (y ∷ xs) zero p = omega arith
within_and P (y ∷ xs) (suc t) p = let lt : t < length xs = within_and P xs t p in omega arith

-- Lists of one length with the same items at their places

pub same_items : {A : Type 0} (xs ys : List A) → length xs ≡ length ys
    → ((i : ℕ) (d : A) → i < length xs → get_or xs i d ≡ get_or ys i d) → xs ≡ ys
same_items [] [] e same = refl
same_items [] (y ∷ ys) e same = absurd (omega arith)
same_items (x ∷ xs) [] e same = absurd (omega arith)
same_items (x ∷ xs) (y ∷ ys) e same =
    let first : x ≡ y = same 0 x (omega arith) in
    let rest : xs ≡ ys = same_items xs ys (omega arith) (λ i d lt. same (suc i) d (omega arith)) in
    cc

pub same_at : {A : Type 0} (xs ys : List A) → length xs ≡ length ys
    → ((n : ℕ) → n < length xs → slice_get xs n ≡ slice_get ys n) → xs ≡ ys
same_at [] [] long same = refl
same_at [] (y ∷ ys) long same = absurd (omega arith)
same_at (x ∷ xs) [] long same = absurd (omega arith)
same_at (x ∷ xs) (y ∷ ys) long same =
    let first : Some x ≡ Some y = same 0 (omega arith) in
    let head : x ≡ y = cc in
    let rest : xs ≡ ys = same_at xs ys (omega (arith, long)) (λ n lt. same (suc n) (omega (arith, lt))) in
    ap (λ z. z ∷ xs) head ∙ ap (λ zs. y ∷ zs) rest

pub same_places : {A : Type 0} (xs ys : List A) → length xs ≡ length ys
    → ((n : ℕ) (x y : A) → slice_get xs n ≡ Some x → slice_get ys n ≡ Some y → x ≡ y) → xs ≡ ys
same_places [] [] len same = refl
same_places [] (y ∷ ys) len same = absurd (omega arith)
same_places (x ∷ xs) [] len same = absurd (omega arith)
same_places (x ∷ xs) (y ∷ ys) len same =
    let first : x ≡ y = same 0 x y refl refl in
    let rest : xs ≡ ys = same_places xs ys (omega arith) (λ n a b here there. same (suc n) a b here there) in
    cc

-- A list with one place set

pub set_length : {A : Type 0} (xs : List A) (i : ℕ) (v : A) → length (slice_set xs i v) ≡ length xs
set_length [] i v = refl
set_length (x ∷ xs) zero v = refl
set_length (x ∷ xs) (suc i) v = ap suc (set_length xs i v)

pub set_here : {A : Type 0} (xs : List A) (n : ℕ) (x y : A) → slice_get xs n ≡ Some y
    → slice_get (slice_set xs n x) n ≡ Some x
set_here [] n x y at = absurd (cc)
set_here (z ∷ xs) zero x y at = refl
set_here (z ∷ xs) (suc n) x y at = set_here xs n x y at

pub set_others : {A : Type 0} (xs : List A) (n m : ℕ) (x : A) → m ≢ n → slice_get (slice_set xs n x) m ≡ slice_get xs m
set_others [] n m x apart = refl
set_others (z ∷ xs) zero zero x apart = absurd (apart refl)
set_others (z ∷ xs) zero (suc m) x apart = refl
set_others (z ∷ xs) (suc n) zero x apart = refl
set_others (z ∷ xs) (suc n) (suc m) x apart = set_others xs n m x (λ e. apart (ap suc e))

pub set_split : {A : Type 0} (xs : List A) (i : ℕ) (v w : A) (n : ℕ) → slice_get (slice_set xs i v) n ≡ Some w
    → ((n ≡ i) × (v ≡ w)) ⊎ ((n ≡ i → ⊥) × (slice_get xs n ≡ Some w))
set_split [] i v w n e = absurd (cc)
set_split (x ∷ xs) zero v w zero e = inl (refl, cc)
set_split (x ∷ xs) zero v w (suc n) e = inr ((λ z. omega arith), e)
set_split (x ∷ xs) (suc i) v w zero e = inr ((λ z. omega arith), e)
set_split (x ∷ xs) (suc i) v w (suc n) e = elim (set_split xs i v w n e) [
  | inl s ↦ inl (ap suc s.0, s.1)
  | inr s ↦ inr ((λ z. s.0 (omega arith)), s.1)
]

-- A list with more items at its end

-- more items leave those before as they are
pub slice_get-old : {A : Type 0} (xs ys : List A) (k : ℕ) → k < length xs → slice_get (xs ++ ys) k ≡ slice_get xs k
slice_get-old [] ys k lt = absurd (omega arith)
slice_get-old (x ∷ xs) ys zero lt = refl
slice_get-old (x ∷ xs) ys (suc k) lt = slice_get-old xs ys k (omega arith)

pub slice_get-kept : {A : Type 0} (xs ys : List A) (k : ℕ) (x : A) → slice_get xs k ≡ Some x
    → slice_get (xs ++ ys) k ≡ Some x
slice_get-kept [] ys k x is = absurd (cc)
slice_get-kept (y ∷ xs) ys zero x is = is
slice_get-kept (y ∷ xs) ys (suc k) x is = slice_get-kept xs ys k x is

-- the new one is at its place
pub slice_get-new : {A : Type 0} (xs : List A) (x : A) → slice_get (xs ++ x ∷ []) (length xs) ≡ Some x
slice_get-new [] x = refl
slice_get-new (y ∷ xs) x = slice_get-new xs x

-- what is at a place is old, or the new one
pub place_split : {A : Type 0} (xs : List A) (x y : A) (t : ℕ) → slice_get (xs ++ x ∷ []) t ≡ Some y
    → (slice_get xs t ≡ Some y) ⊎ ((t ≡ length xs) × (x ≡ y))
place_split [] x y zero e = inr (refl, cc)
place_split [] x y (suc t) e = absurd (cc)
place_split (z ∷ xs) x y zero e = inl e
place_split (z ∷ xs) x y (suc t) e = elim (place_split xs x y t e) [ inl old ↦ inl old | inr w ↦ inr (ap suc w.0, w.1) ]

-- the items before the new one
pub take_old : {A : Type 0} (xs : List A) (x : A) (t : ℕ) → t ≡ length xs → take t (xs ++ x ∷ []) ≡ xs
take_old xs x t e = take-append-le t xs (x ∷ []) (omega arith) ∙ take_all t xs (omega arith)

pub map_more : {A B : Type 0} (f : A → B) (xs : List A) (x : A) → map f (xs ++ x ∷ []) ≡ map f xs ++ f x ∷ []
map_more f [] x = refl
map_more f (y ∷ xs) x = ap (λ k. f y ∷ k) (map_more f xs x)

-- the first places, with one more
pub take_more : {A : Type 0} (xs : List A) (i : ℕ) (x : A) → slice_get xs i ≡ Some x
    → take (suc i) xs ≡ take i xs ++ x ∷ []
take_more [] i x e = absurd (cc)
take_more (y ∷ xs) zero x e = let same : y ≡ x = cc in cc
take_more (y ∷ xs) (suc i) x e = ap (λ k. y ∷ k) (take_more xs i x e)

-- an item that comes next belongs to what was there
pub rest_more : {A : Type 0} (all front : List A) (x : A) (rest : List A) → all ≡ front ++ x ∷ rest
    → all ≡ (front ++ x ∷ []) ++ rest
rest_more all front x rest is = is ∙ sym (append_assoc front (x ∷ []) rest)
