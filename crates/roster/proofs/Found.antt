-- Where a key is found.
use Rattle.std.proofs.Common.{◌≡◌, ◌∙◌, ℕ, zero, suc, ◌+◌, Bool, true, false, List, [], ◌∷◌, ◌++◌, length}
use Rattle.std.proofs.Common.{Option, Some, None, refl, ap, sym, arith, option_map, map}
use Rattle.std.specs.Prelude.{bytes_eq, slice_get, slice_set, if◌then◌else◌}
use Rattle.std.proofs.lemmas.List.{map-append, length-map}
use Rattle.std.proofs.lemmas.Option.{slice_get-map}
use Rattle.std.proofs.lemmas.Slice.Eq.{bytes_eq-Decides}
use Rattle.lists.specs.rule.Names.{place_of}
use Rattle.roster.specs.rule.Roll.{number_in}

pub same_key : (k key : List ℕ) → bytes_eq k key ≡ true → k ≡ key
same_key k key e = (bytes_eq-Decides k key).0 e

pub is_itself : (key : List ℕ) → bytes_eq key key ≡ true
is_itself key = (bytes_eq-Decides key key).1 refl

one_more : (o : Option ℕ) (n : ℕ) → option_map (λ i. i + 1) o ≡ Some n → (m : ℕ) × (o ≡ Some m) × (n ≡ suc m)
one_more None n e = absurd (cc)
one_more (Some m) n e = let is : m + 1 ≡ n = cc in (m, refl, omega (arith, is))

none_more : (o : Option ℕ) → option_map (λ i. i + 1) o ≡ None → o ≡ None
none_more None e = refl
none_more (Some m) e = absurd (cc)

-- a place among the keys of pods, of which some have left
pub number_there : (keys : List (Option (List ℕ))) (key : List ℕ) (n : ℕ) → number_in keys key ≡ Some n
    → slice_get keys n ≡ Some (Some key)
number_there [] key n e = absurd (cc)
number_there (None ∷ xs) key n e =
    let w = one_more (number_in xs key) n e in
    ap (λ (k : ℕ). slice_get (None ∷ xs) k) w.2 ∙ number_there xs key w.0 w.1
number_there (Some x ∷ xs) key n e = by (number_there xs key) (bytes_eq key x) refl e
  where
    by : ((m : ℕ) → number_in xs key ≡ Some m → slice_get xs m ≡ Some (Some key)) → (b : Bool) → bytes_eq key x ≡ b
        → (if b then Some 0 else option_map (λ i. i + 1) (number_in xs key)) ≡ Some n
        → slice_get (Some x ∷ xs) n ≡ Some (Some key)
    by rest true is first =
        let here : 0 ≡ n = cc in
        ap (λ (k : ℕ). slice_get (Some x ∷ xs) k) (sym here)
        ∙ ap (λ (k : List ℕ). Some (Some k)) (sym (same_key key x is))
    by rest false is later =
        let w = one_more (number_in xs key) n later in
        ap (λ (k : ℕ). slice_get (Some x ∷ xs) k) w.2 ∙ rest w.0 w.1

pub number_given : (keys : List (Option (List ℕ))) (key : List ℕ) (n : ℕ) → slice_get keys n ≡ Some (Some key)
    → (m : ℕ) × (number_in keys key ≡ Some m)
number_given [] key n e = absurd (cc)
number_given (None ∷ xs) key zero e = absurd (cc)
number_given (None ∷ xs) key (suc n) e =
    let w = number_given xs key n e in (w.0 + 1, ap (option_map (λ i. i + 1)) w.1)
number_given (Some x ∷ xs) key zero e =
    let same : x ≡ key = cc in
    let is : bytes_eq key x ≡ true = (bytes_eq-Decides key x).1 (sym same) in
    (0, rw is refl)
number_given (Some x ∷ xs) key (suc n) e =
    let w = number_given xs key n e in
    by w.0 w.1 (bytes_eq key x)
  where
    by : (m : ℕ) → number_in xs key ≡ Some m → (b : Bool)
        → (k : ℕ) × ((if b then Some 0 else option_map (λ i. i + 1) (number_in xs key)) ≡ Some k)
    by m is true = (0, refl)
    by m is false = (m + 1, ap (option_map (λ i. i + 1)) is)

number_old : (keys ys : List (Option (List ℕ))) (key : List ℕ) (n : ℕ) → number_in keys key ≡ Some n
    → number_in (keys ++ ys) key ≡ Some n
number_old [] ys key n e = absurd (cc)
number_old (None ∷ xs) ys key n e =
    let w = one_more (number_in xs key) n e in
    ap (option_map (λ i. i + 1)) (number_old xs ys key w.0 w.1) ∙ ap (option_map (λ i. i + 1)) (sym w.1) ∙ e
number_old (Some x ∷ xs) ys key n e = by (number_old xs ys key) (bytes_eq key x) e
  where
    by : ((m : ℕ) → number_in xs key ≡ Some m → number_in (xs ++ ys) key ≡ Some m) → (b : Bool)
        → (if b then Some 0 else option_map (λ i. i + 1) (number_in xs key)) ≡ Some n
        → (if b then Some 0 else option_map (λ i. i + 1) (number_in (xs ++ ys) key)) ≡ Some n
    by rest true first = first
    by rest false later =
        let w = one_more (number_in xs key) n later in
        ap (option_map (λ i. i + 1)) (rest w.0 w.1)
        ∙ ap (option_map (λ i. i + 1)) (sym w.1) ∙ later

one_later : (b : Bool) (n : ℕ) → option_map (λ i. i + 1) (if b then Some n else None)
    ≡ (if b then Some (suc n) else None)
one_later true n = let is : n + 1 ≡ suc n = omega arith in ap Some is
one_later false n = refl

number_last : (keys : List (Option (List ℕ))) (last key : List ℕ) → number_in keys key ≡ None
    → number_in (keys ++ Some last ∷ []) key ≡ (if bytes_eq key last then Some (length keys) else None)
number_last [] last key none = refl
number_last (None ∷ xs) last key none =
    ap (option_map (λ i. i + 1)) (number_last xs last key (none_more (number_in xs key) none))
    ∙ one_later (bytes_eq key last) (length xs)
number_last (Some x ∷ xs) last key none = by (number_last xs last key) (bytes_eq key x) none
  where
    by : (number_in xs key ≡ None → number_in (xs ++ Some last ∷ []) key
        ≡ (if bytes_eq key last then Some (length xs) else None)) → (b : Bool)
        → (if b then Some 0 else option_map (λ i. i + 1) (number_in xs key)) ≡ None
        → (if b then Some 0 else option_map (λ i. i + 1) (number_in (xs ++ Some last ∷ []) key))
        ≡ (if bytes_eq key last then Some (suc (length xs)) else None)
    by rest true e = absurd (cc)
    by rest false e =
        ap (option_map (λ i. i + 1)) (rest (none_more (number_in xs key) e))
        ∙ one_later (bytes_eq key last) (length xs)

-- with one key more
pub number_push : (keys : List (Option (List ℕ))) (last key : List ℕ) → number_in keys last ≡ None
    → number_in (keys ++ Some last ∷ []) key
    ≡ (if bytes_eq key last then Some (length keys) else number_in keys key)
number_push keys last key new = by (bytes_eq key last) refl (number_in keys key) refl
  where
    by : (b : Bool) → bytes_eq key last ≡ b → (o : Option ℕ) → number_in keys key ≡ o
        → number_in (keys ++ Some last ∷ []) key ≡ (if b then Some (length keys) else o)
    by true is o found =
        let none : number_in keys key ≡ None = ap (number_in keys) (same_key key last is) ∙ new in
        number_last keys last key none ∙ ap (λ (t : Bool). if t then Some (length keys) else None) is
    by false is None found =
        number_last keys last key found ∙ ap (λ (t : Bool). if t then Some (length keys) else None) is
    by false is (Some n) found = number_old keys (Some last ∷ []) key n found

-- with one key less
pub number_blank : (keys : List (Option (List ℕ))) (n : ℕ) (gone key : List ℕ) → slice_get keys n ≡ Some (Some gone)
    → bytes_eq key gone ≡ false → number_in (slice_set keys n None) key ≡ number_in keys key
number_blank [] n gone key here apart = absurd (cc)
number_blank (None ∷ xs) zero gone key here apart = absurd (cc)
number_blank (None ∷ xs) (suc n) gone key here apart =
    ap (option_map (λ i. i + 1)) (number_blank xs n gone key here apart)
number_blank (Some x ∷ xs) zero gone key here apart =
    let same : x ≡ gone = cc in
    let other : bytes_eq key x ≡ false = ap (bytes_eq key) same ∙ apart in
    rw other refl
number_blank (Some x ∷ xs) (suc n) gone key here apart =
    ap (λ (o : Option ℕ). if bytes_eq key x then Some 0 else option_map (λ i. i + 1) o)
    (number_blank xs n gone key here apart)

-- and among names, as among keys of which none has left
as_number : (names : List (List ℕ)) (name : List ℕ) → place_of names name ≡ number_in (map Some names) name
as_number [] name = refl
as_number (x ∷ xs) name =
    ap (λ (o : Option ℕ). if bytes_eq name x then Some 0 else option_map (λ i. i + 1) o) (as_number xs name)

pub place_there : (names : List (List ℕ)) (name : List ℕ) (n : ℕ) → place_of names name ≡ Some n
    → slice_get names n ≡ Some name
place_there names name n e = held (slice_get names n) (sym (slice_get-map Some names n)
    ∙ number_there (map Some names) name n (sym (as_number names name) ∙ e))
  where
    held : (o : Option (List ℕ)) → option_map Some o ≡ Some (Some name) → o ≡ Some name
    held None e = absurd (cc)
    held (Some x) e = cc

pub place_old : (names ys : List (List ℕ)) (name : List ℕ) (n : ℕ) → place_of names name ≡ Some n
    → place_of (names ++ ys) name ≡ Some n
place_old names ys name n e =
    as_number (names ++ ys) name ∙ ap (λ (ks : List _). number_in ks name) (map-append Some names ys)
    ∙ number_old (map Some names) (map Some ys) name n (sym (as_number names name) ∙ e)

pub place_last : (names : List (List ℕ)) (last name : List ℕ) → place_of names name ≡ None
    → place_of (names ++ last ∷ []) name ≡ (if bytes_eq name last then Some (length names) else None)
place_last names last name none =
    as_number (names ++ last ∷ []) name ∙ ap (λ (ks : List _). number_in ks name) (map-append Some names (last ∷ []))
    ∙ number_last (map Some names) last name (sym (as_number names name) ∙ none)
    ∙ ap (λ (n : ℕ). if bytes_eq name last then Some n else None) (length-map names Some)
