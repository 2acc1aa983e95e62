-- What each worker is dealt.
use Rattle.std.proofs.Common.{◌≡◌, ◌≢◌, ◌∙◌, ℕ, zero, suc, ◌%◌, ◌<◌, Bool, true, false, List, [], ◌∷◌, ◌++◌}
use Rattle.std.proofs.Common.{length, map, filter, reverse, set, get_or, eqb, refl, sym, ap, arith}
use Rattle.std.proofs.Common.{append_assoc, append-nil, inl, inr}
use Rattle.std.specs.Prelude.{replicate}
use Rattle.std.specs.List.{sum_by}
use Rattle.std.specs.Global.{Global}
use Rattle.std.proofs.lemmas.Bool.{cases_Bool, eqb-true, eqb-false}
use Rattle.std.proofs.lemmas.List.{map-set, get_or-map, length-map, length-set, get_or-set_same, get_or-set_other}
use Rattle.std.proofs.lemmas.List.{reverse-append, reverse-reverse}
use Rattle.std.proofs.lemmas.List.Sums.{sum_by-cons}
use Rattle.crossbeam_deque.specs.declared.handles.Worker.{Worker}
use Rattle.pod_piece.specs.rule.Piece.{Piece}
use Rattle.piece_deques.specs.declared.rule.Tally.{Tally}
use Rattle.piece_deques.specs.state.Rule.{number_of}
use Rattle.piece_deques.specs.state.Ends.{pushed_weight}
use Rattle.piece_deques.proofs.Lists.{ones, map_map}
use Rattle.pool_workers.specs.state.Permits.{FilledDeque, owner_deque}
use Rattle.pool_workers.specs.state.Dealing.{give, deal, pushed_of, dealt_to, DealtByRemainder}

-- an item whose list has the number more, in the place of the one that the number names
pub given_one : {X : Type 0} (f : X → List ℕ) (xs : List X) (n at : ℕ) (old new : X)
    → at ≡ n % length xs → at < length xs → old ≡ get_or xs at old → f new ≡ f old ++ n ∷ []
    → map f (set xs at new) ≡ give (map f xs) n
given_one f xs n at old new is within was grown =
    map-set f xs at new
    ∙ ap (set (map f xs) at)
    (grown ∙ ap (λ (l : List ℕ). l ++ n ∷ []) (ap f was ∙ sym (get_or-map f xs at old [] within)))
    ∙ ap (λ (k : ℕ). set (map f xs) k (get_or (map f xs) k [] ++ n ∷ []))
    (is ∙ ap (λ (m : ℕ). n % m) (sym (length-map xs f)))

-- the last of the pieces that are left is dealt
pub dealt_next : (lists given : List (List ℕ)) (left rest : List Piece) (piece : Piece)
    → left ≡ rest ++ piece ∷ [] → given ≡ give lists piece.number
    → deal given (map number_of (reverse rest)) ≡ deal lists (map number_of (reverse left))
dealt_next lists given left rest piece row is =
    let turned : reverse left ≡ piece ∷ reverse rest = ap reverse row ∙ reverse-append rest (piece ∷ []) in
    ap (λ (ls : List (List ℕ)). deal ls (map number_of (reverse rest))) is
    ∙ ap (λ (ps : List Piece). deal lists (map number_of ps)) (sym turned)

-- none is left
pub all_dealt : (lists first : List (List ℕ)) (left turned pieces : List Piece) → length left ≡ 0
    → turned ≡ reverse pieces
    → deal lists (map number_of (reverse left)) ≡ deal first (map number_of (reverse turned))
    → lists ≡ deal first (map number_of pieces)
all_dealt lists first [] turned pieces none is dealt =
    dealt ∙ ap (λ (ps : List Piece). deal first (map number_of ps)) (ap reverse is ∙ reverse-reverse pieces)
all_dealt lists first (p ∷ left) turned pieces none is dealt = absurd (omega (arith, none))

empty_list : (xs : List ℕ) → length xs ≡ 0 → xs ≡ []
empty_list [] e = refl
empty_list (x ∷ xs) e = absurd (omega (arith, e))

-- deques to which nothing was pushed
pub none_pushed : {T A P : Type 0} (owners : List (Worker T A Tally P))
    → sum_by (pushed_weight (λ (n : ℕ). 1)) owners ≡ 0 → map pushed_of owners ≡ replicate (length owners) []
none_pushed [] none = refl
none_pushed {T} {A} {P} (o ∷ owners) none =
    let sums = sum_by-cons (pushed_weight {T = T} {A = A} {P = P} (λ (n : ℕ). 1)) o owners in
    let count = ones (pushed_of o) in
    let first : pushed_of o ≡ [] = empty_list (pushed_of o) (omega (arith, none, sums, count)) in
    let rest : map pushed_of owners ≡ replicate (length owners) [] =
    none_pushed owners (omega (arith, none, sums)) in
    ap (λ (l : List ℕ). l ∷ map pushed_of owners) first ∙ ap (λ (ls : List (List ℕ)). [] ∷ ls) rest

pub as_many : {X Y : Type 0} (f : X → Y) (xs ys : List X) → map f xs ≡ map f ys → length xs ≡ length ys
as_many f xs ys same = sym (length-map xs f) ∙ ap length same ∙ length-map ys f

-- deques whose places are those of the deques that were dealt to, each of which was empty
pub all_laid : {T P : Type 0} (now dealt first : List (Worker T Global Tally P)) (pieces : List Piece) (n : ℕ)
    → map owner_deque now ≡ map owner_deque dealt
    → map pushed_of dealt ≡ deal (map pushed_of first) (map number_of pieces)
    → sum_by (pushed_weight (λ (k : ℕ). 1)) first ≡ 0 → length first ≡ n
    → map (λ (p : FilledDeque). p.pushed) (map owner_deque now) ≡ dealt_to n pieces
all_laid now dealt first pieces n same are none many =
    ap (map (λ (p : FilledDeque). p.pushed)) same ∙ map_map owner_deque (λ (p : FilledDeque). p.pushed) dealt ∙ are
    ∙ ap (λ (ls : List (List ℕ)). deal ls (map number_of pieces)) (none_pushed first none)
    ∙ ap (λ (k : ℕ). dealt_to k pieces) many

-- the numbers that a worker is dealt
abbrev to : ℕ → ℕ → ℕ → Bool
to m w n = eqb (n % m) w

kept : (m w n : ℕ) (ns : List ℕ) → to m w n ≡ true → filter (to m w) (n ∷ ns) ≡ n ∷ filter (to m w) ns
kept m w n ns it = rw it refl

left_out : (m w n : ℕ) (ns : List ℕ) → to m w n ≡ false → filter (to m w) (n ∷ ns) ≡ filter (to m w) ns
left_out m w n ns not = rw not refl

given_length : (lists : List (List ℕ)) (n : ℕ) → length (give lists n) ≡ length lists
given_length lists n =
    length-set lists (n % length lists) (get_or lists (n % length lists) [] ++ n ∷ [])

-- the list that the number names, and any other one
given_here : (lists : List (List ℕ)) (n w : ℕ) → n % length lists ≡ w → w < length lists
    → get_or (give lists n) w [] ≡ get_or lists w [] ++ n ∷ []
given_here lists n w is within =
    ap (λ (k : ℕ). get_or (set lists k (get_or lists k [] ++ n ∷ [])) w []) is
    ∙ get_or-set_same lists w (get_or lists w [] ++ n ∷ []) [] within

given_there : (lists : List (List ℕ)) (n w : ℕ) → w ≢ n % length lists
    → get_or (give lists n) w [] ≡ get_or lists w []
given_there lists n w other =
    get_or-set_other lists (n % length lists) w (get_or lists (n % length lists) [] ++ n ∷ []) [] other

dealt_behind : (m w : ℕ) (ns : List ℕ) (lists : List (List ℕ)) → length lists ≡ m → w < m
    → get_or (deal lists ns) w [] ≡ get_or lists w [] ++ filter (to m w) ns
dealt_behind m w [] lists many within = sym (append-nil (get_or lists w []))
dealt_behind m w (n ∷ ns) lists many within =
    let next = dealt_behind m w ns (give lists n) (given_length lists n ∙ many) within in
    elim (cases_Bool (to m w n)) [
      | inl it ↦
          let is : n % length lists ≡ w = ap (λ (k : ℕ). n % k) many ∙ eqb-true (n % m) w it in
          let here : get_or (give lists n) w [] ≡ get_or lists w [] ++ n ∷ [] =
          given_here lists n w is (omega (arith, many, within)) in
          next ∙ ap (λ (l : List ℕ). l ++ filter (to m w) ns) here
          ∙ append_assoc (get_or lists w []) (n ∷ []) (filter (to m w) ns)
          ∙ ap (λ (l : List ℕ). get_or lists w [] ++ l) (sym (kept m w n ns it))
      | inr not ↦
          let other : w ≢ n % length lists =
          λ same. eqb-false (n % m) w not (ap (λ (k : ℕ). n % k) (sym many) ∙ sym same) in
          next ∙ ap (λ (l : List ℕ). l ++ filter (to m w) ns) (given_there lists n w other)
          ∙ ap (λ (l : List ℕ). get_or lists w [] ++ l) (sym (left_out m w n ns not))
    ]

empty_at : (m w : ℕ) → get_or (replicate {A = List ℕ} m []) w [] ≡ []
empty_at zero w = refl
empty_at (suc m) zero = refl
empty_at (suc m) (suc w) = empty_at m w

replicate_length : (m : ℕ) → length (replicate {A = List ℕ} m []) ≡ m
replicate_length zero = refl
replicate_length (suc m) = ap suc (replicate_length m)

pub dealt_by_remainder : DealtByRemainder
dealt_by_remainder workers w numbers within =
    dealt_behind workers w numbers (replicate workers []) (replicate_length workers) within
    ∙ ap (λ (l : List ℕ). l ++ filter (to workers w) numbers) (empty_at workers w)
