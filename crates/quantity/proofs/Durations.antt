-- A duration's pieces, one after another.
use Rattle.std.proofs.Common.{◌≡◌, ◌≤◌, ◌<◌, ◌+◌, ℕ, zero, suc, Bool, true, false, cond, List, [], ◌∷◌, length}
use Rattle.std.proofs.Common.{take, drop, sym, arith, refl, Ok, Err}
use Rattle.std.specs.Prelude.{slice_get, nat_le}
use Rattle.std.specs.Char.{is_ascii_digit}
use Rattle.std.specs.List.{prefix_len}
use Rattle.std.proofs.lemmas.Bool.Decides.{nat_tests}
use Rattle.std.proofs.lemmas.List.{take-take}
use Rattle.quantity.specs.rule.Duration.{pieces_of, joined, piece_seconds, sum_onto, end_of_time}
use Rattle.quantity.specs.declared.fault.QuantityFault.{QuantityFault}
use Rattle.quantity.specs.declared.fault.QuantityFault.TheVariants.{TooManyDigits}

-- the front of a text, with one more byte
digit_first : (b : ℕ) (t : List ℕ) (d : Bool) → (t ≡ [] → pieces_of t ≡ [])
    → (0 < length t → pieces_of t ≡ take (prefix_len is_ascii_digit t + 1) t ∷ pieces_of
    (drop (prefix_len is_ascii_digit t + 1) t)) → cond d (joined b (pieces_of t)) ((b ∷ []) ∷ pieces_of t) ≡ take
    (cond d (1 + prefix_len is_ascii_digit t) 0 + 1) (b ∷ t) ∷ pieces_of
    (drop (cond d (1 + prefix_len is_ascii_digit t) 0 + 1) (b ∷ t))
digit_first b t false none rest = refl
digit_first b [] true none rest = refl
digit_first b (c ∷ t) true none rest =
    let e : 1 + prefix_len is_ascii_digit (c ∷ t) + 1 ≡ suc (prefix_len is_ascii_digit (c ∷ t) + 1) = omega arith in
    let some : 0 < length (c ∷ t) = omega arith in
    rw (e, rest some)

-- the first of the pieces is the text's digits and the byte after them
pub pieces_split : (text : List ℕ) → 0 < length text → pieces_of text ≡ take (prefix_len is_ascii_digit text + 1)
    text ∷ pieces_of (drop (prefix_len is_ascii_digit text + 1) text)
pieces_split [] h = absurd (omega arith)
pieces_split (b ∷ t) h = digit_first b t (is_ascii_digit b) (λ e. rw e) (pieces_split t)

take_first : (p : ℕ → Bool) (xs : List ℕ) (k : ℕ) (d : Bool)
    → (prefix_len p xs ≤ k → prefix_len p (take k xs) ≡ prefix_len p xs) → cond d (1 + prefix_len p xs) 0 ≤ suc k
    → cond d (1 + prefix_len p (take k xs)) 0 ≡ cond d (1 + prefix_len p xs) 0
take_first p xs k false rest h = refl
take_first p xs k true rest h = let fits : prefix_len p xs ≤ k = omega arith in rw (rest fits)

-- a shorter text with the same front
pub prefix_len-take : (p : ℕ → Bool) (xs : List ℕ) (k : ℕ) → prefix_len p xs ≤ k
    → prefix_len p (take k xs) ≡ prefix_len p xs
prefix_len-take p [] zero h = refl
prefix_len-take p [] (suc k) h = refl
prefix_len-take p (x ∷ xs) zero h = let none : prefix_len p (x ∷ xs) ≡ 0 = omega arith in sym none
prefix_len-take p (x ∷ xs) (suc k) h = take_first p xs k (p x) (prefix_len-take p xs k) h

pub slice_get-take : (xs : List ℕ) (k i : ℕ) → i < k → slice_get (take k xs) i ≡ slice_get xs i
slice_get-take [] zero i h = refl
slice_get-take [] (suc k) i h = refl
slice_get-take (x ∷ xs) zero i h = absurd (omega arith)
slice_get-take (x ∷ xs) (suc k) zero h = refl
slice_get-take (x ∷ xs) (suc k) (suc i) h = slice_get-take xs k i (omega arith)

-- what follows a piece does not change its seconds
pub piece_seconds-take : (text : List ℕ)
    → piece_seconds (take (prefix_len is_ascii_digit text + 1) text) ≡ piece_seconds text
piece_seconds-take text =
    let long : prefix_len is_ascii_digit text ≤ prefix_len is_ascii_digit text + 1 = omega arith in
    let more : prefix_len is_ascii_digit text < prefix_len is_ascii_digit text + 1 = omega arith in
    let e = prefix_len-take is_ascii_digit text (prefix_len is_ascii_digit text + 1) long in
    let unit = slice_get-take text (prefix_len is_ascii_digit text + 1) (prefix_len is_ascii_digit text) more in
    let front = take-take (prefix_len is_ascii_digit text) (prefix_len is_ascii_digit text + 1) text long in
    rw (e, front, unit)

-- one piece more: it is added, or its fault is the answer
pub sum_next : (sum seconds : ℕ) (text : List ℕ) → 0 < length text → piece_seconds text ≡ Ok seconds
    → sum + seconds < end_of_time → sum_onto sum (pieces_of text) ≡ sum_onto (sum + seconds)
    (pieces_of (drop (prefix_len is_ascii_digit text + 1) text))
sum_next sum seconds text some is small =
    let fits : nat_le end_of_time (sum + seconds) ≡ false = grind (arith, nat_tests) in
    rw (pieces_split text some, piece_seconds-take text, is, fits)

pub sum_refused : (sum : ℕ) (fault : QuantityFault) (text : List ℕ) → 0 < length text → piece_seconds text ≡ Err fault
    → sum_onto sum (pieces_of text) ≡ Err fault
sum_refused sum fault text some is = rw (pieces_split text some, piece_seconds-take text, is)

pub sum_large : (sum seconds : ℕ) (text : List ℕ) → 0 < length text → piece_seconds text ≡ Ok seconds
    → end_of_time ≤ sum + seconds → sum_onto sum (pieces_of text) ≡ Err TooManyDigits
sum_large sum seconds text some is large =
    let past : nat_le end_of_time (sum + seconds) ≡ true = grind (arith, nat_tests) in
    rw (pieces_split text some, piece_seconds-take text, is, past)
