-- A loop that reads the items of an array, one more each time.
use Rattle.std.proofs.Common.{◌≡◌, ℕ, ◌+◌, ◌<◌, List, [], ◌∷◌, ◌++◌, length, map, drop, get_or, Result, Ok, Err, refl}
use Rattle.std.proofs.Common.{ap, append_assoc, add-one, drop-cons}
use Rattle.json_fields.specs.rule.Reading.{◌>>=◌, each}
use Rattle.json_fields.proofs.Each.{with_front}

put_back : {B E : Type 0} (front : List B) (y : B) (read : Result (List B) E)
    → with_front (front ++ y ∷ []) read ≡ with_front front (read >>= λ ys. Ok (y ∷ ys))
put_back front y (Ok ys) = ap Ok (append_assoc front (y ∷ []) ys)
put_back front y (Err fault) = refl

-- the item at this place has been read too
pub one_more : {V A B E : Type 0} (seen : V → A) (f : A → Result B E) (vs : List V) (n : ℕ) (v : V) (front : List B)
    (y : B) → n < length vs → v ≡ get_or vs n v → f (seen v) ≡ Ok y
    → with_front (front ++ y ∷ []) (each f (map seen (drop (n + 1) vs))) ≡ with_front front
    (each f (map seen (drop n vs)))
one_more seen f vs n v front y lt is read =
    let here : drop n vs ≡ v ∷ drop (n + 1) vs = rw (add-one, drop-cons vs n v lt, ← is) refl in
    rw (here, read) (put_back front y (each f (map seen (drop (n + 1) vs))))
