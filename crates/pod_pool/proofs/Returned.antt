-- What a slice was written to is the vector's items.
use Rattle.std.proofs.Common.{◌≡◌, ℕ, List, ◌++◌, map, length, take, drop, sym, ap, ◌∙◌, subst}
use Rattle.std.proofs.lemmas.List.{length-map, take_at}
use Rattle.pod_piece.specs.rule.Piece.{Piece}
use Rattle.pool_workers.specs.state.Contexts.{Tag, AreLaid}

pub returned : {X Y : Type 0} (f : X → Y) (was given now : List X) (n : ℕ) → given ≡ was → map f now ≡ map f given
    → length was ≡ n → map f (take n (now ++ drop (length now) was)) ≡ map f was
returned f was given now n from same len =
    let back : map f now ≡ map f was = same ∙ ap (map f) from in
    let size : length now ≡ n =
    sym (length-map now f) ∙ (ap (λ l. length l) back ∙ (length-map was f ∙ len)) in
    ap (map f) (take_at now (drop (length now) was) n size) ∙ back

-- contexts stay laid out where their tags stay the same
pub still_laid : (all pieces : List Piece) (now was : List Tag) → all ≡ pieces → now ≡ was → AreLaid pieces was
    → AreLaid all now
still_laid all pieces now was same tags laid =
    subst (λ (ps : List Piece). AreLaid ps now) (sym same)
    (subst (λ (ts : List Tag). AreLaid pieces ts) (sym tags) laid)
