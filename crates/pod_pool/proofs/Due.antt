-- The pieces of a round are due.
use Rattle.std.proofs.Common.{◌≡◌, ◌<◌, List, All, Some, get_or, sym, subst}
use Rattle.std.specs.Prelude.{slice_get}
use Rattle.std.proofs.lemmas.Option.{slice_get-get_or}
use Rattle.pod_piece.specs.rule.Piece.{Piece}
use Rattle.piece_deques.specs.state.Rule.{IsPieceDue, AreNumbered}

pub all_due : (all : List Piece) → AreNumbered all → All (λ (p : Piece). 0 < p.waiting) all
    → All (IsPieceDue all) all
all_due all numbered pending k d in' =
    let piece = get_or all k d in
    let there = slice_get-get_or all k d in' in
    record {
      stands = subst (λ n. slice_get all n ≡ Some piece) (sym (numbered k piece there)) there;
      pending = pending k d in';
    }
