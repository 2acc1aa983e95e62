-- The ticks that a node has judged, with one more.
use Rattle.std.proofs.Common.{◌≡◌, ◌∙◌, List, [], ◌∷◌, ◌++◌, true, false, refl, append-nil}
use Rattle.std.proofs.lemmas.List.Elements.{filter-append}
use Rattle.observations.specs.declared.tick.TickObs.{TickObs}
use Rattle.observations.specs.rule.Observations.{judged_of}

pub judged_more : (before : List TickObs) (tick : TickObs) → tick.judged ≡ true
    → judged_of (before ++ tick ∷ []) ≡ judged_of before ++ tick ∷ []
judged_more before tick is = filter-append (λ (t : TickObs). t.judged) before (tick ∷ []) ∙ rw is refl

pub judged_same : (before : List TickObs) (tick : TickObs) → tick.judged ≡ false
    → judged_of (before ++ tick ∷ []) ≡ judged_of before
judged_same before tick is =
    filter-append (λ (t : TickObs). t.judged) before (tick ∷ []) ∙ rw is (append-nil (judged_of before))
