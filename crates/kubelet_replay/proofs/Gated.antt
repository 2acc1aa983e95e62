-- The updates of a trace, where there is a report of it.
use Rattle.std.proofs.Common.{◌≡◌, Bool, true, false, List, [], Result, Ok, Err, subst}
use Rattle.std.specs.Prelude.{IsOk, OnOk}
use Rattle.manifest.specs.declared.pod.PodSpec.{PodSpec}
use Rattle.observations.specs.declared.tick.TickObs.{TickObs}
use Rattle.pod_piece.specs.rule.Piece.{Piece}
use Rattle.tick_round.specs.rule.Gated.{AreUpdatesGated}

-- what holds where the ticks were taken holds where there is a report of them
on_report : {V A W B : Type 0} (P : Type 0) (taken : Result V A) (report : Result W B) → OnOk taken P
    → OnOk report (IsOk taken) → OnOk report P
on_report P taken (Err e) held ok = tt
on_report P (Ok v) (Ok w) held ok = held
on_report P (Err e) (Ok w) held ok = absurd (let never : false ≡ true = ok in cc)

pub report_gated : {V A W B : Type 0} (left : Piece → Bool → Bool) (pods of : List PodSpec) (ticks all : List TickObs)
    (taken : Result V A) (report : Result W B) → pods ≡ of → ticks ≡ all
    → OnOk taken (AreUpdatesGated left pods [] ticks) → OnOk report (IsOk taken)
    → OnOk report (AreUpdatesGated left of [] all)
report_gated left pods of ticks all taken report same_pods same_ticks gated ok =
    subst (λ (ps : List PodSpec). OnOk report (AreUpdatesGated left ps [] all)) same_pods
    (subst (λ (ts : List TickObs). OnOk report (AreUpdatesGated left pods [] ts)) same_ticks
    (on_report (AreUpdatesGated left pods [] ticks) taken report gated ok))
