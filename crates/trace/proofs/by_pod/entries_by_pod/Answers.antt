use Rattle.std.proofs.Common.{◌≡◌, ◌∙◌, ◌<◌, ◌+◌, List, Option, ℕ, sym, ap, subst, None, Some, cond, get_or, is_some}
use Rattle.std.proofs.Common.{take}
use Rattle.std.proofs.Math.ListN.{set}
use Rattle.trace.specs.declared.placing.PlacedEntry.{PlacedEntry}
use Rattle.trace.specs.state.ByPod.{AreFirst}
use Rattle.trace.proofs.ByPod.{turn_notes, turn_repeats, written_over}
use Rattle.trace.proofs.by_pod.entries_by_pod.Goals as goal

pub loop-place-preserved : goal.loop-place-preserved
loop-place-preserved c =
    let place = c.loop-place.place in
    let entry = c.index-entries-place.result in
    let first = c.loop-place.first.items in
    let noted = c.note-has_pod_twice.new.first in
    let lt = c.loop-place-test.true in
    let is = c.index-entries-place.is in
    let within : entry.pod < c.args.pods =
    subst (λ (e : PlacedEntry). e.pod < c.args.pods) (sym is) (c.requires place entry lt) in
    let value = c.deref_mut.ensures.value in
    let earlier : c.note-has_pod_twice.result ≡ is_some (get_or first entry.pod None) =
    c.note-has_pod_twice.ensures.earlier
    ∙ ap (λ (places : List (Option ℕ)). is_some (get_or places entry.pod None)) value in
    let noted_is = c.note-has_pod_twice.ensures.noted
    ∙ ap (λ (places : List (Option ℕ)). cond c.note-has_pod_twice.result places (set places entry.pod (Some place)))
    value in
    record {
      twice = turn_repeats c.args.entries.now place entry c.args.pods first c.loop-place.has_pod_twice
          c.note-has_pod_twice.result lt is within c.loop-place.invariant.first earlier c.loop-place.invariant.twice;
      first = subst (AreFirst (take (place + 1) c.args.entries.now) c.args.pods)
          (sym (written_over noted first c.loop-place.first.len
          (c.note-has_pod_twice.auto.first ∙ c.deref_mut.ensures.len)))
          (turn_notes c.args.entries.now place entry c.args.pods first noted c.note-has_pod_twice.result lt is within
          c.loop-place.invariant.first earlier noted_is);
    }
