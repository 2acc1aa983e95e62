use Rattle.std.proofs.Common.{◌∙◌, sym, rules}
use Rattle.trace.proofs.ByPod.{no_entry, first_within, entry_stands}
use Rattle.trace.proofs.by_pod.entry_for.Goals as goal

pub returns-in_err-place : goal.returns-in_err-place
returns-in_err-place c =
    let none = no_entry c.args.entries.now c.args.pod (sym (c.requires.first.first c.args.pod c.requires.within)
    ∙ c.in_err-place.was) in
    search rules

pub bounds-entries-place : goal.bounds-entries-place
bounds-entries-place c = first_within c.args.entries.now c.args.pod c.in_ok-place.place
    (sym (c.requires.first.first c.args.pod c.requires.within) ∙ c.in_ok-place.was)

pub offset_bounds-entries-place : goal.offset_bounds-entries-place
offset_bounds-entries-place c =
    let lt = first_within c.args.entries.now c.args.pod c.in_ok-place.place
    (sym (c.requires.first.first c.args.pod c.requires.within) ∙ c.in_ok-place.was) in
    search rules

pub returns : goal.returns
returns c = entry_stands c.args.entries.now c.args.pod c.in_ok-place.place c.index-entries-place.result
    (sym (c.requires.first.first c.args.pod c.requires.within) ∙ c.in_ok-place.was) c.index-entries-place.is
