use Rattle.std.proofs.Common.{◌≡◌, ◌∙◌, ◌+◌, ◌∷◌, drop, ap, sym}
use Rattle.std.proofs.lemmas.List.{drop_more}
use Rattle.json.specs.Value.{value_view, members_view as borrowed_members_view}
use Rattle.json_fields.specs.state.Borrowed.{data_of}
use Rattle.serde_json.specs.Data.{put}
use Rattle.tick_lines.specs.state.Conditions.{members_statuses, given_data, given_members}
use Rattle.tick_lines.proofs.conditions.given_in.Goals as goal

pub loop-member-preserved : goal.loop-member-preserved
loop-member-preserved g c =
    let ms = c.args.members.now in
    let i = c.loop-member.member-index in
    let m = c.member-item.result in
    let old = given_members c.loop-member.noted.entries in
    let at : drop i ms ≡ m ∷ drop (i + 1) ms =
    drop_more ms i m c.loop-member-test.true ∙ ap (λ x. x ∷ drop (i + 1) ms) (sym c.member-item.is) in
    ap (λ found. members_statuses (borrowed_members_view (drop (i + 1) ms)) found)
    (c.in_ok-note_given.ensures
    ∙ ap (λ name. put name (given_data c.given_by.result) old) c.in_ok-name.ensures.ok
    ∙ ap (λ d. put m.0.now d old) c.given_by.ensures)
    ∙ sym (ap (λ rest. members_statuses (borrowed_members_view rest) old) at)
    ∙ c.loop-member.invariant
