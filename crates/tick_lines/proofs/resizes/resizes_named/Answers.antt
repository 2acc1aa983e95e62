use Rattle.std.proofs.Common.{◌≡◌, ◌∙◌, ◌+◌, ◌∷◌, ◌++◌, [], map, drop, Ok, ap, sym}
use Rattle.std.specs.Prelude.{string_bytes}
use Rattle.std.specs.List.{cons_option}
use Rattle.std.proofs.lemmas.List.{drop_more}
use Rattle.json_fields.specs.rule.Reading.{◌>>=◌}
use Rattle.json_fields.proofs.Each.{with_front}
use Rattle.json_fields.proofs.Steps.{then_ok}
use Rattle.tick_lines.specs.rule.Resizes.{resize_named, resizes_named}
use Rattle.tick_lines.proofs.Resized.{added}
use Rattle.tick_lines.proofs.resizes.resizes_named.Goals as goal

pub loop-name-preserved : goal.loop-name-preserved
loop-name-preserved g c =
    let d = g.V.HasData.data c.args.object.now in
    let names = c.args.names.now in
    let i = c.loop-name.name-index in
    let name = c.name-item.result in
    let all = c.loop-name.resizes in
    let rest = resizes_named d (map string_bytes (drop (i + 1) names)) in
    let at : drop i names ≡ name ∷ drop (i + 1) names =
    drop_more names i name c.loop-name-test.true ∙ ap (λ x. x ∷ drop (i + 1) names) (sym c.name-item.is) in
    ap (λ xs. with_front xs rest) c.in_ok-add.ensures
    ∙ added all c.in_ok-resize.resize rest
    ∙ sym (ap (λ r. with_front all r) (then_ok (resize_named d (string_bytes name))
    (λ resize. rest >>= λ xs. Ok (cons_option resize xs)) c.in_ok-resize.resize
    (sym (ap (λ n. resize_named d n) c.as_str.ensures.value) ∙ c.in_ok-resize.ensures)))
    ∙ sym (ap (λ ns. with_front all (resizes_named d (map string_bytes ns))) at)
    ∙ c.loop-name.invariant
