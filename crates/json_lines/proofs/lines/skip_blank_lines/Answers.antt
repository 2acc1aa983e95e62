use Rattle.std.proofs.Common.{◌≡◌, ◌∙◌, ◌+◌, ◌∷◌, arith, rules, sym, true}
use Rattle.std.specs.List.{prefix_len}
use Rattle.json_lines.specs.rule.Lines.{lines_of, is_blank}
use Rattle.json_lines.proofs.Blanks.{blank_first, drop_first}
use Rattle.json_lines.proofs.lines.skip_blank_lines.Goals as goal

pub loop-line-preserved : goal.loop-line-preserved
loop-line-preserved c =
    let cut : lines_of c.loop-line.rest.now ≡ c.in-Some.line.now ∷ lines_of c.in-Some.after.now =
    c.in-Some.ensures.some in
    let blank : is_blank c.in-Some.line.now ≡ true = search rules in
    let counted : prefix_len is_blank (lines_of c.loop-line.rest.now)
    ≡ 1 + prefix_len is_blank (lines_of c.in-Some.after.now) =
    rw cut (blank_first c.in-Some.line.now (lines_of c.in-Some.after.now) blank) in (
      omega (arith, c.loop-line.invariant.0, counted),
      drop_first c.loop-line.count _ _ _ (sym cut ∙ c.loop-line.invariant.1),
      search rules,
    )
