use Rattle.quantity.proofs.Padded.{styled_zeros, is_zero, is_not_zero}
use Rattle.quantity.proofs.form.FormDisplay.fmt.Goals as goal

pub returns-then-whole-eq0-clause-writes : goal.returns-then-whole-eq0-clause-writes
returns-then-whole-eq0-clause-writes g c =
    let e = styled_zeros c.args.self.now.places c.args.self.now.fraction c.if-places-eq0.false in
    let w = c.write-then-whole-eq0.ensures.writes in
    let v = (rw (c.suffix-suffix.ensures, c.laid_out.ensures, e) at w) in
    rw (is_not_zero c.args.self.now.places c.if-places-eq0.false, is_zero c.args.self.now.whole c.if-whole-eq0.true) v

pub returns-else-whole-eq0-clause-writes : goal.returns-else-whole-eq0-clause-writes
returns-else-whole-eq0-clause-writes g c =
    let e = styled_zeros c.args.self.now.places c.args.self.now.fraction c.if-places-eq0.false in
    let w = c.write-else-whole-eq0.ensures.writes in
    let v = (rw (c.suffix-suffix.ensures, c.laid_out-else-whole-eq0.ensures, e) at w) in
    rw (
      is_not_zero c.args.self.now.places c.if-places-eq0.false,
      is_not_zero c.args.self.now.whole
          c.if-whole-eq0.false,
    ) v
