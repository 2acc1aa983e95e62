use Rattle.std.proofs.Common.{◌≡◌, ◌+◌, ◌-◌, ◌%◌, ◌<◌, ℕ, List, [], ◌∷◌, length, vec_len, All, map, set, sym, ap, ◌∙◌}
use Rattle.std.proofs.Common.{subst}
use Rattle.std.proofs.Common.{refl, arith, rules}
use Rattle.std.specs.List.{sum_by}
use Rattle.std.proofs.lemmas.List.Sums.{sum_by_push}
use Rattle.std.proofs.lemmas.List.Elements.{All-set, All-weaker}
use Rattle.std.proofs.lemmas.List.Sorted.{sum_by-IsPermutation}
use Rattle.crossbeam_deque.specs.Handles.{worker_deque, worker_view}
use Rattle.pod_piece.specs.rule.Piece.{Piece}
use Rattle.piece_deques.specs.state.Rule.{IsPieceDue}
use Rattle.piece_deques.specs.state.Ends.{IsOpen, pushed_weight}
use Rattle.piece_deques.proofs.Lists.{front, map_set, sum_set}
use Rattle.worker_results.specs.state.Done.{weigh}
use Rattle.worker_results.proofs.Numbers.{weigh_more}
use Rattle.pool_workers.specs.state.Dealing.{pushed_of}
use Rattle.pool_workers.proofs.Dealing.{given_one, dealt_next, all_dealt}
use Rattle.pool_workers.proofs.deal.deal.Goals as goal

weigh_none : (weight : ℕ → ℕ) (pieces : List Piece) → length pieces ≡ 0 → weigh weight pieces ≡ 0
weigh_none weight [] e = refl
weigh_none weight (p ∷ ps) e = absurd (omega arith)

pub loop-piece-preserved : goal.loop-piece-preserved
loop-piece-preserved g c =
    let l = c.loop-piece in
    let i = l.invariant in
    let n = vec_len c.reverse.new.self in
    let k = n - vec_len l.left in
    let k' = n - vec_len c.pop.new.self in
    let at : ℕ = c.deque_of-to.result in
    let old = c.index_mut.result.now in
    let new = c.push.new.owner in
    let same = c.push.ensures.same in
    let v = c.push.ensures.pushed in
    let index = c.push.ensures.index in
    let row = c.in-Some.ensures.items in
    let rest = c.pop.new.self.items in
    let piece = c.in-Some.piece in
    let in' : at < length l.owners.items = omega (arith, c.deque_of-to.ensures.within, c.len.ensures, l.owners.ok.0) in
    let was = c.index_mut.ensures.value in
    let dealt_at : at ≡ piece.number % length l.owners.items =
    c.deque_of-to.ensures.is ∙ ap (λ (m : ℕ). piece.number % m) (c.len.ensures ∙ l.owners.ok.0) in
    let o = subst (IsOpen n k) (sym was) (i.opened at old in') in
    let more : k' ≡ k + 1 = omega (arith, c.in-Some.ensures.len, i.within) in
    let now : IsOpen n k' new = record {
      is_owner = record {
        in_order = same.1 ∙ o.is_owner.in_order;
        some = let had = o.alone in omega (arith, ap (λ v. v.parts) v);
      };
      alone = ap (λ v. v.parts) v ∙ o.alone;
      none = ap (λ v. v.taken) v ∙ o.none;
      room_is = let had = o.room_is in omega (arith, same.3);
      few = let had = o.few in omega arith;
    } in
    let weaker : All (IsOpen n k') l.owners.items =
    All-weaker (IsOpen n k) (IsOpen n k')
    (λ w h. record {
      is_owner = h.is_owner;
      alone = h.alone;
      none = h.none;
      room_is = h.room_is;
      few = let had = h.few in omega arith;
    }) l.owners.items i.opened in
    record {
      due = front (IsPieceDue g.D.Deal.all) l.left.items rest piece row i.due;
      within = omega (arith, c.in-Some.ensures.len, i.within);
      some = search rules;
      deques = map_set worker_deque l.owners.items at old new was same.0 ∙ i.deques;
      opened = All-set (IsOpen n k') l.owners.items at new now weaker;
      dealt = dealt_next (map pushed_of l.owners.items) (map pushed_of (set l.owners.items at new)) l.left.items rest
          piece row (given_one pushed_of l.owners.items piece.number at old new dealt_at in' was (ap (λ v. v.pushed) v))
          ∙ i.dealt;
      pushed = λ h. (
          let t = sum_set (pushed_weight h) l.owners.items at old new in' was in
          let w = weigh_more h rest l.left.items piece row in
          let p = ap (λ v. sum_by h v.pushed) v ∙ sum_by_push h (worker_view old).pushed piece.number in
          omega (arith, i.pushed h));
    }

pub returns-clause-dealt : goal.returns-clause-dealt
returns-clause-dealt g c =
    let l = c.loop-piece in
    all_dealt (map pushed_of l.owners.items) (map pushed_of c.args.owners.now.items) l.left.items
    c.reverse.new.self.items c.args.pieces.items (omega (arith, l.left.ok.0, c.in_default.ensures.cases.0))
    c.reverse.ensures.items l.invariant.dealt

pub returns-clause-pushed : goal.returns-clause-pushed
returns-clause-pushed g c = λ h.
    let l = c.loop-piece in
    let i = l.invariant.pushed h in
    let none = weigh_none h l.left.items (omega (arith, l.left.ok.0, c.in_default.ensures.cases.0)) in
    let same = sum_by-IsPermutation (λ (p : Piece). h p.number) c.args.pieces.items c.reverse.new.self.items
    c.reverse.ensures.permutation in
    omega arith
