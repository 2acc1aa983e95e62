-- Each move keeps the rule of a deque.
use Rattle.std.proofs.Common.{◌≡◌, ◌≢◌, ℕ, zero, suc, ◌+◌, ◌-◌, ◌<◌, ◌≤◌, List, [], ◌∷◌, ◌++◌, map, length, set, All}
use Rattle.std.proofs.Common.{sym, refl, ap, ◌∙◌, subst, ⊎_elim, append_assoc, arith, length-append}
use Rattle.std.specs.Prelude.{Option, Some, None, MatchOption, IfSome, min}
use Rattle.std.specs.List.{sum_by}
use Rattle.std.proofs.lemmas.List.{map-append}
use Rattle.std.proofs.lemmas.List.Sums.{sum_by-cons, sum_by-append, sum_by_push}
use Rattle.std.proofs.lemmas.List.Elements.{All-append}
use mathlib.Core.Option.{some, some-injective, some-ne-none}
use lib.ListN.{get_elem?}
use Rattle.crossbeam_deque.specs.Tasks.{Pushes, Takes, Finds, FindsFew, Forks, Merges, Learns}
use Rattle.crossbeam_deque.proofs.Lists.{at_set, at_snoc, set_here, set_else}
use Rattle.pod_piece.specs.rule.Piece.{Piece}
use Rattle.piece_deques.specs.declared.rule.Tally.{Tally}
use Rattle.piece_deques.specs.state.Rule.{all_parts, number_of, tally, IsPieceDue, Lists, IsDealt, Took, IsEmptied}
use Rattle.piece_deques.specs.state.Rule.{FoundEmpty, IsBounded}
use Rattle.piece_deques.proofs.Lists.{all_left, all_right, ones, set_sum, place_within}

-- Lists of views

-- each view of a list
abbrev Each : (Tally → Type 0) → List Tally → Type 0
Each P views = (port : ℕ) (v : Tally) → get_elem? views port ≡ some v → P v

each_set : (P : Tally → Type 0) (views : List Tally) (port : ℕ) (w : Tally) → P w → Each P views
    → Each P (set views port w)
each_set P views port w mine others j u e =
    ⊎_elim
    (λ (x : (j ≡ port) × (w ≡ u)). subst P x.1 mine)
    (λ (x : (j ≢ port) × (get_elem? views j ≡ some u)). others j u x.1) (at_set views port j w u e)

each_snoc : (P : Tally → Type 0) (views : List Tally) (w : Tally) → P w → Each P views → Each P (views ++ w ∷ [])
each_snoc P views w mine others j u e =
    ⊎_elim
    (λ (x : get_elem? views j ≡ some u). others j u x)
    (λ (x : w ≡ u). subst P x mine) (at_snoc views w u j e)

-- a view's part of a sum
within : (f : Tally → ℕ) (views : List Tally) (port : ℕ) (v : Tally) → get_elem? views port ≡ some v
    → f v ≤ sum_by f views
within f [] port v e = absurd (some-ne-none v (sym e))
within f (x ∷ xs) zero v e =
    let same : f x ≡ f v = ap f (some-injective x v e) in omega (arith, sum_by-cons f x xs)
within f (x ∷ xs) (suc p) v e = let rest = within f xs p v e in omega (arith, sum_by-cons f x xs)

-- what is 0 of each pass without a part comes to 0 where no pass has one
all_idle : (f : Tally → ℕ) (views : List Tally) → sum_by (λ v. v.parts) views ≡ 0
    → Each (λ v. v.parts ≡ 0 → f v ≡ 0) views → sum_by f views ≡ 0
all_idle f [] none idle = refl
all_idle f (x ∷ xs) none idle =
    let parts = sum_by-cons (λ (v : Tally). v.parts) x xs in
    let mine : f x ≡ 0 = idle 0 x refl (omega arith) in
    let rest = all_idle f xs (omega arith) (λ j u e. idle (suc j) u e) in
    omega (arith, sum_by-cons f x xs)

-- and to that of one pass where this one has every part
whole : (f : Tally → ℕ) (views : List Tally) (port : ℕ) (v : Tally) → get_elem? views port ≡ some v
    → sum_by (λ v. v.parts) views ≡ v.parts → Each (λ v. v.parts ≡ 0 → f v ≡ 0) views → sum_by f views ≡ f v
whole f [] port v at all idle = absurd (some-ne-none v (sym at))
whole f (x ∷ xs) zero v at all idle =
    let parts = sum_by-cons (λ (u : Tally). u.parts) x xs in
    let same : x ≡ v = some-injective x v at in
    let one : x.parts ≡ v.parts = ap (λ (u : Tally). u.parts) same in
    let rest = all_idle f xs (omega arith) (λ j u e. idle (suc j) u e) in
    let eq : f x ≡ f v = ap f same in
    omega (arith, sum_by-cons f x xs)
whole f (x ∷ xs) (suc p) v at all idle =
    let parts = sum_by-cons (λ (u : Tally). u.parts) x xs in
    let less = set_sum (λ (u : Tally). u.parts) xs p v (tally 0 [] []) at in
    let none : x.parts ≡ 0 = omega arith in
    let mine : f x ≡ 0 = idle 0 x refl none in
    let rest = whole f xs p v at (omega arith) (λ j u e. idle (suc j) u e) in
    omega (arith, sum_by-cons f x xs)

-- a pass with every part is alone
alone : (views : List Tally) (port : ℕ) (v : Tally) (j : ℕ) (u : Tally) → get_elem? views port ≡ some v
    → sum_by (λ y. y.parts) views ≡ v.parts → j ≢ port → get_elem? views j ≡ some u → u.parts ≡ 0
alone views port v j u at all other there =
    let w : Tally = tally 0 [] [] in
    let less = set_sum (λ (y : Tally). y.parts) views port v w at in
    let mine = within (λ (y : Tally). y.parts) (set views port w) j u (set_else views port j w other ∙ there) in
    omega arith

-- Moves

-- pieces that are due may be pushed by an owner that is alone
pub pushes : (all : List Piece) (port : ℕ) (v : Tally) (pieces : List Piece) → v.parts ≡ all_parts
    → All (IsPieceDue all) pieces
    → Pushes (IsDealt all) port v pieces (λ w. w ≡ tally v.parts (v.pushed ++ map number_of pieces) v.taken)
pushes all port v pieces every due items views d at =
    let numbers = map number_of pieces in
    let w : Tally = tally v.parts (v.pushed ++ numbers) v.taken in
    let mine : v.pushed ≡ d.pushed = (d.listed port v at).same (omega arith) in (
      w,
      record {
        pushed = d.pushed ++ numbers;
        taken = d.taken;
        in_order =
            ap (λ l. l ++ numbers) d.in_order
            ∙ (append_assoc d.taken (map number_of items) numbers
            ∙ ap (λ l. d.taken ++ l) (sym (map-append number_of items pieces)));
        once = λ h.
            let s = set_sum (λ (u : Tally). sum_by h u.taken) views port v w at in let p = d.once h in omega arith;
        whole = let s = set_sum (λ (u : Tally). u.parts) views port v w at in let p = d.whole in omega arith;
        listed = λ j u e.
            ⊎_elim
            (λ (x : (j ≡ port) × (w ≡ u)).
            subst (Lists (d.pushed ++ numbers)) x.1
            (record { idle = λ none. absurd (omega arith); same = λ _. ap (λ l. l ++ numbers) mine }))
            (λ (x : (j ≢ port) × (get_elem? views j ≡ some u)).
            record {
              idle = (d.listed j u x.1).idle;
              same = λ some_part.
                  let none = alone views port v j u at (d.whole ∙ sym every) x.0 x.1 in absurd (omega arith);
            })
            (at_set views port j w u e);
        due = All-append (IsPieceDue all) items pieces d.due due;
      },
      refl,
    )

-- what one pass took is no more than was pushed
no_more : (all items : List Piece) (views : List Tally) (port : ℕ) (v : Tally) → IsDealt all items views
    → get_elem? views port ≡ some v → 0 < v.parts → length v.taken ≤ length v.pushed
no_more all items views port v d at some_part =
    let a : length v.pushed ≡ length d.pushed = ap (λ l. length l) ((d.listed port v at).same some_part) in
    let b : length d.pushed ≡ length (d.taken ++ map number_of items) = ap (λ l. length l) d.in_order in
    let e = length-append d.taken (map number_of items) in
    let f = within (λ (u : Tally). sum_by (λ _. 1) u.taken) views port v at in
    let g = d.once (λ _. 1) in
    omega (arith, ones d.taken, ones v.taken)

-- a pass takes pieces
pub takes : (all : List Piece) (port : ℕ) (v : Tally) (most : ℕ) → 0 < v.parts
    → Takes (IsDealt all) port v most (Took all v)
takes all port v most some_part pieces items views _ _ d at =
    let numbers = map number_of pieces in
    let w : Tally = tally v.parts v.pushed (v.taken ++ numbers) in
    let after : IsDealt all items (set views port w) = record {
      pushed = d.pushed;
      taken = d.taken ++ numbers;
      in_order =
          d.in_order
          ∙ (ap (λ l. d.taken ++ l) (map-append number_of pieces items)
          ∙ sym (append_assoc d.taken numbers (map number_of items)));
      once = λ h.
          let s = set_sum (λ (u : Tally). sum_by h u.taken) views port v w at in
          let p = d.once h in
          omega (arith, sum_by-append h d.taken numbers, sum_by-append h v.taken numbers);
      whole = let s = set_sum (λ (u : Tally). u.parts) views port v w at in let p = d.whole in omega arith;
      listed = each_set (Lists d.pushed) views port w
          (record { idle = λ none. absurd (omega arith); same = (d.listed port v at).same }) d.listed;
      due = all_right (IsPieceDue all) pieces items d.due;
    } in (
      w,
      after,
      record {
        grown = refl;
        few = no_more all items (set views port w) port w after
            (set_here views port w (place_within views port v at)) some_part;
        due = all_left (IsPieceDue all) pieces items d.due;
      },
    )

pub one_due : (all : List Piece) (v w : Tally) (piece : Piece) → Took all v (piece ∷ []) w → IsPieceDue all piece
one_due all v w piece took = took.due 0 piece (omega arith)

pub some_due : (all : List Piece) (v w : Tally) (P : Type 0) (found : Option Piece)
    → MatchOption found P (λ piece. Took all v (piece ∷ []) w) → IfSome found (IsPieceDue all)
some_due all v w P None took = tt
some_due all v w P (Some piece) took = one_due all v w piece took

-- a deal stays one where other views take and have as much, and each lists what was pushed
still_dealt : (all items : List Piece) (old new : List Tally) (d : IsDealt all items old)
    → ((h : ℕ → ℕ) → sum_by (λ (u : Tally). sum_by h u.taken) old ≡ sum_by (λ (u : Tally). sum_by h u.taken) new)
    → sum_by (λ (u : Tally). u.parts) new ≡ sum_by (λ (u : Tally). u.parts) old → Each (Lists d.pushed) new
    → IsDealt all items new
still_dealt all items old new d once whole listed = record {
  pushed = d.pushed;
  taken = d.taken;
  in_order = d.in_order;
  once = λ h. d.once h ∙ once h;
  whole = whole ∙ d.whole;
  listed = listed;
  due = d.due;
}

-- a pass with two parts gives one of them away
pub forks : (all : List Piece) (port : ℕ) (v : Tally) → 1 < v.parts
    → Forks (IsDealt all) port v (tally (v.parts - 1) v.pushed v.taken) (tally 1 v.pushed [])
forks all port v two_parts items views d at =
    let l : Tally = tally (v.parts - 1) v.pushed v.taken in
    let r : Tally = tally 1 v.pushed [] in
    let vs : List Tally = set views port l in
    let mine : v.pushed ≡ d.pushed = (d.listed port v at).same (omega arith) in
    still_dealt all items views (vs ++ r ∷ []) d
    (λ h.
    let s = set_sum (λ (u : Tally). sum_by h u.taken) views port v l at in
    omega (arith, sum_by_push (λ (u : Tally). sum_by h u.taken) vs r))
    (let s = set_sum (λ (u : Tally). u.parts) views port v l at in
    omega (arith, sum_by_push (λ (u : Tally). u.parts) vs r))
    (each_snoc (Lists d.pushed) vs r (record { idle = λ none. refl; same = λ _. mine })
    (each_set (Lists d.pushed) views port l (record { idle = λ none. absurd (omega arith); same = λ _. mine })
    d.listed))

-- a pass takes another one in
pub merges : (all : List Piece) (port : ℕ) (v : Tally) (other : ℕ) (u : Tally) → 0 < v.parts
    → Merges (IsDealt all) port v other u (tally (v.parts + u.parts) v.pushed (v.taken ++ u.taken)) (tally 0 [] [])
merges all port v other u some_part items views d at two at' =
    let both : Tally = tally (v.parts + u.parts) v.pushed (v.taken ++ u.taken) in
    let spent : Tally = tally 0 [] [] in
    let vs : List Tally = set views port both in
    still_dealt all items views (set vs other spent) d
    (λ h.
    let s = set_sum (λ (y : Tally). sum_by h y.taken) views port v both at in
    let t = set_sum (λ (y : Tally). sum_by h y.taken) vs other u spent at' in
    omega (arith, sum_by-append h v.taken u.taken))
    (let s = set_sum (λ (y : Tally). y.parts) views port v both at in
    let t = set_sum (λ (y : Tally). y.parts) vs other u spent at' in
    omega arith)
    (each_set (Lists d.pushed) vs other spent (record { idle = λ none. refl; same = λ part. absurd (omega arith) })
    (each_set (Lists d.pushed) views port both
    (record { idle = λ none. absurd (omega arith); same = λ _. (d.listed port v at).same some_part }) d.listed))

-- an owner that has every part and finds the deque empty knows that what was pushed was taken
pub finds : (all : List Piece) (port : ℕ) (v : Tally) → 0 < v.parts → Finds (IsDealt all) port v (IsEmptied v)
finds all port v some_part views d at every h =
    let mine : v.pushed ≡ d.pushed = (d.listed port v at).same some_part in
    let none : d.pushed ≡ d.taken ++ [] = d.in_order in
    let a : sum_by h v.pushed ≡ sum_by h d.pushed = ap (λ l. sum_by h l) mine in
    let b : sum_by h d.pushed ≡ sum_by h (d.taken ++ []) = ap (λ l. sum_by h l) none in
    let c = sum_by-append h d.taken [] in
    let w = whole (λ (u : Tally). sum_by h u.taken) views port v at (d.whole ∙ sym every)
    (λ j u e idle. ap (λ l. sum_by h l) ((d.listed j u e).idle idle)) in
    let t = d.once h in
    omega arith

-- what a pass learns where it finds nothing in the deque
pub found : (all : List Piece) (port : ℕ) (v : Tally) → Finds (IsDealt all) port v (FoundEmpty all v)
found all port v views d at = record { views = views; port = port; dealt = d; mine = at }

no_items : (items : List Piece) → length items ≤ 0 → items ≡ []
no_items [] none = refl
no_items (x ∷ items) none = absurd (omega arith)

-- and a thief of a deque that is first in first out
pub found_first : (all : List Piece) (flavor port : ℕ) (v : Tally) → flavor ≡ 0
    → FindsFew (IsDealt all) (min flavor 1) port v (FoundEmpty all v)
found_first all flavor port v first items views few d at =
    let none : length items ≤ 0 = subst (λ (f : ℕ). length items ≤ min f 1) first few in
    found all port v views (subst (λ (l : List Piece). IsDealt all l views) (no_items items none) d) at

-- a new deque
pub begins : (all : List Piece) → IsDealt all [] (tally all_parts [] [] ∷ [])
begins all = record {
  pushed = [];
  taken = [];
  in_order = refl;
  once = λ h. refl;
  whole = refl;
  listed = each_snoc (Lists []) [] (tally all_parts [] []) (record { idle = λ none. refl; same = λ _. refl })
      (λ j u e. absurd (some-ne-none u (sym e)));
  due = λ k d in'. absurd (omega arith);
}

-- a pass with a part learns its bounds
pub learns : (all : List Piece) (port : ℕ) (v : Tally) → 0 < v.parts
    → Learns (IsDealt all) port v (λ _. IsBounded v)
learns all port v some_part items views d at = record {
  few = no_more all items views port v d at some_part;
  parts = let w = within (λ (u : Tally). u.parts) views port v at in let t = d.whole in omega arith;
}
