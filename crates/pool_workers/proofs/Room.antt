-- What a worker keeps has room for one piece more, and a step changes no tag.
use Rattle.std.proofs.Common.{◌≡◌, ◌≢◌, ◌∙◌, ℕ, zero, suc, ◌+◌, ◌<◌, ◌≤◌, List, [], ◌∷◌, ◌++◌, map, length, set, get_or}
use Rattle.std.proofs.Common.{ap, sym, refl, subst, arith, ⊎_elim}
use Rattle.std.specs.List.{sum_by}
use Rattle.std.specs.Global.{Global}
use Rattle.std.specs.Option.{option_to_list}
use Rattle.std.specs.Prelude.{Option}
use Rattle.std.proofs.lemmas.List.{get_or-set_same, get_or-set_other, length-append}
use Rattle.std.proofs.lemmas.Bool.{cases_lt}
use Rattle.std.proofs.lemmas.List.Sums.{sum_by-cons, sum_by-append, sum_by_push}
use mathlib.Core.Option.{some, some-injective, some-ne-none}
use lib.ListN.{get_elem?}
use Rattle.atomic_blocks.specs.Lent.{RowsId}
use Rattle.crossbeam_deque.specs.Handles.{view, worker_flavor, worker_view, stealer_deque}
use Rattle.crossbeam_deque.specs.declared.handles.Worker.{Worker}
use Rattle.crossbeam_deque.proofs.Lists.{set_else}
use Rattle.pod_piece.specs.rule.Piece.{Piece}
use Rattle.piece_deques.specs.declared.rule.Tally.{Tally}
use Rattle.piece_deques.specs.state.Rule.{FoundEmpty, Took}
use Rattle.piece_deques.specs.state.Ends.{IsOwner}
use Rattle.piece_deques.proofs.Lists.{map_set, ones, sum_set}
use Rattle.worker_results.specs.declared.handle.StealHandle.{StealHandle}
use Rattle.worker_results.specs.state.Done.{weigh}
use Rattle.pool_workers.specs.state.Permits.{FilledDeque, filled_deque, permit_deque, owner_deque, taken_by, pushed_to}
use Rattle.pool_workers.specs.state.Permits.{IsUnused, FoundAllEmpty}
use Rattle.pool_workers.specs.state.Contexts.{tag, tag_of}

pub filled_same : (a b : RowsId × Global) (xs ys : List ℕ) → a ≡ b → xs ≡ ys → filled_deque a xs ≡ filled_deque b ys
filled_same a b xs ys deque pushed = λ k. filled_deque (deque k) (pushed k)

-- an owner that took a piece is still one
pub still_owner : {T P : Type 0} {all pieces : List Piece} (old new : Worker T Global Tally P) → IsOwner old
    → worker_flavor new ≡ worker_flavor old → Took all (worker_view old) pieces (worker_view new) → IsOwner new
still_owner old new owns flavor took =
    let parts = ap (λ v. v.parts) took.grown in
    let had = owns.some in
    record { in_order = flavor ∙ owns.in_order; some = omega arith }

-- before an owner took a piece, it had taken less than was pushed
pub more_left : {all : List Piece} (old new : Tally) (piece : Piece) → Took all old (piece ∷ []) new
    → length old.taken < length old.pushed
more_left old new piece took =
    let grown = ap (λ v. length v.taken) took.grown in
    let same = ap (λ v. length v.pushed) took.grown in
    let few = took.few in
    let n = length-append old.taken (piece.number ∷ []) in
    omega arith

no_numbers : (xs : List ℕ) → sum_by (λ _. 1) xs ≡ 0 → xs ≡ []
no_numbers [] e = refl
no_numbers (x ∷ xs) e = let o = ones (x ∷ xs) in absurd (omega arith)

module _ {D : Type 0} where
  -- no more was taken by permits than was pushed
  pub no_more : (handles : List (StealHandle D)) → taken_by (λ _. 1) handles ≤ pushed_to handles
  no_more [] = omega arith
  no_more (r ∷ rs) =
      let rest = no_more rs in
      let a = sum_by-cons (λ (r : StealHandle D). sum_by (λ _. 1) (view r.permit).taken) r rs in
      let b = sum_by-cons (λ (r : StealHandle D). length (view r.permit).pushed) r rs in
      let e = ones (view r.permit).taken in
      let f = r.few in
      omega arith

  -- nor was more taken by those of other deques than was pushed to these
  pub no_more_of_others : (deque : FilledDeque) (own : ℕ) (handles : List (StealHandle D)) → IsUnused deque own handles
      → taken_by (λ _. 1) handles + length deque.pushed ≤ pushed_to handles
  no_more_of_others deque own [] unused = absurd (some-ne-none deque (sym unused.stands))
  no_more_of_others deque zero (r ∷ rs) unused =
      let rest = no_more rs in
      let a = sum_by-cons (λ (r : StealHandle D). sum_by (λ _. 1) (view r.permit).taken) r rs in
      let b = sum_by-cons (λ (r : StealHandle D). length (view r.permit).pushed) r rs in
      let is : permit_deque r ≡ deque = some-injective (permit_deque r) deque unused.stands in
      let pushed : length (view r.permit).pushed ≡ length deque.pushed = ap (λ (p : FilledDeque). length p.pushed) is in
      let none : sum_by (λ _. 1) (view r.permit).taken ≡ 0 = ap (sum_by (λ _. 1)) (unused.none r refl) in
      omega arith
  no_more_of_others deque (suc own) (r ∷ rs) unused =
      let rest = no_more_of_others deque own rs (record { stands = unused.stands; none = unused.none }) in
      let a = sum_by-cons (λ (r : StealHandle D). sum_by (λ _. 1) (view r.permit).taken) r rs in
      let b = sum_by-cons (λ (r : StealHandle D). length (view r.permit).pushed) r rs in
      let e = ones (view r.permit).taken in
      let f = r.few in
      omega arith

  -- where nothing was taken by any permit, nothing was by this one
  pub none_taken : (handles : List (StealHandle D)) (i : ℕ) (r : StealHandle D) → taken_by (λ _. 1) handles ≡ 0
      → get_elem? handles i ≡ some r → (view r.permit).taken ≡ []
  none_taken [] i r none at = absurd (some-ne-none r (sym at))
  none_taken (x ∷ xs) zero r none at =
      let a = sum_by-cons (λ (r : StealHandle D). sum_by (λ _. 1) (view r.permit).taken) x xs in
      let mine : (view x.permit).taken ≡ [] = no_numbers (view x.permit).taken (omega arith) in
      subst (λ (y : StealHandle D). (view y.permit).taken ≡ []) (some-injective x r at) mine
  none_taken (x ∷ xs) (suc i) r none at =
      let a = sum_by-cons (λ (r : StealHandle D). sum_by (λ _. 1) (view r.permit).taken) x xs in
      none_taken xs i r (omega arith) at

  -- the permits before this one have found their deques empty, and this one is the worker's own
  pub found_but_own : (all : List Piece) (own n : ℕ) (handles : List (StealHandle D)) → n ≡ own
      → FoundAllEmpty all own n handles → FoundAllEmpty all own (n + 1) handles
  found_but_own all own n handles is found k d in' other =
      ⊎_elim
      (λ (less : k < n). found k d less other)
      (λ (more : n ≤ k). absurd (other (let e : k ≡ n = omega arith in e ∙ is))) (cases_lt k n)

  pub tag_same : {T P : Type 0} (owner : Worker T Global Tally P) (old new : List (StealHandle D)) (a b : ℕ)
      → map permit_deque new ≡ map permit_deque old → b ≡ a → tag_of owner new b ≡ tag_of owner old a
  tag_same owner old new a b filled parts =
      λ k. tag (owner_deque owner) (worker_view owner).parts (filled k) (parts k)

  module _ (handles : List (StealHandle D)) (i : ℕ) (old new : StealHandle D) (in' : i < length handles)
      (at : old ≡ get_or handles i old) (same : (view new.permit).pushed ≡ (view old.permit).pushed) where
    -- a permit took a piece: its place is the same
    pub permit_tag : {T P : Type 0} (owner : Worker T Global Tally P) (a b : ℕ)
        → stealer_deque new.thief ≡ stealer_deque old.thief → b ≡ a
        → tag_of owner (set handles i new) b ≡ tag_of owner handles a
    permit_tag owner a b deque parts =
        let stays = filled_same (stealer_deque new.thief) (stealer_deque old.thief) (view new.permit).pushed
        (view old.permit).pushed deque same in
        tag_same owner handles (set handles i new) a b (map_set permit_deque handles i old new at stays) parts

    -- the permit of the worker's own deque is another one
    pub unused_still : (deque : FilledDeque) (own : ℕ) → i ≢ own → stealer_deque new.thief ≡ stealer_deque old.thief
        → IsUnused deque own handles → IsUnused deque own (set handles i new)
    unused_still deque own other thief unused =
        let stays = filled_same (stealer_deque new.thief) (stealer_deque old.thief) (view new.permit).pushed
        (view old.permit).pushed thief same in
        record {
          stands =
              ap (λ (l : List FilledDeque). get_elem? l own) (map_set permit_deque handles i old new at stays)
              ∙ unused.stands;
          none = λ handle there. unused.none handle (sym (set_else handles i own new (λ e. other (sym e))) ∙ there);
        }

    -- and before that not all was taken of the other deques
    pub fewer : (number : ℕ) (deque : FilledDeque) (own : ℕ) → i ≢ own
        → stealer_deque new.thief ≡ stealer_deque old.thief → IsUnused deque own handles
        → (view new.permit).taken ≡ (view old.permit).taken ++ number ∷ []
        → taken_by (λ _. 1) handles + length deque.pushed < pushed_to handles
    fewer number deque own other thief unused grown =
        let a = sum_set (λ (r : StealHandle D). sum_by (λ _. 1) (view r.permit).taken) handles i old new in' at in
        let b = sum_set (λ (r : StealHandle D). length (view r.permit).pushed) handles i old new in' at in
        let m = no_more_of_others deque own (set handles i new) (unused_still deque own other thief unused) in
        let p : length (view new.permit).pushed ≡ length (view old.permit).pushed = ap (λ l. length l) same in
        let g = ap (sum_by (λ _. 1)) grown in
        let o = sum_by-append (λ _. 1) (view old.permit).taken (number ∷ []) in
        omega arith

    -- the permits have taken one piece more
    pub took_one : (weight : ℕ → ℕ) (number : ℕ) → (view new.permit).taken ≡ (view old.permit).taken ++ number ∷ []
        → taken_by weight (set handles i new) ≡ taken_by weight handles + weight number
    took_one weight number grown =
        let a = sum_set (λ (r : StealHandle D). sum_by weight (view r.permit).taken) handles i old new in' at in
        let g = ap (sum_by weight) grown in
        let o = sum_by_push weight (view old.permit).taken number in
        omega arith

    -- the permits have taken what they had
    pub took_none : (weight : ℕ → ℕ) → (view new.permit).taken ≡ (view old.permit).taken
        → taken_by weight (set handles i new) ≡ taken_by weight handles
    took_none weight none =
        let a = sum_set (λ (r : StealHandle D). sum_by weight (view r.permit).taken) handles i old new in' at in
        let e = ap (sum_by weight) none in
        omega arith

    pub pushed_same : pushed_to (set handles i new) ≡ pushed_to handles
    pushed_same =
        let b = sum_set (λ (r : StealHandle D). length (view r.permit).pushed) handles i old new in' at in
        let p : length (view new.permit).pushed ≡ length (view old.permit).pushed = ap (λ l. length l) same in
        omega arith

  -- the permits before this one, when it has changed

  pub found_before : (all : List Piece) (own i : ℕ) (handles : List (StealHandle D)) (new : StealHandle D)
      → FoundAllEmpty all own i handles → FoundAllEmpty all own i (set handles i new)
  found_before all own i handles new found k d in' other =
      let same = get_or-set_other handles i k new d (λ e. absurd (omega arith)) in
      subst (λ (r : StealHandle D). FoundEmpty all (view r.permit)) (sym same) (found k d in' other)

  -- and when it has found its deque empty
  pub found_one_more : (all : List Piece) (own i : ℕ) (handles : List (StealHandle D)) (new : StealHandle D)
      → i < length handles
      → FoundEmpty all (view new.permit) → FoundAllEmpty all own i handles
      → FoundAllEmpty all own (i + 1) (set handles i new)
  found_one_more all own i handles new within mine found k d in' other =
      ⊎_elim
      (λ (less : k < i). found_before all own i handles new found k d less other)
      (λ (more : i ≤ k).
      let e : i ≡ k = omega arith in
      subst (λ (j : ℕ). FoundEmpty all (view (get_or (set handles i new) j d).permit)) e
      (subst (λ (r : StealHandle D). FoundEmpty all (view r.permit)) (sym (get_or-set_same handles i new d within))
      mine))
      (cases_lt k i)

  -- where not all was taken, there is room for one piece more of each kind
  pub room : (taken : List ℕ) (handles : List (StealHandle D)) (done uncounted : List Piece) (refused : Option Piece)
      (cap : ℕ)
      → weigh (λ _. 1) done + weigh (λ _. 1) uncounted + weigh (λ _. 1) (option_to_list refused)
      ≡ sum_by (λ _. 1) taken + taken_by (λ _. 1) handles
      → length taken + taken_by (λ _. 1) handles < cap
      → (length done < cap) × (length uncounted < cap)
  room taken handles done uncounted refused cap matched less =
      let a = ones taken in
      let b = ones done in
      let d = ones uncounted in
      (omega arith, omega arith)
