-- Owners and the places of their deques.
use Rattle.std.proofs.Common.{◌≡◌, ℕ, ◌+◌, ◌<◌, List, [], ◌∷◌, ◌++◌, map, length, get_or, take, drop, reverse}
use Rattle.std.proofs.Common.{append_assoc, All, sym, refl, ap, subst, ◌∙◌, arith}
use Rattle.std.specs.List.{sum_by}
use Rattle.std.specs.Global.{Global}
use Rattle.std.proofs.lemmas.List.{reverse-append, same_from_push}
use Rattle.std.proofs.lemmas.List.Sums.{sum_by-cons}
use mathlib.Core.Option.{some}
use lib.ListN.{get_elem?}
use Rattle.crossbeam_deque.specs.Handles.{worker_deque, worker_view}
use Rattle.crossbeam_deque.specs.declared.handles.Worker.{Worker}
use Rattle.crossbeam_deque.proofs.Lists.{at_last, at_longer}
use Rattle.histories.proofs.Lists.{map_more}
use Rattle.piece_deques.specs.declared.rule.Tally.{Tally}
use Rattle.piece_deques.specs.state.Ends.{pushed_weight}
use Rattle.piece_deques.proofs.Lists.{drop_map_more, last, map_same, ones, sum_map, sum_same}
use Rattle.piece_deques.proofs.Lists.{take_map_more}
use Rattle.worker_results.specs.declared.handle.StealHandle.{StealHandle}
use Rattle.pool_workers.specs.declared.slot.DealtSlot.{DealtSlot}
use Rattle.pool_workers.specs.state.Permits.{FilledDeque, owner_deque, permit_deque, pushed_count, pushed_to}
use Rattle.pool_workers.specs.state.Slots.{IsDealtSlot}

module _ {T P : Type 0} where
  pub same_deques : (xs ys : List (Worker T Global Tally P)) → map owner_deque xs ≡ map owner_deque ys
      → map worker_deque xs ≡ map worker_deque ys
  same_deques xs ys e = map_same owner_deque (λ (p : FilledDeque). p.deque) xs ys e

  pub same_pushed : (xs ys : List (Worker T Global Tally P)) → map owner_deque xs ≡ map owner_deque ys
      → (weight : ℕ → ℕ) → sum_by (pushed_weight weight) xs ≡ sum_by (pushed_weight weight) ys
  same_pushed xs ys e weight = sum_same owner_deque (λ (p : FilledDeque). sum_by weight p.pushed) xs ys e

  pub owners_pushed : (xs : List (Worker T Global Tally P))
      → pushed_count (map owner_deque xs) ≡ sum_by (pushed_weight (λ _. 1)) xs
  owners_pushed [] = refl
  owners_pushed (x ∷ xs) =
      let rest = owners_pushed xs in
      let o = ones (worker_view x).pushed in
      omega (
        arith,
        sum_by-cons (λ (p : FilledDeque). length p.pushed) (owner_deque x) (map owner_deque xs),
        sum_by-cons (pushed_weight (λ _. 1)) x xs,
      )

-- the last slot is dealt over the places of all owners, as each is
pub next_slot : {T P D : Type 0} (owners : List (Worker T Global Tally P)) (slots rest : List (DealtSlot D))
    (slot : DealtSlot D) → slots ≡ rest ++ slot ∷ []
    → All (IsDealtSlot (sum_by (pushed_weight (λ _. 1)) owners) (map owner_deque owners)) slots
    → IsDealtSlot (sum_by (pushed_weight (λ _. 1)) owners) (map owner_deque owners) slot
next_slot owners slots rest slot put dealt =
    last (IsDealtSlot (sum_by (pushed_weight (λ _. 1)) owners) (map owner_deque owners)) slots rest slot put dealt

pub row_pushed : {D : Type 0} (row : List (StealHandle D)) (filled : List FilledDeque) → map permit_deque row ≡ filled
    → pushed_to row ≡ pushed_count filled
row_pushed row filled e = sym (sum_map permit_deque (λ (p : FilledDeque). length p.pushed) row) ∙ ap pushed_count e

module _ {X Y Z : Type 0} (f : X → Z) (g : Y → Z) (ys : List Y) (y : Y) (n at : ℕ) (next : n ≡ at + 1)
    (in' : at < length ys) (was : y ≡ get_or ys at y) where
  -- the last thief is one of the deque at the last place
  pub paired : (xs rest : List X) (x : X) → xs ≡ rest ++ x ∷ [] → map f xs ≡ take n (map g ys)
      → (map f rest ≡ take at (map g ys)) × (f x ≡ g y)
  paired xs rest x row same =
      same_from_push (map f rest) (take at (map g ys)) (f x) (g y)
      (sym (map_more f rest x)
      ∙ (ap (map f) (sym row)
      ∙ (same ∙ (ap (λ k. take k (map g ys)) next ∙ take_map_more g ys at y in' was))))

  -- a permit more at the front of the places
  pub granted : (xs new : List X) (x : X) → new ≡ xs ++ x ∷ [] → reverse (map f xs) ≡ drop n (map g ys) → f x ≡ g y
      → reverse (map f new) ≡ drop at (map g ys)
  granted xs new x put same fits =
      ap (λ l. reverse (map f l)) put
      ∙ (ap reverse (map_more f xs x)
      ∙ (reverse-append (map f xs) (f x ∷ [])
      ∙ (ap (λ l. f x ∷ l) (same ∙ ap (λ k. drop k (map g ys)) next)
      ∙ (ap (λ z. z ∷ drop (at + 1) (map g ys)) fits ∙ sym (drop_map_more g ys at y in' was)))))

-- where elements are moved from the end of one list to the other, the next stands at the place behind those moved
pub stands_next : {X Y Z : Type 0} (f : X → Z) (g : Y → Z) (xs : List X) (ys rest : List Y) (y : Y) (all : List Z)
    (n : ℕ) → ys ≡ rest ++ y ∷ [] → map f xs ++ reverse (map g ys) ≡ all → length (map f xs) ≡ n
    → get_elem? all n ≡ some (g y)
stands_next {Z = Z} f g xs ys rest y all n row order many =
    let r = reverse (map g rest) in
    let back : reverse (map g ys) ≡ g y ∷ r =
    ap (λ l. reverse (map g l)) row ∙ (ap reverse (map_more g rest y) ∙ reverse-append (map g rest) (g y ∷ [])) in
    let there : (map f xs ++ g y ∷ []) ++ r ≡ all =
    append_assoc (map f xs) (g y ∷ []) r ∙ (ap (λ l. map f xs ++ l) (sym back) ∙ order) in
    subst (λ (l : List Z). get_elem? l n ≡ some (g y)) there
    (at_longer (map f xs ++ g y ∷ []) r n (g y) (at_last (map f xs) (g y) n many))
