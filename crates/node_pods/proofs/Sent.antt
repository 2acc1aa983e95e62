-- The pieces that go out for their updates, one after the other.
use Rattle.std.proofs.Common.{◌≡◌, ◌∙◌, ℕ, zero, suc, ◌+◌, ◌<◌, ◌≤◌, Bool, true, false, List, [], ◌∷◌, length, Option}
use Rattle.std.proofs.Common.{Some, None, refl, ap, sym, subst, arith}
use Rattle.std.specs.Prelude.{slice_get, nat_lt, if◌then◌else◌}
use Rattle.std.specs.List.{filter_map}
use Rattle.std.proofs.lemmas.Bool.{ltb-true, lt-ltb}
use Rattle.observations.specs.rule.Pods.{PodObs}
use Rattle.pod_state.specs.rule.Pods.{pod_tick}
use Rattle.pod_piece.specs.rule.Piece.{Piece}
use Rattle.pod_piece.specs.state.Piece.{with_tick, with_number}
use Rattle.node_pods.specs.state.Pods.{waits, sent_from, handed_each}

-- which of the pieces it was; its number is its place among those that go out
pub record IsSent (k : ℕ) (pieces : List Piece) (i : ℕ) (q : Piece) : Type 0 where
  pub n : ℕ
  pub piece : Piece
  pub at : slice_get pieces n ≡ Some piece
  pub pending : 0 < piece.waiting
  pub is : q ≡ with_number piece (k + i)

one_later : (k : ℕ) (p : Piece) (pieces : List Piece) (i : ℕ) (q : Piece) → IsSent k pieces i q
    → IsSent k (p ∷ pieces) i q
one_later k p pieces i q w = record { n = suc w.n; piece = w.piece; at = w.at; pending = w.pending; is = w.is }

pub sent_at : (k : ℕ) (pieces : List Piece) (i : ℕ) (q : Piece) → slice_get (sent_from k pieces) i ≡ Some q
    → IsSent k pieces i q
sent_at k [] i q e = absurd (cc)
sent_at k (p ∷ ps) i q there = by (waits p) refl i there (λ m j at. sent_at m ps j q at)
  where
    by : (b : Bool) → waits p ≡ b → (i : ℕ)
        → slice_get (if b then with_number p k ∷ sent_from (k + 1) ps else sent_from k ps) i ≡ Some q
        → ((m j : ℕ) → slice_get (sent_from m ps) j ≡ Some q → IsSent m ps j q) → IsSent k (p ∷ ps) i q
    by false e i at rest = one_later k p ps i q (rest k i at)
    by true e zero at rest =
        let same : with_number p k ≡ q = cc in
        let place : k ≡ k + 0 = omega arith in
        record {
          n = 0;
          piece = p;
          at = refl;
          pending = ltb-true 0 p.waiting e;
          is = sym same ∙ ap (λ (m : ℕ). with_number p m) place;
        }
    by true e (suc i) at rest =
        let w = rest (k + 1) i at in
        let place : k + 1 + i ≡ k + suc i = omega arith in
        record {
          n = suc w.n;
          piece = w.piece;
          at = w.at;
          pending = w.pending;
          is = w.is ∙ ap (λ (m : ℕ). with_number w.piece m) place;
        }

-- one for which a tick waits goes out
pub goes_out : (k : ℕ) (pieces : List Piece) (n : ℕ) (piece : Piece) → slice_get pieces n ≡ Some piece
    → 0 < piece.waiting → (i : ℕ) × (slice_get (sent_from k pieces) i ≡ Some (with_number piece (k + i)))
goes_out k [] n piece at pending = absurd (cc)
goes_out k (p ∷ ps) zero piece at pending =
    let same : p ≡ piece = cc in
    let place : k ≡ k + 0 = omega arith in
    let waits : 0 < p.waiting = subst (λ (q : Piece). 0 < q.waiting) (sym same) pending in (
      0,
      ap (λ (b : Bool). slice_get (if b then with_number p k ∷ sent_from (k + 1) ps else sent_from k ps) 0)
          (lt-ltb 0 p.waiting waits)
          ∙ ap (λ (q : Piece). Some (with_number q k)) same ∙ ap (λ (m : ℕ). Some (with_number piece m)) place,
    )
goes_out k (p ∷ ps) (suc n) piece at pending =
    by (waits p) (goes_out k ps n piece at pending) (goes_out (k + 1) ps n piece at pending)
  where
    by : (b : Bool) → (i : ℕ) × (slice_get (sent_from k ps) i ≡ Some (with_number piece (k + i)))
        → (i : ℕ) × (slice_get (sent_from (k + 1) ps) i ≡ Some (with_number piece (k + 1 + i)))
        → (i : ℕ) × (slice_get (if b then with_number p k ∷ sent_from (k + 1) ps else sent_from k ps) i
        ≡ Some (with_number piece (k + i)))
    by false stays goes = stays
    by true stays goes =
        let place : k + 1 + goes.0 ≡ k + suc goes.0 = omega arith in
        (suc goes.0, goes.1 ∙ ap (λ (m : ℕ). Some (with_number piece m)) place)

pub sent_few : (k : ℕ) (pieces : List Piece) → length (sent_from k pieces) ≤ length pieces
sent_few k [] = omega arith
sent_few k (p ∷ ps) = by (waits p) (sent_few (k + 1) ps) (sent_few k ps)
  where
    by : (b : Bool) → length (sent_from (k + 1) ps) ≤ length ps → length (sent_from k ps) ≤ length ps
        → length (if b then with_number p k ∷ sent_from (k + 1) ps else sent_from k ps) ≤ length (p ∷ ps)
    by true le other = omega (arith, le)
    by false other le = omega (arith, le)

-- a piece for which nothing waits stays
stays : (k : ℕ) (p : Piece) (ps : List Piece) → p.waiting ≡ 0 → length (sent_from k (p ∷ ps)) ≡ length (sent_from k ps)
stays k p ps free =
    ap (λ (w : ℕ). length (if nat_lt 0 w then with_number p k ∷ sent_from (k + 1) ps else sent_from k ps)) free

none_go : (k : ℕ) (pieces : List Piece)
    → ((n : ℕ) (piece : Piece) → slice_get pieces n ≡ Some piece → piece.waiting ≡ 0)
    → length (sent_from k pieces) ≡ 0
none_go k [] free = refl
none_go k (q ∷ qs) free = stays k q qs (free 0 q refl) ∙ none_go k qs (λ n piece at. free (suc n) piece at)

-- of pods with nothing that waits as many go out, once a tick was handed to them, as the tick shows
pub sent_count : (k : ℕ) (pieces : List Piece) (shown : List (Option PodObs)) → length shown ≤ length pieces
    → ((n : ℕ) (piece : Piece) → slice_get pieces n ≡ Some piece → piece.waiting ≡ 0)
    → length (sent_from k (handed_each pieces shown)) ≡ length (filter_map (λ (o : Option PodObs). o) shown)
sent_count k [] [] long free = refl
sent_count k [] (o ∷ os) long free = absurd (omega arith)
sent_count k (p ∷ ps) [] long free = none_go k (p ∷ ps) free
sent_count k (p ∷ ps) (None ∷ os) long free =
    stays k p (handed_each ps os) (free 0 p refl)
    ∙ sent_count k ps os (omega (arith, long)) (λ n piece at. free (suc n) piece at)
sent_count k (p ∷ ps) (Some o ∷ os) long free =
    ap (λ (b : Bool). length (if b then with_number (with_tick p (pod_tick o)) k ∷ sent_from (k + 1) (handed_each ps os)
    else sent_from k (handed_each ps os))) (lt-ltb 0 (suc p.waiting) (omega arith))
    ∙ ap suc (sent_count (k + 1) ps os (omega (arith, long)) (λ n piece at. free (suc n) piece at))
