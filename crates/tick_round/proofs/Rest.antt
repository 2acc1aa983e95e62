-- The ticks that are left behind those of a round.
use Rattle.std.proofs.Common.{◌≡◌, ◌∙◌, ℕ, ◌≤◌, Bool, List, [], ◌∷◌, ◌++◌, length, map, Option, Some, None}
use Rattle.std.proofs.Common.{refl, ap, sym, subst, arith, append_assoc, append-nil}
use Rattle.std.specs.Prelude.{slice_get}
use Rattle.std.specs.List.{cons_option}
use Rattle.std.proofs.lemmas.List.{length-append}
use Rattle.std.proofs.lemmas.Option.{slice_get_within}
use Rattle.histories.specs.state.Histories.{EndsBefore}
use Rattle.histories.proofs.Lists.{given_at}
use Rattle.manifest.specs.declared.pod.PodSpec.{PodSpec}
use Rattle.observations.specs.rule.Pods.{PodObs}
use Rattle.observations.specs.declared.tick.TickObs.{TickObs}
use Rattle.observations.specs.rule.Observations.{shown_of}
use Rattle.pod_state.specs.rule.Pods.{PodTick, pod_tick}
use Rattle.pod_piece.specs.state.Listings.{IsNextTick}
use Rattle.pod_piece.specs.rule.Piece.{Piece}
use Rattle.pod_piece.specs.state.Piece.{pods_in}
use Rattle.eviction.specs.rule.Replay.{pod_ticks}
use Rattle.node_pods.specs.state.Pods.{after_one, after_each}
use Rattle.node_pods.proofs.Steps.{with_shown_at, with_shown_length}
use Rattle.node_pods.proofs.Candidates.{same_piece}
use Rattle.node_rounds.specs.state.Node.{State, HasTaken, FitAll, MayBeHandedAll, last_of, IsNextBy}
use Rattle.tick_round.specs.state.Node.{AreNextGated}
use Rattle.node_rounds.specs.state.Round.{IsKept}
use Rattle.tick_round.specs.state.Node.{HasTakenSome}
use Rattle.node_rounds.proofs.Ends.{after_all-length}
use Rattle.node_rounds.proofs.GoesOn.{last_more}
use Rattle.tick_round.proofs.Gated.{none_gated, more_gated}
use Rattle.node_rounds.proofs.Handing.{after_all, last_with, rest_handed, own_first, pod_ticks-append}
use Rattle.node_rounds.proofs.Pieces.{pod_at}

-- pods that are one in what decides which tick may be handed to them
record AreAlike (qs rs : List Piece) : Type 0 where
  pub as_many : length rs ≡ length qs
  pub each : (n : ℕ) (r : Piece) → slice_get rs n ≡ Some r
      → (q : Piece) × (slice_get qs n ≡ Some q) × (r.pod ≡ q.pod) × (r.handed ≡ q.handed)

alike_after : (qs rs : List Piece) (x : TickObs) → AreAlike qs rs
    → AreAlike (after_each qs x.pods) (after_each rs x.pods)
alike_after qs rs x are = record {
  as_many = with_shown_length after_one rs x.pods ∙ are.as_many ∙ sym (with_shown_length after_one qs x.pods);
  each = λ n s at.
      let lt = slice_get_within (after_each rs x.pods) n s at in
      let r = given_at rs n (let long = with_shown_length after_one rs x.pods in omega (arith, lt, long)) in
      let w = are.each n r.0 r.1 in
      let is = same_piece (after_each rs x.pods) n s (after_one r.0 (shown_of x n)) at
      (with_shown_at after_one (λ p. refl) rs x.pods n r.0 r.1) in (
        after_one w.0 (shown_of x n),
        with_shown_at after_one (λ p. refl) qs x.pods n w.0 w.1,
        ap (λ (p : Piece). p.pod) is ∙ pod_of r.0 w.0 (shown_of x n) w.2,
        ap (λ (p : Piece). p.handed) is ∙ handed_of r.0 w.0 (shown_of x n) w.3,
      );
}
  where
    pod_of : (r q : Piece) (o : Option PodObs) → r.pod ≡ q.pod → (after_one r o).pod ≡ (after_one q o).pod
    pod_of r q None same = same
    pod_of r q (Some o) same = same

    handed_of : (r q : Piece) (o : Option PodObs) → r.handed ≡ q.handed → (after_one r o).handed
        ≡ (after_one q o).handed
    handed_of r q None same = same
    handed_of r q (Some o) same = ap (λ (h : List PodTick). h ++ pod_tick o ∷ []) same

alike_handed : (qs rs : List Piece) (last : Option ℕ) (xs : List TickObs) → AreAlike qs rs
    → MayBeHandedAll qs last xs → MayBeHandedAll rs last xs
alike_handed qs rs last [] are may = tt
alike_handed qs rs last (x ∷ xs) are may = (
  record {
    next = record {
      within = omega (arith, may.0.next.within, are.as_many);
      each = λ n r o at there.
          let w = are.each n r at in
          subst (λ (s : PodSpec). IsNextTick s r.handed (pod_tick o)) (sym w.2)
          (subst (λ (h : List PodTick). IsNextTick (w.0).pod h (pod_tick o)) (sym w.3)
          (may.0.next.each n w.0 o w.1 there));
    };
    at_its_moment = may.0.at_its_moment;
    later = λ n r at.
        let w = are.each n r at in
        subst (λ (h : List PodTick). EndsBefore h x.at) (sym w.3) (may.0.later n w.0 w.1);
  },
  may.1,
  alike_handed (after_each qs x.pods) (after_each rs x.pods) (Some x.at) xs (alike_after qs rs x are) may.2,
)

-- a pod after ticks
after_at : (pieces : List Piece) (xs : List TickObs) (n : ℕ) (p : Piece) → slice_get pieces n ≡ Some p
    → (q : Piece) × (slice_get (after_all pieces xs) n ≡ Some q) × (q.pod ≡ p.pod)
    × (q.handed ≡ p.handed ++ pod_ticks xs n)
after_at pieces [] n p at = (p, at, refl, sym (append-nil p.handed))
after_at pieces (x ∷ xs) n p at =
    let o = shown_of x n in
    let next = after_at (after_each pieces x.pods) xs n (after_one p o)
    (with_shown_at after_one (λ r. refl) pieces x.pods n p at) in (
      next.0,
      next.1,
      next.2 ∙ pod_of o,
      next.3 ∙ ap (λ (h : List PodTick). h ++ pod_ticks xs n) (handed_of o)
          ∙ append_assoc p.handed (map pod_tick (cons_option o [])) (pod_ticks xs n)
          ∙ ap (λ (k : List PodTick). p.handed ++ k) (own_first x xs n o refl),
    )
  where
    pod_of : (o : Option PodObs) → (after_one p o).pod ≡ p.pod
    pod_of None = refl
    pod_of (Some o) = refl

    handed_of : (o : Option PodObs) → (after_one p o).handed ≡ p.handed ++ map pod_tick (cons_option o [])
    handed_of None = sym (append-nil p.handed)
    handed_of (Some o) = refl

last_of-with : (xs before : List TickObs) → last_of (before ++ xs) ≡ last_with (last_of before) xs
last_of-with [] before = ap last_of (append-nil before)
last_of-with (x ∷ xs) before =
    ap last_of (sym (append_assoc before (x ∷ []) xs)) ∙ last_of-with xs (before ++ x ∷ [])
    ∙ ap (λ (o : Option ℕ). last_with o xs) (last_more before x)

-- those that are left fit
pub rest_fit : (pods : List PodSpec) (before : List TickObs) (s new : State) (xs rest : List TickObs)
    → HasTaken pods before s → HasTaken pods (before ++ xs) new → FitAll s (xs ++ rest) → FitAll new rest
rest_fit pods before s new xs rest had has fits = record {
  few = omega (arith, fits.few, had.replay.as_many, has.replay.as_many, length-append before xs, length-append xs rest);
  handed =
      subst (λ (o : Option ℕ). MayBeHandedAll new.pods.pieces o rest)
      (ap (λ (o : Option ℕ). last_with o xs) had.last_is ∙ sym (last_of-with xs before) ∙ sym has.last_is)
      (alike_handed (after_all s.pods.pieces xs) new.pods.pieces (last_with s.last xs) rest alike
      (rest_handed s.pods.pieces s.last xs rest fits.handed));
}
  where
    alike : AreAlike (after_all s.pods.pieces xs) new.pods.pieces
    alike = record {
      as_many = has.pieces.as_many ∙ sym had.pieces.as_many ∙ sym (after_all-length s.pods.pieces xs);
      each = λ n r at.
          let is = pod_at new.config pods (before ++ xs) new.evictions new.pods.pieces n r has.pieces at in
          let was = had.pieces.each n is.0 is.1 in
          let q = after_at s.pods.pieces xs n _ was in (
            q.0,
            q.1,
            ap (λ (p : Piece). p.pod) is.2 ∙ sym q.2,
            ap (λ (p : Piece). p.handed) is.2 ∙ pod_ticks-append before xs n ∙ sym q.3,
          );
    }

-- ticks that come behind others
pub next_all : (xs ys : List TickObs) (a b c : State) → IsNextBy xs a b → IsNextBy ys b c
    → IsNextBy (xs ++ ys) a c
next_all xs ys a b c first then = record {
  config = then.config ∙ first.config;
  taken = λ pods before had. subst (λ (h : List TickObs). HasTaken pods h c) (append_assoc before xs ys)
      (then.taken pods (before ++ xs) (first.taken pods before had));
}

pub next_none : (a : State) → IsNextBy [] a a
next_none a = record {
  config = refl;
  taken = λ pods before had. subst (λ (h : List TickObs). HasTaken pods h a) (sym (append-nil before)) had;
}

-- a node that has taken the first of these ticks may take the others
pub has_taken_some : (left : Piece → Bool → Bool) (ticks taken rest : List TickObs) (s new : State) → IsKept s
    → FitAll s ticks → ticks ≡ taken ++ rest → AreNextGated left s taken → IsNextBy taken s new
    → HasTakenSome left ticks s new rest
has_taken_some left ticks taken rest s new kept fits all gated next = record {
  taken = taken;
  all = all;
  next = next;
  gated = gated;
  fits = rest_fit (pods_in s.pods.pieces) kept.ticks s new taken rest kept.taken
      (next.taken (pods_in s.pods.pieces) kept.ticks kept.taken) (subst (λ (xs : List TickObs). FitAll s xs) all fits);
}

-- none were taken yet, some more are, and all
pub none_taken : (left : Piece → Bool → Bool) (s : State) (ticks : List TickObs) → FitAll s ticks
    → HasTakenSome left ticks s s ticks
none_taken left s ticks fits =
    record { taken = []; all = refl; next = next_none s; gated = none_gated left s; fits = fits }

pub some_more : (left : Piece → Bool → Bool) (ticks behind rest : List TickObs) (a b c : State)
    → HasTakenSome left ticks a b behind → HasTakenSome left behind b c rest → HasTakenSome left ticks a c rest
some_more left ticks behind rest a b c some more = record {
  taken = some.taken ++ more.taken;
  all = some.all ∙ ap (λ (xs : List TickObs). some.taken ++ xs) more.all
      ∙ sym (append_assoc some.taken more.taken rest);
  next = next_all some.taken more.taken a b c some.next more.next;
  gated = more_gated left a b some.taken more.taken some.gated some.next.taken more.gated;
  fits = more.fits;
}

pub all_taken : (left : Piece → Bool → Bool) (ticks rest : List TickObs) (a b : State)
    → HasTakenSome left ticks a b rest → length rest ≤ 0 → IsNextBy ticks a b
all_taken left ticks [] a b some none =
    subst (λ (xs : List TickObs). IsNextBy xs a b) (sym (some.all ∙ append-nil some.taken)) some.next
all_taken left ticks (x ∷ rest) a b some none = absurd (omega (arith, none))

pub all_gated : (left : Piece → Bool → Bool) (ticks rest : List TickObs) (a b : State)
    → HasTakenSome left ticks a b rest → length rest ≤ 0 → AreNextGated left a ticks
all_gated left ticks [] a b some none =
    subst (λ (xs : List TickObs). AreNextGated left a xs) (sym (some.all ∙ append-nil some.taken)) some.gated
all_gated left ticks (x ∷ rest) a b some none = absurd (omega (arith, none))

-- a round takes one at least
pub fewer : (x : TickObs) (more calm : List TickObs) (last : TickObs) (rest : List TickObs)
    → x ∷ more ≡ (calm ++ last ∷ []) ++ rest → length rest ≤ length more
fewer x more calm last rest is =
    omega (arith, ap length is, length-append (calm ++ last ∷ []) rest, length-append calm (last ∷ []))
