-- Ticks that are handed to a node's pods one after the other, before any comes into their statuses.
use Rattle.std.proofs.Common.{◌≡◌, ◌∙◌, ℕ, zero, suc, ◌+◌, List, [], ◌∷◌, ◌++◌, length, map, Option, Some, None}
use Rattle.std.proofs.Common.{refl, ap, sym, subst, arith, append_assoc, append-nil}
use Rattle.std.specs.Prelude.{slice_get, option_map}
use Rattle.std.specs.List.{cons_option}
use Rattle.std.proofs.lemmas.List.{length-append, length-map, map-append}
use Rattle.std.proofs.lemmas.List.Elements.{filter_map-append}
use Rattle.std.proofs.lemmas.Option.{slice_get-map}
use Rattle.histories.proofs.Places.{length-more}
use Rattle.observations.specs.rule.Pods.{PodObs}
use Rattle.observations.specs.declared.tick.TickObs.{TickObs}
use Rattle.observations.specs.rule.Observations.{shown_of, own_ticks}
use Rattle.pod_state.specs.rule.Pods.{PodTick, pod_tick}
use Rattle.pod_piece.specs.rule.Piece.{Piece}
use Rattle.pod_piece.specs.state.Piece.{begun_with}
use Rattle.eviction.specs.rule.Replay.{pod_ticks}
use Rattle.node_pods.specs.state.Pods.{AreNext, handed_one, handed_each, after_each, closed}
use Rattle.node_pods.proofs.Steps.{closed_handed, with_shown_at, with_shown_length}
use Rattle.node_rounds.specs.state.Node.{MayBeHandedAll}
use Rattle.node_rounds.specs.state.Stretch.{handed_all}

-- the pieces once each tick was handed to them and has come into their statuses, one after the other
abbrev pub after_all : List Piece → List TickObs → List Piece
after_all pieces [] = pieces
after_all pieces (tick ∷ ticks) = after_all (after_each pieces tick.pods) ticks

-- the last moment
abbrev pub last_with : Option ℕ → List TickObs → Option ℕ
last_with last [] = last
last_with last (tick ∷ ticks) = last_with (Some tick.at) ticks

pub handed_all-more : (pieces : List Piece) (ticks : List TickObs) (x : TickObs)
    → handed_all pieces (ticks ++ x ∷ []) ≡ handed_each (handed_all pieces ticks) x.pods
handed_all-more pieces [] x = refl
handed_all-more pieces (y ∷ ticks) x = handed_all-more (handed_each pieces y.pods) ticks x

pub after_all-more : (pieces : List Piece) (ticks : List TickObs) (x : TickObs)
    → after_all pieces (ticks ++ x ∷ []) ≡ after_each (after_all pieces ticks) x.pods
after_all-more pieces [] x = refl
after_all-more pieces (y ∷ ticks) x = after_all-more (after_each pieces y.pods) ticks x

pub last_with-more : (last : Option ℕ) (ticks : List TickObs) (x : TickObs) → last_with last
    (ticks ++ x ∷ []) ≡ Some x.at
last_with-more last [] x = refl
last_with-more last (y ∷ ticks) x = last_with-more (Some y.at) ticks x

-- closed, they are those after the ticks
pub closed_all : (pieces : List Piece) (ticks : List TickObs)
    → map closed (handed_all pieces ticks) ≡ after_all (map closed pieces) ticks
closed_all pieces [] = refl
closed_all pieces (x ∷ ticks) =
    closed_all (handed_each pieces x.pods) ticks
    ∙ ap (λ (ps : List Piece). after_all ps ticks) (closed_handed pieces x.pods)

-- the first of the ticks may be handed to them, and then the others
pub front_handed : (pieces : List Piece) (last : Option ℕ) (ticks more : List TickObs)
    → MayBeHandedAll pieces last (ticks ++ more) → MayBeHandedAll pieces last ticks
front_handed pieces last [] more may = tt
front_handed pieces last (x ∷ ticks) more may =
    (may.0, may.1, front_handed (after_each pieces x.pods) (Some x.at) ticks more may.2)

pub rest_handed : (pieces : List Piece) (last : Option ℕ) (ticks more : List TickObs)
    → MayBeHandedAll pieces last (ticks ++ more) → MayBeHandedAll (after_all pieces ticks) (last_with last ticks) more
rest_handed pieces last [] more may = may
rest_handed pieces last (x ∷ ticks) more may = rest_handed (after_each pieces x.pods) (Some x.at) ticks more may.2

-- what may be handed to pieces once they are closed may be handed to them
pub next_open : (opened closed_pieces : List Piece) (shown : List (Option PodObs))
    → map closed opened ≡ closed_pieces → AreNext closed_pieces shown → AreNext opened shown
next_open opened closed_pieces shown same next = record {
  within =
      let long : length (map closed opened) ≡ length opened = length-map opened closed in
      omega (arith, next.within, long, ap length same);
  each = λ n piece observed at there. next.each n (closed piece) observed
      (subst (λ (ps : List Piece). slice_get ps n ≡ Some (closed piece)) same
      (slice_get-map closed opened n ∙ ap (option_map closed) at)) there;
}

-- what a piece is once it was handed these ticks more, all in one round
pub record IsGrown (p : Piece) (more : List PodTick) (q : Piece) : Type 0 where
  pub number : q.number ≡ p.number
  pub pod : q.pod ≡ p.pod
  pub max_restart_delay : q.max_restart_delay ≡ p.max_restart_delay
  pub eviction : q.eviction ≡ p.eviction
  pub handed : q.handed ≡ p.handed ++ more
  pub waiting : q.waiting ≡ length more
  pub begun : q.begun ≡ length p.handed

pub not_grown : (p : Piece) → p.waiting ≡ 0 → p.begun ≡ length p.handed → IsGrown p [] p
not_grown p free rested = record {
  number = refl;
  pod = refl;
  max_restart_delay = refl;
  eviction = refl;
  handed = sym (append-nil p.handed);
  waiting = free;
  begun = rested;
}

begins : (waiting handed begun first : ℕ) → handed ≡ first + waiting → begun ≡ first
    → begun_with waiting handed begun ≡ first
begins zero handed begun first long is = omega (arith, long)
begins (suc waiting) handed begun first long is = is

grown_more : (p : Piece) (more : List PodTick) (q : Piece) (o : Option PodObs) → IsGrown p more q
    → IsGrown p (more ++ map pod_tick (cons_option o [])) (handed_one q o)
grown_more p more q None is =
    subst (λ (k : List PodTick). IsGrown p k q) (sym (append-nil more)) is
grown_more p more q (Some o) is = record {
  number = is.number;
  pod = is.pod;
  max_restart_delay = is.max_restart_delay;
  eviction = is.eviction;
  handed = ap (λ (h : List PodTick). h ++ pod_tick o ∷ []) is.handed ∙ append_assoc p.handed more (pod_tick o ∷ []);
  waiting = ap suc is.waiting ∙ sym (length-more more (pod_tick o));
  begun = begins q.waiting (length q.handed) q.begun (length p.handed)
      (omega (arith, ap length is.handed, length-append p.handed more, is.waiting)) is.begun;
}

pub own_first : (x : TickObs) (ticks : List TickObs) (n : ℕ) (o : Option PodObs) → shown_of x n ≡ o
    → map pod_tick (cons_option o []) ++ pod_ticks ticks n ≡ pod_ticks (x ∷ ticks) n
own_first x ticks n None none = ap (λ (o : Option PodObs). map pod_tick (cons_option o (own_ticks ticks n))) (sym none)
own_first x ticks n (Some o) is = ap (λ (o : Option PodObs). map pod_tick (cons_option o (own_ticks ticks n))) (sym is)

-- ticks behind others
pub pod_ticks-append : (before xs : List TickObs) (n : ℕ)
    → pod_ticks (before ++ xs) n ≡ pod_ticks before n ++ pod_ticks xs n
pod_ticks-append before xs n =
    ap (map pod_tick) (filter_map-append (λ (x : TickObs). shown_of x n) before xs)
    ∙ map-append pod_tick (own_ticks before n) (own_ticks xs n)

-- each piece once all these ticks were handed to it
pub handed_at : (p : Piece) (more : List PodTick) (pieces : List Piece) (ticks : List TickObs) (n : ℕ) (q : Piece)
    → slice_get pieces n ≡ Some q → IsGrown p more q
    → (r : Piece) × (slice_get (handed_all pieces ticks) n ≡ Some r) × IsGrown p (more ++ pod_ticks ticks n) r
handed_at p more pieces [] n q at is = (q, at, subst (λ (k : List PodTick). IsGrown p k q) (sym (append-nil more)) is)
handed_at p more pieces (x ∷ ticks) n q at is =
    let o = shown_of x n in
    let next = handed_at p (more ++ map pod_tick (cons_option o [])) (handed_each pieces x.pods) ticks n
    (handed_one q o)
    (with_shown_at handed_one (λ r. refl) pieces x.pods n q at) (grown_more p more q o is) in (
      next.0,
      next.1,
      subst (λ (k : List PodTick). IsGrown p k next.0)
          (append_assoc more (map pod_tick (cons_option o [])) (pod_ticks ticks n)
          ∙ ap (λ (k : List PodTick). more ++ k) (own_first x ticks n o refl)) next.2,
    )

pub handed_all-length : (pieces : List Piece) (ticks : List TickObs) → length (handed_all pieces ticks) ≡ length pieces
handed_all-length pieces [] = refl
handed_all-length pieces (x ∷ ticks) =
    handed_all-length (handed_each pieces x.pods) ticks ∙ with_shown_length handed_one pieces x.pods
