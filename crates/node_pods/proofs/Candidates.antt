-- The candidates that are held, and their victim.
use Rattle.std.proofs.Common.{◌≡◌, ◌∙◌, inl, inr, ℕ, ◌+◌, ◌<◌, Bool, List, length, get_or, Option}
use Rattle.std.proofs.Common.{Some, None, refl, ap, sym, subst, arith}
use Rattle.std.specs.Prelude.{IsSome, option_map, slice_get}
use Rattle.std.proofs.lemmas.Bool.{cases_eq, cases_lt}
use Rattle.std.proofs.lemmas.Option.{slice_get_read, slice_get_within}
use Rattle.histories.specs.rule.Histories.{last_moment}
use Rattle.histories.proofs.Lists.{some_given}
use Rattle.signals.specs.declared.signal.Signal.{Signal}
use Rattle.pod_piece.specs.declared.status.PodFailure.{PodFailure}
use Rattle.pod_piece.specs.declared.status.PodStatus.{PodStatus}
use Rattle.pod_piece.proofs.Failures.{may_or_not, may_by}
use Rattle.pod_piece.specs.rule.Piece.{Piece, ticks}
use Rattle.pod_piece.specs.state.Piece.{with_eviction}
use Rattle.pod_piece.specs.state.Status.{IsStatusOf}
use Rattle.ranking.specs.rule.Order.{IsVictim}
use Rattle.ranking.specs.state.Index.{AreHeldAfter, IsRanked}
use Rattle.ranking.proofs.LawLemmas.{RankAlike, before_alike}
use Rattle.node_pods.specs.state.Laws.{AreAlike, EvictedIsNoCandidate}
use Rattle.node_pods.specs.state.Pods.{Pods, IsCandidate}
use Rattle.node_pods.specs.state.Ranked.{IsHeldAt, AreHeld, AreHeldBelow}
use Rattle.node_pods.proofs.Statuses.{alike, rank_alike, evicted_ended}

-- a place has one piece
pub same_piece : (pieces : List Piece) (n : ℕ) (one other : Piece) → slice_get pieces n ≡ Some one
    → slice_get pieces n ≡ Some other → one ≡ other
same_piece pieces n one other e f = let both : Some one ≡ Some other = sym e ∙ f in cc

-- what is read at the place of a piece
pub read_at : (pieces : List Piece) (n : ℕ) (one read : Piece) → slice_get pieces n ≡ Some one
    → read ≡ get_or pieces n read → slice_get pieces n ≡ Some read
read_at pieces n one read at is =
    slice_get_read pieces (length pieces) n read refl (slice_get_within pieces n one at) is

pub read_by_place : (pieces : List Piece) (n : ℕ) (read : Piece) → n < length pieces → read ≡ get_or pieces n read
    → slice_get pieces n ≡ Some read
read_by_place pieces n read lt is = slice_get_read pieces (length pieces) n read refl lt is

pub status_at : (pieces : List Piece) (moment n : ℕ) (piece : Piece) (p : PodStatus)
    → slice_get pieces n ≡ Some piece → (c : IsCandidate pieces moment n p) → IsStatusOf piece p
status_at pieces moment n piece p at c =
    subst (λ (q : Piece). IsStatusOf q p) (same_piece pieces n c.piece piece c.at at) c.is_status

pub candidates_alike : (pieces : List Piece) (moment n : ℕ) (p q : PodStatus) → IsCandidate pieces moment n p
    → IsCandidate pieces moment n q → AreAlike p q
candidates_alike pieces moment n p q c d =
    alike c.piece p q c.is_status (status_at pieces moment n c.piece q c.at d)

pub candidates_rank_alike : (pieces : List Piece) (moment n : ℕ) (p q : PodStatus) → IsCandidate pieces moment n p
    → IsCandidate pieces moment n q → RankAlike p q
candidates_rank_alike pieces moment n p q c d =
    rank_alike c.piece p q c.is_status (status_at pieces moment n c.piece q c.at d)

-- the victim of those that are held is that of the candidates
pub victim_of_held : (signal : Signal) (dedicated : Bool) (pieces : List Piece) (moment : ℕ)
    (held : ℕ → Option PodStatus) → AreHeld pieces moment held → (victim : Option ℕ)
    → IsVictim signal dedicated (λ n p. held n ≡ Some p) victim
    → IsVictim signal dedicated (IsCandidate pieces moment) victim
victim_of_held signal dedicated pieces moment held are None none =
    λ n p c. let w = some_given (held n) ((are n).complete p c) in none n w.0 w.1
victim_of_held signal dedicated pieces moment held are (Some n) (p, e, before) = (
  p,
  (are n).sound p e,
  λ m q c apart.
      let w = some_given (held m) ((are m).complete q c) in
      before_alike signal dedicated p w.0 q (candidates_rank_alike pieces moment m w.0 q ((are m).sound w.0 w.1) c)
      (before m w.0 w.1 apart),
)

-- a pod of which nothing changes
held_same : (pieces : List Piece) (moment : ℕ) (held after : ℕ → Option PodStatus) (n : ℕ) → after n ≡ held n
    → IsHeldAt pieces moment held n → IsHeldAt pieces moment after n
held_same pieces moment held after n kept is = record {
  sound = λ p e. is.sound p (sym kept ∙ e);
  complete = λ p c. subst (λ (o : Option PodStatus). IsSome o) (sym kept) (is.complete p c);
}

-- the place of a pod that is held by its present status, or may not be evicted
pub held_here : (pieces : List Piece) (moment n : ℕ) (piece : Piece) (status : PodStatus)
    (held after : ℕ → Option PodStatus) → slice_get pieces n ≡ Some piece → last_moment piece.handed ≡ Some moment
    → IsStatusOf piece status → status.number ≡ n → AreHeldAfter moment held status after
    → IsHeldAt pieces moment after n
held_here pieces moment n piece status held after at present is number are = elim (may_or_not moment status) [
  | inr out ↦
      let gone : after n ≡ None = subst (λ (k : ℕ). after k ≡ None) number (are.out out) in
      record {
        sound = λ p e. absurd (let w : None ≡ Some p = sym gone ∙ e in cc);
        complete = λ p c. absurd (out (may_by piece.number piece.pod piece.eviction (ticks piece) p status moment
            (status_at pieces moment n piece p at c) is c.may));
      }
  | inl may ↦
      let here : after n ≡ Some status = subst (λ (k : ℕ). after k ≡ Some status) number (are.in_place may) in
      record {
        sound = λ p e.
            let both : Some status ≡ Some p = sym here ∙ e in
            let same : status ≡ p = cc in
            subst (λ (q : PodStatus). IsCandidate pieces moment n q) same
            (record { piece = piece; at = at; present = present; is_status = is; may = may });
        complete = λ p c. subst (λ (o : Option PodStatus). IsSome o) (sym here) refl;
      }
]

pub none_held : (pieces : List Piece) (moment : ℕ) → AreHeldBelow pieces moment 0 (λ n. None)
none_held pieces moment = record { below = λ n lt. absurd (omega arith); rest = λ n le. refl }

-- one pod more that is present has its place
below_more : (pieces : List Piece) (moment i : ℕ) (piece : Piece) (status : PodStatus)
    (held after : ℕ → Option PodStatus) → slice_get pieces i ≡ Some piece → last_moment piece.handed ≡ Some moment
    → IsStatusOf piece status → status.number ≡ i → AreHeldAfter moment held status after
    → AreHeldBelow pieces moment i held → AreHeldBelow pieces moment (i + 1) after
below_more pieces moment i piece status held after at present is number are so_far = record {
  below = λ n lt. elim (cases_eq n i) [
    | inl same ↦ subst (λ (k : ℕ). IsHeldAt pieces moment after k) (sym same)
        (held_here pieces moment i piece status held after at present is number are)
    | inr apart ↦
        let less : n < i = (let not : n ≡ i → ⊥ = apart in omega arith) in
        held_same pieces moment held after n (are.others n (λ e. apart (e ∙ number))) (so_far.below n less)
  ];
  rest = λ n le.
      let apart : n ≡ i → ⊥ = λ e. omega arith in
      are.others n (λ e. apart (e ∙ number)) ∙ so_far.rest n (omega arith);
}

-- one more that is not present has none
below_absent : (pieces : List Piece) (moment i : ℕ) (piece : Piece) (held after : ℕ → Option PodStatus)
    → slice_get pieces i ≡ Some piece → (last_moment piece.handed ≡ Some moment → ⊥)
    → ((n : ℕ) → after n ≡ held n) → AreHeldBelow pieces moment i held → AreHeldBelow pieces moment (i + 1) after
below_absent pieces moment i piece held after at absent same so_far = record {
  below = λ n lt. elim (cases_eq n i) [
    | inl here ↦ subst (λ (k : ℕ). IsHeldAt pieces moment after k) (sym here) (record {
      sound = λ p e. absurd (let w : None ≡ Some p = sym (so_far.rest i (omega arith)) ∙ sym (same i) ∙ e in cc);
      complete = λ p c. absurd (absent (ap (λ (q : Piece). last_moment q.handed)
          (sym (same_piece pieces i c.piece piece c.at at)) ∙ c.present));
    })
    | inr apart ↦ held_same pieces moment held after n (same n)
        (so_far.below n (let not : n ≡ i → ⊥ = apart in omega arith))
  ];
  rest = λ n le. same n ∙ so_far.rest n (omega arith);
}

-- one more, present or not
pub ranked_more : (pieces : List Piece) (moment i : ℕ) (piece : Piece) (held after : ℕ → Option PodStatus)
    → slice_get pieces i ≡ Some piece → piece.number ≡ i → IsRanked moment piece held after
    → AreHeldBelow pieces moment i held → AreHeldBelow pieces moment (i + 1) after
ranked_more pieces moment i piece held after at number (inl (present, status, is, are)) so_far =
    below_more pieces moment i piece status held after at present is (is.number_is ∙ number) are so_far
ranked_more pieces moment i piece held after at number (inr (absent, same)) so_far =
    below_absent pieces moment i piece held after at absent same so_far

-- all have it
pub all_below : (pieces : List Piece) (moment : ℕ) (held : ℕ → Option PodStatus)
    → AreHeldBelow pieces moment (length pieces) held → AreHeld pieces moment held
all_below pieces moment held so_far n = elim (cases_lt n (length pieces)) [
  | inl lt ↦ so_far.below n lt
  | inr past ↦ record {
    sound = λ p e. let w : None ≡ Some p = sym (so_far.rest n (omega arith)) ∙ e in absurd (cc);
    complete = λ p c.
        let lt : n < length pieces = slice_get_within pieces n c.piece c.at in absurd (omega arith);
  }
]

-- the victim by an index that had no pod before each of those that are present was given its place
pub victim_of_all : (pods : Pods) (pieces : List Piece) (moment : ℕ) (signal by : Signal) (dedicated : Bool)
    (held : ℕ → Option PodStatus) (victim : Option ℕ) → pieces ≡ pods.pieces → by ≡ signal
    → dedicated ≡ pods.has_dedicated_imagefs → AreHeldBelow pieces moment (length pieces) held
    → IsVictim by dedicated (λ n p. held n ≡ Some p) victim
    → IsVictim signal pods.has_dedicated_imagefs (IsCandidate pods.pieces moment) victim
victim_of_all pods pieces moment signal by dedicated held victim same of_signal is_dedicated below first =
    let are = all_below pieces moment held below in
    let here = victim_of_held by dedicated pieces moment held are victim first in
    let here = subst (λ (s : Signal). IsVictim s dedicated (IsCandidate pieces moment) victim) of_signal here in
    let here = subst (λ (d : Bool). IsVictim signal d (IsCandidate pieces moment) victim) is_dedicated here in
    subst (λ (ps : List Piece). IsVictim signal pods.has_dedicated_imagefs (IsCandidate ps moment) victim) same here

-- the pod that was evicted is no candidate any more
pub evicted_is_no_candidate : EvictedIsNoCandidate
evicted_is_no_candidate old new n order free may are moment p c =
    let was = may.1 in
    let here = are.here was.piece was.at in
    let is = status_at new moment n (with_eviction was.piece order) p here c in
    let says = c.may.lives (evicted_ended was.piece order order.at p (free n was.piece was.at) was.present is) in
    absurd (let w : None ≡ Some moment =
    sym (ap (option_map (λ (f : PodFailure). f.at)) is.failure) ∙ says in cc)
