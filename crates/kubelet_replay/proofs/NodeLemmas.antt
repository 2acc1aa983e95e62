-- The node of a trace, one tick and some pods more.
use Rattle.std.proofs.Common.{◌≡◌, ◌∙◌, ℕ, suc, zero, ◌+◌, ◌-◌, ◌<◌, ◌≤◌, List, [], ◌∷◌, ◌++◌}
use Rattle.std.proofs.Common.{length, take, drop, append_assoc, append-nil, Option, Some, None, Result, Ok, Err}
use Rattle.std.proofs.Common.{◌↔◌, IsErrOf, IsOkUnless, refl, ap, sym, subst, arith}
use Rattle.std.specs.Prelude.{slice_get, MatchOption, IfSome}
use Rattle.std.specs.Option.{option_flatten}
use Rattle.histories.specs.state.Histories.{EndsBefore}
use Rattle.std.proofs.lemmas.List.{length-take-le, length-drop, take_all, length-append}
use Rattle.std.proofs.Math.Seq.{take-append_seam}
use Rattle.histories.proofs.Lists.{rest_more, slice_get-kept}
use Rattle.manifest.specs.declared.pod.PodSpec.{PodSpec}
use Rattle.node_config.specs.declared.node.NodeConfig.{NodeConfig}
use Rattle.observations.specs.rule.Pods.{PodObs}
use Rattle.observations.specs.declared.tick.TickObs.{TickObs}
use Rattle.observations.specs.rule.Limits.{most_ticks, most_pods}
use Rattle.pod_state.specs.rule.Pods.{pod_tick}
use Rattle.pod_piece.specs.state.Listings.{IsNextTick}
use Rattle.pod_piece.specs.rule.Piece.{Piece}
use Rattle.eviction.specs.rule.Replay.{pod_ticks}
use Rattle.tick_round.specs.declared.fault.TickFault.{TickFault}
use Rattle.tick_round.specs.declared.fault.TickFault.TheVariants.{OutOfMemory, Halted}
use Rattle.node_rounds.specs.state.Node.{State, HasTaken, Fits, IsWhole, last_of}
use Rattle.tick_round.specs.state.Node.{IsAfter, MayTake, HasRoom}
use Rattle.node_rounds.proofs.Pieces.{pod_at}
use Rattle.kubelet_replay.specs.state.Ticks.{AreReplayable, AreWhole, HaveArrived, MayArrive}

pub middle : {A : Type 0} (xs : List A) (x : A) (ys : List A) → slice_get (xs ++ x ∷ ys) (length xs) ≡ Some x
middle [] x ys = refl
middle (y ∷ xs) x ys = middle xs x ys

get_behind : {A : Type 0} (xs : List A) (x : A) (ys : List A) (t : ℕ) (y : A) → slice_get ys t ≡ Some y
    → slice_get (xs ++ x ∷ ys) (length xs + suc t) ≡ Some y
get_behind [] x ys t y e = ap (λ (k : ℕ). slice_get (x ∷ ys) k) (let z : 0 + suc t ≡ suc t = omega arith in z) ∙ e
get_behind (z ∷ xs) x ys t y e =
    ap (λ (k : ℕ). slice_get (z ∷ (xs ++ x ∷ ys)) k) (let n : suc (length xs) + suc t ≡ suc (length xs + suc t) =
    omega arith in n) ∙ get_behind xs x ys t y e

taken_at : (n k : ℕ) (pods : List PodSpec) (pod : PodSpec) → slice_get (take k pods) n ≡ Some pod
    → slice_get pods n ≡ Some pod
taken_at n zero pods pod e = absurd (cc)
taken_at n (suc k) [] pod e = absurd (cc)
taken_at zero (suc k) (p ∷ pods) pod e = e
taken_at (suc n) (suc k) (p ∷ pods) pod e = taken_at n k pods pod e

last_place : (ticks : List TickObs) (m : ℕ) → last_of ticks ≡ Some m → (t : ℕ) × (tick : TickObs)
    × (slice_get ticks t ≡ Some tick) × (tick.at ≡ m) × (t < length ticks)
last_place [] m e = absurd (cc)
last_place (x ∷ []) m e = (0, x, refl, cc, omega arith)
last_place (x ∷ y ∷ ticks) m e = let w = last_place (y ∷ ticks) m e in let lt : w.0 < length (y ∷ ticks) = w.4 in
    (suc w.0, w.1, w.2, w.3, omega arith)

if_some : (o : Option ℕ) (P : ℕ → Type 0) → ((m : ℕ) → o ≡ Some m → P m) → IfSome o P
if_some None P each = tt
if_some (Some m) P each = each m refl

-- a node that has taken the ticks so far, and as many pods as the tick shows, may take it
pub fits_next : (pods : List PodSpec) (ticks before : List TickObs) (tick : TickObs) (rest : List TickObs) (s : State)
    → AreReplayable pods ticks → IsWhole s.config.version tick → ticks ≡ before ++ tick ∷ rest
    → HasTaken (take (length tick.pods) pods) before s → Fits s tick
fits_next pods ticks before tick rest s may shows whole taken =
    let t = length before in
    let at : slice_get ticks t ≡ Some tick = ap (λ (xs : List TickObs). slice_get xs t) whole ∙ middle before tick
    rest in
    let cut : take t ticks ≡ before = ap (take t) whole ∙ take-append_seam before (tick ∷ rest) in
    let count : length (take (length tick.pods) pods) ≡ length tick.pods = length-take-le (length tick.pods) pods
    (may.within t tick at) in
    record {
      few =
          let all : length ticks ≡ length before + suc (length rest) =
          ap length whole ∙ length-append before (tick ∷ rest) in
          let some : length ticks ≤ most_ticks = may.few_ticks in
          let many : length s.evictions ≡ length before = taken.replay.as_many in
          omega (arith, all, some, many);
      later = subst (λ (o : Option ℕ). IfSome o (λ last. last < tick.at)) (sym taken.last_is)
          (if_some (last_of before) (λ m. m < tick.at) (λ m is.
          let w = last_place before m is in
          let there : slice_get ticks w.0 ≡ Some w.1 = ap (λ (xs : List TickObs). slice_get xs w.0) whole
          ∙ slice_get-kept before (tick ∷ rest) w.0 w.1 w.2 in
          let rises : w.1.at < tick.at = may.rising w.0 t w.1 tick w.4 there at in
          let same : w.1.at ≡ m = w.3 in omega arith));
      bounded = may.below t tick at;
      whole = shows;
      pods = record {
        told = omega (arith, count, taken.pieces.as_many);
        handed = record {
          next = record {
            within = omega (arith, count, taken.pieces.as_many);
            each = λ n piece shown is there.
                let here = pod_at s.config (take (length tick.pods) pods) before s.evictions s.pods.pieces n piece
                taken.pieces is in
                let pod : slice_get pods n ≡ Some here.0 = taken_at n (length tick.pods) pods here.0 here.1 in
                let next : IsNextTick here.0 (pod_ticks before n) (pod_tick shown) =
                subst (λ (h : List TickObs). IsNextTick here.0 (pod_ticks h n) (pod_tick shown)) cut
                (may.next t n tick here.0 shown at pod (ap option_flatten there)) in
                subst (λ (p : Piece). IsNextTick p.pod p.handed (pod_tick shown)) (sym here.2) next;
          };
          at_its_moment = λ n shown is. may.moments t n tick shown at is;
          later = λ n piece is.
              let here = pod_at s.config (take (length tick.pods) pods) before s.evictions s.pods.pieces n piece
              taken.pieces is in
              subst (λ (p : Piece). EndsBefore p.handed tick.at) (sym here.2)
              (subst (λ (h : List TickObs). EndsBefore (pod_ticks h n) tick.at) cut (may.ends t n tick at));
        };
      };
    }

-- a node that has taken the ticks so far, and on which the pods have arrived that the last of them shows
pub record IsSoFar (config : NodeConfig) (pods : List PodSpec) (ticks before rest : List TickObs)
    (left : List PodSpec) (node : Option State) : Type 0 where
  pub arrived : ℕ
  pub whole : ticks ≡ before ++ rest
  pub left_is : left ≡ drop arrived pods
  pub few : arrived ≤ length pods
  pub shown : (t : ℕ) (tick : TickObs) → slice_get rest t ≡ Some tick → arrived ≤ length tick.pods
  pub after : IsAfter config (take arrived pods) before node

take_none : (i : ℕ) → take {A = PodSpec} i [] ≡ []
take_none zero = refl
take_none (suc i) = refl

drop_none : (i : ℕ) → drop {A = PodSpec} i [] ≡ []
drop_none zero = refl
drop_none (suc i) = refl

-- a list that is cut at one place, and what is left at a later one
cut_twice : (n k : ℕ) (pods : List PodSpec) → n ≤ k
    → (take n pods ++ take (k - n) (drop n pods) ≡ take k pods) × (drop (k - n) (drop n pods) ≡ drop k pods)
cut_twice zero k pods le =
    let same : k - 0 ≡ k = omega arith in (ap (λ i. take i pods) same, ap (λ i. drop i pods) same)
cut_twice (suc n) zero pods le = absurd (omega arith)
cut_twice (suc n) (suc k) [] le = (take_none (suc k - suc n), drop_none (suc k - suc n))
cut_twice (suc n) (suc k) (p ∷ pods) le =
    let same : suc k - suc n ≡ k - n = omega arith in
    let rest = cut_twice n k pods (omega arith) in (
      ap (λ i. (p ∷ take n pods) ++ take i (drop n pods)) same ∙ ap (λ (ps : List PodSpec). p ∷ ps) rest.0,
      ap (λ i. drop i (drop n pods)) same ∙ rest.1,
    )

-- no tick and no pod yet
none_yet : (config : NodeConfig) (pods : List PodSpec) (ticks : List TickObs) (new : Option State)
    → IsAfter config [] [] new → IsSoFar config pods ticks [] ticks pods new
none_yet config pods ticks new after = record {
  arrived = 0;
  whole = refl;
  left_is = refl;
  few = omega arith;
  shown = λ t tick at. omega arith;
  after = after;
}

-- the same with what the code has of the ticks and of the pods
pub none_taken : (config : NodeConfig) (pods left : List PodSpec) (ticks rest : List TickObs) (new : Option State)
    → rest ≡ ticks → left ≡ pods → IsAfter config [] [] new → IsSoFar config pods ticks [] rest left new
none_taken config pods left ticks rest new all these after =
    subst (λ (ts : List TickObs). IsSoFar config pods ticks [] ts left new) (sym all)
    (subst (λ (ps : List PodSpec). IsSoFar config pods ticks [] ticks ps new) (sym these)
    (none_yet config pods ticks new after))

left_over : (pods left : List PodSpec) (arrived : ℕ) → left ≡ drop arrived pods → length left ≡ length pods - arrived
left_over pods left arrived is = ap length is ∙ length-drop arrived pods

-- the place of the next tick, and that it shows no more pods than there are
next_place : (config : NodeConfig) (pods : List PodSpec) (ticks before : List TickObs) (tick : TickObs)
    (rest : List TickObs) (left : List PodSpec) (old : Option State)
    → AreReplayable pods ticks → IsSoFar config pods ticks before (tick ∷ rest) left old
    → (slice_get ticks (length before) ≡ Some tick) × (length tick.pods ≤ length pods)
next_place config pods ticks before tick rest left old may s =
    let at : slice_get ticks (length before) ≡ Some tick =
    ap (λ (xs : List TickObs). slice_get xs (length before)) s.whole ∙ middle before tick rest in
    (at, may.within (length before) tick at)

-- the pods that the next tick shows have arrived
arrived_next : (config : NodeConfig) (pods : List PodSpec) (ticks before : List TickObs) (tick : TickObs)
    (rest : List TickObs) (left left' : List PodSpec) (old new : Option State)
    → (s : IsSoFar config pods ticks before (tick ∷ rest) left old)
    → HaveArrived left (length tick.pods - s.arrived) old new left'
    → IsAfter config (take (length tick.pods) pods) before new × (left' ≡ drop (length tick.pods) pods)
arrived_next config pods ticks before tick rest left left' old new s have =
    let le : s.arrived ≤ length tick.pods = s.shown 0 tick refl in
    let both = cut_twice s.arrived (length tick.pods) pods le in (
      subst (λ (ps : List PodSpec). IsAfter config ps before new)
          (ap (λ (ps : List PodSpec). take s.arrived pods ++ take (length tick.pods - s.arrived) ps) s.left_is ∙ both.0)
          (have.arrived config (take s.arrived pods) before s.after),
      have.left_is ∙ ap (drop (length tick.pods - s.arrived)) s.left_is ∙ both.1,
    )

may_take : (config : NodeConfig) (pods : List PodSpec) (ticks before : List TickObs) (tick : TickObs)
    (rest : List TickObs) (node : Option State)
    → AreReplayable pods ticks → IsWhole config.version tick → ticks ≡ before ++ tick ∷ rest
    → IsAfter config (take (length tick.pods) pods) before node → MayTake node tick
may_take config pods ticks before tick rest None may shows whole after = absurd after
may_take config pods ticks before tick rest (Some s) may shows whole after =
    fits_next pods ticks before tick rest s may
    (subst (λ (c : NodeConfig). IsWhole c.version tick) (sym after.0) shows) whole after.1

-- once the tick was taken
one_more : (config : NodeConfig) (pods : List PodSpec) (ticks before : List TickObs) (tick : TickObs)
    (rest : List TickObs) (left left' : List PodSpec) (old mid new : Option State)
    → AreReplayable pods ticks → (s : IsSoFar config pods ticks before (tick ∷ rest) left old)
    → HaveArrived left (length tick.pods - s.arrived) old mid left'
    → ((ps : List PodSpec) (ts : List TickObs) → IsAfter config ps ts mid → IsAfter config ps (ts ++ tick ∷ []) new)
    → IsSoFar config pods ticks (before ++ tick ∷ []) rest left' new
one_more config pods ticks before tick rest left left' old mid new may s have takes =
    let here = next_place config pods ticks before tick rest left old may s in
    let next = arrived_next config pods ticks before tick rest left left' old mid s have in
    record {
      arrived = length tick.pods;
      whole = rest_more ticks before tick rest s.whole;
      left_is = next.1;
      few = here.1;
      shown = λ t later there.
          let place : slice_get ticks (length before + suc t) ≡ Some later =
          ap (λ (xs : List TickObs). slice_get xs (length before + suc t)) s.whole ∙ get_behind before tick rest t
          later there in
          may.growing (length before) (length before + suc t) tick later (omega arith) here.0 place;
      after = takes (take (length tick.pods) pods) before next.0;
    }

-- all ticks taken, and the other pods arrived
pub all_taken : (config : NodeConfig) (pods : List PodSpec) (ticks before : List TickObs)
    (left left' : List PodSpec) (old new : Option State)
    → IsSoFar config pods ticks before [] left old → HaveArrived left (length left - 0) old new left'
    → IsAfter config pods ticks new
all_taken config pods ticks before left left' old new s have =
    let few : s.arrived ≤ length pods = s.few in
    let count : length left - 0 ≡ length pods - s.arrived = omega (arith, left_over pods left s.arrived s.left_is) in
    let all : take s.arrived pods ++ take (length left - 0) left ≡ pods =
    ap (λ (k : ℕ). take s.arrived pods ++ take k left) count
    ∙ ap (λ (ps : List PodSpec). take s.arrived pods ++ take (length pods - s.arrived) ps) s.left_is
    ∙ (cut_twice s.arrived (length pods) pods few).0 ∙ take_all (length pods) pods (omega arith) in
    subst (λ (ts : List TickObs). IsAfter config pods ts new) (sym (s.whole ∙ append-nil before))
    (subst (λ (ps : List PodSpec). IsAfter config ps before new) all
    (have.arrived config (take s.arrived pods) before s.after))

-- some pods arrive one after the other
pub took_more : (config : NodeConfig) (arrived : List PodSpec) (ticks : List TickObs) (taken : List PodSpec)
    (pod : PodSpec) (old new : Option State)
    → IsAfter config (arrived ++ taken) ticks old
    → ((ps : List PodSpec) (ts : List TickObs) → IsAfter config ps ts old → IsAfter config (ps ++ pod ∷ []) ts new)
    → IsAfter config (arrived ++ (taken ++ pod ∷ [])) ticks new
took_more config arrived ticks taken pod old new after arrives =
    subst (λ (ps : List PodSpec). IsAfter config ps ticks new) (append_assoc arrived taken (pod ∷ []))
    (arrives (arrived ++ taken) ticks after)

-- where an iterator has ended it has nothing left
pub none_left : {A : Type 0} (o : Option A) (old new : ℕ) (Q : A → Type 0) (rest : List A)
    → MatchOption o ((old ≡ 0) × (new ≡ 0)) Q → length rest ≡ new → o ≡ None → rest ≡ []
none_left None old new Q [] ends long is = refl
none_left None old new Q (x ∷ xs) ends long is = absurd (omega (arith, long, ends.1))
none_left (Some x) old new Q rest ends long is = absurd (let w : Some x ≡ None = is in cc)

pub none_arrived : (all : List PodSpec) (old : Option State) → HaveArrived all 0 old old all
none_arrived all old = record {
  arrived = λ config pods ticks after. subst (λ (ps : List PodSpec). IsAfter config ps ticks old)
      (sym (append-nil pods)) after;
  left_is = refl;
}

cut : (i : ℕ) (all : List PodSpec) (pod : PodSpec) (rest : List PodSpec) → pod ∷ rest ≡ drop i all
    → (take (suc i) all ≡ take i all ++ pod ∷ []) × (rest ≡ drop (suc i) all)
cut zero [] pod rest e = absurd (cc)
cut zero (p ∷ all) pod rest e = let head : p ≡ pod = cc in let tail : rest ≡ all = cc in
    (ap (λ (q : PodSpec). q ∷ []) head, tail)
cut (suc i) [] pod rest e = absurd (cc)
cut (suc i) (p ∷ all) pod rest e = let w = cut i all pod rest e in (ap (λ (ps : List PodSpec). p ∷ ps) w.0, w.1)

pub arriving_more : (all : List PodSpec) (i : ℕ) (old mid new : Option State) (left : List PodSpec) (pod : PodSpec)
    (rest : List PodSpec) → HaveArrived all i old mid left → left ≡ pod ∷ rest
    → ((config : NodeConfig) (pods : List PodSpec) (ticks : List TickObs) → IsAfter config pods ticks mid
    → IsAfter config (pods ++ pod ∷ []) ticks new)
    → HaveArrived all (i + 1) old new rest
arriving_more all i old mid new left pod rest are is arrives =
    let w = cut i all pod rest (sym is ∙ are.left_is) in
    let next : suc i ≡ i + 1 = omega arith in
    subst (λ (k : ℕ). HaveArrived all k old new rest) next (record {
      arrived = λ config pods ticks after.
          subst (λ (ps : List PodSpec). IsAfter config (pods ++ ps) ticks new) (sym w.0)
          (took_more config pods ticks (take i all) pod mid new (are.arrived config pods ticks after)
          (λ ps ts before. arrives config ps ts before));
      left_is = w.1;
    })

short : (i n : ℕ) (all : List PodSpec) → [] ≡ drop i all → i ≤ n → (take i all ≡ take n all) × ([] ≡ drop n all)
short i n all e le =
    let cut = cut_twice i n all le in (
      sym (append-nil (take i all)) ∙ ap (λ ps. take i all ++ ps) (sym (take_none (n - i)))
          ∙ ap (λ ps. take i all ++ take (n - i) ps) e ∙ cut.0,
      sym (drop_none (n - i)) ∙ ap (drop (n - i)) e ∙ cut.1,
    )

-- where none are left all have
pub all_arrived : (all : List PodSpec) (i count : ℕ) (old new : Option State) (left rest : List PodSpec)
    → HaveArrived all i old new left → left ≡ [] → rest ≡ [] → i ≤ count → HaveArrived all count old new rest
all_arrived all i count old new left rest are none none' le =
    let w = short i count all (sym none ∙ are.left_is) le in
    record {
      arrived = λ config pods ticks after. subst (λ (ps : List PodSpec). IsAfter config (pods ++ ps) ticks new) w.0
          (are.arrived config pods ticks after);
      left_is = none' ∙ w.1;
    }

pub as_many_arrived : (all : List PodSpec) (i count : ℕ) (old new : Option State) (left : List PodSpec)
    → HaveArrived all i old new left → i ≤ count → count ≤ i → HaveArrived all count old new left
as_many_arrived all i count old new left are le ge = let same : i ≡ count = omega arith in
    subst (λ (k : ℕ). HaveArrived all k old new left) same are

-- a halted node is after no ticks
pub halted : (config : NodeConfig) (pods : List PodSpec) (ticks : List TickObs) (one : Option State) → one ≡ None
    → IsAfter config pods ticks one → ⊥
halted config pods ticks None is after = after
halted config pods ticks (Some s) is after = absurd (cc)

-- one that is not halted refuses for memory alone
pub for_memory : {T : Type 0} (config : NodeConfig) (pods : List PodSpec) (ticks : List TickObs) (one : Option State)
    (result : Result T TickFault)
    → IsAfter config pods ticks one → (IsErrOf result Halted ↔ (one ≡ None)) → IsOkUnless result OutOfMemory
for_memory config pods ticks one (Ok value) after is = tt
for_memory config pods ticks one (Err OutOfMemory) after is = refl
for_memory config pods ticks one (Err Halted) after is = absurd (halted config pods ticks one (is.0 refl) after)

-- the same with what the code has of the ticks
pub so_far_next : (config : NodeConfig) (pods : List PodSpec) (ticks before rest next : List TickObs)
    (left : List PodSpec) (old : Option State)
    → rest ≡ next → IsSoFar config pods ticks before rest left old → IsSoFar config pods ticks before next left old
so_far_next config pods ticks before rest next left old is s =
    subst (λ (ts : List TickObs). IsSoFar config pods ticks before ts left old) is s

-- no more than are left may arrive
pub may_arrive : (config : NodeConfig) (pods : List PodSpec) (ticks before rest : List TickObs) (more : ℕ)
    (left : List PodSpec) (old : Option State)
    → AreReplayable pods ticks → IsSoFar config pods ticks before rest left old
    → more ≤ length left → MayArrive more old
may_arrive config pods ticks before rest more left old may s le = record {
  config = config;
  arrived = take s.arrived pods;
  taken = before;
  after = s.after;
  room =
      let few : length pods ≤ most_pods = may.few_pods in
      let some : s.arrived ≤ length pods = s.few in
      omega (arith, few, le, some, left_over pods left s.arrived s.left_is, length-take-le s.arrived pods s.few);
}

-- until as many pods are left as the next tick leaves out, those arrive that it shows first
arriving : (config : NodeConfig) (pods : List PodSpec) (ticks before : List TickObs) (tick : TickObs)
    (rest : List TickObs) (shown : List (Option PodObs)) (count : ℕ) (left : List PodSpec) (old : Option State)
    → AreReplayable pods ticks → (s : IsSoFar config pods ticks before (tick ∷ rest) left old)
    → shown ≡ tick.pods → count ≡ length pods
    → length left - (count - length shown) ≡ length tick.pods - s.arrived
arriving config pods ticks before tick rest shown count left old may s is all =
    let same : length shown ≡ length tick.pods = ap length is in
    let here = next_place config pods ticks before tick rest left old may s in
    let le : s.arrived ≤ length tick.pods = s.shown 0 tick refl in
    omega (arith, same, all, le, here.1, left_over pods left s.arrived s.left_is)

-- the next tick shows no more pods than there are
pub shows_few : (config : NodeConfig) (pods : List PodSpec) (ticks before : List TickObs) (tick : TickObs)
    (rest : List TickObs) (shown : List (Option PodObs)) (count : ℕ) (left : List PodSpec) (old : Option State)
    → AreReplayable pods ticks → IsSoFar config pods ticks before (tick ∷ rest) left old
    → shown ≡ tick.pods → count ≡ length pods → length shown ≤ count
shows_few config pods ticks before tick rest shown count left old may s is all =
    let same : length shown ≡ length tick.pods = ap length is in
    let here = next_place config pods ticks before tick rest left old may s in omega (arith, same, all, here.1)

-- it may be taken once those that it shows have arrived
pub may_take_shown : (config : NodeConfig) (pods : List PodSpec) (ticks before : List TickObs) (tick : TickObs)
    (rest : List TickObs) (shown : List (Option PodObs)) (count : ℕ) (left left' : List PodSpec)
    (old new : Option State)
    → AreReplayable pods ticks → AreWhole config.version ticks
    → IsSoFar config pods ticks before (tick ∷ rest) left old → shown ≡ tick.pods → count ≡ length pods
    → HaveArrived left (length left - (count - length shown)) old new left' → MayTake new tick
may_take_shown config pods ticks before tick rest shown count left left' old new may shows s is all have =
    let more = arriving config pods ticks before tick rest shown count left old may s is all in
    let here = next_place config pods ticks before tick rest left old may s in
    may_take config pods ticks before tick rest new may (shows (length before) tick here.0) s.whole
    (arrived_next config pods ticks before tick rest left left' old new s
    (subst (λ (k : ℕ). HaveArrived left k old new left') more have)).0

-- and when it was
pub one_more_shown : (config : NodeConfig) (pods : List PodSpec) (ticks before : List TickObs) (tick : TickObs)
    (rest : List TickObs) (shown : List (Option PodObs)) (count : ℕ) (left left' : List PodSpec)
    (old mid new : Option State)
    → AreReplayable pods ticks → IsSoFar config pods ticks before (tick ∷ rest) left old
    → shown ≡ tick.pods → count ≡ length pods
    → HaveArrived left (length left - (count - length shown)) old mid left'
    → ((ps : List PodSpec) (ts : List TickObs) → IsAfter config ps ts mid → IsAfter config ps (ts ++ tick ∷ []) new)
    → IsSoFar config pods ticks (before ++ tick ∷ []) rest left' new
one_more_shown config pods ticks before tick rest shown count left left' old mid new may s is all have takes =
    let more = arriving config pods ticks before tick rest shown count left old may s is all in
    one_more config pods ticks before tick rest left left' old mid new may s
    (subst (λ (k : ℕ). HaveArrived left k old mid left') more have) takes

at_most : (k : ℕ) (xs : List PodSpec) → length (take k xs) ≤ k
at_most zero xs = omega arith
at_most (suc k) [] = omega arith
at_most (suc k) (x ∷ xs) = let le : length (take k xs) ≤ k = at_most k xs in omega (arith, le)

room_in : (config : NodeConfig) (pods : List PodSpec) (ticks : List TickObs) (node : Option State)
    → IsAfter config pods ticks node → length pods < most_pods → HasRoom node
room_in config pods ticks None after lt = absurd after
room_in config pods ticks (Some s) after lt =
    let many : length s.pods.pieces ≡ length pods = after.1.pieces.as_many in omega (arith, many, lt)

-- of these pods one more may arrive
pub has_room : (all : List PodSpec) (i count : ℕ) (old new : Option State) (left : List PodSpec)
    → MayArrive count old → HaveArrived all i old new left → i < count → HasRoom new
has_room all i count old new left may are lt =
    let room : length may.arrived + count ≤ most_pods = may.room in
    let few : length (take i all) ≤ i = at_most i all in
    let whole : length (may.arrived ++ take i all) ≡ length may.arrived + length (take i all) =
    length-append may.arrived (take i all) in
    room_in may.config (may.arrived ++ take i all) may.taken new
    (are.arrived may.config may.arrived may.taken may.after) (omega (arith, room, few, whole, lt))
