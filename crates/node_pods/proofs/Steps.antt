-- The pods of a node, one after the other: which tick may come, and what it makes of them.
use Rattle.std.proofs.Common.{◌≡◌, ◌∙◌, inl, inr, ℕ, zero, suc, ◌+◌, ◌<◌, ◌≤◌, Bool, true, false, List, [], ◌∷◌, ◌++◌}
use Rattle.std.proofs.Common.{length, map, Option, Some, None, refl, ap, sym, subst, arith, append_assoc}
use Rattle.std.proofs.lemmas.List.{append-nil, length-append}
use Rattle.std.specs.Prelude.{◌≢◌, ◌↔◌, IsTrue, IfSome, MatchOption, option_map, slice_get, slice_set, nat_lt}
use Rattle.std.specs.Prelude.{if◌then◌else◌}
use Rattle.std.specs.Option.{option_to_list, option_flatten}
use Rattle.std.proofs.lemmas.Bool.{cases_eq, cases_lt, lt-ltb}
use Rattle.std.proofs.lemmas.Option.{slice_get_within}
use Rattle.histories.proofs.Lists.{given_at, same_at, set_length, set_here, set_others}
use Rattle.observations.specs.rule.Pods.{PodObs}
use Rattle.observations.specs.declared.tick.TickObs.{TickObs}
use Rattle.observations.specs.rule.Observations.{shown_of}
use Rattle.pod_piece.specs.declared.order.EvictOrder.{EvictOrder}
use Rattle.pod_piece.specs.rule.Piece.{Piece}
use Rattle.pod_piece.specs.state.Piece.{all_updated, with_eviction, with_number}
use Rattle.node_pods.specs.state.Pods.{Pods, AreNext, Fits, with_shown, handed_one, handed_each, waits}
use Rattle.node_pods.specs.state.Pods.{sent_from, staying, joined_from, after_one, after_each, closed, AreAfter}
use Rattle.node_pods.specs.state.Pods.{AreEvicted}
use Rattle.node_pods.specs.state.Steps.{IsShownNext, IsNextAt, AreNextBelow, MayTake, IsChangedAt, AreChangedBelow}
use Rattle.node_pods.specs.state.Laws.{OneIsAfter, OneIsEvicted}
use Rattle.node_pods.proofs.Candidates.{same_piece}

-- the pieces, as f makes them of what is shown
pub with_shown_length : (f : Piece → Option PodObs → Piece) (ps : List Piece) (shown : List (Option PodObs))
    → length (with_shown f ps shown) ≡ length ps
with_shown_length f [] shown = refl
with_shown_length f (p ∷ ps) [] = refl
with_shown_length f (p ∷ ps) (o ∷ shown) = ap suc (with_shown_length f ps shown)

pub with_shown_at : (f : Piece → Option PodObs → Piece) → ((p : Piece) → f p None ≡ p) → (ps : List Piece)
    (shown : List (Option PodObs)) (n : ℕ) (p : Piece) → slice_get ps n ≡ Some p
    → slice_get (with_shown f ps shown) n ≡ Some (f p (option_flatten (slice_get shown n)))
with_shown_at f none [] shown n p at = absurd (cc)
with_shown_at f none (q ∷ ps) [] zero p at = at ∙ ap Some (sym (none p))
with_shown_at f none (q ∷ ps) [] (suc n) p at = at ∙ ap Some (sym (none p))
with_shown_at f none (q ∷ ps) (o ∷ shown) zero p at =
    let same : q ≡ p = cc in ap (λ (r : Piece). Some (f r o)) same
with_shown_at f none (q ∷ ps) (o ∷ shown) (suc n) p at = with_shown_at f none ps shown n p at

handed_none : (p : Piece) → handed_one p None ≡ p
handed_none p = refl

pub after_is : (old : List Piece) (shown : List (Option PodObs)) → AreAfter old shown (after_each old shown)
after_is old shown = record {
  as_many = with_shown_length after_one old shown;
  each = λ n piece observed at there. with_shown_at after_one (λ p. refl) old shown n piece at
      ∙ ap (λ (o : Option (Option PodObs)). Some (after_one piece (option_flatten o))) there;
  absent = λ n piece at none. with_shown_at after_one (λ p. refl) old shown n piece at
      ∙ ap (λ (o : Option PodObs). Some (after_one piece o)) none;
}

flatten_some : (o : Option (Option PodObs)) (observed : PodObs) → option_flatten o ≡ Some observed
    → o ≡ Some (Some observed)
flatten_some None observed e = absurd (cc)
flatten_some (Some o) observed e = ap Some e

pub after_unique : (old : List Piece) (shown : List (Option PodObs)) (one other : List Piece)
    → AreAfter old shown one → AreAfter old shown other → one ≡ other
after_unique old shown one other a b = same_at one other (a.as_many ∙ sym b.as_many) (λ n lt.
    let p = given_at old n (omega (arith, lt, a.as_many)) in
    by n p.0 p.1 (option_flatten (slice_get shown n)) refl)
  where
    by : (n : ℕ) (p : Piece) → slice_get old n ≡ Some p → (o : Option PodObs)
        → option_flatten (slice_get shown n) ≡ o → slice_get one n ≡ slice_get other n
    by n p at None there = a.absent n p at there ∙ sym (b.absent n p at there)
    by n p at (Some o) there =
        let is = flatten_some (slice_get shown n) o there in
        a.each n p o at is ∙ sym (b.each n p o at is)

-- a piece that was handed a tick, closed, is the closed one after that tick
closed_one : (p : Piece) (o : Option PodObs) → closed (handed_one p o) ≡ after_one (closed p) o
closed_one p None = refl
closed_one p (Some o) = refl

pub closed_handed : (ps : List Piece) (shown : List (Option PodObs))
    → map closed (handed_each ps shown) ≡ after_each (map closed ps) shown
closed_handed [] shown = refl
closed_handed (p ∷ ps) [] = refl
closed_handed (p ∷ ps) (o ∷ shown) =
    ap (λ (q : Piece). q ∷ map closed (handed_each ps shown)) (closed_one p o)
    ∙ ap (λ (qs : List Piece). after_one (closed p) o ∷ qs) (closed_handed ps shown)

-- one without ticks that wait, whose round is over, is closed
pub is_closed : (p : Piece) → p.waiting ≡ 0 → p.begun ≡ length p.handed → closed p ≡ p
is_closed p free rested = λ i. record p { waiting = sym free i; begun = sym rested i }

pub are_closed : (ps : List Piece) → ((n : ℕ) (p : Piece) → slice_get ps n ≡ Some p → closed p ≡ p)
    → map closed ps ≡ ps
are_closed [] all = refl
are_closed (p ∷ ps) all =
    ap (λ (q : Piece). q ∷ map closed ps) (all 0 p refl)
    ∙ ap (λ (qs : List Piece). p ∷ qs) (are_closed ps (λ n q at. all (suc n) q at))

-- the number of each piece is its place, counted from n on
abbrev AreNumberedFrom : ℕ → List Piece → Type 0
AreNumberedFrom n pieces = (i : ℕ) (piece : Piece) → slice_get pieces i ≡ Some piece → piece.number ≡ n + i

none_waits : (waiting : ℕ) → nat_lt 0 waiting ≡ false → waiting ≡ 0
none_waits zero e = refl
none_waits (suc waiting) e = absurd (let w : true ≡ false = sym (lt-ltb 0 (suc waiting) (omega arith)) ∙ e in cc)

-- the pieces that went out, back once all has come into their statuses
joined_is : (n k : ℕ) (ps : List Piece) → AreNumberedFrom n ps
    → joined_from n (staying ps) (map all_updated (sent_from k ps)) ≡ map all_updated ps
joined_is n k [] numbered = refl
joined_is n k (p ∷ ps) numbered =
    by (waits p) refl (λ m. joined_is (n + 1) m ps (λ i piece at. numbered (suc i) piece at ∙ omega arith))
  where
    by : (b : Bool) → waits p ≡ b
        → ((m : ℕ) → joined_from (n + 1) (staying ps) (map all_updated (sent_from m ps)) ≡ map all_updated ps)
        → joined_from n ((if b then None else Some p) ∷ staying ps)
        (map all_updated (if b then with_number p k ∷ sent_from (k + 1) ps else sent_from k ps))
        ≡ all_updated p ∷ map all_updated ps
    by true e rest =
        let back : p.number ≡ n = numbered 0 p refl ∙ omega arith in
        let here = joined_from (n + 1) (staying ps) (map all_updated (sent_from (k + 1) ps)) in
        ap (λ (m : ℕ). with_number (all_updated p) m ∷ here) (sym back)
        ∙ ap (λ (qs : List Piece). all_updated p ∷ qs) (rest (k + 1))
    by false e rest =
        let free : p.waiting ≡ 0 = none_waits p.waiting e in
        ap (λ (w : ℕ). record p { waiting = w } ∷ joined_from (n + 1) (staying ps) (map all_updated (sent_from k ps)))
        free
        ∙ ap (λ (qs : List Piece). all_updated p ∷ qs) (rest k)

pub joined_updated : (ps : List Piece) → ((n : ℕ) (piece : Piece) → slice_get ps n ≡ Some piece → piece.number ≡ n)
    → joined_from 0 (staying ps) (map all_updated (sent_from 0 ps)) ≡ map all_updated ps
joined_updated ps numbered = joined_is 0 0 ps (λ i piece at. numbered i piece at ∙ omega arith)

-- one piece more goes out, or stays
pub sent_more : (all out new ps : List Piece) (p : Piece) (rest : List Piece)
    → all ≡ out ++ sent_from (length out) ps → ps ≡ p ∷ rest → new ≡ out ++ sent_from (length out) (p ∷ [])
    → all ≡ new ++ sent_from (length new) rest
sent_more all out new ps p rest so_far next more =
    so_far ∙ ap (λ (qs : List Piece). out ++ sent_from (length out) qs) next ∙ by (waits p) refl
  where
    by : (b : Bool) → waits p ≡ b
        → out ++ (if b then with_number p (length out) ∷ sent_from (length out + 1) rest else sent_from
        (length out) rest)
        ≡ new ++ sent_from (length new) rest
    by true e =
        let given : new ≡ out ++ with_number p (length out) ∷ [] =
        more ∙ ap (λ (b : Bool). out ++ (if b then with_number p (length out) ∷ [] else [])) e in
        let long : length out + 1 ≡ length new =
        omega (arith, ap length given, length-append out (with_number p (length out) ∷ [])) in
        ap (λ (m : ℕ). out ++ with_number p (length out) ∷ sent_from m rest) long
        ∙ sym (append_assoc out (with_number p (length out) ∷ []) (sent_from (length new) rest))
        ∙ ap (λ (qs : List Piece). qs ++ sent_from (length new) rest) (sym given)
    by false e =
        let given : new ≡ out = more ∙ ap (λ (b : Bool). out ++ (if b then with_number p (length out) ∷ [] else [])) e
        ∙ append-nil out in
        ap (λ (qs : List Piece). qs ++ sent_from (length qs) rest) (sym given)

pub kept_more : (all kept new : List (Option Piece)) (ps : List Piece) (p : Piece) (rest : List Piece)
    → all ≡ kept ++ staying ps → ps ≡ p ∷ rest → new ≡ kept ++ staying (p ∷ []) → all ≡ new ++ staying rest
kept_more all kept new ps p rest so_far next more =
    so_far ∙ ap (λ (qs : List Piece). kept ++ staying qs) next
    ∙ sym (append_assoc kept (staying (p ∷ [])) (staying rest))
    ∙ ap (λ (qs : List (Option Piece)). qs ++ staying rest) (sym more)

-- pieces that are changed one after the other
pub none_changed : (f : ℕ → Piece → Piece) (old : List Piece) → AreChangedBelow f 0 old old
none_changed f old = record {
  as_many = refl;
  below = λ n piece lt at. absurd (omega arith);
  rest = λ n le. refl;
}

pub one_changed : (f : ℕ → Piece → Piece) (g : Piece → Piece) (i : ℕ) (old now new : List Piece)
    → ((p : Piece) → g p ≡ f i p) → AreChangedBelow f i old now → IsChangedAt g i now new
    → AreChangedBelow f (i + 1) old new
one_changed f g i old now new same so_far step = record {
  as_many = step.as_many ∙ so_far.as_many;
  below = λ n piece lt at. elim (cases_eq n i) [
    | inl here ↦
        let was : slice_get old i ≡ Some piece = subst (λ (k : ℕ). slice_get old k ≡ Some piece) here at in
        subst (λ (k : ℕ). slice_get new k ≡ Some (f k piece)) (sym here)
        (step.here piece (so_far.rest i (omega arith) ∙ was) ∙ ap Some (same piece))
    | inr apart ↦
        let less : n < i = (let not : n ≡ i → ⊥ = apart in omega arith) in
        step.others n apart ∙ so_far.below n piece less at
  ];
  rest = λ n le. step.others n (λ e. omega arith) ∙ so_far.rest n (omega arith);
}

pub all_changed : (f : ℕ → Piece → Piece) (i : ℕ) (old now all : List Piece) → AreChangedBelow f i old now
    → length all ≡ length old
    → ((n : ℕ) (p : Piece) → slice_get old n ≡ Some p → slice_get all n ≡ Some (f n p))
    → ((n : ℕ) (p : Piece) → i ≤ n → slice_get old n ≡ Some p → f n p ≡ p) → now ≡ all
all_changed f i old now all are long each same = same_at now all (are.as_many ∙ sym long) (λ n lt.
    let p = given_at old n (omega (arith, lt, are.as_many)) in
    elim (cases_lt n i) [
      | inl below ↦ are.below n p.0 below p.1 ∙ sym (each n p.0 p.1)
      | inr past ↦
          are.rest n (omega arith) ∙ p.1 ∙ ap Some (sym (same n p.0 (omega arith) p.1)) ∙ sym (each n p.0 p.1)
    ])

-- a piece that was set
pub set_changed : (f : Piece → Piece) (i : ℕ) (old : List Piece) (piece changed : Piece)
    → slice_get old i ≡ Some piece → changed ≡ f piece → IsChangedAt f i old (slice_set old i changed)
set_changed f i old piece changed at is = record {
  as_many = set_length old i changed;
  here = λ p there. set_here old i changed piece at ∙ ap Some is
      ∙ ap (λ (q : Piece). Some (f q)) (same_piece old i piece p at there);
  others = λ n apart. set_others old i n changed apart;
}

-- what is shown of the next pod
pub shown_next : (all front : List (Option PodObs)) (o : Option PodObs) (rest : List (Option PodObs)) (i : ℕ)
    → all ≡ front ++ o ∷ rest → i ≡ length front → slice_get all i ≡ Some o
shown_next all front o rest i is place =
    ap (λ n. slice_get all n) place ∙ ap (λ (os : List (Option PodObs)). slice_get os (length front)) is
    ∙ here front
  where
    here : (front : List (Option PodObs)) → slice_get (front ++ o ∷ rest) (length front) ≡ Some o
    here [] = refl
    here (x ∷ front) = here front

pub behind : (all front rest : List (Option PodObs)) (o : Option PodObs) (left : List (Option PodObs))
    → all ≡ front ++ rest → rest ≡ o ∷ left → all ≡ front ++ o ∷ left
behind all front rest o left is next = is ∙ ap (λ (os : List (Option PodObs)). front ++ os) next

pub length_front : (all front : List (Option PodObs)) (o : Option PodObs) (left : List (Option PodObs))
    → all ≡ front ++ o ∷ left → length front < length all
length_front all front o left is = omega (arith, ap length is, length-append front (o ∷ left))

-- it may be handed to its pod
pub may_take_next : (old now : List Piece) (all : List (Option PodObs)) (i : ℕ) (o : Option PodObs)
    (f : ℕ → Piece → Piece) → AreNext old all → AreChangedBelow f i old now → slice_get all i ≡ Some o
    → (piece : Piece) → slice_get now i ≡ Some piece → MayTake piece o
may_take_next old now all i o f next are shown piece at = by o shown
  where
    by : (o : Option PodObs) → slice_get all i ≡ Some o → MayTake piece o
    by None is = tt
    by (Some observed) is = next.each i piece observed (sym (are.rest i (omega arith)) ∙ at) is

pub set_evicted : (old : List Piece) (n : ℕ) (order : EvictOrder) (piece evicted : Piece)
    → slice_get old n ≡ Some piece → evicted ≡ with_eviction piece order
    → AreEvicted old n order (slice_set old n evicted)
set_evicted old n order piece evicted at is = record {
  as_many = set_length old n evicted;
  here = λ p there. set_here old n evicted piece at ∙ ap Some is
      ∙ ap (λ (q : Piece). Some (with_eviction q order)) (same_piece old n piece p at there);
  others = λ m apart. set_others old n m evicted apart;
}

pub evicted_unique : (old : List Piece) (n : ℕ) (order : EvictOrder) (one other : List Piece)
    → AreEvicted old n order one → AreEvicted old n order other → one ≡ other
evicted_unique old n order one other a b = same_at one other (a.as_many ∙ sym b.as_many) (λ m lt.
    elim (cases_eq m n) [
      | inl same ↦
          let p = given_at old n (omega (arith, lt, a.as_many, same)) in
          subst (λ (k : ℕ). slice_get one k ≡ slice_get other k) (sym same) (a.here p.0 p.1 ∙ sym (b.here p.0 p.1))
      | inr apart ↦ a.others m apart ∙ sym (b.others m apart)
    ])

abbrev evict_place : EvictOrder → ℕ → List Piece → List Piece
evict_place order n [] = []
evict_place order zero (p ∷ ps) = with_eviction p order ∷ ps
evict_place order (suc n) (p ∷ ps) = p ∷ evict_place order n ps

evicted_here : (order : EvictOrder) (p : Piece) (old : List Piece)
    → AreEvicted (p ∷ old) 0 order (with_eviction p order ∷ old)
evicted_here order p old = record {
  as_many = refl;
  here = λ q e. let same : p ≡ q = cc in ap (λ (r : Piece). Some (with_eviction r order)) same;
  others = others;
}
  where
    others : (m : ℕ) → m ≢ 0 → slice_get (with_eviction p order ∷ old) m ≡ slice_get (p ∷ old) m
    others zero apart = absurd (apart refl)
    others (suc m) apart = refl

evicted_behind : (order : EvictOrder) (p : Piece) (old : List Piece) (n : ℕ) (new : List Piece)
    → AreEvicted old n order new → AreEvicted (p ∷ old) (suc n) order (p ∷ new)
evicted_behind order p old n new are = record { as_many = ap suc are.as_many; here = are.here; others = others }
  where
    others : (m : ℕ) → m ≢ suc n → slice_get (p ∷ new) m ≡ slice_get (p ∷ old) m
    others zero apart = refl
    others (suc m) apart = are.others m (λ e. apart (ap suc e))

evict_place-is : (old : List Piece) (n : ℕ) (order : EvictOrder) → AreEvicted old n order (evict_place order n old)
evict_place-is [] n order = record { as_many = refl; here = λ p e. absurd (cc); others = λ m apart. refl }
evict_place-is (p ∷ ps) zero order = evicted_here order p ps
evict_place-is (p ∷ ps) (suc n) order =
    evicted_behind order p ps n (evict_place order n ps) (evict_place-is ps n order)

pub some_evicted : (old : List Piece) (n : ℕ) (order : EvictOrder) → (new : List Piece) × AreEvicted old n order new
some_evicted old n order = (evict_place order n old, evict_place-is old n order)

-- one pod more may be handed what is shown of it
pub next_more : (at : ℕ) (pieces : List Piece) (shown : List (Option PodObs)) (i : ℕ) (piece : Piece)
    (observed : Option PodObs) → slice_get pieces i ≡ Some piece → slice_get shown i ≡ Some observed
    → IsNextAt at piece observed → AreNextBelow at pieces shown i → AreNextBelow at pieces shown (i + 1)
next_more at pieces shown i piece observed here there is before n p o lt e f = elim (cases_eq n i) [
  | inl same ↦
      let e' : slice_get pieces i ≡ Some p = subst (λ (k : ℕ). slice_get pieces k ≡ Some p) same e in
      let f' : slice_get shown i ≡ Some o = subst (λ (k : ℕ). slice_get shown k ≡ Some o) same f in
      let q : Some observed ≡ Some o = sym there ∙ f' in
      let shown_same : observed ≡ o = cc in
      subst (λ (x : Option PodObs). IsNextAt at p x) shown_same
      (subst (λ (x : Piece). IsNextAt at x observed) (same_piece pieces i piece p here e') is)
  | inr apart ↦ before n p o (let not : n ≡ i → ⊥ = apart in omega arith) e f
]

-- what a tick shows of a pod stands at the pod's number
pub shown_at : (tick : TickObs) (n : ℕ) (observed : PodObs) → shown_of tick n ≡ Some observed
    → slice_get tick.pods n ≡ Some (Some observed)
shown_at tick n observed is = flatten_some (slice_get tick.pods n) observed is

-- all may
pub fits_all : (pods : Pods) (tick : TickObs) → length tick.pods ≡ length pods.pieces
    → AreNextBelow tick.at pods.pieces tick.pods (length pods.pieces) → Fits pods tick
fits_all pods tick long all = record {
  told = long;
  handed = record {
    next = record {
      within = omega (arith, long);
      each = λ n piece observed at there.
          (all n piece (Some observed) (slice_get_within pods.pieces n piece at) at there).shown.next;
    };
    at_its_moment = λ n observed is.
        let there = shown_at tick n observed is in
        let lt = slice_get_within tick.pods n (Some observed) there in
        let p = given_at pods.pieces n (omega (arith, lt, long)) in
        (all n p.0 (Some observed) (omega (arith, lt, long)) p.1 there).shown.now;
    later = λ n piece at.
        let lt = slice_get_within pods.pieces n piece at in
        let o = given_at tick.pods n (omega (arith, lt, long)) in
        (all n piece o.0 lt at o.1).later;
  };
}

pub all_fit : (pods : Pods) (tick : TickObs) → Fits pods tick
    → AreNextBelow tick.at pods.pieces tick.pods (length pods.pieces)
all_fit pods tick fits n piece observed lt at there =
    record { later = fits.handed.later n piece at; shown = by observed there }
  where
    by : (o : Option PodObs) → slice_get tick.pods n ≡ Some o → IfSome o (IsShownNext tick.at piece)
    by None is = tt
    by (Some o) is =
        record {
          now = fits.handed.at_its_moment n o (ap option_flatten is);
          next = fits.handed.next.each n piece o at is;
        }

-- there are pieces after a tick, and after an eviction
pub one_is_after : OneIsAfter
one_is_after = record {
  exists = λ old shown next. (after_each old shown, after_is old shown);
  unique = λ old shown one other next a b. after_unique old shown one other a b;
}

pub one_is_evicted : OneIsEvicted
one_is_evicted = record { exists = some_evicted; unique = evicted_unique }

pub fits_by : (pods : Pods) (tick : TickObs) (pieces : List Piece) (shown : List (Option PodObs)) (test : Bool)
    → pieces ≡ pods.pieces → shown ≡ tick.pods → length shown ≡ length pieces
    → (IsTrue test ↔ AreNextBelow tick.at pieces shown (length pieces)) → (IsTrue test ↔ Fits pods tick)
fits_by pods tick pieces shown test same_pieces same_shown long says =
    let P : List Piece → Type 0 = λ ps. AreNextBelow tick.at ps shown (length ps) in
    let Q : List (Option PodObs) → Type 0 = λ os. AreNextBelow tick.at pods.pieces os (length pods.pieces) in
    let many : length tick.pods ≡ length pods.pieces = ap length (sym same_shown) ∙ long ∙ ap length same_pieces in (
      (λ t. fits_all pods tick many (subst Q same_shown (subst P same_pieces (says.0 t)))),
      (λ fits. says.1 (subst P (sym same_pieces) (subst Q (sym same_shown) (all_fit pods tick fits)))),
    )

-- what is left of a list whose next item was asked for
pub none_left : {A : Type 0} (o : Option A) (old new : ℕ) (Q : A → Type 0) (rest : List A)
    → MatchOption o ((old ≡ 0) × (new ≡ 0)) Q → length rest ≡ new → o ≡ None → rest ≡ []
none_left None old new Q [] ends long is = refl
none_left None old new Q (x ∷ xs) ends long is = absurd (omega (arith, long, ends.1))
none_left (Some x) old new Q rest ends long is = absurd (let w : Some x ≡ None = is in cc)

pub nothing_left : {A : Type 0} (rest : List A) → length rest ≡ 0 → rest ≡ []
nothing_left [] long = refl
nothing_left (x ∷ xs) long = absurd (omega (arith, long))

-- the next place, and the piece that comes back to it
abbrev pub back_at : ℕ → Option Piece → Option Piece
back_at n o = option_map (λ (q : Piece). with_number q n) o

pub next_joined : (n after : ℕ) (kept : List (Option Piece)) (back rest : List Piece) (o : Option Piece)
    → back ≡ option_to_list o ++ rest → (o ≡ None → rest ≡ [])
    → after ≡ n + length (option_to_list (back_at n o))
    → joined_from n (None ∷ kept) back ≡ option_to_list (back_at n o) ++ joined_from after kept rest
next_joined n after kept back rest None is ends long =
    let same : n ≡ after = omega (arith, long) in
    ap (joined_from n (None ∷ kept)) (is ∙ ends refl) ∙ ap (joined_from n kept) (sym (ends refl))
    ∙ ap (λ (m : ℕ). joined_from m kept rest) same
next_joined n after kept back rest (Some q) is ends long =
    let same : n + 1 ≡ after = omega (arith, long) in
    ap (joined_from n (None ∷ kept)) is
    ∙ ap (λ (m : ℕ). with_number q n ∷ joined_from m kept rest) same
