-- The differs after one pod more, or one tick more.
use Rattle.std.proofs.Common.{◌≡◌, ◌∙◌, ℕ, suc, ◌-◌, ◌<◌, List, [], ◌∷◌, ◌++◌, length, map, get_or}
use Rattle.std.proofs.Common.{slice_get, Option, Some, None, refl, ap, sym, subst, arith}
use Rattle.std.specs.Prelude.{IfSome, IsSome, Vec}
use Rattle.std.specs.Global.{Global}
use Rattle.std.specs.Option.{option_flatten}
use Rattle.std.proofs.lemmas.List.{map_push, length-append, length-map}
use Rattle.std.proofs.lemmas.Option.{slice_get_past}
use Rattle.histories.specs.rule.Histories.{recorded, last_moment}
use Rattle.histories.specs.state.Histories.{EndsBefore}
use Rattle.histories.proofs.Items.{pushed_each}
use Rattle.histories.proofs.Moments.{last_moment-more}
use Rattle.state_diff.specs.declared.differ.Differ.{Differ}
use Rattle.state_diff.specs.state.Differ.{IsStateOf}
use Rattle.state_diff.specs.rule.Instances.{Tick}
use Rattle.observations.specs.rule.Pods.{PodObs}
use Rattle.observations.specs.declared.tick.TickObs.{TickObs}
use Rattle.observations.specs.rule.Observations.{shown_of, listed_in, own_ticks, history}
use Rattle.observations.specs.state.Observations.{seen_of}
use Rattle.observations.proofs.OwnTicks.{own_rests, history_more, history_rests}
use Rattle.following.specs.state.Followed.{AreOfPods, counts_of, AreFollowed, ComesNext}
use Rattle.following.specs.state.Steps.{AreNew, PodHasTaken, PodsHaveTaken}

pub none_followed : AreFollowed [] [] []
none_followed = record {
  as_many = refl;
  each = λ p c ds d lt within. absurd (omega arith);
  of_pods = record { others = λ pod le. refl; in_time = λ pod c moment before. tt };
}

-- the last of the ticks with one more is that one
last_is : (ticks : List TickObs) (tick : TickObs) → slice_get (ticks ++ tick ∷ []) (length (ticks ++ tick ∷ []) - 1)
    ≡ Some tick
last_is ticks tick =
    let last : length (ticks ++ tick ∷ []) - 1 ≡ length ticks = omega (arith, length-append ticks (tick ∷ [])) in
    rw last (at_end ticks)
  where
    at_end : (ts : List TickObs) → slice_get (ts ++ tick ∷ []) (length ts) ≡ Some tick
    at_end [] = refl
    at_end (t ∷ ts) = at_end ts

sooner : (o : Option ℕ) (m n : ℕ) → m < n → IfSome o (λ last. last < m) → IfSome o (λ last. last < n)
sooner None m n lt before = tt
sooner (Some last) m n lt before = let less : last < m = before in omega arith

-- the ticks with one more are of the same pods
of_pods_more : (ticks : List TickObs) (counts : List ℕ) (tick : TickObs) → AreOfPods ticks (length counts)
    → ComesNext ticks counts tick → AreOfPods (ticks ++ tick ∷ []) (length counts)
of_pods_more ticks counts tick all comes = record {
  others = λ pod le.
      own_rests ticks tick pod (ap option_flatten (slice_get_past tick.pods pod (omega (arith, le, comes.as_many))))
      ∙ all.others pod le;
  in_time = λ pod c moment before. here pod c moment (shown_of tick pod) refl
      (subst (λ (o : Option TickObs). IfSome o (λ last. last.at < moment)) (last_is ticks tick) before);
}
  where
    here : (pod c moment : ℕ) (o : Option PodObs) → shown_of tick pod ≡ o → tick.at < moment
        → EndsBefore (history (ticks ++ tick ∷ []) pod c) moment
    here pod c moment None none lt =
        subst (λ (h : List Tick). EndsBefore h moment) (sym (history_rests ticks tick pod c none))
        (sooner (last_moment (history ticks pod c)) tick.at moment lt (all.in_time pod c tick.at comes.later))
    here pod c moment (Some shown) is lt =
        let more = history_more ticks tick pod c shown is (comes.moment pod shown is) in
        let last = last_moment-more (history ticks pod c) (recorded tick.at (seen_of tick pod c)) in
        subst (λ (h : List Tick). EndsBefore h moment) (sym more)
        (subst (λ (o : Option ℕ). IfSome o (λ last. last < moment)) (sym last) lt)

-- one pod more, that no tick shows
pub pod_more : (ticks : List TickObs) (counts : List ℕ) (differs : List (Vec Differ Global)) (count : ℕ)
    (ds : Vec Differ Global) → AreFollowed ticks counts differs → AreNew count ds.items
    → AreFollowed ticks (counts ++ count ∷ []) (differs ++ ds ∷ [])
pod_more ticks counts differs count ds all new =
    let P : ℕ → Vec Differ Global → Type 0 = λ p es. (c : ℕ) (d : Differ) → c < length es.items
    → IsStateOf (history ticks p c) (get_or es.items c d) in
    let before : (p : ℕ) (es : Vec Differ Global) → p < length differs → P p (get_or differs p es) =
    λ p es lt c d within. all.each p c es d lt within in
    let as_many : length counts ≡ length differs = ap length (sym all.as_many) ∙ length-map differs size in
    let none : own_ticks ticks (length differs) ≡ [] = all.of_pods.others (length differs) (omega (arith, as_many)) in
    let last : P (length differs) ds = λ c d within.
    let unlisted : [] ≡ history ticks (length differs) c =
    ap (map (λ (p : PodObs). recorded p.at (listed_in p c))) (sym none) in
    subst (λ (h : List Tick). IsStateOf h (get_or ds.items c d)) unlisted
    (new.new c d (omega (arith, within, new.as_many))) in
    record {
      as_many = map_push size differs ds
          ∙ ap (λ (n : ℕ). counts_of differs ++ n ∷ []) new.as_many
          ∙ ap (λ (ns : List ℕ). ns ++ count ∷ []) all.as_many;
      each = λ p c es d lt within. pushed_each P differs ds (length differs) refl before last p es
          (omega (arith, length-append differs (ds ∷ []))) c d within;
      of_pods = record {
        others = λ pod le. all.of_pods.others pod (omega (arith, length-append counts (count ∷ [])));
        in_time = all.of_pods.in_time;
      };
    }
  where
    size : Vec Differ Global → ℕ
    size of_pod = length of_pod.items

same_counts : (xs ys : List (Vec Differ Global)) → length ys ≡ length xs
    → ((p : ℕ) (ds es : Vec Differ Global) → p < length xs
    → length (get_or ys p ds).items ≡ length (get_or xs p es).items)
    → counts_of ys ≡ counts_of xs
same_counts [] [] e same = refl
same_counts [] (y ∷ ys) e same = absurd (omega arith)
same_counts (x ∷ xs) [] e same = absurd (omega arith)
same_counts (x ∷ xs) (y ∷ ys) e same =
    let first : length y.items ≡ length x.items = same 0 y x (omega arith) in
    let rest : counts_of ys ≡ counts_of xs =
    same_counts xs ys (omega (arith, e)) (λ p ds es lt. same (suc p) ds es (omega (arith, lt))) in
    rw (first, rest) refl

same_count : (tick : TickObs) (p : ℕ) (old new : List Differ) → PodHasTaken tick p old new → length new ≡ length old
same_count tick p old new taken = by (shown_of tick p) refl
  where
    by : (o : Option PodObs) → shown_of tick p ≡ o → length new ≡ length old
    by None none = ap length (taken.absent none)
    by (Some shown) is = (taken.shown (subst (λ (o : Option PodObs). IsSome o) (sym is) refl)).as_many

-- one tick more
pub tick_more : (ticks : List TickObs) (tick : TickObs) (counts : List ℕ) (old new : List (Vec Differ Global))
    → ComesNext ticks counts tick → AreFollowed ticks counts old → PodsHaveTaken tick (length old) old new
    → AreFollowed (ticks ++ tick ∷ []) counts new
tick_more ticks tick counts old new comes all taken = record {
  as_many =
      same_counts old new taken.as_many
      (λ p ds es lt. same_count tick p (get_or old p es).items (get_or new p ds).items (taken.each p ds es lt))
      ∙ all.as_many;
  each = λ p c ds d lt within.
      let place : p < length old = omega (arith, lt, taken.as_many) in
      by p c ds d place within (shown_of tick p) refl;
  of_pods = of_pods_more ticks counts tick all.of_pods comes;
}
  where
    by : (p c : ℕ) (ds : Vec Differ Global) (d : Differ) → p < length old → c < length (get_or new p ds).items
        → (o : Option PodObs) → shown_of tick p ≡ o
        → IsStateOf (history (ticks ++ tick ∷ []) p c) (get_or (get_or new p ds).items c d)
    by p c ds d place within None none =
        let same : (get_or new p ds).items ≡ (get_or old p ds).items = (taken.each p ds ds place).absent none in
        subst (λ (h : List Tick). IsStateOf h (get_or (get_or new p ds).items c d))
        (sym (history_rests ticks tick p c none))
        (subst (λ (es : List Differ). IsStateOf (history ticks p c) (get_or es c d)) (sym same)
        (all.each p c ds d place (subst (λ (es : List Differ). c < length es) same within)))
    by p c ds d place within (Some shown) is =
        let pod = (taken.each p ds ds place).shown (subst (λ (o : Option PodObs). IsSome o) (sym is) refl) in
        let inside : c < length (get_or old p ds).items = omega (arith, within, pod.as_many) in
        subst (λ (h : List Tick). IsStateOf h (get_or (get_or new p ds).items c d))
        (sym (history_more ticks tick p c shown is (comes.moment p shown is)))
        (pod.each c d d inside (history ticks p c) (all.each p c ds d place inside))
