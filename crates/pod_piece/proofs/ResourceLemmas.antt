-- The requests and limits of a pod's containers, after one more tick; they are one.
use Rattle.std.proofs.Common.{◌≡◌, ◌∙◌, ℕ, zero, suc, ◌+◌, ◌<◌, Bool, true, false, List, [], ◌∷◌, ◌++◌, length, map}
use Rattle.std.proofs.Common.{get_or, Option, Some, None, refl, ap, sym, subst, arith}
use Rattle.std.specs.Prelude.{◌↔◌, ◌==◌, IsTrue, not, option_map, unwrap_or, slice_get, if◌then◌else◌}
use Rattle.std.proofs.lemmas.Bool.{eqb-true}
use Rattle.std.proofs.lemmas.List.{length-map}
use Rattle.std.proofs.lemmas.Option.{slice_get_within}
use Rattle.histories.proofs.Lists.{given_at}
use Rattle.histories.proofs.Places.{up_to-old, up_to-new}
use Rattle.manifest.specs.declared.pod.ContainerSpec.{ContainerSpec}
use Rattle.manifest.specs.declared.pod.PodSpec.{PodSpec}
use Rattle.manifest.specs.rule.Resources.{Resources}
use Rattle.observations.specs.declared.resize.Resize.{Resize}
use Rattle.observations.specs.rule.Resizes.{resized_to}
use Rattle.pod_state.specs.rule.Pods.{PodEntry, PodTick, IsEnd, HasEnded, counted}
use Rattle.pod_state.proofs.EndLemmas.{IsEnd-unique, end_old, counted_all}
use Rattle.pod_piece.specs.rule.Resources.{IsResizedTo, AreResized, AreResourcesOf}
use Rattle.pod_piece.specs.state.Resources.{first_resources, resized_by}
use Rattle.pod_piece.proofs.UsageLemmas.{said_more, one_said}

-- ---- resizes of a list

pub length-resized : (resizes : List Resize) (n : ℕ) (rs : List Resources)
    → length (resized_by resizes n rs) ≡ length rs
length-resized resizes n [] = refl
length-resized resizes n (r ∷ rs) = ap suc (length-resized resizes (suc n) rs)

-- without a resize nothing changes
none_resized : (n : ℕ) (rs : List Resources) → resized_by [] n rs ≡ rs
none_resized n [] = refl
none_resized n (r ∷ rs) = ap (λ (qs : List Resources). r ∷ qs) (none_resized (suc n) rs)

pub unresized : (resizes : List Resize) (rs : List Resources) → (length resizes == 0) ≡ true
    → resized_by resizes 0 rs ≡ rs
unresized [] rs e = none_resized 0 rs
unresized (resize ∷ resizes) rs e =
    let none : length (resize ∷ resizes) ≡ 0 = eqb-true (length (resize ∷ resizes)) 0 e in
    absurd (omega (arith, none))

at_resized : (resizes : List Resize) (m : ℕ) (rs : List Resources) (n : ℕ)
    → slice_get (resized_by resizes m rs) n
    ≡ option_map (λ r. unwrap_or (resized_to resizes (m + n)) r) (slice_get rs n)
at_resized resizes m [] n = refl
at_resized resizes m (r ∷ rs) zero =
    let here : m ≡ m + 0 = omega arith in
    ap (λ (k : ℕ). Some (unwrap_or (resized_to resizes k) r)) here
at_resized resizes m (r ∷ rs) (suc n) =
    let there : suc m + n ≡ m + suc n = omega arith in
    at_resized resizes (suc m) rs n
    ∙ ap (λ (k : ℕ). option_map (λ q. unwrap_or (resized_to resizes k) q) (slice_get rs n)) there

or_resized : (resizes : List Resize) (m : ℕ) (rs : List Resources) (n : ℕ) (d e : Resources) → n < length rs
    → get_or (resized_by resizes m rs) n d ≡ unwrap_or (resized_to resizes (m + n)) (get_or rs n e)
or_resized resizes m [] n d e lt = absurd (omega (arith, lt))
or_resized resizes m (r ∷ rs) zero d e lt =
    let here : m ≡ m + 0 = omega arith in
    ap (λ (k : ℕ). unwrap_or (resized_to resizes k) r) here
or_resized resizes m (r ∷ rs) (suc n) d e lt =
    let there : suc m + n ≡ m + suc n = omega arith in
    or_resized resizes (suc m) rs n d e (omega (arith, lt))
    ∙ ap (λ (k : ℕ). unwrap_or (resized_to resizes k) (get_or rs n e)) there

-- numbered from 0 on
at_number : (resizes : List Resize) (rs : List Resources) (n : ℕ)
    → slice_get (resized_by resizes 0 rs) n
    ≡ option_map (λ r. unwrap_or (resized_to resizes n) r) (slice_get rs n)
at_number resizes rs n =
    let here : 0 + n ≡ n = omega arith in
    at_resized resizes 0 rs n
    ∙ ap (λ (k : ℕ). option_map (λ r. unwrap_or (resized_to resizes k) r) (slice_get rs n)) here

pub or_number : (resizes : List Resize) (rs : List Resources) (n : ℕ) (d e : Resources) → n < length rs
    → get_or (resized_by resizes 0 rs) n d ≡ unwrap_or (resized_to resizes n) (get_or rs n e)
or_number resizes rs n d e lt =
    let here : 0 + n ≡ n = omega arith in
    or_resized resizes 0 rs n d e lt ∙ ap (λ (k : ℕ). unwrap_or (resized_to resizes k) (get_or rs n e)) here

-- lists with the same at each place
pub same_or : (xs ys : List Resources) → length xs ≡ length ys
    → ((n : ℕ) (d : Resources) → n < length ys → get_or xs n d ≡ get_or ys n d) → xs ≡ ys
same_or [] [] long all = refl
same_or [] (y ∷ ys) long all = absurd (omega (arith, long))
same_or (x ∷ xs) [] long all = absurd (omega (arith, long))
same_or (x ∷ xs) (y ∷ ys) long all =
    let first : x ≡ y = all 0 x (omega arith) in
    ap (λ (z : Resources). z ∷ xs) first
    ∙ ap (λ (zs : List Resources). y ∷ zs)
    (same_or xs ys (omega (arith, long)) (λ n d lt. all (suc n) d (omega (arith, lt))))

same_items : (xs ys : List Resources) → length xs ≡ length ys
    → ((n : ℕ) (x y : Resources) → slice_get xs n ≡ Some x → slice_get ys n ≡ Some y → x ≡ y) → xs ≡ ys
same_items [] [] long all = refl
same_items [] (y ∷ ys) long all = absurd (omega (arith, long))
same_items (x ∷ xs) [] long all = absurd (omega (arith, long))
same_items (x ∷ xs) (y ∷ ys) long all =
    ap (λ (z : Resources). z ∷ xs) (all 0 x y refl refl)
    ∙ ap (λ (zs : List Resources). y ∷ zs)
    (same_items xs ys (omega (arith, long)) (λ n z w at here. all (suc n) z w at here))

-- ---- one more tick

resized_more : (h : List PodTick) (x : PodTick) (number : ℕ) (first now : Resources) → IsResizedTo h number first now
    → IsResizedTo (h ++ x ∷ []) number first (unwrap_or (resized_to x.entry.resized number) now)
resized_more h x number first now is = by (resized_to x.entry.resized number) refl
  where
    by : (o : Option Resources) → resized_to x.entry.resized number ≡ o
        → IsResizedTo (h ++ x ∷ []) number first (unwrap_or o now)
    by None e = record {
      last = is.last;
      is_last = said_more (λ (entry : PodEntry). resized_to entry.resized number) h x is.last None e is.is_last;
      now_is = is.now_is;
    }
    by (Some new) e = record {
      last = Some new;
      is_last = said_more (λ (entry : PodEntry). resized_to entry.resized number) h x is.last (Some new) e is.is_last;
      now_is = refl;
    }

each_more : (h : List PodTick) (x : PodTick) (containers : List ContainerSpec) (rs : List Resources)
    → AreResized h containers rs → AreResized (h ++ x ∷ []) containers (resized_by x.entry.resized 0 rs)
each_more h x containers rs are = record {
  as_many = length-resized x.entry.resized 0 rs ∙ are.as_many;
  each = λ number container now at here. by number container now (slice_get rs number) refl at here;
}
  where
    by : (number : ℕ) (container : ContainerSpec) (now : Resources) (o : Option Resources) → slice_get rs number ≡ o
        → slice_get containers number ≡ Some container
        → slice_get (resized_by x.entry.resized 0 rs) number ≡ Some now
        → IsResizedTo (h ++ x ∷ []) number container.resources now
    by number container now None e at here =
        let none : None ≡ Some now = sym (at_number x.entry.resized rs number
        ∙ ap (option_map (λ r. unwrap_or (resized_to x.entry.resized number) r)) e) ∙ here in
        absurd (cc)
    by number container now (Some old) e at here =
        let some : Some (unwrap_or (resized_to x.entry.resized number) old) ≡ Some now =
        sym (at_number x.entry.resized rs number
        ∙ ap (option_map (λ r. unwrap_or (resized_to x.entry.resized number) r)) e) ∙ here in
        let same : unwrap_or (resized_to x.entry.resized number) old ≡ now = cc in
        subst (IsResizedTo (h ++ x ∷ []) number container.resources) same
        (resized_more h x number container.resources old (are.each number container old at e))

first_at : (containers : List ContainerSpec) (n : ℕ) (container : ContainerSpec) (now : Resources)
    → slice_get containers n ≡ Some container → slice_get (first_resources containers) n ≡ Some now
    → now ≡ container.resources
first_at [] n container now at here = absurd (cc)
first_at (c ∷ containers) zero container now at here =
    let same : c ≡ container = cc in
    let first : c.resources ≡ now = cc in
    sym first ∙ ap (λ (d : ContainerSpec). d.resources) same
first_at (c ∷ containers) (suc n) container now at here = first_at containers n container now at here

-- where no tick is
pub no_resources : (pod : PodSpec) (evicted : Option ℕ) → AreResourcesOf pod evicted [] (first_resources pod.containers)
no_resources pod evicted = record {
  end = None;
  is_end = λ t s. let lt : t < 0 = s.within in absurd (omega arith);
  resized = record {
    as_many = length-map pod.containers (λ (container : ContainerSpec). container.resources);
    each = λ number container now at here. record {
      last = None;
      is_last = λ t has. has;
      now_is = first_at pod.containers number container now at here;
    };
  };
}

resources_ended : (pod : PodSpec) (evicted : Option ℕ) (h : List PodTick) (x : PodTick) (rs : List Resources)
    → AreResourcesOf pod evicted h rs → HasEnded pod evicted h → AreResourcesOf pod evicted (h ++ x ∷ []) rs
resources_ended pod evicted h x rs are (t, end) =
    let same : are.end ≡ Some t = IsEnd-unique pod evicted h are.end (Some t) are.is_end end in
    record {
      end = Some t;
      is_end = end_old pod evicted h x t end;
      resized = subst (λ (k : List PodTick). AreResized k pod.containers rs)
          (ap (counted h) same ∙ sym (up_to-old h x t end.holds.within)) are.resized;
    }

resources_lives : (pod : PodSpec) (evicted end : Option ℕ) (h : List PodTick) (x : PodTick) (rs : List Resources)
    → AreResourcesOf pod evicted h rs → IsEnd pod evicted h None
    → IsEnd pod evicted (h ++ x ∷ []) end
    → AreResourcesOf pod evicted (h ++ x ∷ []) (resized_by x.entry.resized 0 rs)
resources_lives pod evicted end h x rs are none now =
    let same : are.end ≡ None = IsEnd-unique pod evicted h are.end None are.is_end none in
    let before : AreResized h pod.containers rs = subst (λ (k : List PodTick). AreResized k pod.containers rs)
    (ap (counted h) same) are.resized in
    record {
      end = end;
      is_end = now;
      resized = subst (λ (k : List PodTick). AreResized k pod.containers (resized_by x.entry.resized 0 rs))
          (sym (counted_all pod evicted h x none end now)) (each_more h x pod.containers rs before);
    }

-- after one more tick, where a flag says whether the pod had ended before it
pub resources_more : (pod : PodSpec) (evicted end : Option ℕ) (h : List PodTick) (x : PodTick) (rs : List Resources)
    (ended : Bool) → AreResourcesOf pod evicted h rs
    → (IsTrue ended ↔ HasEnded pod evicted h) → IsEnd pod evicted (h ++ x ∷ []) end
    → AreResourcesOf pod evicted (h ++ x ∷ []) (if not ended then resized_by x.entry.resized 0 rs else rs)
resources_more pod evicted end h x rs true are says now = resources_ended pod evicted h x rs are (says.0 refl)
resources_more pod evicted end h x rs false are says now = resources_lives pod evicted end h x rs are
    (still are.end are.is_end) now
  where
    still : (o : Option ℕ) → IsEnd pod evicted h o → IsEnd pod evicted h None
    still None e = e
    still (Some t) e = absurd (let w : IsTrue false = says.1 (t, e) in cc)

-- where the last tick evicts the pod
pub resources_evicted : (pod : PodSpec) (h : List PodTick) (x : PodTick) (rs : List Resources)
    → AreResourcesOf pod None (h ++ x ∷ []) rs → IsEnd pod None h None
    → IsEnd pod (Some (length h)) (h ++ x ∷ []) (Some (length h))
    → AreResourcesOf pod (Some (length h)) (h ++ x ∷ []) rs
resources_evicted pod h x rs are none now = record {
  end = Some (length h);
  is_end = now;
  resized = subst (λ (k : List PodTick). AreResized k pod.containers rs)
      (counted_all pod None h x none are.end are.is_end ∙ sym (up_to-new h x)) are.resized;
}

-- ---- they are one

one_resized : (h : List PodTick) (number : ℕ) (first now other : Resources) → IsResizedTo h number first now
    → IsResizedTo h number first other → now ≡ other
one_resized h number first now other v w =
    v.now_is
    ∙ ap (λ (o : Option Resources). unwrap_or o first)
    (one_said (λ (entry : PodEntry). resized_to entry.resized number) h v.last w.last v.is_last w.is_last)
    ∙ sym w.now_is

all_resized : (h : List PodTick) (containers : List ContainerSpec) (rs qs : List Resources)
    → AreResized h containers rs → AreResized h containers qs → rs ≡ qs
all_resized h containers rs qs v w = same_items rs qs (v.as_many ∙ sym w.as_many) (λ n r q at here.
    let within : n < length rs = slice_get_within rs n r at in
    let c = given_at containers n (omega (arith, within, v.as_many)) in
    one_resized h n c.0.resources r q (v.each n c.0 r c.1 at) (w.each n c.0 q c.1 here))

pub one_resources : (pod : PodSpec) (evicted : Option ℕ) (h : List PodTick) (rs qs : List Resources)
    → AreResourcesOf pod evicted h rs → AreResourcesOf pod evicted h qs → rs ≡ qs
one_resources pod evicted h rs qs v w =
    let same : v.end ≡ w.end = IsEnd-unique pod evicted h v.end w.end v.is_end w.is_end in
    let Resized : Option ℕ → Type 0 = λ end. AreResized (counted h end) pod.containers rs in
    all_resized (counted h w.end) pod.containers rs qs (subst Resized same v.resized) w.resized
