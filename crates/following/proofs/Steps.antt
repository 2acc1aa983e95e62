-- What one differ more, or one pod's differs more, accept of a tick or make of it.
use Rattle.std.proofs.Common.{◌≡◌, ◌∙◌, ℕ, ◌+◌, ◌<◌, ◌≤◌, List, length, get_or, Option}
use Rattle.std.proofs.Common.{refl, ap, sym, subst, inl, inr, arith}
use Rattle.std.specs.Prelude.{IsSome, slice_set, Vec}
use Rattle.std.specs.Global.{Global}
use Rattle.std.proofs.lemmas.Bool.{cases_lt}
use Rattle.std.proofs.lemmas.List.{length-set}
use Rattle.histories.proofs.Items.{any_default, set_each, set_rest}
use Rattle.state_diff.specs.declared.seen.Seen.{Seen}
use Rattle.state_diff.specs.declared.differ.Differ.{Differ}
use Rattle.state_diff.specs.state.Differ.{Accepts}
use Rattle.observations.specs.declared.tick.TickObs.{TickObs}
use Rattle.observations.specs.rule.Observations.{shown_of}
use Rattle.observations.specs.state.Observations.{seen_of}
use Rattle.following.specs.state.Steps.{AreAccepted, PodsAreAccepted, Follows, Takes, Follow, HaveTaken, PodHasTaken}
use Rattle.following.specs.state.Steps.{PodsFollow}

-- what the differ at a place accepts, by the list
pub accepts_at : (tick : TickObs) (pod n : ℕ) (differs : List Differ) (from d : Differ) (seen : Option Seen)
    → n < length differs → from ≡ get_or differs n from → seen ≡ seen_of tick pod n → Accepts from seen
    → Accepts (get_or differs n d) (seen_of tick pod n)
accepts_at tick pod n differs from d seen lt is is_seen accepted =
    subst (λ (o : Option Seen). Accepts (get_or differs n d) o) is_seen
    (subst (λ (e : Differ). Accepts e seen) (is ∙ any_default differs n from d lt) accepted)

-- and by what was read of it
pub accepts_read : (tick : TickObs) (pod n : ℕ) (differs : List Differ) (from : Differ) (seen : Option Seen)
    → n < length differs → from ≡ get_or differs n from → seen ≡ seen_of tick pod n
    → AreAccepted tick pod differs (length differs) → Accepts from seen
accepts_read tick pod n differs from seen lt is is_seen all =
    subst (λ (o : Option Seen). Accepts from o) (sym is_seen)
    (subst (λ (e : Differ). Accepts e (seen_of tick pod n)) (sym is) (all n from lt))

-- one differ more accepts what the tick lists
pub accepted_more : (tick : TickObs) (pod n : ℕ) (differs : List Differ) (from : Differ) (seen : Option Seen)
    → n < length differs → from ≡ get_or differs n from → seen ≡ seen_of tick pod n → Accepts from seen
    → AreAccepted tick pod differs n → AreAccepted tick pod differs (n + 1)
accepted_more tick pod n differs from seen lt is is_seen accepted before c d within = elim (cases_lt c n) [
  | inl below ↦ before c d below
  | inr above ↦
      subst (λ (k : ℕ). Accepts (get_or differs k d) (seen_of tick pod k))
      (let e : n ≡ c = omega (arith, within, above) in e)
      (accepts_at tick pod n differs from d seen lt is is_seen accepted)
]

-- the differs of one pod more do
pub pods_accepted_more : (tick : TickObs) (n : ℕ) (differs : List (Vec Differ Global)) (from : Vec Differ Global)
    (read : List Differ) → n < length differs → from ≡ get_or differs n from → read ≡ from.items
    → AreAccepted tick n read (length read) → PodsAreAccepted tick differs n → PodsAreAccepted tick differs (n + 1)
pods_accepted_more tick n differs from read lt is is_read accepted before p ds within = elim (cases_lt p n) [
  | inl below ↦ before p ds below
  | inr above ↦
      let same : read ≡ (get_or differs n ds).items =
      is_read ∙ ap (λ (v : Vec Differ Global). v.items) (is ∙ any_default differs n from ds lt) in
      subst (λ (k : ℕ). AreAccepted tick k (get_or differs k ds).items (length (get_or differs k ds).items))
      (let e : n ≡ p = omega (arith, within, above) in e)
      (subst (λ (es : List Differ). AreAccepted tick n es (length es)) same accepted)
]

pub pod_accepted : (tick : TickObs) (n : ℕ) (differs : List (Vec Differ Global)) (from : Vec Differ Global)
    (read : List Differ) → n < length differs → from ≡ get_or differs n from → read ≡ from.items
    → PodsAreAccepted tick differs (length differs) → AreAccepted tick n read (length read)
pod_accepted tick n differs from read lt is is_read all =
    let same : read ≡ (get_or differs n from).items = is_read ∙ ap (λ (v : Vec Differ Global). v.items) is in
    subst (λ (es : List Differ). AreAccepted tick n es (length es)) (sym same) (all n from lt)

-- the first n differs of a pod have followed the tick, and the others are as they were
pub record HaveTakenBelow (tick : TickObs) (pod n : ℕ) (old now : List Differ) : Type 0 where
  pub as_many : length now ≡ length old
  pub each : (c : ℕ) (d e : Differ) → c < n
      → Takes tick.at (seen_of tick pod c) (get_or old c e) (get_or now c d)
  pub rest : (c : ℕ) (d : Differ) → n ≤ c → get_or now c d ≡ get_or old c d

pub none_taken : (tick : TickObs) (pod : ℕ) (old : List Differ) → HaveTakenBelow tick pod 0 old old
none_taken tick pod old = record { as_many = refl; each = λ c d e lt. absurd (omega arith); rest = λ c d le. refl }

-- the differ at the next place may follow it
pub next_follows : (tick : TickObs) (pod n : ℕ) (old now : List Differ) (from : Differ) (seen : Option Seen)
    → n < length old → from ≡ get_or now n from → seen ≡ seen_of tick pod n → Follow tick pod old
    → HaveTakenBelow tick pod n old now → Follows tick.at seen from
next_follows tick pod n old now from seen lt is is_seen all before =
    subst (λ (o : Option Seen). Follows tick.at o from) (sym is_seen)
    (subst (λ (d : Differ). Follows tick.at (seen_of tick pod n) d)
    (sym (is ∙ before.rest n from (omega arith))) (all n from lt))

pub taken_more : (tick : TickObs) (pod n : ℕ) (old now : List Differ) (from next : Differ) (seen : Option Seen)
    → n < length old → from ≡ get_or now n from → seen ≡ seen_of tick pod n → Takes tick.at seen from next
    → HaveTakenBelow tick pod n old now → HaveTakenBelow tick pod (n + 1) old (slice_set now n next)
taken_more tick pod n old now from next seen lt is is_seen takes before =
    let P : ℕ → Differ → Type 0 = λ c new. (e : Differ) → Takes tick.at (seen_of tick pod c) (get_or old c e) new in
    let within : n < length now = omega (arith, lt, before.as_many) in
    let here : P n next = λ e.
    let at : from ≡ get_or old n e = is ∙ before.rest n from (omega arith) ∙ any_default old n from e lt in
    subst (λ (o : Option Seen). Takes tick.at o (get_or old n e) next) is_seen
    (subst (λ (d : Differ). Takes tick.at seen d next) at takes) in
    record {
      as_many = length-set now n next ∙ before.as_many;
      each = λ c d e below. set_each P now next n within (λ k f less g. before.each k f g less) here c d below e;
      rest = λ c d above. set_rest now next n c d above ∙ before.rest c d (omega (arith, above));
    }

pub all_taken : (tick : TickObs) (pod n : ℕ) (old now : List Differ) → n ≡ length old
    → HaveTakenBelow tick pod n old now → HaveTaken tick pod old now
all_taken tick pod n old now end before =
    record { as_many = before.as_many; each = λ c d e lt. before.each c d e (omega (arith, lt, end)) }

-- the first n pods have followed it where it shows them, and the others are as they were
pub record PodsHaveTakenBelow (tick : TickObs) (n : ℕ) (old now : List (Vec Differ Global)) : Type 0 where
  pub as_many : length now ≡ length old
  pub each : (p : ℕ) (ds es : Vec Differ Global) → p < n
      → PodHasTaken tick p (get_or old p es).items (get_or now p ds).items
  pub rest : (p : ℕ) (ds : Vec Differ Global) → n ≤ p → get_or now p ds ≡ get_or old p ds

pub no_pods_taken : (tick : TickObs) (old : List (Vec Differ Global)) → PodsHaveTakenBelow tick 0 old old
no_pods_taken tick old =
    record { as_many = refl; each = λ p ds es lt. absurd (omega arith); rest = λ p ds le. refl }

pub next_pod_follows : (tick : TickObs) (n : ℕ) (old now : List (Vec Differ Global)) (from : Vec Differ Global)
    → n < length old → from ≡ get_or now n from → PodsFollow tick old → PodsHaveTakenBelow tick n old now
    → IsSome (shown_of tick n) → Follow tick n from.items
next_pod_follows tick n old now from lt is all before shown =
    subst (λ (v : Vec Differ Global). Follow tick n v.items) (sym (is ∙ before.rest n from (omega arith)))
    (all n from lt shown)

pub pods_taken_more : (tick : TickObs) (n : ℕ) (old now : List (Vec Differ Global)) (from next : Vec Differ Global)
    → n < length old → from ≡ get_or now n from → PodHasTaken tick n from.items next.items
    → PodsHaveTakenBelow tick n old now → PodsHaveTakenBelow tick (n + 1) old (slice_set now n next)
pods_taken_more tick n old now from next lt is takes before =
    let P : ℕ → Vec Differ Global → Type 0 = λ p new. (es : Vec Differ Global)
    → PodHasTaken tick p (get_or old p es).items new.items in
    let within : n < length now = omega (arith, lt, before.as_many) in
    let here : P n next = λ es.
    let at : from ≡ get_or old n es = is ∙ before.rest n from (omega arith) ∙ any_default old n from es lt in
    subst (λ (v : Vec Differ Global). PodHasTaken tick n v.items next.items) at takes in
    record {
      as_many = length-set now n next ∙ before.as_many;
      each = λ p ds es below. set_each P now next n within (λ k f less g. before.each k f g less) here p ds below es;
      rest = λ p ds above. set_rest now next n p ds above ∙ before.rest p ds (omega (arith, above));
    }
