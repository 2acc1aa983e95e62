-- The events of a tick.
use Rattle.std.proofs.Common.{◌≡◌, ℕ, suc, ◌+◌, ◌<◌, ◌≤◌, List, [], ◌∷◌, ◌++◌, take, Bool, true, false, Option, Some}
use Rattle.std.proofs.Common.{None, refl, sym, ap, subst, ◌∙◌, append_assoc, append-nil, arith}
use mathlib.Core.Bool.{beq, not}
use Rattle.std.specs.Prelude.{◌↔◌, IsTrue, slice_get}
use Rattle.std.specs.Bool.{then_some}
use Rattle.std.proofs.lemmas.List.{take_all}
use Rattle.histories.specs.rule.TheOne.{IsTheOne}
use Rattle.histories.proofs.Decide.{same_bool}
use Rattle.histories.proofs.Lists.{take_more}
use Rattle.histories.proofs.TheOne.{IsTheOne-none, IsTheOne-some, IsTheOne-unique}
use Rattle.node_signals.specs.declared.event.NodeEvent.{NodeEvent}
use Rattle.node_config.specs.rule.EvictionConfig.{EvictionConfig}
use Rattle.observations.specs.declared.tick.TickObs.{TickObs}
use Rattle.node_signals.specs.declared.key.ThresholdKey.{ThresholdKey}
use Rattle.node_signals.specs.rule.Keys.{serving_order}
use Rattle.node_signals.specs.rule.Conditions.{conditions}
use Rattle.node_signals.specs.rule.Events.{Changes, ChangesThreshold, ChangesCondition, Reclaims, as_list, AreGiven}
use Rattle.node_signals.specs.rule.Events.{AreNodeEvents}
use Rattle.node_signals.specs.state.Events.{Adds}
use Rattle.node_signals.proofs.ServedLemmas.{key_at}

apart_from : (x y : Bool) → beq x y ≡ false → x ≡ y → ⊥
apart_from true true e same = absurd (cc)
apart_from true false e same = absurd (cc)
apart_from false true e same = absurd (cc)
apart_from false false e same = absurd (cc)

same_from : (x y : Bool) → beq x y ≡ true → x ≡ y
same_from true true e = refl
same_from true false e = sym e
same_from false true e = e
same_from false false e = refl

-- a value that changed, or did not
changed : (event_of : Bool → NodeEvent) (N O : Type 0) (value old : Bool) → (IsTrue value ↔ N) → (IsTrue old ↔ O)
    → beq value old ≡ false
    → IsTheOne (Changes event_of N O) (Some (event_of value))
changed event_of N O value old now was apart =
    IsTheOne-some (Changes event_of N O) (event_of value) (
      value,
      refl,
      now,
      (λ is. apart_from value old apart
          (same_bool value old ((λ t. was.1 (is.0 t)), (λ t. is.1 (was.0 t))))),
    )
    (λ e c. ap event_of (same_bool value c.0 ((λ t. c.2.1 (now.0 t)), (λ t. now.1 (c.2.0 t)))) ∙ sym c.1)

unchanged : (event_of : Bool → NodeEvent) (N O : Type 0) (value old : Bool) → (IsTrue value ↔ N) → (IsTrue old ↔ O)
    → beq value old ≡ true
    → IsTheOne (Changes event_of N O) None
unchanged event_of N O value old now was same =
    IsTheOne-none (Changes event_of N O) (λ e c.
    let both : value ≡ c.0 = same_bool value c.0 ((λ t. c.2.1 (now.0 t)), (λ t. now.1 (c.2.0 t))) in
    let P : Bool → Type 0 = λ b. IsTrue b ↔ O in
    c.3 (subst P (sym (same_from value old same) ∙ both) was))

pub change_given : (event_of : Bool → NodeEvent) (N O : Type 0) (value old : Bool) (event : Option NodeEvent)
    → (IsTrue value ↔ N) → (IsTrue old ↔ O) → event ≡ then_some (not (beq value old)) (event_of value)
    → IsTheOne (Changes event_of N O) event
change_given event_of N O value old event now was is =
    subst (λ (e : Option NodeEvent). IsTheOne (Changes event_of N O) e) (sym is) (by (beq value old) refl)
  where
    by : (same : Bool) → beq value old ≡ same
        → IsTheOne (Changes event_of N O) (then_some (not same) (event_of value))
    by true e = unchanged event_of N O value old now was e
    by false e = changed event_of N O value old now was e

-- one more item
given_more : {A : Type 0} (P : A → NodeEvent → Type 0) (xs : List A) (x : A) (events : List NodeEvent)
    (event : Option NodeEvent)
    → AreGiven P xs events → IsTheOne (P x) event → AreGiven P (xs ++ x ∷ []) (events ++ as_list event)
given_more P [] x events event given gives =
    (event, [], gives, refl, ap (λ k. k ++ as_list event) given ∙ sym (append-nil (as_list event)))
given_more P (y ∷ xs) x events event (first, rest, g, given, is) gives = (
  first,
  rest ++ as_list event,
  g,
  given_more P xs x rest event given gives,
  ap (λ k. k ++ as_list event) is ∙ append_assoc (as_list first) rest (as_list event),
)

pub adds_none : {A : Type 0} (P : A → NodeEvent → Type 0) (old : List NodeEvent) → Adds P [] old old
adds_none P old = ([], refl, sym (append-nil old))

pub adds_more : {A : Type 0} (P : A → NodeEvent → Type 0) (xs : List A) (x : A) (old mid new : List NodeEvent)
    (event : Option NodeEvent)
    → Adds P xs old mid → IsTheOne (P x) event → new ≡ mid ++ as_list event → Adds P (xs ++ x ∷ []) old new
adds_more P xs x old mid new event (added, given, is) gives more = (
  added ++ as_list event,
  given_more P xs x added event given gives,
  more ∙ ap (λ k. k ++ as_list event) is
      ∙ append_assoc old added (as_list event),
)

pub given_unique : {A : Type 0} (P : A → NodeEvent → Type 0) (xs : List A) (a b : List NodeEvent) → AreGiven P xs a
    → AreGiven P xs b → a ≡ b
given_unique P [] a b f g = f ∙ sym g
given_unique P (x ∷ xs) a b (e, rest, gives, given, is) (e', rest', gives', given', is') =
    let first : e ≡ e' = IsTheOne-unique (P x) e e' gives gives' in
    let later : rest ≡ rest' = given_unique P xs rest rest' given given' in
    is ∙ ap (λ k. as_list k ++ rest) first ∙ ap (λ k. as_list e' ++ k) later ∙ sym is'

-- one more place of the serving order
pub adds_next : (P : ThresholdKey → NodeEvent → Type 0) (place : ℕ) (old mid new : List NodeEvent)
    (event : Option NodeEvent) → place < 12
    → ((key : ThresholdKey) → slice_get serving_order place ≡ Some key → IsTheOne (P key) event)
    → new ≡ mid ++ as_list event → Adds P (take place serving_order) old mid
    → Adds P (take (place + 1) serving_order) old new
adds_next P place old mid new event lt gives more adds =
    let here = key_at serving_order place lt in
    let grown : take (place + 1) serving_order ≡ take place serving_order ++ here.0 ∷ [] =
    subst (λ k. take k serving_order ≡ take place serving_order ++ here.0 ∷ [])
    (let e : suc place ≡ place + 1 = omega arith in e) (take_more serving_order place here.0 here.1) in
    subst (λ (keys : List ThresholdKey). Adds P keys old new) (sym grown)
    (adds_more P (take place serving_order) here.0 old mid new event adds (gives here.0 here.1) more)

pub adds_all : (P : ThresholdKey → NodeEvent → Type 0) (place : ℕ) (old new : List NodeEvent) → 12 ≤ place
    → Adds P (take place serving_order) old new → Adds P serving_order old new
adds_all P place old new le adds = subst (λ (keys : List ThresholdKey). Adds P keys old new)
    (take_all place serving_order le) adds

-- of three items one after the other
pub adds_three : {A : Type 0} (P : A → NodeEvent → Type 0) (x y z : A) (old first second new : List NodeEvent)
    (a b c : Option NodeEvent)
    → IsTheOne (P x) a → IsTheOne (P y) b → IsTheOne (P z) c → first ≡ old ++ as_list a → second ≡ first ++ as_list b
    → new ≡ second ++ as_list c
    → Adds P (x ∷ y ∷ z ∷ []) old new
adds_three P x y z old first second new a b c gives_a gives_b gives_c one two three =
    adds_more P (x ∷ y ∷ []) z old second new c
    (adds_more P (x ∷ []) y old first second b (adds_more P [] x old old first a (adds_none P old) gives_a one)
    gives_b two) gives_c three

-- the three kinds, one after the other
pub all_events : (eviction : EvictionConfig) (period : ℕ) (before : List TickObs) (tick : TickObs)
    (first second all : List NodeEvent)
    → Adds (ChangesThreshold eviction before tick) serving_order [] first
    → Adds (ChangesCondition eviction period before tick) conditions first second
    → Adds (Reclaims eviction before tick) serving_order second all
    → AreNodeEvents eviction period before tick all
all_events eviction period before tick first second all (t, are_t, is_t) (p, are_p, is_p) (r, are_r, is_r) = record {
  thresholds = t;
  of_thresholds = are_t;
  pressures = p;
  of_conditions = are_p;
  reclaims = r;
  of_reclaims = are_r;
  in_order = is_r ∙ ap (λ k. k ++ r) (is_p ∙ ap (λ k. k ++ p) is_t);
}
