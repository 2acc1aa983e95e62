-- The thresholds of an accepted node line are those that are written.
use Rattle.std.proofs.Common.{◌≡◌, ◌∙◌, ◌⊎◌, inl, inr, ℕ, Bool, true, false, Option, Some, None, Result, Ok, Err}
use Rattle.std.proofs.Common.{refl, ap, sym, subst}
use Rattle.std.specs.Prelude.{◌==◌, ◌||◌, option_and_then, if◌then◌else◌, codes}
use Rattle.std.proofs.lemmas.Bool.{cases_Bool, or_cases, eqb-true}
use Rattle.std.proofs.lemmas.Option.{same_Some}
use Rattle.serde_json.specs.Data.{Data}
use Rattle.json_fields.specs.rule.Fields.{field_at}
use Rattle.json_fields.specs.rule.Reading.{◌>>=◌}
use Rattle.quantity.specs.declared.limit.Limit.{Limit}
use Rattle.quantity.specs.declared.limit.Limit.TheVariants.{Percent, Quantity}
use Rattle.json_fields.specs.rule.Quantities.{limit_in}
use Rattle.json_fields.specs.declared.fault.FieldFault.{FieldFault}
use Rattle.signals.specs.declared.signal.Signal.{Signal}
use Rattle.signals.specs.declared.threshold.Threshold.{Threshold}
use Rattle.signals.specs.declared.threshold.ThresholdKind.TheVariants.{Hard, Soft}
use Rattle.signals.specs.rule.BySignal.{of}
use Rattle.node_config.specs.declared.node.NodeConfig.{NodeConfig}
use Rattle.node_config.specs.rule.EvictionConfig.{threshold_of}
use Rattle.node_lines.specs.declared.fault.NodeFault.{NodeFault}
use Rattle.node_lines.specs.declared.fault.NodeFault.TheVariants.{Config}
use Rattle.node_lines.specs.state.Laws.{held, grace_written, SwitchesOff, SetsThreshold, threshold_with, IsDefault}
use Rattle.node_lines.specs.state.Laws.{EveryLimitSetsItsThreshold, EveryThresholdHasItsLimit}
use Rattle.node_lines.specs.rule.Limits.{has_capacity, is_off, with_capacity, limit_at}
use Rattle.node_lines.specs.rule.Maps.{or_config}
use Rattle.node_lines.specs.rule.Node.{node_of}
use Rattle.node_lines.specs.rule.Thresholds.{hard_threshold, soft_threshold}
use Rattle.node_lines.proofs.LawLemmas.{off_is, grace_read, node_read, hard_made, soft_made, hard_of, soft_of}
use Rattle.node_lines.proofs.LawLemmas.{reclaim_of, soft_limit_of, grace_of, hard_limit_of, stands}
use Rattle.node_lines.proofs.LawLemmas.{defaults, hard_as_written, soft_as_written}

-- the answers of a limit that is off, and of one that is on
abbrev limit_if : Option ℕ → Limit → Bool → Result (Option Limit) NodeFault
limit_if capacity limit off = if off then Ok None else (with_capacity capacity limit >>= λ l. Ok (Some l))

off_percent : (n : ℕ) → (n == 0 || n == 10000) ≡ true → SwitchesOff (Percent n)
off_percent n e = elim (or_cases (n == 0) (n == 10000) e) [
  | inl none ↦ inl (ap Percent (eqb-true n 0 none))
  | inr all ↦ inr (ap Percent (eqb-true n 10000 all))
]

on_is : (limit : Limit) → (SwitchesOff limit → ⊥) → is_off limit ≡ false
on_is (Quantity n) on = refl
on_is (Percent n) on = elim (cases_Bool (n == 0 || n == 10000)) [
  | inl off ↦ absurd (on (off_percent n off))
  | inr other ↦ other
]

-- a limit that is on is kept
taken : (limit : Limit) (kept : Option Limit) (has : Bool)
    → ◌≡◌ {A = Result (Option Limit) NodeFault} ((if has then Ok limit else Err Config) >>= λ l. Ok (Some l))
    (Ok kept) → kept ≡ Some limit
taken limit kept true e = cc
taken limit kept false e = absurd (cc)

set_from : (capacity : Option ℕ) (read : Result Limit FieldFault) (limit : Limit) (kept : Option Limit)
    → (or_config read >>= λ l. limit_if capacity l (is_off l)) ≡ Ok kept → held read ≡ Some limit → is_off limit ≡ false
    → kept ≡ Some limit
set_from capacity (Err fault) limit kept e is on = absurd (cc)
set_from capacity (Ok other) limit kept e is on =
    let same : other ≡ limit = cc in
    let other_on : is_off other ≡ false = ap is_off same ∙ on in
    taken other kept (has_capacity capacity other)
    (subst (λ (b : Bool). limit_if capacity other b ≡ Ok kept) other_on e)
    ∙ ap (λ (l : Limit). Some l) same

limit_set : (capacity : Option ℕ) (found : Option Data) (limit : Limit) (kept : Option Limit)
    → limit_at capacity found ≡ Ok kept → option_and_then (λ v. held (limit_in v)) found ≡ Some limit
    → (SwitchesOff limit → ⊥) → kept ≡ Some limit
limit_set capacity None limit kept e is on = absurd (cc)
limit_set capacity (Some d) limit kept e is on = set_from capacity (limit_in d) limit kept e is (on_is limit on)

-- and one that is kept is on
kept_on : (capacity : Option ℕ) (limit kept : Limit) (off has : Bool) → is_off limit ≡ off
    → ◌≡◌ {A = Result (Option Limit) NodeFault}
    (if off then Ok None else ((if has then Ok limit else Err Config) >>= λ l. Ok (Some l))) (Ok (Some kept))
    → is_off kept ≡ false
kept_on capacity limit kept true has is e = absurd (cc)
kept_on capacity limit kept false true is e =
    let same : limit ≡ kept = cc in
    ap is_off (sym same) ∙ is
kept_on capacity limit kept false false is e = absurd (cc)

on_from : (capacity : Option ℕ) (read : Result Limit FieldFault) (kept : Limit)
    → (or_config read >>= λ l. limit_if capacity l (is_off l)) ≡ Ok (Some kept) → is_off kept ≡ false
on_from capacity (Ok limit) kept e = kept_on capacity limit kept (is_off limit) (has_capacity capacity limit) refl e
on_from capacity (Err fault) kept e = absurd (cc)

limit_on : (capacity : Option ℕ) (found : Option Data) (kept : Limit) → limit_at capacity found ≡ Ok (Some kept)
    → SwitchesOff kept → ⊥
limit_on capacity None kept e off = absurd (cc)
limit_on capacity (Some d) kept e off =
    let on = on_from capacity (limit_in d) kept e in
    let is_so = off_is kept off in
    absurd (cc)

-- every limit sets its threshold
soft_set : (limit : Limit) (reclaim : Limit) (grace : Option ℕ) (found : Option Limit) (threshold : Option Threshold)
    → found ≡ Some limit → soft_threshold found reclaim grace ≡ Ok threshold
    → (g : ℕ) × (grace ≡ Some g) × (threshold ≡ Some (record { limit = limit; reclaim = reclaim; grace = g }))
soft_set limit reclaim grace None threshold is e = absurd (cc)
soft_set limit reclaim None (Some l) threshold is e = absurd (cc)
soft_set limit reclaim (Some g) (Some l) threshold is e =
    let same : l ≡ limit = cc in
    let made : Some (record { limit = l; reclaim = reclaim; grace = g }) ≡ threshold = cc in
    (g, refl, sym made ∙ ap (λ (x : Limit). Some (record { limit = x; reclaim = reclaim; grace = g })) same)

hard_set : (d : Data) (node : NodeConfig) (signal : Signal) (limit : Limit) → node_of d ≡ Ok node
    → SetsThreshold (codes "evictionHard") d signal limit
    → threshold_of node.eviction Hard signal ≡ Some (threshold_with d signal limit 0)
hard_set d node signal limit e sets =
    let read = node_read d node e in
    let found = stands (field_at (codes "evictionHard") d) signal limit sets.is_written in
    let at = hard_limit_of d found.0 read.0 signal read.1 found.1 in
    let kept = limit_set (of read.0.capacity signal) _ limit (of read.0.hard signal) at sets.is_written sets.on in
    sym (hard_of read.0 node.eviction signal read.2)
    ∙ ap (λ (l : Option Limit). hard_threshold l (of read.0.reclaims signal)) kept
    ∙ ap (hard_threshold (Some limit)) (sym (reclaim_of d read.0 signal read.1))

soft_is_set : (d : Data) (node : NodeConfig) (signal : Signal) (limit : Limit) → node_of d ≡ Ok node
    → SetsThreshold (codes "evictionSoft") d signal limit
    → (grace : ℕ) × (grace_written d signal ≡ Some grace)
    × (threshold_of node.eviction Soft signal ≡ Some (threshold_with d signal limit grace))
soft_is_set d node signal limit e sets =
    let read = node_read d node e in
    let at = soft_limit_of d read.0 signal read.1 in
    let kept = limit_set (of read.0.capacity signal) _ limit (of read.0.soft signal) at sets.is_written sets.on in
    let set = soft_set limit (of read.0.reclaims signal) (of read.0.graces signal) (of read.0.soft signal) _ kept
    (soft_of read.0 node.eviction signal read.2) in
    let grace = grace_read _ set.0 (grace_of d read.0 signal read.1 ∙ ap (λ (g : Option ℕ). Ok g) set.1) in
    let with_reclaim : Limit → Option Threshold = λ r. Some (record { limit = limit; reclaim = r; grace = set.0 }) in
    (set.0, grace, set.2 ∙ ap with_reclaim (sym (reclaim_of d read.0 signal read.1)))

pub every_limit : EveryLimitSetsItsThreshold
every_limit = record { hard = hard_set; soft = soft_is_set }

-- every threshold has its limit
built : (threshold : Threshold) (reclaim : Limit) (grace : ℕ) → reclaim ≡ threshold.reclaim → grace ≡ threshold.grace
    → threshold ≡ record { limit = threshold.limit; reclaim = reclaim; grace = grace }
built threshold reclaim grace reclaim_is grace_is =
    ap (λ (r : Limit). record { limit = threshold.limit; reclaim = r; grace = threshold.grace }) (sym reclaim_is)
    ∙ ap (λ (g : ℕ). record { limit = threshold.limit; reclaim = reclaim; grace = g }) (sym grace_is)

hard_on : (d map : Data) (node : NodeConfig) (signal : Signal) (threshold : Threshold) → node_of d ≡ Ok node
    → field_at (codes "evictionHard") d ≡ Some map → threshold_of node.eviction Hard signal ≡ Some threshold
    → SwitchesOff threshold.limit → ⊥
hard_on d map node signal threshold e found is =
    let read = node_read d node e in
    let made = hard_made _ _ threshold (hard_of read.0 node.eviction signal read.2 ∙ is) in
    let at = hard_limit_of d map read.0 signal read.1 found in
    limit_on (of read.0.capacity signal) _ threshold.limit (at ∙ ap (λ (l : Option Limit). Ok l) made.limit_is)

soft_on : (d : Data) (node : NodeConfig) (signal : Signal) (threshold : Threshold) → node_of d ≡ Ok node
    → threshold_of node.eviction Soft signal ≡ Some threshold → SwitchesOff threshold.limit → ⊥
soft_on d node signal threshold e is =
    let read = node_read d node e in
    let made = soft_made _ _ _ threshold
    (soft_of read.0 node.eviction signal read.2 ∙ ap (λ (t : Option Threshold). Ok t) is) in
    let at = soft_limit_of d read.0 signal read.1 in
    limit_on (of read.0.capacity signal) _ threshold.limit (at ∙ ap (λ (l : Option Limit). Ok l) made.limit_is)

hard_from : (d : Data) (node : NodeConfig) (signal : Signal) (threshold : Threshold) (found : Option Data)
    → field_at (codes "evictionHard") d ≡ found → node_of d ≡ Ok node
    → threshold_of node.eviction Hard signal ≡ Some threshold
    → (SetsThreshold (codes "evictionHard") d signal threshold.limit ⊎ IsDefault d node signal threshold.limit)
    × (threshold ≡ threshold_with d signal threshold.limit 0)
hard_from d node signal threshold None none e is =
    let made = hard_made _ _ threshold (sym (defaults d node signal e none) ∙ is) in (
      inr (record { none_written = none; limit_is = made.limit_is }),
      built threshold _ 0 made.reclaim_is (same_Some 0 threshold.grace made.grace_is),
    )
hard_from d node signal threshold (Some map) found e is =
    let written = hard_as_written d map node signal threshold e found is in (
      inl (record { is_written = written.has_limit; on = hard_on d map node signal threshold e found is }),
      built threshold _ 0 written.has_reclaim (same_Some 0 threshold.grace written.has_grace),
    )

soft_from : (d : Data) (node : NodeConfig) (signal : Signal) (threshold : Threshold) → node_of d ≡ Ok node
    → threshold_of node.eviction Soft signal ≡ Some threshold
    → SetsThreshold (codes "evictionSoft") d signal threshold.limit
    × (grace_written d signal ≡ Some threshold.grace)
    × (threshold ≡ threshold_with d signal threshold.limit threshold.grace)
soft_from d node signal threshold e is =
    let written = soft_as_written d node signal threshold e is in (
      record { is_written = written.has_limit; on = soft_on d node signal threshold e is },
      written.has_grace,
      built threshold _ threshold.grace written.has_reclaim refl,
    )

pub every_threshold : EveryThresholdHasItsLimit
every_threshold = record {
  hard = λ d node signal threshold e is. hard_from d node signal threshold (field_at (codes "evictionHard") d) refl e
      is;
  soft = soft_from;
}
