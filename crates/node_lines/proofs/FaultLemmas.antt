-- Which fault a node line answers.
use Rattle.std.proofs.Common.{◌≡◌, ◌⊎◌, inl, inr, ℕ, false, List, Option, Some, None, is_some, Result, Ok, Err, refl}
use Rattle.std.proofs.Common.{ap, ◌∙◌}
use Rattle.std.specs.Prelude.{option_and_then, codes}
use Rattle.serde_json.specs.Data.{Data}
use Rattle.serde_json.specs.Find.{as_bool, as_object, as_str}
use Rattle.json_fields.specs.rule.Fields.{field_at, text_at}
use Rattle.json_fields.specs.rule.Reading.{◌>>=◌, some_or}
use Rattle.json_fields.proofs.Only.{Only, only_ok, only_err, only_bind, only_if, only_some}
use Rattle.json_fields.proofs.Steps.{bind_err}
use Rattle.manifest.specs.rule.Names.{is_name}
use Rattle.manifest.specs.rule.RestartDelay.{most_max_delay, max_delay_of}
use Rattle.quantity.specs.rule.Duration.{duration_of}
use Rattle.quantity.specs.declared.fault.QuantityFault.{QuantityFault}
use Rattle.quantity.specs.declared.limit.Limit.{Limit}
use Rattle.quantity.specs.declared.limit.Limit.TheVariants.{Quantity}
use Rattle.json_fields.specs.rule.Quantities.{quantity_in, limit_in}
use Rattle.signals.specs.declared.by_signal.BySignal.{BySignal}
use Rattle.signals.specs.declared.signal.Signal.{Signal}
use Rattle.signals.specs.rule.BySignal.{of}
use Rattle.node_config.specs.declared.node.Version.{Version}
use Rattle.node_config.specs.declared.node.Version.TheVariants.{One, Two, Three}
use Rattle.node_lines.specs.declared.eviction.Written.{Written}
use Rattle.node_lines.specs.declared.fault.NodeFault.{NodeFault}
use Rattle.node_lines.specs.declared.fault.NodeFault.TheVariants.{Config, SoftWithoutGrace}
use Rattle.node_lines.specs.state.Laws.{held, LacksGrace, MissingGraceComesLast}
use Rattle.node_lines.specs.rule.Limits.{has_capacity, is_off, with_capacity, limit_at, reclaim_at, default_limits}
use Rattle.node_lines.specs.rule.Limits.{hard_limits}
use Rattle.node_lines.specs.rule.Maps.{map_of, or_config, duration_from, duration_at, quantity_at}
use Rattle.json_fields.specs.declared.scope.Scope.TheVariants.{Node}
use Rattle.json_fields.proofs.SignalMapRefused.{each_only, map_only, each_err}
use Rattle.node_lines.specs.rule.Node.{whole_number, version_named, version_of, name_from, restart_delay_of, flag_of}
use Rattle.node_lines.specs.rule.Node.{delay_from, crash_loop_delay_of, delay_by, delay_in}
use Rattle.node_lines.specs.rule.Node.{few_seconds, seconds_of, pause_of, flag_of_three, settings_in, node_of}
use Rattle.node_lines.specs.rule.Thresholds.{soft_threshold, written_over, written_in, soft_thresholds, eviction_from}
use Rattle.node_lines.proofs.LawLemmas.{IsWritten, limit_read, in_read, soft_limit_of, grace_of}

abbrev pub IsConfig : NodeFault → Type 0
IsConfig fault = fault ≡ Config

-- each field answers no other fault
config_only : {A E : Type 0} (read : Result A E) → Only IsConfig (or_config read)
config_only (Ok x) = only_ok IsConfig x
config_only (Err fault) = only_err IsConfig Config refl

some_only : {A : Type 0} (found : Option A) → Only IsConfig (some_or Config found)
some_only found = only_some IsConfig Config found refl

map_config : {A : Type 0} (read : Signal → Option Data → Result A NodeFault) (found : Option Data)
    → ((signal : Signal) (d : Option Data) → Only IsConfig (read signal d)) → Only IsConfig (map_of read found)
map_config read found one = map_only IsConfig Node Config read found refl one

quantity_only : (found : Option Data) → Only IsConfig (quantity_at found)
quantity_only None = only_ok IsConfig None
quantity_only (Some d) = only_bind IsConfig _ _ (config_only (quantity_in d)) (λ n. only_ok IsConfig (Some n))

duration_from_only : (text : Option (List ℕ)) → Only IsConfig (duration_from text)
duration_from_only None = only_err IsConfig Config refl
duration_from_only (Some text) =
    only_bind IsConfig _ _ (config_only (duration_of text)) (λ n. only_ok IsConfig (Some n))

duration_only : (found : Option Data) → Only IsConfig (duration_at found)
duration_only None = only_ok IsConfig None
duration_only (Some d) = duration_from_only (as_str d)

capacity_only : (capacity : Option ℕ) (limit : Limit) → Only IsConfig (with_capacity capacity limit)
capacity_only capacity limit =
    only_if IsConfig (has_capacity capacity limit) (Ok limit) (Err Config) (only_ok IsConfig limit)
    (only_err IsConfig Config refl)

limit_only : (capacity : Option ℕ) (found : Option Data) → Only IsConfig (limit_at capacity found)
limit_only capacity None = only_ok IsConfig None
limit_only capacity (Some d) = only_bind IsConfig _ _ (config_only (limit_in d)) (λ limit.
    only_if IsConfig (is_off limit) (Ok None) _ (only_ok IsConfig None)
    (only_bind IsConfig _ _ (capacity_only capacity limit) (λ l. only_ok IsConfig (Some l))))

reclaim_only : (capacity : Option ℕ) (found : Option Data) → Only IsConfig (reclaim_at capacity found)
reclaim_only capacity None = only_ok IsConfig (Quantity 0)
reclaim_only capacity (Some d) =
    only_bind IsConfig _ _ (config_only (limit_in d)) (λ limit. capacity_only capacity limit)

hard_only : (capacity : BySignal (Option ℕ)) (found : Option Data) → Only IsConfig (hard_limits capacity found)
hard_only capacity None = only_ok IsConfig (default_limits capacity)
hard_only capacity (Some d) = map_config (λ s. limit_at (of capacity s)) (Some d) (λ s. limit_only (of capacity s))

over_only : (capacity : BySignal (Option ℕ)) (d : Data) → Only IsConfig (written_over capacity d)
unfolding written_over
over_only capacity d =
    let P = IsConfig in
    only_bind P _ _ (hard_only capacity (field_at (codes "evictionHard") d)) (λ hard.
    only_bind P _ _ (map_config (λ s. limit_at (of capacity s)) (field_at (codes "evictionSoft") d)
    (λ s. limit_only (of capacity s))) (λ soft.
    only_bind P _ _ (map_config (λ s. duration_at) (field_at (codes "evictionSoftGracePeriod") d)
    (λ s. duration_only)) (λ graces.
    only_bind P _ _ (map_config (λ s. reclaim_at (of capacity s)) (field_at (codes "evictionMinimumReclaim") d)
    (λ s. reclaim_only (of capacity s))) (λ reclaims. only_ok P _))))

written_only : (d : Data) → Only IsConfig (written_in d)
unfolding written_in
written_only d = only_bind IsConfig _ _
    (map_config (λ s. quantity_at) (field_at (codes "capacity") d) (λ s. quantity_only))
    (λ capacity. over_only capacity d)

named_only : (found : Option ℕ) → Only IsConfig (version_named found)
named_only None = only_err IsConfig Config refl
named_only (Some n) = only_if IsConfig _ (Ok One) _ (only_ok IsConfig One)
    (only_if IsConfig _ (Ok Two) _ (only_ok IsConfig Two)
    (only_if IsConfig _ (Ok Three) (Err Config) (only_ok IsConfig Three) (only_err IsConfig Config refl)))

version_only : (found : Option Data) → Only IsConfig (version_of found)
version_only None = only_ok IsConfig One
version_only (Some d) = named_only (whole_number d)

name_only : (found : Option (List ℕ)) → Only IsConfig (name_from found)
name_only None = only_err IsConfig Config refl
name_only (Some s) = only_if IsConfig (is_name s) (Ok s) (Err Config) (only_ok IsConfig s)
    (only_err IsConfig Config refl)

delay_only : (found : Option Data) → Only IsConfig (restart_delay_of found)
delay_only None = only_ok IsConfig most_max_delay
delay_only (Some d) = some_only (option_and_then max_delay_of (whole_number d))

delay_from_only : (seconds : Option ℕ) → Only IsConfig (delay_from seconds)
delay_from_only None = only_ok IsConfig most_max_delay
delay_from_only (Some seconds) = some_only (max_delay_of seconds)

crash_loop_only : (d : Data) → Only IsConfig (crash_loop_delay_of d)
crash_loop_only d =
    only_if IsConfig (is_some (as_object d)) _ (Err Config)
    (only_bind IsConfig _ _ (duration_only (field_at (codes "maxContainerRestartPeriod") d)) (λ s. delay_from_only s))
    (only_err IsConfig Config refl)

delay_by_only : (found crash_loop : Option Data) → Only IsConfig (delay_by found crash_loop)
delay_by_only found None = delay_only found
delay_by_only None (Some d) = crash_loop_only d
delay_by_only (Some seconds) (Some d) = only_err IsConfig Config refl

delay_in_only : (version : Version) (found crash_loop : Option Data) → Only IsConfig (delay_in version found crash_loop)
delay_in_only One found crash_loop = delay_only found
delay_in_only Two found crash_loop = delay_only found
delay_in_only Three found crash_loop = delay_by_only found crash_loop

flag_only : (found : Option Data) → Only IsConfig (flag_of found)
flag_only None = only_ok IsConfig false
flag_only (Some d) = some_only (as_bool d)

seconds_only : (found : Option Data) → Only IsConfig (seconds_of found)
seconds_only None = only_ok IsConfig 0
seconds_only (Some d) = some_only (option_and_then few_seconds (whole_number d))

pause_only : (version : Version) (found : Option Data) → Only IsConfig (pause_of version found)
pause_only One found = only_ok IsConfig 0
pause_only Two found = only_ok IsConfig 0
pause_only Three found = seconds_only found

three_only : (version : Version) (found : Option Data) → Only IsConfig (flag_of_three version found)
three_only One found = only_ok IsConfig false
three_only Two found = only_ok IsConfig false
three_only Three found = flag_only found

settings_only : (d : Data) → Only IsConfig (settings_in d)
unfolding settings_in
settings_only d =
    let P = IsConfig in
    only_bind P _ _ (version_only (field_at (codes "version") d)) (λ a.
    only_bind P _ _ (delay_in_only a (field_at (codes "maxRestartDelay") d) (field_at (codes "crashLoopBackOff") d))
    (λ b.
    only_bind P _ _ (flag_only (field_at (codes "dedicatedImagefs") d)) (λ c.
    only_bind P _ _ (seconds_only (field_at (codes "evictionMaxPodGracePeriod") d)) (λ f.
    only_bind P _ _ (duration_only (field_at (codes "evictionPressureTransitionPeriod") d)) (λ g.
    only_bind P _ _ (pause_only a (field_at (codes "evictionPauseSeconds") d)) (λ h.
    only_bind P _ _ (three_only a (field_at (codes "evictionPauseUntilGone") d)) (λ i.
    only_bind P _ _ (three_only a (field_at (codes "evictionsRecorded") d)) (λ j. only_ok P _))))))))

-- so a missing grace was answered after them
passed : {A B : Type 0} (r : Result A NodeFault) (f : A → Result B NodeFault) → Only IsConfig r
    → (r >>= f) ≡ Err SoftWithoutGrace → (x : A) × (r ≡ Ok x) × (f x ≡ Err SoftWithoutGrace)
passed (Ok x) f only e = (x, refl, e)
passed (Err other) f only e =
    let same : other ≡ SoftWithoutGrace = cc in
    let config : other ≡ Config = only.has other refl in
    absurd (cc)

soft_lacks : (limit : Option Limit) (reclaim : Limit) (grace : Option ℕ) (fault : NodeFault)
    → soft_threshold limit reclaim grace ≡ Err fault → (l : Limit) × (limit ≡ Some l) × (grace ≡ None)
soft_lacks None reclaim grace fault e = absurd (cc)
soft_lacks (Some l) reclaim None fault e = (l, refl, refl)
soft_lacks (Some l) reclaim (Some g) fault e = absurd (cc)

no_grace_from : (read : Result ℕ QuantityFault) → (or_config read >>= λ seconds. Ok (Some seconds)) ≡ Ok None
    → held read ≡ None
no_grace_from (Ok seconds) e = absurd (cc)
no_grace_from (Err fault) e = refl

no_grace_text : (text : Option (List ℕ)) → duration_from text ≡ Ok None
    → option_and_then (λ t. held (duration_of t)) text ≡ None
no_grace_text None e = refl
no_grace_text (Some text) e = no_grace_from (duration_of text) e

no_grace_read : (found : Option Data) → duration_at found ≡ Ok None
    → option_and_then (λ v. option_and_then (λ t. held (duration_of t)) (as_str v)) found ≡ None
no_grace_read None e = refl
no_grace_read (Some d) e = no_grace_text (as_str d) e

lacking : (d : Data) (written : Written) (signal : Signal) (limit : Limit) → IsWritten d written
    → of written.soft signal ≡ Some limit → of written.graces signal ≡ None → LacksGrace d
lacking d written signal limit read set none = record {
  signal = signal;
  limit = limit;
  limit_is = limit_read _ _ limit (soft_limit_of d written signal read ∙ ap (λ (l : Option Limit). Ok l) set);
  no_grace = no_grace_read _ (grace_of d written signal read ∙ ap (λ (g : Option ℕ). Ok g) none);
}

lacks : (d : Data) (written : Written) → written_in d ≡ Ok written → soft_thresholds written ≡ Err SoftWithoutGrace
    → LacksGrace d
lacks d written is softs =
    let one = each_err (λ s. soft_threshold (of written.soft s) (of written.reclaims s) (of written.graces s))
    SoftWithoutGrace softs in
    let missing = soft_lacks (of written.soft one.0) (of written.reclaims one.0) (of written.graces one.0)
    SoftWithoutGrace one.1 in
    lacking d written one.0 missing.0 (in_read d written is) missing.1 missing.2

-- the thresholds are refused for a soft one alone
soft_refused : (written : Written) → eviction_from written ≡ Err SoftWithoutGrace
    → soft_thresholds written ≡ Err SoftWithoutGrace
soft_refused written e = elim (bind_err (soft_thresholds written) _ SoftWithoutGrace e) [
  | inl refused ↦ refused
  | inr well ↦ let last = well.2 in absurd (cc)
]

pub missing_grace_comes_last : MissingGraceComesLast
unfolding node_of
missing_grace_comes_last d e =
    let a = passed (name_from (text_at (codes "name") d)) _ (name_only (text_at (codes "name") d)) e in
    let b = passed (settings_in d) _ (settings_only d) a.2 in
    let c = passed (written_in d) _ (written_only d) b.2 in
    let soft : eviction_from c.0 ≡ Err SoftWithoutGrace = elim (bind_err (eviction_from c.0) _ SoftWithoutGrace c.2) [
      | inl refused ↦ refused
      | inr well ↦ let last = well.2 in absurd (cc)
    ] in
    (record { name = rw a.1 refl; settings = rw b.1 refl; maps = rw c.1 refl }, lacks d c.0 c.1 (soft_refused c.0 soft))

-- of a whole line
abbrev pub IsNodeFault : NodeFault → Type 0
IsNodeFault fault = (fault ≡ Config) ⊎ (fault ≡ SoftWithoutGrace)

among : {A : Type 0} (r : Result A NodeFault) → Only IsConfig r → Only IsNodeFault r
among (Ok x) only = only_ok IsNodeFault x
among (Err fault) only = only_err IsNodeFault fault (inl (only.has fault refl))

soft_only : (limit : Option Limit) (reclaim : Limit) (grace : Option ℕ)
    → Only IsNodeFault (soft_threshold limit reclaim grace)
soft_only None reclaim grace = only_ok IsNodeFault None
soft_only (Some limit) reclaim None = only_err IsNodeFault SoftWithoutGrace (inr refl)
soft_only (Some limit) reclaim (Some grace) = only_ok IsNodeFault _

thresholds_only : (written : Written) → Only IsNodeFault (eviction_from written)
thresholds_only written =
    let P = IsNodeFault in
    only_bind P _ _ (each_only P (λ s. soft_threshold (of written.soft s) (of written.reclaims s)
    (of written.graces s)) (λ s. soft_only (of written.soft s) (of written.reclaims s) (of written.graces s)))
    (λ soft. only_ok P _)

pub node_only : (d : Data) → Only IsNodeFault (node_of d)
unfolding node_of
node_only d =
    let P = IsNodeFault in
    only_bind P _ _ (among _ (name_only (text_at (codes "name") d))) (λ name.
    only_bind P _ _ (among _ (settings_only d)) (λ settings.
    only_bind P _ _ (among _ (written_only d)) (λ written.
    only_bind P _ _ (thresholds_only written) (λ eviction. only_ok P _))))
