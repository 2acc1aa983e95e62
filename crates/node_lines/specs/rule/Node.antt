-- The configuration of a node line.
use Rattle.std.specs.Prelude.{ℕ, ◌==◌, ◌^◌, Bool, false, nat_lt, List, Option, Some, None, option_and_then}
use Rattle.std.specs.Prelude.{is_some, if◌then◌else◌, Result, Ok, Err, codes}
use Rattle.serde_json.specs.Data.{Data}
use Rattle.serde_json.specs.Find.{as_bool, as_number, as_object, as_u64}
use Rattle.json_fields.specs.rule.Fields.{field_at, text_at}
use Rattle.json_fields.specs.rule.Reading.{◌>>=◌, some_or}
use Rattle.manifest.specs.rule.Names.{is_name}
use Rattle.manifest.specs.rule.RestartDelay.{most_max_delay, max_delay_of}
use Rattle.node_config.specs.declared.node.NodeConfig.{NodeConfig}
use Rattle.node_config.specs.declared.node.Version.{Version}
use Rattle.node_config.specs.declared.node.Version.TheVariants.{One, Two, Three}
use Rattle.node_lines.specs.declared.node.Settings.{Settings}
use Rattle.node_lines.specs.declared.fault.NodeFault.{NodeFault}
use Rattle.node_lines.specs.declared.fault.NodeFault.TheVariants.{Config}
use Rattle.node_lines.specs.rule.Maps.{duration_at}
use Rattle.node_lines.specs.rule.Thresholds.{written_in, eviction_from}

-- a whole number that is not negative
abbrev pub whole_number : Data → Option ℕ
whole_number d = option_and_then as_u64 (as_number d)

abbrev pub version_named : Option ℕ → Result Version NodeFault
version_named None = Err Config
version_named (Some n) =
    if n == 1 then Ok One
    else (if n == 2 then Ok Two
    else (if n == 3 then Ok Three else Err Config))

-- the format's version, 1 where none is written
abbrev pub version_of : Option Data → Result Version NodeFault
version_of None = Ok One
version_of (Some d) = version_named (whole_number d)

abbrev pub name_from : Option (List ℕ) → Result (List ℕ) NodeFault
name_from None = Err Config
name_from (Some s) = if is_name s then Ok s else Err Config

-- the greatest restart delay, in seconds: a whole number in its range, and the most of it where
-- none is written
abbrev pub restart_delay_of : Option Data → Result ℕ NodeFault
restart_delay_of None = Ok most_max_delay
restart_delay_of (Some d) = some_or Config (option_and_then max_delay_of (whole_number d))

-- the greatest delay by a period in seconds, which has to be in its range, and the most of it without one
abbrev pub delay_from : Option ℕ → Result ℕ NodeFault
delay_from None = Ok most_max_delay
delay_from (Some seconds) = some_or Config (max_delay_of seconds)

-- the greatest restart delay that a kubelet's configuration gives in its own field (Kubernetes, "Configurable container
-- restart delay")
abbrev pub crash_loop_delay_of : Data → Result ℕ NodeFault
crash_loop_delay_of d =
    if is_some (as_object d) then (duration_at (field_at (codes "maxContainerRestartPeriod") d) >>= delay_from)
    else Err Config

-- a line has one of the two fields
abbrev pub delay_by : Option Data → Option Data → Result ℕ NodeFault
delay_by found None = restart_delay_of found
delay_by None (Some d) = crash_loop_delay_of d
delay_by (Some seconds) (Some d) = Err Config

-- the greatest restart delay; versions 1 and 2 don't have the kubelet's own field
abbrev pub delay_in : Version → Option Data → Option Data → Result ℕ NodeFault
delay_in One found crash_loop = restart_delay_of found
delay_in Two found crash_loop = restart_delay_of found
delay_in Three found crash_loop = delay_by found crash_loop

-- true or false, and false where none is written
abbrev pub flag_of : Option Data → Result Bool NodeFault
flag_of None = Ok false
flag_of (Some d) = some_or Config (as_bool d)

-- seconds below 2^31
abbrev pub few_seconds : ℕ → Option ℕ
few_seconds seconds = if nat_lt seconds (2 ^ 31) then Some seconds else None

-- a number of seconds, 0 where none is written (Kubernetes, "Soft eviction thresholds")
abbrev pub seconds_of : Option Data → Result ℕ NodeFault
seconds_of None = Ok 0
seconds_of (Some d) = some_or Config (option_and_then few_seconds (whole_number d))

-- in seconds
abbrev pub default_transition_period : ℕ
default_transition_period = 300

-- how long a condition of the node stays (Kubernetes, "Node condition oscillation"): where no period is written, or 0,
-- the default
abbrev pub or_default : Option ℕ → ℕ
or_default None = default_transition_period
or_default (Some seconds) = if seconds == 0 then default_transition_period else seconds

-- for how many seconds after an eviction no pod is evicted; versions 1 and 2 have no such field
abbrev pub pause_of : Version → Option Data → Result ℕ NodeFault
pause_of One found = Ok 0
pause_of Two found = Ok 0
pause_of Three found = seconds_of found

-- true or false in a field that versions 1 and 2 do not have: whether the pause is over once the evicted pod has ended
-- or gone, and whether the trace reports whom the node evicted
abbrev pub flag_of_three : Version → Option Data → Result Bool NodeFault
flag_of_three One found = Ok false
flag_of_three Two found = Ok false
flag_of_three Three found = flag_of found

-- what a node line has in addition to its thresholds, one line for each field
unfoldable pub settings_in : Data → Result Settings NodeFault
settings_in d = do
  version ← version_of (field_at (codes "version") d)
  max_restart_delay ← delay_in version (field_at (codes "maxRestartDelay") d) (field_at (codes "crashLoopBackOff") d)
  has_dedicated_imagefs ← flag_of (field_at (codes "dedicatedImagefs") d)
  max_pod_grace_period ← seconds_of (field_at (codes "evictionMaxPodGracePeriod") d)
  transition_period ← duration_at (field_at (codes "evictionPressureTransitionPeriod") d)
  eviction_pause ← pause_of version (field_at (codes "evictionPauseSeconds") d)
  pauses_until_gone ← flag_of_three version (field_at (codes "evictionPauseUntilGone") d)
  evictions_recorded ← flag_of_three version (field_at (codes "evictionsRecorded") d)
  Ok (record {
    version = version;
    max_restart_delay = max_restart_delay;
    has_dedicated_imagefs = has_dedicated_imagefs;
    max_pod_grace_period = max_pod_grace_period;
    transition_period = or_default transition_period;
    eviction_pause = eviction_pause;
    pauses_until_gone = pauses_until_gone;
    evictions_recorded = evictions_recorded;
  })

-- every field is read before a soft threshold without its grace is looked for
unfoldable pub node_of : Data → Result NodeConfig NodeFault
node_of d = do
  name ← name_from (text_at (codes "name") d)
  settings ← settings_in d
  written ← written_in d
  eviction ← eviction_from written
  Ok (record {
    name = name;
    version = settings.version;
    max_restart_delay = settings.max_restart_delay;
    has_dedicated_imagefs = settings.has_dedicated_imagefs;
    eviction = eviction;
    eviction_max_pod_grace_period = settings.max_pod_grace_period;
    eviction_pressure_transition_period = settings.transition_period;
    eviction_pause = settings.eviction_pause;
    pauses_until_gone = settings.pauses_until_gone;
    evictions_recorded = settings.evictions_recorded;
  })
