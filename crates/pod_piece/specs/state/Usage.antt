-- The newest samples, as they are carried from tick to tick.
use Rattle.std.specs.Prelude.{true, false, None}
use Rattle.std.specs.Option.{option_or}
use Rattle.observations.specs.declared.usage.Sampling.{Sampling}
use Rattle.observations.specs.declared.usage.Sampling.TheVariants.{Unsaid, Unsampled, Sampled}
use Rattle.observations.specs.declared.usage.Usage.{Usage}
use Rattle.pod_piece.specs.declared.status.NewestUsage.{NewestUsage}

-- no sample of anything
abbrev pub no_samples : Usage
no_samples = record { memory = None; volumes = None; logs = None; writable = None; inodes = None; pids = None }

-- the newest samples of a pod of which no tick has a sample or reports that there is none
abbrev pub nothing : NewestUsage
nothing = record { samples = no_samples; is_unsampled = false }

-- the newest samples, with one more tick
abbrev pub newer : NewestUsage → Sampling → NewestUsage
newer old Unsaid = old
newer old Unsampled = record { samples = no_samples; is_unsampled = true }
newer old (Sampled new) = record {
  samples = record {
    memory = option_or new.memory old.samples.memory;
    volumes = option_or new.volumes old.samples.volumes;
    logs = option_or new.logs old.samples.logs;
    writable = option_or new.writable old.samples.writable;
    inodes = option_or new.inodes old.samples.inodes;
    pids = option_or new.pids old.samples.pids;
  };
  is_unsampled = false;
}
