-- What the entries of a tick line show of every pod and container.
use Rattle.std.specs.Prelude.{ℕ, ◌+◌, ◌==◌, ◌&&◌, Bool, false, List, [], ◌∷◌, Option, Some, None, is_none, unwrap_or}
use Rattle.std.specs.Prelude.{if◌then◌else◌, not, pos, refl}
use Rattle.std.specs.List.{list_any}
use Rattle.manifest.specs.declared.pod.ContainerSpec.{ContainerSpec}
use Rattle.manifest.specs.declared.pod.PodSpec.{PodSpec}
use Rattle.state_diff.specs.declared.seen.CriState.{CriState}
use Rattle.state_diff.specs.declared.seen.CriState.TheVariants.{Created, Running, Exited, Unknown}
use Rattle.state_diff.specs.declared.seen.Seen.{Seen}
use Rattle.state_diff.specs.rule.States.{is_exited}
use Rattle.tick_lines.specs.declared.listing.ListedInstance.{ListedInstance}
use Rattle.manifest.specs.declared.outcome.Outcome.{Outcome}
use Rattle.manifest.specs.declared.outcome.ProbeKind.{ProbeKind}
use Rattle.manifest.specs.declared.outcome.ProbeKind.TheVariants.{Startup, Liveness, Readiness}
use Rattle.trace.specs.declared.placing.PlacedListing.{PlacedListing}
use Rattle.trace.specs.declared.placing.PlacedResult.{PlacedResult}
use Rattle.trace.specs.declared.placing.EntrySaid.{EntrySaid}
use Rattle.trace.specs.declared.placing.PlacedEntry.{PlacedEntry}
use Rattle.observations.specs.declared.container.ContainerObs.{ContainerObs}
use Rattle.observations.specs.rule.Pods.{PodObs, no_words}
use Rattle.observations.specs.declared.resize.Resize.{Resize}
use Rattle.observations.specs.declared.tick.TickObs.{TickObs}
use Rattle.observations.specs.declared.usage.Sampling.TheVariants.{Unsaid}
use Rattle.tick_lines.specs.declared.line.TickLine.{TickLine}
use Rattle.tick_lines.specs.declared.truth.TruthMember.{TruthMember}
use Rattle.roster.specs.rule.Roll.{Roll, is_present}
use Rattle.trace.specs.rule.Placing.{is_of_probe, says_so}

abbrev pub seen_as : CriState → ListedInstance → Seen
seen_as Created r = record { attempt = r.attempt; state = Created; code = None; code_given = refl }
seen_as Running r = record { attempt = r.attempt; state = Running; code = None; code_given = refl }
seen_as Exited r = record {
  attempt = r.attempt;
  state = Exited;
  code = Some (unwrap_or r.code (pos 0));
  code_given =
      refl;
}
seen_as Unknown r = record { attempt = r.attempt; state = Unknown; code = None; code_given = refl }

-- the instance that a listing shows; a missing exit code counts as 0 until the check that rejects it
abbrev pub seen_listed : ListedInstance → Seen
seen_listed r = seen_as r.state r

-- what the listings show of the container with the number
abbrev pub seen_in : List PlacedListing → ℕ → Option Seen
seen_in [] n = None
seen_in (l ∷ ls) n = if l.container == n then Some (seen_listed l.instance) else seen_in ls n

-- the result, among these, of this probe of the container with the number
abbrev pub outcome_in : List PlacedResult → ℕ → ProbeKind → Option Outcome
outcome_in [] n probe = None
outcome_in (r ∷ rs) n probe = if is_of_probe r n probe then Some r.outcome else outcome_in rs n probe

-- the results of each of its probes
abbrev pub results_in : List PlacedResult → ℕ → List (Option Outcome)
results_in rs n = outcome_in rs n Startup ∷ outcome_in rs n Liveness ∷ outcome_in rs n Readiness ∷ []

-- what the listings and results show of each of the containers, numbered from n on
abbrev pub containers_from : List PlacedListing → List PlacedResult → ℕ → List ContainerSpec → List ContainerObs
containers_from ls rs n [] = []
containers_from ls rs n (c ∷ cs) =
    record { seen = seen_in ls n; results = results_in rs n } ∷ containers_from ls rs (n + 1) cs

-- the entry of the pod with the number
abbrev pub entry_for : List PlacedEntry → ℕ → Option PlacedEntry
entry_for [] n = None
entry_for (e ∷ es) n = if e.pod == n then Some e else entry_for es n

-- a pod without an entry has no listings, no results, no resizes and no words
abbrev pub listings_of : Option PlacedEntry → List PlacedListing
listings_of None = []
listings_of (Some e) = e.listings

abbrev pub results_of : Option PlacedEntry → List PlacedResult
results_of None = []
results_of (Some e) = e.results

abbrev pub resizes_of : Option PlacedEntry → List Resize
resizes_of None = []
resizes_of (Some e) = e.resized

abbrev pub said_from : Option PlacedEntry → EntrySaid
said_from None = record { sampling = Unsaid; words = no_words }
said_from (Some e) = e.said

-- what its entry shows of a pod
abbrev pub pod_observed : ℕ → Option PlacedEntry → PodSpec → PodObs
pod_observed at entry pod = record {
  at = at;
  containers = containers_from (listings_of entry) (results_of entry) 0 pod.containers;
  sampling = (said_from entry).sampling;
  words = (said_from entry).words;
  resized = resizes_of entry;
}

-- what the entries show of each of the pods, numbered from n on; nothing of a pod that is not present
abbrev pub pods_from : ℕ → List PlacedEntry → List (Option ℕ) → ℕ → List PodSpec → List (Option PodObs)
pods_from at es departures n [] = []
pods_from at es departures n (p ∷ ps) =
    (if is_present departures n then Some (pod_observed at (entry_for es n) p) else None)
    ∷ pods_from at es departures (n + 1) ps

-- the tick is a sync tick, unless the line has the member that denies it and the version reads that member
abbrev pub is_judged : Bool → TruthMember → Bool
is_judged heeds unjudged = not (heeds && says_so unjudged)

-- the whole tick: its entries, placed, and the line's samples of the node's signals, which count in a sync tick only
abbrev pub observed : Bool → ℕ → TickLine → List PlacedEntry → Roll → TickObs
observed heeds at written placed roll = record {
  at = at;
  pods = pods_from at placed roll.departures 0 roll.pods;
  signals = written.signals;
  after_reclaim = written.after_reclaim;
  judged = is_judged heeds written.unjudged;
}

-- an exited instance is listed without an exit code
abbrev pub lacks_code : ListedInstance → Bool
lacks_code r = is_exited r.state && is_none r.code

abbrev pub some_code_missing : List PlacedEntry → Bool
some_code_missing entries = list_any (λ e. list_any (λ l. lacks_code l.instance) e.listings) entries
