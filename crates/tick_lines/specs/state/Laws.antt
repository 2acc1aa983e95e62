-- What the definition of a tick line implies, in the words of the format.
use Rattle.std.specs.Prelude.{◌≡◌, ◌⊎◌, ◌↔◌, ℕ, true, false, List, [], ◌∷◌, Option, Some, None, option_and_then}
use Rattle.std.specs.Prelude.{Result, Ok, Err, IsTrue, codes}
use Rattle.std.specs.List.{AllByRecursion, AllZip}
use Rattle.serde_json.specs.Data.{Data, null, boolean, string, object, Items, Members, put}
use Rattle.serde_json.specs.Find.{as_array, get_member}
use Rattle.json_fields.specs.rule.Fields.{field_at, text_at, items_list}
use Rattle.observations.specs.declared.usage.Usage.{Usage}
use Rattle.observations.specs.rule.Reasons.{is_reason}
use Rattle.json_fields.specs.rule.Quantities.{quantity_in}
use Rattle.signals.specs.rule.BySignal.{of}
use Rattle.signals.specs.rule.Signals.{name_of, named, is_of_file_system}
use Rattle.signals.specs.declared.signal.Signal.{Signal}
use Rattle.tick_lines.specs.declared.entry.TickEntry.{TickEntry}
use Rattle.tick_lines.specs.declared.fault.TickLineFault.{TickLineFault}
use Rattle.tick_lines.specs.declared.fault.TickLineFault.TheVariants as faults
use Rattle.tick_lines.specs.declared.line.TickLine.{TickLine}
use Rattle.tick_lines.specs.declared.listing.Listing.{Listing}
use Rattle.tick_lines.specs.declared.probing.ProbeResult.{ProbeResult}
use Rattle.tick_lines.specs.declared.reason.ReasonMember.{ReasonMember}
use Rattle.tick_lines.specs.declared.reason.ReasonMember.TheVariants as members
use Rattle.tick_lines.specs.declared.conditions.ConditionsMember.{ConditionsMember}
use Rattle.tick_lines.specs.declared.conditions.ConditionsMember.TheVariants as statuses
use Rattle.tick_lines.specs.declared.truth.TruthMember.{TruthMember}
use Rattle.tick_lines.specs.declared.truth.TruthMember.TheVariants.{No, Yes}
use Rattle.json_fields.specs.declared.scope.Scope.{Scope}
use Rattle.tick_lines.specs.rule.Statuses.{are_statuses, are_all_statuses, statuses_in}
use Rattle.tick_lines.specs.rule.Listings.{listing_of}
use Rattle.tick_lines.specs.rule.Results.{result_of}
use Rattle.tick_lines.specs.rule.Usages.{usage_in}
use Rattle.tick_lines.specs.rule.Entries.{entry_of}
use Rattle.tick_lines.specs.state.Samples.{samples_in}
use Rattle.tick_lines.specs.rule.Line.{tick_line_of}

-- each element of an array, which may be left out, gives the one at its place
abbrev pub SaysInOrder : {A : Type 0} → (Data → Result A TickLineFault) → Option Data → List A → Type 0
SaysInOrder read None all = all ≡ []
SaysInOrder read (Some d) all =
    (items : Items) × (as_array d ≡ Some items) × AllZip (λ item x. read item ≡ Ok x) (items_list items) all

pub record InOrder : Type 0 where
  pub entries : (d : Data) (line : TickLine) → tick_line_of d ≡ Ok line
      → SaysInOrder entry_of (field_at (codes "pods") d) line.entries
  pub listings : (d : Data) (entry : TickEntry) → entry_of d ≡ Ok entry
      → SaysInOrder listing_of (field_at (codes "containers") d) entry.listings
  pub results : (d : Data) (entry : TickEntry) → entry_of d ≡ Ok entry
      → SaysInOrder result_of (field_at (codes "probes") d) entry.results

-- the pod, the containers and their results go by the texts in these fields
pub record TextsSaid : Type 0 where
  pub entry : (d : Data) (entry : TickEntry) → entry_of d ≡ Ok entry → text_at (codes "pod") d ≡ Some entry.key
  pub listing : (d : Data) (listing : Listing) → listing_of d ≡ Ok listing
      → text_at (codes "name") d ≡ Some listing.name
  pub probe_result : (d : Data) (r : ProbeResult) → result_of d ≡ Ok r
      → text_at (codes "container") d ≡ Some r.container

-- what was found is an object with this quantity under the name, in thousandths
abbrev pub HasQuantity : Option Data → List ℕ → ℕ → Type 0
HasQuantity found name n =
    (value : Data) × (option_and_then (field_at name) found ≡ Some value) × (quantity_in value ≡ Ok n)

-- a sample is exactly the quantity under the name
abbrev pub IsSample : Option Data → List ℕ → Option ℕ → Type 0
IsSample found name sample = (n : ℕ) → (sample ≡ Some n ↔ HasQuantity found name n)

-- a line has for a signal exactly the quantity under the signal's name
pub record SamplesSaid : Type 0 where
  pub signals : (d : Data) (line : TickLine) (signal : Signal) → tick_line_of d ≡ Ok line
      → IsSample (field_at (codes "signals") d) (name_of signal) (of line.signals signal)
  pub after_reclaim : (d : Data) (line : TickLine) (signal : Signal) → tick_line_of d ≡ Ok line
      → IsSample (field_at (codes "afterReclaim") d) (name_of signal) (of line.after_reclaim signal)

pub record IsUsage (d : Data) (usage : Usage) : Type 0 where
  pub memory : IsSample (Some d) (codes "memory") usage.memory
  pub volumes : IsSample (Some d) (codes "volumes") usage.volumes
  pub logs : IsSample (Some d) (codes "logs") usage.logs
  pub writable : IsSample (Some d) (codes "writable") usage.writable
  pub inodes : IsSample (Some d) (codes "inodes") usage.inodes
  pub pids : IsSample (Some d) (codes "pids") usage.pids

-- a usage that was left out is none
abbrev pub SaysUsage : Option Data → Option Usage → Type 0
SaysUsage None said = said ≡ None
SaysUsage (Some d) said = (usage : Usage) × (said ≡ Some usage) × IsUsage d usage

-- an entry has for a use exactly the quantity under the use's name
abbrev pub UsageSaid : Type 0
UsageSaid = (d : Data) (entry : TickEntry) → entry_of d ≡ Ok entry → SaysUsage (field_at (codes "usage") d) entry.usage

-- such a member means its word by true alone, and nothing by false and by no value
pub record SaysTruth (found : Option Data) (said : TruthMember) : Type 0 where
  pub yes : said ≡ Yes ↔ found ≡ Some (boolean true)
  pub no : said ≡ No ↔ ((found ≡ None) ⊎ (found ≡ Some (boolean false)))

-- an entry marks its pod as unsampled exactly if its member is true; each value except a truth value is left to be
-- rejected
abbrev pub UnsampledSaid : Type 0
UnsampledSaid = (d : Data) (entry : TickEntry) → entry_of d ≡ Ok entry
    → SaysTruth (field_at (codes "unsampled") d) entry.unsampled

-- and that its pod is being deleted
abbrev pub DeletingSaid : Type 0
DeletingSaid = (d : Data) (entry : TickEntry) → entry_of d ≡ Ok entry
    → SaysTruth (field_at (codes "deleting") d) entry.deleting

-- such a member means its word by false alone, and nothing by true and by no value
pub record SaysDenial (found : Option Data) (said : TruthMember) : Type 0 where
  pub yes : said ≡ Yes ↔ found ≡ Some (boolean false)
  pub no : said ≡ No ↔ ((found ≡ None) ⊎ (found ≡ Some (boolean true)))

-- a line marks the tick as no sync tick exactly if its member is false; each value except a truth value is left to be
-- rejected
abbrev pub JudgedSaid : Type 0
JudgedSaid = (d : Data) (line : TickLine) → tick_line_of d ≡ Ok line
    → SaysDenial (field_at (codes "judged") d) line.unjudged

-- the member gives this reason exactly if it is its text and that is a reason, and nothing by null and by no value
pub record SaysReason (found : Option Data) (said : ReasonMember) : Type 0 where
  pub reason : (reason : List ℕ) → (said ≡ members.Reason reason
      ↔ ((found ≡ Some (string reason)) × IsTrue (is_reason reason)))
  pub missing : said ≡ members.Missing ↔ found ≡ None

-- an entry gives a reason for which the node has ended its pod exactly if its member is a reason; each value except a
-- reason is left to be rejected
abbrev pub FailedSaid : Type 0
FailedSaid = (d : Data) (entry : TickEntry) → entry_of d ≡ Ok entry
    → SaysReason (field_at (codes "failed") d) entry.failed

-- the member gives the statuses of an object of true, false and null, and nothing by null and by no value; each other
-- value is kept apart
pub record SaysStatuses (found : Option Data) (said : ConditionsMember) : Type 0 where
  pub given : (members : Members) → found ≡ Some (object members) → IsTrue (are_all_statuses members)
      → said ≡ statuses.Statuses (statuses_in members)
  pub missing : said ≡ statuses.Missing ↔ found ≡ None
  pub other : (d : Data) → found ≡ Some d → are_statuses d ≡ false → said ≡ statuses.OfOtherKind

-- an entry gives the statuses of conditions that its member has; each other value is left to be rejected
abbrev pub ConditionsSaid : Type 0
ConditionsSaid = (d : Data) (entry : TickEntry) → entry_of d ≡ Ok entry
    → SaysStatuses (field_at (codes "conditions") d) entry.conditions

-- it is the name of no signal of the file systems
abbrev pub NamesNoFileSystem : List ℕ → Type 0
NamesNoFileSystem name = (signal : Signal) → named name ≡ Some signal → is_of_file_system signal ≡ false

-- the object in the field has a value under the name
abbrev pub HasValue : List ℕ → Data → List ℕ → Type 0
HasValue field d name = (value : Data) × (option_and_then (field_at name) (field_at field d) ≡ Some value)

-- a name of no signal makes the line faulty, and in `afterReclaim` one of no signal of the file systems
pub record OnlySignals : Type 0 where
  pub signals : (d : Data) (name : List ℕ) → HasValue (codes "signals") d name → named name ≡ None
      → tick_line_of d ≡ Err faults.Usage
  pub after_reclaim : (d : Data) (name : List ℕ) → HasValue (codes "afterReclaim") d name → NamesNoFileSystem name
      → tick_line_of d ≡ Err faults.Usage

-- both have the same in each of the fields
abbrev pub AreAlike : List (List ℕ) → Data → Data → Type 0
AreAlike names d e = AllByRecursion (λ name. field_at name d ≡ field_at name e) names

-- values that have the same in these fields have the same meaning
abbrev pub ReadsOnly : {A : Type 0} → List (List ℕ) → (Data → Result A TickLineFault) → Type 0
ReadsOnly names read = (d e : Data) → AreAlike names d e → read d ≡ read e

-- the fields that are read
abbrev pub line_fields : List (List ℕ)
line_fields = codes "pods" ∷ codes "signals" ∷ codes "afterReclaim" ∷ codes "judged" ∷ []

abbrev pub entry_fields : List (List ℕ)
entry_fields =
    codes "pod" ∷ codes "containers" ∷ codes "probes" ∷ codes "usage" ∷ codes "unsampled" ∷ codes "deleting"
    ∷ codes "failed" ∷ codes "conditions" ∷ codes "resized" ∷ []

abbrev pub listing_fields : List (List ℕ)
listing_fields = codes "name" ∷ codes "attempt" ∷ codes "state" ∷ codes "exitCode" ∷ []

abbrev pub result_fields : List (List ℕ)
result_fields = codes "container" ∷ codes "probe" ∷ codes "result" ∷ []

pub record OnlyTheirFields : Type 0 where
  pub line : ReadsOnly line_fields tick_line_of
  pub entry : ReadsOnly entry_fields entry_of
  pub listing : ReadsOnly listing_fields listing_of
  pub probe_result : ReadsOnly result_fields result_of

-- the object with a null under a name that it lacks has the same meaning as without it
abbrev pub IgnoresNull : {A : Type 0} → (Data → Result A TickLineFault) → Type 0
IgnoresNull read = (members : Members) (name : List ℕ) → get_member name members ≡ None
    → read (object (put name null members)) ≡ read (object members)

pub record NullIsAbsent : Type 0 where
  pub line : IgnoresNull tick_line_of
  pub entry : IgnoresNull entry_of
  pub listing : IgnoresNull listing_of
  pub probe_result : IgnoresNull result_of
  pub usage : IgnoresNull usage_in
  pub samples : (scope : Scope) → IgnoresNull (samples_in scope)

abbrev pub OneKind : Type 0
OneKind = (d : Data) (fault : TickLineFault) → tick_line_of d ≡ Err fault → fault ≡ faults.Usage
