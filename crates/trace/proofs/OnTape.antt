-- What was read of a tick line's items and placed at once is what the line shows.
use Rattle.std.proofs.Common.{◌≡◌, ◌∙◌, ◌||◌, ◌<◌, ◌≤◌, ℕ, List, [], ◌∷◌, ◌++◌, length, take, drop, Bool, true, false}
use Rattle.std.proofs.Common.{Option, Some, Result, Ok, option_map}
use Rattle.std.proofs.Common.{Err, arith, not, refl, sym, ap}
use Rattle.std.proofs.lemmas.List.{append-nil, drop_all, take_all}
use Rattle.std.specs.List.{list_any}
use Rattle.std.specs.Prelude.{slice_get, codes}
use Rattle.std.proofs.lemmas.Bool.{or_from}
use Rattle.std.proofs.lemmas.List.Elements.{All-nil, All-push}
use Rattle.std.proofs.lemmas.List.Folds.{list_any-append}
use Rattle.json_fields.specs.rule.Fields.{field_at, text_at}
use Rattle.json_fields.specs.rule.Reading.{◌>>=◌, each}
use Rattle.json_fields.proofs.Only.{same_value}
use Rattle.json_fields.proofs.Steps.{bind_ok, then_ok, there_is}
use Rattle.json_fields.specs.state.Tape.{data_at}
use Rattle.json_lines.specs.state.Lines.{Tick}
use Rattle.manifest.specs.declared.pod.PodSpec.{PodSpec}
use Rattle.observations.specs.declared.tick.TickObs.{TickObs}
use Rattle.observations.specs.declared.container.ContainerObs.{ContainerObs}
use Rattle.observations.specs.rule.Pods.{PodObs, no_words}
use Rattle.observations.specs.state.Pods.{pod_obs}
use Rattle.observations.specs.declared.usage.Sampling.TheVariants.{Unsaid}
use Rattle.observations.specs.declared.usage.Usage.{Usage}
use Rattle.roster.specs.rule.Roll.{Roll, number_of, is_present}
use Rattle.serde_json.specs.Data.{Data}
use Rattle.tick_lines.specs.declared.entry.TickEntry.{TickEntry}
use Rattle.tick_lines.specs.declared.fault.TickLineFault.{TickLineFault}
use Rattle.tick_lines.specs.declared.line.TickLine.{TickLine}
use Rattle.tick_lines.specs.declared.listing.Listing.{Listing}
use Rattle.tick_lines.specs.declared.probing.ProbeResult.{ProbeResult}
use Rattle.tick_lines.specs.declared.tape.EntryText.{EntryText}
use Rattle.tick_lines.specs.declared.tape_line.LineSamples.{LineSamples}
use Rattle.tick_lines.specs.declared.tape_line.LineText.{LineText}
use Rattle.tick_lines.specs.declared.conditions.ConditionsMember.TheVariants.{Missing as NoConditions}
use Rattle.tick_lines.specs.declared.resizes.ResizedMember.TheVariants.{Missing as NoResizes}
use Rattle.tick_lines.specs.declared.reason.ReasonMember.TheVariants.{Missing}
use Rattle.tick_lines.specs.declared.truth.TruthMember.TheVariants.{No}
use Rattle.tick_lines.specs.rule.Entries.{entry_of, entries_of}
use Rattle.tick_lines.specs.rule.Line.{tick_line_of}
use Rattle.tick_lines.specs.rule.Listings.{listing_of, listings_of}
use Rattle.tick_lines.specs.rule.Results.{result_of, results_of}
use Rattle.tick_lines.specs.state.Tape.{left_in, IsEntry, IsLine, HasSamples}
use Rattle.trace.specs.state.Ahead.{IsShown}
use Rattle.line_faults.specs.declared.fault.FaultKind.{FaultKind}
use Rattle.trace.specs.declared.placing.EntrySaid.{EntrySaid}
use Rattle.trace.specs.declared.placing.PlacedEntry.{PlacedEntry}
use Rattle.trace.specs.declared.placing.PlacedListing.{PlacedListing}
use Rattle.trace.specs.declared.placing.PlacedResult.{PlacedResult}
use Rattle.trace.specs.rule.Observed.{containers_from, pod_observed, pods_from, is_judged, lacks_code}
use Rattle.trace.specs.rule.Placing.{number_in, pod_numbered, placed_listing, placed_result, entry_of_pod}
use Rattle.trace.specs.rule.Placing.{placed_entry, placed_of, repeats, sampled_or, sampling_of, words_of, said_in}
use Rattle.trace.specs.rule.Placing.{resizes_by}
use Rattle.trace.specs.rule.Written.{is_of_other_kind, is_no_reason, are_no_statuses, are_no_resizes, has_other_kind}
use Rattle.trace.specs.rule.Written.{heeded}
use Rattle.trace.specs.state.Noted.{ListingsNoted, ResultsNoted}
use Rattle.trace.specs.state.Slots.{slots_from, has_entry}
use Rattle.trace.specs.state.Tape.{of_item, listing_read, result_read, entry_read, item_has_other_kind, EntriesNoted}
use Rattle.trace.proofs.NotedItems.{each_more}
use Rattle.trace.proofs.NotedPods.{apart_more, found_present, slots_length}
use Rattle.trace.proofs.OtherKinds.{entries_of_kind}
use Rattle.trace.proofs.TakenAhead.{shown_record}

of_item_ok : {A : Type 0} (r : Result A TickLineFault) (x : A) → of_item r ≡ Ok x → r ≡ Ok x
of_item_ok (Ok y) x e = ap Ok (same_value {E = FaultKind} y x e)
of_item_ok (Err fault) x e = absurd (cc)

-- a step that has gone well, before the rest
then_each : {A E : Type 0} (r : Result A E) (rest : Result (List A) E) (x : A) (xs : List A) → r ≡ Ok x → rest ≡ Ok xs
    → (r >>= λ y. rest >>= λ ys. Ok (y ∷ ys)) ≡ Ok (x ∷ xs)
then_each r rest x xs first others = rw (first, others) refl

-- read and placed one by one is all read, then all placed
read_then_placed : {A B : Type 0} (f : Data → Result A TickLineFault) (g : A → Result B FaultKind) (ds : List Data)
    (ys : List B) → each (λ d. of_item (f d) >>= g) ds ≡ Ok ys
    → (xs : List A) × (each f ds ≡ Ok xs) × (each g xs ≡ Ok ys)
read_then_placed f g [] ys e = ([], refl, e)
read_then_placed {A} {B} f g (d ∷ ds) ys e =
    let one = bind_ok (of_item (f d) >>= g) (λ y. each (λ c. of_item (f c) >>= g) ds >>= λ zs. Ok (y ∷ zs)) ys e in
    let rest = bind_ok (each (λ c. of_item (f c) >>= g) ds) (λ zs. Ok (one.0 ∷ zs)) ys one.2 in
    let read = bind_ok (of_item (f d)) g one.0 one.1 in
    let later = read_then_placed f g ds rest.0 rest.1 in (
      read.0 ∷ later.0,
      then_each (f d) (each f ds) read.0 later.0 (of_item_ok (f d) read.0 read.1) later.1,
      then_each (g read.0) (each g later.0) one.0 rest.0 read.2 later.2 ∙ rest.2,
    )

-- what an entry without a word says
abbrev pub said_silent : Option Usage → EntrySaid
said_silent usage = record { sampling = sampled_or Unsaid usage; words = no_words }

-- what such an entry says, where words are heeded or not
abbrev said_heeding : Bool → List (List ℕ) → Option Usage → EntrySaid
said_heeding heeds gates usage = record {
  sampling = sampling_of heeds usage No;
  words = words_of heeds gates No Missing NoConditions;
}

silent_said : (heeds : Bool) (gates : List (List ℕ)) (usage : Option Usage)
    → said_heeding heeds gates usage ≡ said_silent usage
silent_said true gates usage = refl
silent_said false gates usage = refl

abbrev placed_with : ℕ → List PlacedListing → List PlacedResult → EntrySaid → Result PlacedEntry FaultKind
placed_with n ls rs said = Ok (record { pod = n; listings = ls; results = rs; resized = []; said = said })

entry_by_parts : (heeds : Bool) (roll : Roll) (entry : TickEntry) (n : ℕ) (pod : PodSpec) (ls : List PlacedListing)
    (rs : List PlacedResult) → number_of roll entry.key ≡ Some n → slice_get roll.pods n ≡ Some pod
    → each (placed_listing pod) entry.listings ≡ Ok ls → each (placed_result pod) entry.results ≡ Ok rs
    → resizes_by heeds entry.resized ≡ []
    → placed_entry heeds roll entry ≡ placed_with n ls rs (said_in heeds pod entry)
unfolding placed_entry entry_of_pod
entry_by_parts heeds roll entry n pod ls rs number there listings results none =
    rw (number, there, listings, results, none) refl

-- of an entry without a resize
no_resizes : (heeds : Bool) → resizes_by heeds NoResizes ≡ []
no_resizes true = refl
no_resizes false = refl

-- an entry without a word
abbrev silent_entry : List ℕ → List Listing → List ProbeResult → Option Usage → TickEntry
silent_entry key listings results usage = record {
  key = key;
  listings = listings;
  results = results;
  usage = usage;
  unsampled = No;
  deleting = No;
  failed = Missing;
  conditions = NoConditions;
  resized = NoResizes;
}

entry_spoken : (d : Data) (key : List ℕ) (ws : List Listing) (ps : List ProbeResult) (text : EntryText)
    → text_at (codes "pod") d ≡ Some key → listings_of (field_at (codes "containers") d) ≡ Ok ws
    → results_of (field_at (codes "probes") d) ≡ Ok ps → IsEntry d text
    → entry_of d ≡ Ok (silent_entry key ws ps text.usage)
unfolding entry_of
entry_spoken d key ws ps text named listings results is =
    rw (named, listings, results, is.usage, is.unsampled, is.deleting, is.failed, is.conditions, is.resized) refl

-- an entry that was read in parts and placed is what its item says, placed
entry_placed : (heeds : Bool) (roll : Roll) (d : Data) (text : EntryText) (n : ℕ) (pod : PodSpec)
    (ls : List PlacedListing) (rs : List PlacedResult) → IsEntry d text → number_of roll text.key.now ≡ Some n
    → slice_get roll.pods n ≡ Some pod
    → each (listing_read pod) (left_in text.listings) ≡ Ok ls → each (result_read pod) (left_in text.results) ≡ Ok rs
    → entry_read heeds roll d ≡ placed_with n ls rs (said_silent text.usage)
entry_placed heeds roll d text n pod ls rs is number there read_listings read_results =
    let listings = read_then_placed listing_of (placed_listing pod) (left_in text.listings) ls read_listings in
    let results = read_then_placed result_of (placed_result pod) (left_in text.results) rs read_results in
    let written = silent_entry text.key.now listings.0 results.0 text.usage in
    let listed : listings_of (field_at (codes "containers") d) ≡ Ok listings.0 = rw is.listings listings.1 in
    let probed : results_of (field_at (codes "probes") d) ≡ Ok results.0 = rw is.results results.1 in
    rw (entry_spoken d text.key.now listings.0 results.0 text is.key listed probed is)
    (entry_by_parts heeds roll written n pod ls rs number there listings.2 results.2 (no_resizes heeds)
    ∙ ap (placed_with n ls rs) (silent_said heeds pod.gates text.usage))

-- ---- all entries

numbers_known : (heeds : Bool) (roll : Roll) (es : List TickEntry) (placed : List PlacedEntry)
    → each (placed_entry heeds roll) es ≡ Ok placed
    → (ns : List ℕ) × (each (number_in roll) es ≡ Ok ns)
unfolding placed_entry
numbers_known heeds roll [] placed e = ([], refl)
numbers_known heeds roll (x ∷ xs) placed e =
    let one = bind_ok (placed_entry heeds roll x) (λ y. each (placed_entry heeds roll) xs >>= λ ys. Ok (y ∷ ys)) placed
    e in
    let rest = bind_ok (each (placed_entry heeds roll) xs) (λ ys. Ok (one.0 ∷ ys)) placed one.2 in
    let number = bind_ok (number_in roll x) (λ n. entry_of_pod heeds roll.pods n x) one.0 one.1 in
    let later = numbers_known heeds roll xs rest.0 rest.1 in (
      number.0 ∷ later.0,
      then_each (number_in roll x) (each (number_in roll) xs) number.0 later.0 number.1 later.1,
    )

all_placed : (heeds : Bool) (roll : Roll) (es : List TickEntry) (placed : List PlacedEntry)
    → each (placed_entry heeds roll) es ≡ Ok placed → placed_of heeds roll es ≡ Ok placed
unfolding placed_of
all_placed heeds roll es placed e =
    let numbers = numbers_known heeds roll es placed e in
    then_ok (each (number_in roll) es) (λ ns. each (placed_entry heeds roll) es) numbers.0 numbers.1 ∙ e

-- what a line says whose entries and samples were read in parts
abbrev line_written : List TickEntry → LineText → LineSamples → TickLine
line_written es line samples = record {
  entries = es;
  signals = samples.signals;
  after_reclaim = samples.after_reclaim;
  unjudged = line.unjudged;
}

line_spoken : (d : Data) (es : List TickEntry) (line : LineText) (samples : LineSamples)
    → entries_of (field_at (codes "pods") d) ≡ Ok es → IsLine d line → HasSamples line samples
    → tick_line_of d ≡ Ok (line_written es line samples)
unfolding tick_line_of
line_spoken d es line samples entries is has =
    rw (
      entries,
      same_value {E = TickLineFault} _ (option_map data_at line.signals) is.signals,
      has.signals,
      same_value {E = TickLineFault} _ (option_map data_at line.after_reclaim) is.after_reclaim,
      has.after_reclaim,
      same_value {E = TickLineFault} _ line.unjudged is.unjudged,
    ) refl

-- where no member is of another kind, none is refused
kinds_heeded : (heeds : Bool) (written : TickLine) → is_of_other_kind written.unjudged ≡ false
    → has_other_kind written.entries ≡ false → heeded heeds written ≡ Ok written
kinds_heeded true written unjudged entries = rw (unjudged, entries) refl
kinds_heeded false written unjudged entries = refl

-- ---- entries that are noted as they come

none_more : {A : Type 0} (test : A → Bool) (xs : List A) (x : A) → list_any test xs ≡ false → test x ≡ false
    → list_any test (xs ++ x ∷ []) ≡ false
none_more test xs x none last =
    list_any-append test xs (x ∷ []) ∙ or_from (list_any test xs) (test x || false) none (rw last refl)

pub none_noted : (heeds : Bool) (roll : Roll) (at : ℕ) (slots : List (Option PodObs))
    → slots ≡ slots_from at [] 0 roll.pods → EntriesNoted heeds roll at [] slots
none_noted heeds roll at slots noted = record {
  entries = [];
  read = refl;
  once = refl;
  apart = refl;
  coded = refl;
  known = refl;
  present = All-nil _;
  noted = noted;
}

-- the entry of the pod with the number
abbrev pub entry_with : ℕ → List PlacedListing → List PlacedResult → EntryText → PlacedEntry
entry_with n ls rs text = record {
  pod = n;
  listings = ls;
  results = rs;
  resized = [];
  said = said_silent text.usage;
}

-- the entries with one more
pub one_more_noted : (heeds : Bool) (roll : Roll) (at : ℕ) (ds : List Data) (d : Data)
    (old new : List (Option PodObs))
    (text : EntryText) (n : ℕ) (pod : PodSpec) (listed all : List ContainerObs)
    (ls : ListingsNoted pod (left_in text.listings) listed)
    → (rs : ResultsNoted pod ls.listings (left_in text.results) all) → (before : EntriesNoted heeds roll at ds old)
    → IsEntry d text → number_of roll text.key.now ≡ Some n → pod_numbered roll.pods n ≡ Ok pod
    → has_entry before.entries n ≡ false
    → new ≡ slots_from at (before.entries
    ++ entry_with n ls.listings rs.results text ∷ []) 0 roll.pods
    → EntriesNoted heeds roll at (ds ++ d ∷ []) new
one_more_noted heeds roll at ds d old new text n pod listed all ls rs before is number numbered free noted =
    let there : slice_get roll.pods n ≡ Some pod = there_is _ (slice_get roll.pods n) pod numbered in
    let entry = entry_with n ls.listings rs.results text in
    let placed = entry_placed heeds roll d text n pod ls.listings rs.results is number there ls.read rs.read in
    record {
      entries = before.entries ++ entry ∷ [];
      read = each_more (entry_read heeds roll) ds d before.entries entry before.read placed;
      once = apart_more before.entries entry before.once free;
      apart = none_more repeats before.entries entry before.apart (rw (ls.once, rs.once) refl);
      coded = none_more (λ (e : PlacedEntry). list_any (λ l. lacks_code l.instance) e.listings) before.entries entry
          before.coded ls.coded;
      known = none_more item_has_other_kind ds d before.known
          (or_from _ _ (or_from _ _ (or_from _ _ (or_from _ _ (ap is_of_other_kind is.unsampled)
          (ap is_of_other_kind is.deleting)) (ap is_no_reason is.failed)) (ap are_no_statuses is.conditions))
          (ap are_no_resizes is.resized));
      present = All-push (λ (e : PlacedEntry). is_present roll.departures e.pod ≡ true) before.entries entry
          before.present (found_present roll text.key.now n number).0;
      noted = noted;
    }

-- what was written over the whole of a list is the list
pub written_over : {A : Type 0} (count : ℕ) (new old : List A) → count ≡ length old → length new ≡ length old
    → take count (new ++ drop (length new) old) ≡ new
written_over count new old all same =
    let none : drop (length new) old ≡ [] = drop_all (length new) old (omega (arith, same)) in
    let enough : length new ≤ count = omega (arith, all, same) in
    rw (none, append-nil new) (take_all count new enough)

pub not_false : (b : Bool) → not b ≡ true → b ≡ false
not_false true e = sym e
not_false false e = refl

-- what was noted of an entry beside the earlier ones
pub entry_noted : (heeds : Bool) (roll : Roll) (at : ℕ) (ds : List Data) (d : Data)
    (old new : List (Option PodObs)) (text : EntryText)
    (n : ℕ) (pod : PodSpec) (listed all : List ContainerObs) (shown : PodObs)
    → ListingsNoted pod (left_in text.listings) listed
    → ((ls : List PlacedListing) → listed ≡ containers_from ls [] 0 pod.containers
    → ResultsNoted pod ls (left_in text.results) all)
    → EntriesNoted heeds roll at ds old → IsEntry d text → number_of roll text.key.now ≡ Some n
    → pod_numbered roll.pods n ≡ Ok pod → shown ≡ pod_obs at all (sampled_or Unsaid text.usage)
    → ((es : List PlacedEntry) → old ≡ slots_from at es 0 roll.pods → n < length roll.pods → has_entry es n ≡ false)
    → ((es : List PlacedEntry) (e : PlacedEntry) → old ≡ slots_from at es 0 roll.pods → e.pod ≡ n
    → slice_get roll.pods n ≡ Some pod → shown ≡ pod_observed at (Some e) pod
    → new ≡ slots_from at (es ++ e ∷ []) 0 roll.pods)
    → EntriesNoted heeds roll at (ds ++ d ∷ []) new
entry_noted heeds roll at ds d old new text n pod listed all shown listings results before is number known made free
    noted =
    let rs = results listings.listings listings.noted in
    let there : slice_get roll.pods n ≡ Some pod = there_is _ (slice_get roll.pods n) pod known in
    let entry = entry_with n listings.listings rs.results text in
    let shows : shown ≡ pod_observed at (Some entry) pod = made ∙ rw rs.noted refl in
    one_more_noted heeds roll at ds d old new text n pod listed all listings rs before is number known
    (free before.entries before.noted (found_present roll text.key.now n number).1)
    (noted before.entries entry before.noted refl there shows)

-- this many pods, this many places
pub noted_length : (heeds : Bool) (roll : Roll) (at : ℕ) (ds : List Data) (slots : List (Option PodObs))
    → EntriesNoted heeds roll at ds slots → length slots ≡ length roll.pods
noted_length heeds roll at ds slots is = ap (λ (os : List (Option PodObs)). length os) is.noted
    ∙ slots_length at is.entries 0 roll.pods

-- a line whose entries are noted shows what they show, and nothing of the containers of the other pods
pub line_shown : (heeds : Bool) (roll : Roll) (d : Data) (moment : Option ℕ) (line : LineText) (samples : LineSamples)
    (at : ℕ) (slots : List (Option PodObs)) (tick : TickObs)
    (noted : EntriesNoted heeds roll at (left_in line.entries) slots) → moment ≡ Some at
    → IsLine d line → is_of_other_kind line.unjudged ≡ false → HasSamples line samples
    → tick ≡ record {
      at = at;
      pods = pods_from at noted.entries roll.departures 0 roll.pods;
      signals = samples.signals;
      after_reclaim = samples.after_reclaim;
      judged = is_judged heeds line.unjudged;
    }
    → IsShown heeds roll (Tick moment (tick_line_of d)) tick
line_shown heeds roll d moment line samples at slots tick noted early is kind has shows =
    let items = left_in line.entries in
    let entries = read_then_placed entry_of (placed_entry heeds roll) items noted.entries noted.read in
    let listed : entries_of (field_at (codes "pods") d) ≡ Ok entries.0 = rw is.entries entries.1 in
    let written = line_written entries.0 line samples in
    shown_record heeds roll moment (tick_line_of d) at written noted.entries tick early
    (line_spoken d entries.0 line samples listed is has)
    (kinds_heeded heeds written kind (entries_of_kind items entries.0 entries.1 noted.known))
    (all_placed heeds roll entries.0 noted.entries entries.2) noted.once noted.apart noted.coded shows
