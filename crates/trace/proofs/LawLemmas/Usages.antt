-- What a tick shows of a pod's samples and words and of the node's signals is what its line tells.
use Rattle.std.proofs.Common.{◌≡◌, ◌∙◌, ℕ, zero, suc, Bool, true, false, List, [], ◌∷◌, Option, Some, None, Result, Ok}
use Rattle.std.proofs.Common.{Err, refl, ap, sym}
use Rattle.std.specs.Prelude.{◌↔◌, ◌&&◌, not, slice_get, option_map, codes}
use Rattle.std.proofs.lemmas.Option.{same_Some}
use Rattle.json_fields.specs.rule.Fields.{field_at}
use Rattle.json_fields.specs.rule.Reading.{◌>>=◌, each, refused_if}
use Rattle.json_fields.proofs.Only.{same_value}
use Rattle.json_fields.proofs.Steps.{bind_ok, there_is}
use Rattle.manifest.specs.declared.pod.PodSpec.{PodSpec}
use Rattle.manifest_fields.specs.declared.fault.Field.TheVariants as fields
use Rattle.manifest_fields.specs.declared.fault.ManifestFault.TheVariants.{WrongKind}
use Rattle.node_config.specs.declared.node.Version.{Version}
use Rattle.node_config.specs.declared.node.Version.TheVariants.{One, Two, Three}
use Rattle.observations.specs.rule.Pods.{PodObs}
use Rattle.observations.specs.rule.Observations.{shown_of}
use Rattle.observations.specs.declared.words.PodWords.{PodWords}
use Rattle.observations.specs.rule.Pods.{no_words}
use Rattle.roster.specs.rule.Roll.{Roll, number_of, is_present}
use Rattle.observations.specs.declared.usage.Sampling.{Sampling}
use Rattle.observations.specs.declared.usage.Sampling.TheVariants.{Unsaid, Unsampled, Sampled}
use Rattle.observations.specs.declared.usage.Usage.{Usage}
use Rattle.tick_lines.specs.declared.entry.TickEntry.{TickEntry}
use Rattle.tick_lines.specs.declared.fault.TickLineFault.{TickLineFault}
use Rattle.tick_lines.specs.declared.line.TickLine.{TickLine}
use Rattle.tick_lines.specs.declared.reason.ReasonMember.{ReasonMember}
use Rattle.tick_lines.specs.declared.reason.ReasonMember.TheVariants as reasons
use Rattle.tick_lines.specs.declared.truth.TruthMember.{TruthMember}
use Rattle.tick_lines.specs.declared.truth.TruthMember.TheVariants.{No, Yes, OfOtherKind}
use Rattle.tick_lines.specs.rule.Line.{tick_line_of}
use Rattle.tick_lines.specs.rule.Truths.{truth_of}
use Rattle.tick_lines.proofs.Quantities.{samples_said}
use Rattle.tick_lines.proofs.Truths.{says_truth}
use Rattle.line_faults.specs.declared.fault.FaultKind.{FaultKind}
use Rattle.line_faults.specs.declared.fault.FaultKind.TheVariants as faults
use Rattle.line_faults.specs.declared.fault.FaultKind.TheVariants.{StrangerPod}
use Rattle.trace.specs.declared.placing.EntrySaid.{EntrySaid}
use Rattle.trace.specs.declared.placing.PlacedEntry.{PlacedEntry}
use Rattle.trace.specs.rule.Observed.{said_from, entry_for, observed}
use Rattle.trace.specs.rule.Placing.{has_twice, are_of_one_pod, number_in, sampling_of, entry_of_pod, placed_entry}
use Rattle.tick_lines.specs.declared.conditions.ConditionsMember.{ConditionsMember}
use Rattle.trace.specs.rule.Placing.{placed_of, said_in, words_of, says_so}
use Rattle.trace.specs.rule.Pod.{pod_from, spared_by}
use Rattle.trace.specs.rule.TraceSoFar.{heeds_words}
use Rattle.trace.specs.rule.Written.{is_of_other_kind, line_has_other_kind, written_in}
use Rattle.trace.specs.state.Laws.{Tells, sampling_shown_of, UsageShown, SaysUnsampled, UnsampledShown, SignalsShown}
use Rattle.trace.specs.state.Laws.{DeletingShown, FailedShown, JudgedShown, SparedSaid}
use Rattle.trace.proofs.Placed.{entry_says}
use Rattle.trace.proofs.LawLemmas.Listings.{entry_found, entry_given, pod_shown}

-- what an entry says of samples, where there is one
abbrev says_of : Option PlacedEntry → Sampling
says_of entry = (said_from entry).sampling

sampling_is : (heeds : Bool) (at : ℕ) (written : TickLine) (es : List PlacedEntry) (roll : Roll) (n : ℕ) (pod : PodSpec)
    → slice_get roll.pods n ≡ Some pod → is_present roll.departures n ≡ true
    → sampling_shown_of (observed heeds at written es roll) n ≡ Some (says_of (entry_for es n))
sampling_is heeds at written es roll n pod here present =
    ap (λ (o : Option PodObs). option_map (λ (p : PodObs). p.sampling) o)
    (pod_shown heeds at written es roll n pod here present)

tells : (es : List PlacedEntry) (n : ℕ) (says : Sampling) (entry : Option PlacedEntry) → (says ≡ Unsaid → ⊥)
    → entry_for es n ≡ entry → says_of entry ≡ says → Tells es n says
tells es n says None some is e = absurd (some (sym e))
tells es n says (Some entry) some is e =
    let found = entry_found es n entry is in
    (found.0, entry, found.1, found.2, e)

told : (es : List PlacedEntry) (n : ℕ) (says : Sampling) → has_twice are_of_one_pod es ≡ false → Tells es n says
    → says_of (entry_for es n) ≡ says
told es n says once (k, entry, here, is, given) = ap says_of (entry_given es n entry once k here is) ∙ given

-- what is shown of samples, where something is, is what the pod's entry tells
shown_told : (heeds : Bool) (at : ℕ) (written : TickLine) (es : List PlacedEntry) (roll : Roll) (n : ℕ) (pod : PodSpec)
    (says : Sampling) → (says ≡ Unsaid → ⊥) → has_twice are_of_one_pod es ≡ false
    → slice_get roll.pods n ≡ Some pod → is_present roll.departures n ≡ true
    → (sampling_shown_of (observed heeds at written es roll) n ≡ Some says ↔ Tells es n says)
shown_told heeds at written es roll n pod says some once here present =
    let is = sampling_is heeds at written es roll n pod here present in (
      λ e. tells es n says (entry_for es n) some refl (same_Some (says_of (entry_for es n)) says (sym is ∙ e)),
      λ given. is ∙ ap Some (told es n says once given),
    )

pub usage_shown : UsageShown
usage_shown heeds at written es roll n pod usage once here present =
    shown_told heeds at written es roll n pod (Sampled usage) (λ e. absurd (cc)) once here present

-- ---- that a pod has no sample

-- what is read of the items of a list stands at their places
item_of : {A B E : Type 0} (f : A → Result B E) (xs : List A) (ys : List B) (k : ℕ) (y : B) → each f xs ≡ Ok ys
    → slice_get ys k ≡ Some y → (x : A) × (slice_get xs k ≡ Some x) × (f x ≡ Ok y)
item_of {B = B} {E = E} f [] ys k y e here =
    let gone : slice_get [] k ≡ Some y = ap (λ (zs : List B). slice_get zs k) (same_value {E = E} [] ys e) ∙ here in
    absurd (cc)
item_of {B = B} {E = E} f (x ∷ xs) ys zero y e here =
    let one = bind_ok (f x) (λ z. each f xs >>= λ zs. Ok (z ∷ zs)) ys e in
    let rest = bind_ok (each f xs) (λ zs. Ok (one.0 ∷ zs)) ys one.2 in
    let same = same_value {E = E} (one.0 ∷ rest.0) ys rest.2 in
    (x, refl, one.1 ∙ ap Ok (same_Some one.0 y (ap (λ (zs : List B). slice_get zs 0) same ∙ here)))
item_of {B = B} {E = E} f (x ∷ xs) ys (suc k) y e here =
    let one = bind_ok (f x) (λ z. each f xs >>= λ zs. Ok (z ∷ zs)) ys e in
    let rest = bind_ok (each f xs) (λ zs. Ok (one.0 ∷ zs)) ys one.2 in
    let same = same_value {E = E} (one.0 ∷ rest.0) ys rest.2 in
    item_of f xs rest.0 k y rest.1 (ap (λ (zs : List B). slice_get zs (suc k)) same ∙ here)

read_of : {A B E : Type 0} (f : A → Result B E) (xs : List A) (ys : List B) (k : ℕ) (x : A) → each f xs ≡ Ok ys
    → slice_get xs k ≡ Some x → (y : B) × (slice_get ys k ≡ Some y) × (f x ≡ Ok y)
read_of f [] ys k x e here = absurd (cc)
read_of {B = B} {E = E} f (z ∷ xs) ys zero x e here =
    let one = bind_ok (f z) (λ y. each f xs >>= λ zs. Ok (y ∷ zs)) ys e in
    let rest = bind_ok (each f xs) (λ zs. Ok (one.0 ∷ zs)) ys one.2 in
    let same = same_value {E = E} (one.0 ∷ rest.0) ys rest.2 in
    (one.0, sym (ap (λ (zs : List B). slice_get zs 0) same), ap f (sym (same_Some z x here)) ∙ one.1)
read_of {B = B} {E = E} f (z ∷ xs) ys (suc k) x e here =
    let one = bind_ok (f z) (λ y. each f xs >>= λ zs. Ok (y ∷ zs)) ys e in
    let rest = bind_ok (each f xs) (λ zs. Ok (one.0 ∷ zs)) ys one.2 in
    let same = same_value {E = E} (one.0 ∷ rest.0) ys rest.2 in
    let later = read_of f xs rest.0 k x rest.1 here in
    (later.0, sym (ap (λ (zs : List B). slice_get zs (suc k)) same) ∙ later.1, later.2)

all_read : (heeds : Bool) (roll : Roll) (entries : List TickEntry) (es : List PlacedEntry)
    → placed_of heeds roll entries ≡ Ok es → each (placed_entry heeds roll) entries ≡ Ok es
unfolding placed_of
all_read heeds roll entries es e =
    (bind_ok (each (number_in roll) entries) (λ numbers. each (placed_entry heeds roll) entries) es e).2

-- an entry is placed by the number of its pod, and says what was written
placed_says : (heeds : Bool) (roll : Roll) (entry : TickEntry) (e : PlacedEntry) → placed_entry heeds roll entry ≡ Ok e
    → (number_of roll entry.key ≡ Some e.pod) × (pod : PodSpec) × (said_in heeds pod entry ≡ e.said)
unfolding placed_entry
placed_says heeds roll entry e is =
    let number = bind_ok (number_in roll entry) (λ n. entry_of_pod heeds roll.pods n entry) e is in
    let says = entry_says heeds roll.pods number.0 entry e number.2 in
    (there_is StrangerPod (number_of roll entry.key) number.0 number.1 ∙ ap Some says.1, says.2, says.3)

says_none : (heeds : Bool) (usage : Option Usage) (unsampled : TruthMember)
    → sampling_of heeds usage unsampled ≡ Unsampled → (heeds ≡ true) × (usage ≡ None) × (unsampled ≡ Yes)
says_none heeds (Some usage) unsampled e = absurd (cc)
says_none true None No e = absurd (cc)
says_none true None Yes e = (refl, refl, refl)
says_none true None OfOtherKind e = absurd (cc)
says_none false None unsampled e = absurd (cc)

in_three : (version : Option Version) → heeds_words version ≡ true → version ≡ Some Three
in_three None e = absurd (cc)
in_three (Some One) e = absurd (cc)
in_three (Some Two) e = absurd (cc)
in_three (Some Three) e = refl

none_said : (version : Option Version) (pod : PodSpec) (entry : TickEntry) → version ≡ Some Three
    → entry.unsampled ≡ Yes → entry.usage ≡ None → (said_in (heeds_words version) pod entry).sampling ≡ Unsampled
none_said version pod entry three says alone =
    ap (λ (v : Option Version). (said_in (heeds_words v) pod entry).sampling) three
    ∙ ap (λ (usage : Option Usage). sampling_of true usage entry.unsampled) alone
    ∙ ap (λ (unsampled : TruthMember). sampling_of true None unsampled) says

told_by : (version : Option Version) (roll : Roll) (entries : List TickEntry) (es : List PlacedEntry) (n : ℕ)
    → each (placed_entry (heeds_words version) roll) entries ≡ Ok es → Tells es n Unsampled
    → (version ≡ Some Three) × SaysUnsampled roll entries n
told_by version roll entries es n all (k, entry, there, is, given) =
    let heeds = heeds_words version in
    let w = item_of (placed_entry heeds roll) entries es k entry all there in
    let says = placed_says heeds roll w.0 entry w.2 in
    let none = says_none heeds w.0.usage w.0.unsampled (ap (λ (s : EntrySaid). s.sampling) says.2 ∙ given) in (
      in_three version none.0,
      record {
        k = k;
        entry = w.0;
        here = w.1;
        known = says.0 ∙ ap Some is;
        says = none.2;
        alone = none.1;
      },
    )

tells_it : (version : Option Version) (roll : Roll) (entries : List TickEntry) (es : List PlacedEntry) (n : ℕ)
    → each (placed_entry (heeds_words version) roll) entries ≡ Ok es → version ≡ Some Three
    → SaysUnsampled roll entries n → Tells es n Unsampled
tells_it version roll entries es n all three w =
    let heeds = heeds_words version in
    let placed = read_of (placed_entry heeds roll) entries es w.k w.entry all w.here in
    let says = placed_says heeds roll w.entry placed.0 placed.2 in (
      w.k,
      placed.0,
      placed.1,
      same_Some placed.0.pod n (sym says.0 ∙ w.known),
      ap (λ (s : EntrySaid). s.sampling) (sym says.2) ∙ none_said version says.1 w.entry three w.says w.alone,
    )

pub unsampled_shown : UnsampledShown
unsampled_shown version at written es roll n pod places once here present =
    let all = all_read (heeds_words version) roll written.entries es places in
    let shown = shown_told (heeds_words version) at written es roll n pod Unsampled (λ e. absurd (cc)) once here
    present in (
      λ e. told_by version roll written.entries es n all (shown.0 e),
      λ is. shown.1 (tells_it version roll written.entries es n all is.0 is.1),
    )

-- ---- the words on a pod

-- an entry of the pod with the number says this in the word
abbrev Words : {X : Type 0} → (PodWords → X) → List PlacedEntry → ℕ → X → Type 0
Words word es n x = (k : ℕ) × (entry : PlacedEntry) × (slice_get es k ≡ Some entry) × (entry.pod ≡ n)
    × (word entry.said.words ≡ x)

-- the word does not depend on the pod's gates
abbrev SaysAlone : {X : Type 0} → (PodWords → X) → Type 0
SaysAlone word = (heeds : Bool) (gates others : List (List ℕ)) (deleting : TruthMember) (failed : ReasonMember)
    (conditions : ConditionsMember)
    → word (words_of heeds gates deleting failed conditions) ≡ word (words_of heeds others deleting failed conditions)

-- an entry of a line, of the pod with this number, says it
abbrev Written : {X : Type 0} → (PodWords → X) → Bool → Roll → List TickEntry → ℕ → X → Type 0
Written word heeds roll entries n x = (k : ℕ) × (entry : TickEntry) × (slice_get entries k ≡ Some entry)
    × (number_of roll entry.key ≡ Some n)
    × (word (words_of heeds [] entry.deleting entry.failed entry.conditions) ≡ x)

word_found : {X : Type 0} (word : PodWords → X) (x : X) (es : List PlacedEntry) (n : ℕ) (entry : Option PlacedEntry)
    → (word no_words ≡ x → ⊥) → entry_for es n ≡ entry → word (said_from entry).words ≡ x → Words word es n x
word_found word x es n None some is e = absurd (some e)
word_found word x es n (Some entry) some is e =
    let found = entry_found es n entry is in
    (found.0, entry, found.1, found.2, e)

word_written : {X : Type 0} (word : PodWords → X) → SaysAlone word → (x : X) (heeds : Bool) (roll : Roll)
    (entries : List TickEntry)
    (es : List PlacedEntry) (n : ℕ) → each (placed_entry heeds roll) entries ≡ Ok es → Words word es n x
    → Written word heeds roll entries n x
word_written word alone x heeds roll entries es n all (k, entry, there, is, given) =
    let w = item_of (placed_entry heeds roll) entries es k entry all there in
    let says = placed_says heeds roll w.0 entry w.2 in (
      k,
      w.0,
      w.1,
      says.0 ∙ ap Some is,
      alone heeds [] says.1.gates w.0.deleting w.0.failed w.0.conditions
          ∙ ap (λ (s : EntrySaid). word s.words) says.2 ∙ given,
    )

word_placed : {X : Type 0} (word : PodWords → X) → SaysAlone word → (x : X) (heeds : Bool) (roll : Roll)
    (entries : List TickEntry)
    (es : List PlacedEntry) (n : ℕ) → each (placed_entry heeds roll) entries ≡ Ok es
    → Written word heeds roll entries n x → Words word es n x
word_placed word alone x heeds roll entries es n all (k, entry, here, known, given) =
    let placed = read_of (placed_entry heeds roll) entries es k entry all here in
    let says = placed_says heeds roll entry placed.0 placed.2 in (
      k,
      placed.0,
      placed.1,
      same_Some placed.0.pod n (sym says.0 ∙ known),
      ap (λ (s : EntrySaid). word s.words) (sym says.2)
          ∙ alone heeds says.1.gates [] entry.deleting entry.failed entry.conditions ∙ given,
    )

-- what is shown of a word, where something is, is what an entry of the pod says in it
word_shown : {X : Type 0} (word : PodWords → X) → SaysAlone word → (x : X) (heeds : Bool) (at : ℕ) (written : TickLine)
    (es : List PlacedEntry) (roll : Roll) (n : ℕ) (pod : PodSpec) → (word no_words ≡ x → ⊥)
    → placed_of heeds roll written.entries ≡ Ok es → has_twice are_of_one_pod es ≡ false
    → slice_get roll.pods n ≡ Some pod → is_present roll.departures n ≡ true
    → (option_map (λ (p : PodObs). word p.words) (shown_of (observed heeds at written es roll) n) ≡ Some x
    ↔ Written word heeds roll written.entries n x)
word_shown {X} word alone x heeds at written es roll n pod some places once here present =
    let all = all_read heeds roll written.entries es places in
    let is : option_map (λ (p : PodObs). word p.words) (shown_of (observed heeds at written es roll) n)
    ≡ Some (word (said_from (entry_for es n)).words) =
    ap (λ (o : Option PodObs). option_map (λ (p : PodObs). word p.words) o)
    (pod_shown heeds at written es roll n pod here present) in (
      λ e. word_written word alone x heeds roll written.entries es n all
          (word_found word x es n (entry_for es n) some refl
          (same_Some (word (said_from (entry_for es n)).words) x (sym is ∙ e))),
      λ says. let w = word_placed word alone x heeds roll written.entries es n all says in
          is ∙ ap (λ (o : Option PlacedEntry). Some (word (said_from o).words))
          (entry_given es n w.1 once w.0 w.2 w.3) ∙ ap Some w.4,
    )

-- that a pod is being deleted
deleting_said : (heeds : Bool) (deleting : TruthMember) (failed : ReasonMember) (conditions : ConditionsMember)
    → (words_of heeds [] deleting failed conditions).deleting ≡ true → (heeds ≡ true) × (deleting ≡ Yes)
deleting_said true No failed conditions e = absurd (cc)
deleting_said true Yes failed conditions e = (refl, refl)
deleting_said true OfOtherKind failed conditions e = absurd (cc)
deleting_said false deleting failed conditions e = absurd (cc)

pub deleting_shown : DeletingShown
deleting_shown version at written es roll n pod places once here present =
    let heeds = heeds_words version in
    let shown = word_shown (λ (w : PodWords). w.deleting) (λ h g o d f c. refl) true heeds at written es roll n pod
    (λ e. absurd (cc)) places
    once here present in (
      (λ e.
          let w = shown.0 e in
          let said = deleting_said heeds (w.1).deleting (w.1).failed (w.1).conditions w.4 in
          (in_three version said.0, record { k = w.0; entry = w.1; here = w.2; known = w.3; says = said.1 })),
      (λ (three, w). shown.1 (
        w.k,
        w.entry,
        w.here,
        w.known,
        ap (λ (v : Option Version). (words_of (heeds_words v) [] w.entry.deleting w.entry.failed
            w.entry.conditions).deleting) three
            ∙ ap (λ (member : TruthMember). (words_of true [] member w.entry.failed w.entry.conditions).deleting)
            w.says,
      )),
    )

-- that the node has ended it
failed_said : (heeds : Bool) (deleting : TruthMember) (failed : ReasonMember) (conditions : ConditionsMember)
    (reason : List ℕ) → (words_of heeds [] deleting failed conditions).failed ≡ Some reason
    → (heeds ≡ true) × (failed ≡ reasons.Reason reason)
failed_said true deleting reasons.Missing conditions reason e = absurd (cc)
failed_said true deleting (reasons.Reason other) conditions reason e =
    (refl, ap (λ (r : List ℕ). reasons.Reason r) (same_Some other reason e))
failed_said true deleting reasons.OfOtherKind conditions reason e = absurd (cc)
failed_said false deleting failed conditions reason e = absurd (cc)

pub failed_shown : FailedShown
failed_shown version at written es roll n pod reason places once here present =
    let heeds = heeds_words version in
    let shown = word_shown (λ (w : PodWords). w.failed) (λ h g o d f c. refl) (Some reason) heeds at written es roll n
    pod
    (λ e. absurd (cc)) places once here present in (
      (λ e.
          let w = shown.0 e in
          let said = failed_said heeds (w.1).deleting (w.1).failed (w.1).conditions reason w.4 in
          (in_three version said.0, record { k = w.0; entry = w.1; here = w.2; known = w.3; says = said.1 })),
      (λ (three, w). shown.1 (
        w.k,
        w.entry,
        w.here,
        w.known,
        ap (λ (v : Option Version). (words_of (heeds_words v) [] w.entry.deleting w.entry.failed
            w.entry.conditions).failed) three
            ∙ ap (λ (member : ReasonMember). (words_of true [] w.entry.deleting member w.entry.conditions).failed)
            w.says,
      )),
    )

-- a tick line that is taken is as it is read
as_read : (heeds : Bool) (r : Result TickLine TickLineFault) (written : TickLine) → written_in heeds r ≡ Ok written
    → r ≡ Ok written
as_read heeds (Ok x) written e =
    let known = bind_ok (refused_if (heeds && line_has_other_kind x) faults.Usage) (λ known. Ok x) written e in
    ap Ok (same_value {E = FaultKind} x written known.2)
as_read heeds (Err fault) written e = absurd (cc)

pub signals_shown : SignalsShown
signals_shown = record {
  signals = λ heeds d at written placed roll signal e. samples_said.signals d written signal
      (as_read heeds (tick_line_of d) written e);
  after_reclaim = λ heeds d at written placed roll signal e. samples_said.after_reclaim d written signal
      (as_read heeds (tick_line_of d) written e);
}

-- that the node doesn't judge a tick
judged_said : (heeds : Bool) (unjudged : TruthMember) → not (heeds && says_so unjudged) ≡ false
    → (heeds ≡ true) × (unjudged ≡ Yes)
judged_said true No e = absurd (cc)
judged_said true Yes e = (refl, refl)
judged_said true OfOtherKind e = absurd (cc)
judged_said false unjudged e = absurd (cc)

pub judged_shown : JudgedShown
judged_shown version at written es roll = (
  (λ e.
      let said = judged_said (heeds_words version) written.unjudged e in
      (in_three version said.0, said.1)),
  (λ (three, says).
      ap (λ (v : Option Version). not (heeds_words v && says_so written.unjudged)) three
      ∙ ap (λ (member : TruthMember). not (true && says_so member)) says),
)

-- that the node spares a pod
spared_as : (heeds : Bool) (spared : TruthMember) (pod next : PodSpec) → spared_by heeds spared pod ≡ Ok next
    → next.spared ≡ (heeds && says_so spared)
spared_as heeds spared pod next e =
    let known = bind_ok (refused_if (heeds && is_of_other_kind spared) (faults.Manifest (WrongKind fields.Spared)))
    (λ known. Ok (record pod { spared = heeds && says_so spared })) next e in
    sym (ap (λ (p : PodSpec). p.spared) (same_value {E = FaultKind} _ next known.2))

both_so : (heeds : Bool) (spared : TruthMember) → (heeds && says_so spared) ≡ true → (heeds ≡ true) × (spared ≡ Yes)
both_so true No e = absurd (cc)
both_so true Yes e = (refl, refl)
both_so true OfOtherKind e = absurd (cc)
both_so false spared e = absurd (cc)

pub spared_said : SparedSaid
spared_said version d pod e =
    let heeds = heeds_words version in
    let member = field_at (codes "spared") d in
    let read = bind_ok (pod_from heeds (field_at (codes "pod") d)) (spared_by heeds (truth_of member)) pod e in
    let is = spared_as heeds (truth_of member) read.0 pod read.2 in (
      (λ so.
          let said = both_so heeds (truth_of member) (sym is ∙ so) in
          (in_three version said.0, (says_truth member).yes.0 said.1)),
      (λ (three, says). is ∙ ap (λ (v : Option Version). heeds_words v && says_so (truth_of member)) three
          ∙ ap (λ (said : TruthMember). true && says_so said) ((says_truth member).yes.1 says)),
    )
