-- Texts that grow part by part.
use Rattle.std.proofs.Common.{◌≡◌, ◌∙◌, ℕ, ◌+◌, ◌<◌, List, [], ◌∷◌, ◌++◌, length, take, get_or, slice_index_or}
use Rattle.std.proofs.Common.{Option, append_assoc, append-nil, refl, ap, sym, subst, arith, length-append}
use Rattle.std.proofs.lemmas.List.{get_or_append_left, get_or_push, take_more, length-take-le}
use Rattle.manifest.specs.declared.pod.PodSpec.{PodSpec}
use Rattle.observations.specs.declared.tick.TickObs.{TickObs}
use Rattle.eviction.specs.declared.eviction.Eviction.{Eviction}
use Rattle.std.specs.List.{concat}
use Rattle.std.proofs.lemmas.List.Folds.{concat-append}
use Rattle.node_report.specs.rule.Report.{ArePodLines, AreLines}
use Rattle.histories.proofs.Items.{pushed_each}

pub four_parts : (s p q r t a b c d : List ℕ) → p ≡ s ++ a → q ≡ p ++ b → r ≡ q ++ c → t ≡ r ++ d
    → t ≡ s ++ (a ++ (b ++ (c ++ d)))
four_parts s p q r t a b c d ep eq er et =
    rw (et, er, eq, ep) (simp append_assoc)

-- the report part by part
pub six_parts : (a b c d e f p q r s t : List ℕ) → p ≡ a ++ b → q ≡ p ++ c → r ≡ q ++ d → s ≡ r ++ e → t ≡ s ++ f
    → t ≡ a ++ (b ++ (c ++ (d ++ (e ++ f))))
six_parts a b c d e f p q r s t ep eq er es et = rw (et, es, er, eq, ep) (simp append_assoc)

concat-push : (parts : List (List ℕ)) (part : List ℕ) → concat (parts ++ part ∷ []) ≡ concat parts ++ part
concat-push parts part = concat-append parts (part ∷ []) ∙ ap (λ (xs : List ℕ). concat parts ++ xs) (append-nil part)

-- no pods yet
pub no_report : (ticks : List TickObs) (evictions : List (Option Eviction)) → AreLines ticks evictions [] []
no_report ticks evictions = record { parts = []; as_many = refl; each = λ n d e lt. absurd (omega arith); whole = refl }

-- one pod more
pub report_more : (ticks : List TickObs) (evictions : List (Option Eviction)) (pods : List PodSpec) (pod : PodSpec)
    (n : ℕ) (so_far lines : List ℕ) → length pods ≡ n → AreLines ticks evictions pods so_far
    → ArePodLines ticks evictions n pod lines
    → AreLines ticks evictions (pods ++ pod ∷ []) (so_far ++ lines)
report_more ticks evictions pods pod n so_far lines count report are =
    let P : ℕ → PodSpec → Type 0 = λ k p. (e : List ℕ)
    → ArePodLines ticks evictions k p (slice_index_or (report.parts ++ lines ∷ []) k e) in
    let many : length report.parts ≡ n = report.as_many ∙ count in
    let old : (k : ℕ) (d : PodSpec) → k < n → P k (slice_index_or pods k d) =
    λ k d lt e. (let left = get_or_append_left report.parts (lines ∷ []) e k (omega arith) in
    subst (λ (text : List ℕ). ArePodLines ticks evictions k (slice_index_or pods k d) text) (sym left)
    (report.each k d e (omega arith))) in
    let new : P n pod = λ e. subst (λ (text : List ℕ). ArePodLines ticks evictions n pod text)
    (sym (get_or_push report.parts lines e n many)) are in
    record {
      parts = report.parts ++ lines ∷ [];
      as_many = simp length-append (omega arith);
      each = λ k d e lt. pushed_each P pods pod n count old new k d (omega (arith, length-append pods (pod ∷ []))) e;
      whole = ap (λ (xs : List ℕ). xs ++ lines) report.whole ∙ sym (concat-push report.parts lines);
    }

-- the next pod of a list
pub report_next : (ticks : List TickObs) (evictions : List (Option Eviction)) (pods : List PodSpec) (i : ℕ)
    (pod : PodSpec) (so_far lines new : List ℕ) → i < length pods → pod ≡ get_or pods i pod
    → AreLines ticks evictions (take i pods) so_far
    → ArePodLines ticks evictions i pod lines → new ≡ so_far ++ lines → AreLines ticks evictions (take (i + 1) pods) new
report_next ticks evictions pods i pod so_far lines new lt is report are text =
    let count : length (take i pods) ≡ i = length-take-le i pods (omega arith) in
    let more : take (i + 1) pods ≡ take i pods ++ pod ∷ [] = take_more pods i pod lt
    ∙ ap (λ (p : PodSpec). take i pods ++ p ∷ []) (sym is) in
    subst (λ (ps : List PodSpec). AreLines ticks evictions ps new) (sym more)
    (subst (λ (bytes : List ℕ). AreLines ticks evictions (take i pods ++ pod ∷ []) bytes) (sym text)
    (report_more ticks evictions (take i pods) pod i so_far lines count report are))
