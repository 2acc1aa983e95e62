-- A pod leaves in version 3 alone.
use Rattle.std.proofs.Common.{◌≡◌, ℕ, zero, suc, Bool, true, false, List, [], ◌∷◌, ◌++◌, Option, Some, None}
use Rattle.std.proofs.Common.{Result, Ok, Err, refl}
use Rattle.std.specs.Prelude.{codes, slice_get, IfOk, bytes_eq, option_map, if◌then◌else◌}
use Rattle.json_fields.specs.rule.Fields.{text_at}
use Rattle.node_config.specs.declared.node.Format.{Format}
use Rattle.node_config.specs.declared.node.NodeConfig.{NodeConfig}
use Rattle.node_config.specs.declared.node.Version.{Version}
use Rattle.node_config.specs.declared.node.Version.TheVariants.{One, Two, Three}
use Rattle.line_faults.specs.declared.fault.LineFault.{LineFault}
use Rattle.trace.specs.declared.trace_so_far.LineKind.TheVariants as kinds
use Rattle.trace.specs.declared.trace_so_far.Trace.{Trace}
use Rattle.trace.specs.state.Memory.{GivesAt}
use Rattle.trace.specs.state.Laws.{Says, says_node, says_pod, says_gone, says_tick}
use Rattle.trace.specs.state.Sound.{LeaveInThree}
use Rattle.trace.specs.rule.Trace.{gone_in, kind_from, trace_of}
use Rattle.trace.specs.rule.TraceSoFar.{TraceSoFar, version_in}
use Rattle.trace.proofs.Said.{IsKept, of_trace}

-- where one has left, the lines so far say version 3
abbrev LeaveSoFar : TraceSoFar → Type 0
LeaveSoFar past = (n departure : ℕ) → slice_get past.roll.departures n ≡ Some (Some departure)
    → version_in past ≡ Some Three

gone_is_three : (version : Option Version) → gone_in version ≡ Some kinds.Gone → version ≡ Some Three
gone_is_three None e = absurd (cc)
gone_is_three (Some One) e = absurd (cc)
gone_is_three (Some Two) e = absurd (cc)
gone_is_three (Some Three) e = refl

-- a line by which a pod leaves is of version 3
leaves_in_three : (version : Option Version) (s : Option (List ℕ)) → kind_from version s ≡ Some kinds.Gone
    → version ≡ Some Three
leaves_in_three version None e = absurd (cc)
leaves_in_three version (Some s) e =
    by (bytes_eq s (codes "node")) (bytes_eq s (codes "pod")) (bytes_eq s (codes "tick")) (bytes_eq s (codes "gone")) e
  where
    by : (node pod tick gone : Bool)
        → (if node then Some kinds.Node else (if pod then Some kinds.Pod
        else (if tick then Some kinds.Tick else (if gone then gone_in version else None)))) ≡ Some kinds.Gone
        → version ≡ Some Three
    by true pod tick gone is = absurd (cc)
    by false true tick gone is = absurd (cc)
    by false false true gone is = absurd (cc)
    by false false false true is = gone_is_three version is
    by false false false false is = absurd (cc)

-- one that has left was among those before one more came
left_before : (departures : List (Option ℕ)) (n departure : ℕ)
    → slice_get (departures ++ None ∷ []) n ≡ Some (Some departure)
    → slice_get departures n ≡ Some (Some departure)
left_before [] zero departure e = absurd (cc)
left_before [] (suc n) departure e = absurd (cc)
left_before (d ∷ ds) zero departure e = e
left_before (d ∷ ds) (suc n) departure e = left_before ds n departure e

-- before the node is said nothing has a version
no_version : (node : Option NodeConfig) → node ≡ None
    → option_map (λ (config : NodeConfig). config.version) node ≡ Some Three → ⊥
no_version None is e = absurd (cc)
no_version (Some config) is e = absurd (cc)

line_leaves : (past : TraceSoFar) (line : List ℕ) (next : TraceSoFar) → LeaveSoFar past → Says past line next
    → LeaveSoFar next
line_leaves past line _ all (says_node d node is e) n departure left =
    absurd (no_version past.node is.here (all n departure left))
line_leaves past line _ all (says_pod d pod is new) n departure left =
    all n departure (left_before past.roll.departures n departure left)
line_leaves past line _ all (says_gone d number is named) n departure left =
    leaves_in_three (version_in past) (text_at (codes "kind") d) is.of_kind.kind
line_leaves past line _ all (says_tick d at written placed is coded) n departure left = all n departure left

kept : IsKept LeaveSoFar
kept = record {
  first = λ format n departure left. absurd (cc);
  line = line_leaves;
}

-- what a call answers that gives this trace
pub given_leaving : (format : Format) (text : List ℕ) (answer : Result Trace LineFault)
    → GivesAt (λ t. t) answer (trace_of format text)
    → IfOk answer (λ t. LeaveInThree t.node.version t.departures)
given_leaving format text (Ok trace) given = record {
  is_three = λ n departure left.
      some_three trace.node.version ((of_trace LeaveSoFar kept format text trace given).1 n departure left);
}
  where
    some_three : (version : Version) → Some version ≡ Some Three → version ≡ Three
    some_three version e = cc
given_leaving format text (Err fault) given = tt
