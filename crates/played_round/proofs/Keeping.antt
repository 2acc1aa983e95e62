-- What holds after each step of a played round.
use Rattle.std.proofs.Common.{◌≡◌, ◌≢◌, ℕ, ◌+◌, ◌-◌, ◌<◌, ◌≤◌, List, [], ◌∷◌, length, get_or, set}
use Rattle.std.proofs.Common.{map, Some, refl, sym, ap, ◌∙◌, subst, inl, inr, ⊎_elim, length-set}
use Rattle.std.proofs.Common.{get_or-set_same, get_or-set_other, arith}
use Rattle.std.specs.Prelude.{sum_by, slice_get}
use Rattle.std.proofs.Math.Seq.{map-set_same}
use Rattle.std.proofs.lemmas.Bool.{cases_eq, cases_lt}
use Rattle.std.proofs.lemmas.List.{get_or_default}
use Rattle.std.proofs.lemmas.Option.{slice_get-get_or, slice_get_within, slice_get_cases, get_or_from_slice_get}
use Rattle.round_steps.specs.declared.step.Step.{Step}
use Rattle.round_steps.specs.declared.step.Step.TheVariants.{Pop, Steal, Update, Enter}
use Rattle.pod_piece.specs.rule.Piece.{Piece, updated}
use Rattle.totals.specs.declared.totals.Entry.{Entry}
use Rattle.totals.specs.declared.totals.Totals.{Totals}
use Rattle.totals.specs.state.Totals.{IsEntryOf}
use Rattle.totals.specs.state.Limits.{IsLow}
use Rattle.round_core.specs.declared.hand.Hand.{Hand}
use Rattle.round_core.specs.declared.hand.Hand.TheVariants.{Empty, Taken, Updated}
use Rattle.round_core.specs.state.Pool.{WorkerState, PoolState, idle, no_entry, worker_at, entry_at, entered}
use Rattle.round_core.specs.state.Pool.{finishing, update, step}
use Rattle.round_core.specs.state.Places.{one_at, places, times_marked, waiting, updated_by}
use Rattle.round_core.proofs.Runs.{one_at_same, one_at_other}
use Rattle.round_core.proofs.Rounds.{marked_at_most}
use Rattle.played_round.specs.state.Table.{TableState, IsWaiting, IsUpdate}
use Rattle.played_round.specs.state.Round.{RoundState, round_of, with_pool}
use Rattle.played_round.specs.state.Playing.{CanUpdate, IsUpdateOf, CanEnter, Stands, Agrees, Plays}
use Rattle.played_round.proofs.Marks.{taken_is_unmarked, updated_is_marked, updated_is_unfinished}
use Rattle.played_round.proofs.Marks.{weight_step, marks_step, grown_step}

-- what is updated twice, where one tick waits, is as if it were once
twice : (piece : Piece) → piece.waiting ≡ 1 → updated (updated piece) ≡ updated piece
twice piece pending =
    ap (λ (waiting : ℕ). record piece { waiting = waiting }) {x = piece.waiting - 1 - 1} {y = piece.waiting - 1}
    (omega (arith, pending))

-- What a hand holds

module _ (r : RoundState) (stands : Stands r) where
  -- a piece that stands somewhere has a number of the table
  number_within : (n : ℕ) → 0 < places n r.pool → n < length r.table.pieces
  number_within n some =
      ⊎_elim
      (λ (within : n < length r.table.pieces). within)
      (λ (past : length r.table.pieces ≤ n). let none = stands.no_stranger n past in absurd (omega arith))
      (cases_lt n (length r.table.pieces))

  taken_within : (w n : ℕ) → (worker_at r.pool w).hand ≡ Taken n → n < length r.table.pieces
  taken_within w n holds = let least = taken_is_unmarked r.pool w n holds in number_within n (omega arith)

  -- the piece that waits in a hand is not marked
  taken_unmarked : (w n : ℕ) → (worker_at r.pool w).hand ≡ Taken n → times_marked n r.pool ≡ 0
  taken_unmarked w n holds =
      let least = taken_is_unmarked r.pool w n holds in
      let one = stands.one_place n (taken_within w n holds) in
      omega arith

  pub can_update : (w : ℕ) → CanUpdate r w
  can_update w n holds =
      let within = taken_within w n holds in
      let unmarked = taken_unmarked w n holds in
      let as_many = stands.as_many in
      elim ((slice_get_cases r.table.pieces n).1) as (λ _. IsWaiting r.table n) [
        | inl found ↦ record {
          piece = found.0;
          stands = found.2;
          pending = stands.waits n found.0 found.2 unmarked;
          has_entry = omega arith;
        }
        | inr past ↦ absurd (let beyond = past.0 in omega arith)
      ]

  pub can_enter : (w : ℕ) → CanEnter r w
  can_enter w n holds =
      let marked = updated_is_marked r.pool w n holds in
      let stood = marked_at_most n r.pool in
      let within = number_within n (omega arith) in
      let as_many = stands.as_many in
      let more = updated_is_unfinished r.pool w n holds in
      let few = stands.few in
      let low = stands.are_low n in
      let grown = stands.grown in
      record {
        has_entry = omega arith;
        within = record {
          updates = let had = grown.updates in omega arith;
          events = let had = grown.events in let more_events = low.events in omega arith;
          orders = let had = grown.orders in let more_orders = low.orders in omega arith;
        };
      }

-- Steps that update no piece

-- a step goes by the entries of marked pieces alone
module _ (one other : List Entry) where
  finishing_same : (worker : WorkerState) (hand : Hand)
      → ((n : ℕ) → hand ≡ Updated n → entry_at one n ≡ entry_at other n)
      → finishing one worker hand ≡ finishing other worker hand
  finishing_same worker Empty same = refl
  finishing_same worker (Taken n) same = refl
  finishing_same worker (Updated n) same =
      let at = same n refl in rw at refl

  entered_same : (totals : Totals) (hand : Hand) → ((n : ℕ) → hand ≡ Updated n → entry_at one n ≡ entry_at other n)
      → entered one hand totals ≡ entered other hand totals
  entered_same totals Empty same = refl
  entered_same totals (Taken n) same = refl
  entered_same totals (Updated n) same =
      let at = same n refl in rw at refl

pool_same : (workers others : List WorkerState) (book totals : Totals) → workers ≡ others → book ≡ totals
    → (let first : PoolState = record { workers = workers; book = book } in first)
    ≡ (let second : PoolState = record { workers = others; book = totals } in second)
pool_same workers others book totals same_workers same_book =
    ap (λ (w : List WorkerState). let first : PoolState = record { workers = w; book = book } in first) same_workers
    ∙ ap (λ (b : Totals). let first : PoolState = record { workers = others; book = b } in first) same_book

step_same : (one other : List Entry) (pool : PoolState) (s : Step)
    → ((n : ℕ) → 0 < times_marked n pool → entry_at one n ≡ entry_at other n) → step one pool s ≡ step other pool s
step_same one other pool (Pop w) same = refl
step_same one other pool (Steal thief owner) same = refl
step_same one other pool (Update w) same = refl
step_same one other pool (Enter w) same =
    let worker = worker_at pool w in
    let at : (n : ℕ) → worker.hand ≡ Updated n → entry_at one n ≡ entry_at other n =
    λ n holds. same n (updated_is_marked pool w n holds) in
    pool_same (set pool.workers w (finishing one worker worker.hand))
    (set pool.workers w (finishing other worker worker.hand))
    (entered one worker.hand pool.book) (entered other worker.hand pool.book)
    (ap (set pool.workers w) (finishing_same one other worker worker.hand at))
    (entered_same one other pool.book worker.hand at)

-- every clause of a step that updates no piece
pub plays_step : (r : RoundState) (s : Step) → Stands r → updated_by r.pool s ≡ []
    → Plays r (s ∷ []) (with_pool r (step r.table.entries r.pool s))
plays_step r s stands none =
    let entries = r.table.entries in
    let same_marks : (n : ℕ) → times_marked n (step entries r.pool s) ≡ times_marked n r.pool = λ n.
    let more = marks_step entries r.pool s n in let nothing = ap (sum_by (one_at n)) none in omega arith in
    record {
      stands = record {
        as_many = stands.as_many;
        one_place = λ n within. weight_step entries r.pool s (one_at n) ∙ stands.one_place n within;
        no_stranger = λ n past. weight_step entries r.pool s (one_at n) ∙ stands.no_stranger n past;
        waits = λ n piece is unmarked. stands.waits n piece is (sym (same_marks n) ∙ unmarked);
        is_done = λ n piece entry is is_entry marked.
            stands.is_done n piece entry is is_entry (let same = same_marks n in omega arith);
        are_low = stands.are_low;
        few = let same = weight_step entries r.pool s (λ _. 1) in let had = stands.few in omega arith;
        grown = grown_step entries r.pool s stands.are_low stands.grown;
      };
      pieces = refl;
      follows = λ others agrees.
          let before : Agrees others r = λ n marked. agrees n (let same = same_marks n in omega arith) in
          record { agrees = before; leads = step_same entries others r.pool s (λ n marked. sym (before n marked)) };
    }

-- A step that updates a piece

slice_get-set_other : {X : Type 0} (xs : List X) (i j : ℕ) (x y : X) → j ≢ i → slice_get (set xs i y) j ≡ Some x
    → slice_get xs j ≡ Some x
slice_get-set_other xs i j x y other is =
    let within : j < length xs = omega (arith, slice_get_within (set xs i y) j x is, length-set xs i y) in
    let here = get_or_from_slice_get (set xs i y) j x x is in
    let there = get_or-set_other xs i j y x other in
    slice_get-get_or xs j x within ∙ ap Some (sym there ∙ here)

slice_get-set_same : {X : Type 0} (xs : List X) (i : ℕ) (x y : X) → slice_get (set xs i y) i ≡ Some x → x ≡ y
slice_get-set_same xs i x y is =
    let within : i < length xs = omega (arith, slice_get_within (set xs i y) i x is, length-set xs i y) in
    sym (get_or_from_slice_get (set xs i y) i x x is) ∙ get_or-set_same xs i y x within

module _ (r : RoundState) (stands : Stands r) (w n : ℕ) (holds : (worker_at r.pool w).hand ≡ Taken n)
    (table : TableState) (updates : IsUpdate n r.table table) where
  abbrev pub after : RoundState
  after = round_of table (update r.pool w)

  long : length table.pieces ≡ length r.table.pieces
  long = ap length updates.pieces ∙ length-set r.table.pieces n (updated updates.piece)

  long_entries : length table.entries ≡ length r.table.entries
  long_entries = ap length updates.entries ∙ length-set r.table.entries n updates.entry

  marks : (m : ℕ) → times_marked m (update r.pool w) ≡ times_marked m r.pool + one_at m n
  marks m =
      let more = marks_step r.table.entries r.pool (Update w) m in
      let one = ap (λ hand. sum_by (one_at m) (waiting hand)) holds in
      omega arith

  other_piece : (m : ℕ) (piece : Piece) → m ≢ n → slice_get table.pieces m ≡ Some piece
      → slice_get r.table.pieces m ≡ Some piece
  other_piece m piece other is =
      slice_get-set_other r.table.pieces n m piece (updated updates.piece) other
      (ap (λ (pieces : List Piece). slice_get pieces m) (sym updates.pieces) ∙ is)

  other_entry : (m : ℕ) → m ≢ n → entry_at table.entries m ≡ entry_at r.table.entries m
  other_entry m other =
      ap (λ (entries : List Entry). get_or entries m no_entry) updates.entries
      ∙ get_or-set_other r.table.entries n m updates.entry no_entry other

  is_done : (m : ℕ) (piece : Piece) (entry : Entry) → slice_get table.pieces m ≡ Some piece
      → slice_get table.entries m ≡ Some entry → 0 < times_marked m (update r.pool w)
      → (piece.waiting ≡ 0) × IsEntryOf piece entry
  is_done m piece entry is is_entry marked =
      ⊎_elim
      (λ (same : m ≡ n).
      let here : slice_get (set r.table.pieces n (updated updates.piece)) n ≡ Some piece =
      ap (λ (pieces : List Piece). slice_get pieces n) (sym updates.pieces)
      ∙ ap (slice_get table.pieces) (sym same) ∙ is in
      let noted : slice_get (set r.table.entries n updates.entry) n ≡ Some entry =
      ap (λ (entries : List Entry). slice_get entries n) (sym updates.entries)
      ∙ ap (slice_get table.entries) (sym same) ∙ is_entry in
      let piece_is = slice_get-set_same r.table.pieces n piece (updated updates.piece) here in
      let entry_is = slice_get-set_same r.table.entries n entry updates.entry noted in (
        ap (λ (p : Piece). p.waiting) piece_is ∙ omega (arith, updates.pending),
        subst (λ (p : Piece). IsEntryOf p entry) (sym piece_is)
            (subst (λ (e : Entry). IsEntryOf (updated updates.piece) e) (sym entry_is) updates.is_entry),
      ))
      (λ (other : m ≢ n).
      let before = other_piece m piece other is in
      let noted = slice_get-set_other r.table.entries n m entry updates.entry other
      (ap (λ (entries : List Entry). slice_get entries m) (sym updates.entries) ∙ is_entry) in
      let none = one_at_other m n (λ (e : n ≡ m). other (sym e)) in
      let more = marks m in
      stands.is_done m piece entry before noted (omega arith))
      (cases_eq m n)

  waits : (m : ℕ) (piece : Piece) → slice_get table.pieces m ≡ Some piece → times_marked m (update r.pool w) ≡ 0
      → piece.waiting ≡ 1
  waits m piece is unmarked =
      let more = marks m in
      ⊎_elim
      (λ (same : m ≡ n). let one = one_at_same m n (sym same) in absurd (omega arith))
      (λ (other : m ≢ n). stands.waits m piece (other_piece m piece other is) (omega arith))
      (cases_eq m n)

  are_low : (m : ℕ) → IsLow (entry_at table.entries m)
  are_low m =
      ⊎_elim
      (λ (same : m ≡ n).
      let has_entry : n < length r.table.entries =
      omega (arith, stands.as_many, taken_within r stands w n holds) in
      let here : entry_at table.entries m ≡ updates.entry =
      ap (λ (entries : List Entry). get_or entries m no_entry) updates.entries
      ∙ ap (λ (k : ℕ). get_or (set r.table.entries n updates.entry) k no_entry) same
      ∙ get_or-set_same r.table.entries n updates.entry no_entry has_entry in
      subst IsLow (sym here) updates.is_low)
      (λ (other : m ≢ n). subst IsLow (sym (other_entry m other)) (stands.are_low m))
      (cases_eq m n)

  -- every clause of a step that updates one
  pub plays_update : Plays r (Update w ∷ []) after
  plays_update = record {
    stands = record {
      as_many = long_entries ∙ stands.as_many ∙ sym long;
      one_place = λ m within.
          weight_step r.table.entries r.pool (Update w) (one_at m) ∙ stands.one_place m (omega (arith, long));
      no_stranger = λ m past.
          weight_step r.table.entries r.pool (Update w) (one_at m) ∙ stands.no_stranger m (omega (arith, long));
      waits = waits;
      is_done = is_done;
      are_low = are_low;
      few = let same = weight_step r.table.entries r.pool (Update w) (λ _. 1) in let had = stands.few in omega arith;
      grown = grown_step r.table.entries r.pool (Update w) stands.are_low stands.grown;
    };
    pieces =
        ap (map updated) updates.pieces
        ∙ map-set_same updated r.table.pieces n (updated updates.piece) updates.piece
        (twice updates.piece updates.pending
        ∙ ap updated (sym (get_or_from_slice_get r.table.pieces n updates.piece updates.piece updates.stood)));
    follows = λ others agrees. record {
      agrees = λ m marked.
          let other : m ≢ n = λ (same : m ≡ n).
          let none = taken_unmarked r stands w n holds in
          let here = ap (λ (k : ℕ). times_marked k r.pool) same in
          omega arith in
          agrees m (let more = marks m in omega arith) ∙ other_entry m other;
      leads = refl;
    };
  }

-- an update of what is in a hand, whatever that is
pub plays_hand : (r : RoundState) → Stands r → (w : ℕ) (hand : Hand) → (worker_at r.pool w).hand ≡ hand
    → (table : TableState) → IsUpdateOf hand r.table table
    → Plays r (Update w ∷ []) (round_of table (update r.pool w))
plays_hand r stands w Empty holds table same =
    subst (λ (t : TableState). Plays r (Update w ∷ []) (round_of t (update r.pool w)))
    (sym same) (plays_step r (Update w) stands (ap waiting holds))
plays_hand r stands w (Updated n) holds table same =
    subst (λ (t : TableState). Plays r (Update w ∷ []) (round_of t (update r.pool w)))
    (sym same) (plays_step r (Update w) stands (ap waiting holds))
plays_hand r stands w (Taken n) holds table updates = plays_update r stands w n holds table updates

-- a hand that was read in place
pub hand_read : (workers : List WorkerState) (w : ℕ) (read : WorkerState) → w < length workers
    → read ≡ get_or workers w read → (get_or workers w idle).hand ≡ read.hand
hand_read workers w read within stands =
    ap (λ (worker : WorkerState). worker.hand) (sym (stands ∙ get_or_default workers w read idle within))

-- this many pieces wait in a deque that was read in place
pub deque_len_read : (workers : List WorkerState) (w : ℕ) (read : WorkerState) → w < length workers
    → read ≡ get_or workers w read → length read.deque ≡ length (get_or workers w idle).deque
deque_len_read workers w read within stands =
    ap (λ (worker : WorkerState). length worker.deque) (stands ∙ get_or_default workers w read idle within)

pub plays_after : (r : RoundState) (s named : Step) → s ≡ named → Stands r → updated_by r.pool named ≡ []
    → (after : RoundState) → after ≡ with_pool r (step r.table.entries r.pool named) → Plays r (s ∷ []) after
plays_after r s named is stands none after is_after =
    subst (λ (t : Step). Plays r (t ∷ []) after) (sym is)
    (subst (λ (x : RoundState). Plays r (named ∷ []) x) (sym is_after) (plays_step r named stands none))

pub plays_hand_after : (r : RoundState) (s : Step) (w : ℕ) → s ≡ Update w → Stands r → (after : RoundState)
    → IsUpdateOf (worker_at r.pool w).hand r.table after.table → after.pool ≡ update r.pool w
    → Plays r (s ∷ []) after
plays_hand_after r s w is stands after updates pool_is =
    subst (λ (t : Step). Plays r (t ∷ []) after) (sym is)
    (subst
    (λ (pool : PoolState). Plays r (Update w ∷ []) (round_of after.table pool))
    (sym pool_is) (plays_hand r stands w (worker_at r.pool w).hand refl after.table updates))
