-- The start of a played round, and its end.
use Rattle.std.proofs.Common.{◌≡◌, ◌-◌, ℕ, suc, ◌<◌, ◌≤◌, List, [], ◌∷◌, length, get_or, map}
use Rattle.std.proofs.Common.{replicate, Some, refl, sym, ap, ◌∙◌, subst, ⊎_elim, arith}
use Rattle.std.specs.Prelude.{sum_by, slice_get}
use Rattle.std.proofs.lemmas.Bool.{cases_lt}
use Rattle.std.proofs.lemmas.List.{length-map, length-replicate, get_or-replicate, get_or_past}
use Rattle.std.proofs.lemmas.List.Elements.{All-get_or}
use Rattle.std.proofs.lemmas.Option.{slice_get-get_or, slice_get_within, get_or_from_slice_get}
use Rattle.round_steps.specs.declared.step.Step.{Step}
use Rattle.pod_piece.specs.rule.Piece.{Piece, updated}
use Rattle.totals.specs.declared.totals.Entry.{Entry}
use Rattle.totals.specs.state.Limits.{IsLow}
use Rattle.round_core.specs.state.Pool.{WorkerState, PoolState, no_entry, entry_at, deal, run, drain_steps}
use Rattle.round_core.specs.state.Pool.{after_steps, after_drain}
use Rattle.round_core.specs.state.Places.{one_at, times_marked, sum_of_shares, with_drain}
use Rattle.round_core.proofs.Accounts.{marked_of}
use Rattle.round_core.proofs.Runs.{length-deal, sum_below-zero, sum_below-one, sum_below-one_at, sum_below-one_past}
use Rattle.round_core.proofs.Runs.{sum_deal, weight_deal}
use Rattle.round_core.proofs.Rounds.{book_is_shares, drained_is_run, drained_once, drained_totals}
use Rattle.round_core.proofs.Alike.{alike_after_drain}
use Rattle.round_core.proofs.Turns.{length-run, workers_run}
use Rattle.played_round.specs.state.Round.{RoundState, with_pool, dealt, IsFresh, IsWhole}
use Rattle.played_round.specs.state.Playing.{Stands, Follows, Plays}
use Rattle.played_round.proofs.Marks.{marks_finished}

-- The start

module _ (workers : ℕ) (round : RoundState) (some : 0 < workers) (fresh : IsFresh workers round) where
  -- the round once its pieces are dealt
  abbrev pub given : RoundState
  given = with_pool round (dealt workers (length round.table.pieces) round.pool.book)

  unmarked : (n : ℕ) → times_marked n given.pool ≡ 0
  unmarked n =
      let count = length round.table.pieces in
      let none = sum_deal (marked_of (one_at n)) (λ _. 0) refl (λ worker piece. omega arith) workers count some in
      let nothing = sum_below-zero count in
      omega arith

  blank : (n : ℕ) → entry_at round.table.entries n ≡ no_entry
  blank n =
      let count = length round.table.pieces in
      ap (λ (entries : List Entry). get_or entries n no_entry) fresh.blank
      ∙ ⊎_elim
      (λ (within : n < count). get_or-replicate count n no_entry no_entry within)
      (λ (past : count ≤ n).
      get_or_past (replicate count no_entry) n no_entry (let long = length-replicate count no_entry in omega arith))
      (cases_lt n count)

  pub stands_at_first : Stands given
  stands_at_first =
      let pieces = round.table.pieces in
      record {
        as_many = ap length fresh.blank ∙ length-replicate (length pieces) no_entry;
        one_place = λ n within.
            weight_deal (one_at n) workers (length pieces) some ∙ sum_below-one_at n (length pieces) within;
        no_stranger = λ n past.
            weight_deal (one_at n) workers (length pieces) some ∙ sum_below-one_past n (length pieces) past;
        waits = λ n piece is none.
            subst (λ (p : Piece). p.waiting ≡ 1) (get_or_from_slice_get pieces n piece piece is)
            (All-get_or (λ (p : Piece). p.waiting ≡ 1) pieces n piece (slice_get_within pieces n piece is)
            fresh.pending);
        is_done = λ n piece entry is is_entry marked. absurd (let none = unmarked n in omega arith);
        are_low = λ n. subst IsLow (sym (blank n)) (record { events = omega arith; orders = omega arith });
        few = let all = weight_deal (λ _. 1) workers (length pieces) some in
            let count = sum_below-one (length pieces) in
            let most = fresh.few in
            omega arith;
        grown = record {
          updates = let had = fresh.low.updates in omega arith;
          events = let had = fresh.low.events in omega arith;
          orders = let had = fresh.low.orders in omega arith;
        };
      }

-- The end

updated_once : (piece : Piece) → piece.waiting ≡ 0 → updated piece ≡ piece
updated_once piece done =
    ap (λ (waiting : ℕ). record piece { waiting = waiting }) {x = piece.waiting - 1} {y = piece.waiting}
    (omega (arith, done))

all_updated : (pieces : List Piece)
    → ((n : ℕ) (piece : Piece) → slice_get pieces n ≡ Some piece → piece.waiting ≡ 0)
    → map updated pieces ≡ pieces
all_updated [] done = refl
all_updated (piece ∷ pieces) done =
    ap (λ (p : Piece). p ∷ map updated pieces) (updated_once piece (done 0 piece refl))
    ∙ ap (λ (ps : List Piece). piece ∷ ps) (all_updated pieces (λ n p is. done (suc n) p is))

module _ (before middle after : RoundState) (workers : ℕ) (steps : List Step) (some : 0 < workers)
    (given : before.pool.workers ≡ (deal workers (length before.table.pieces)).workers)
    (played : Plays before steps middle) (drained : Plays middle (drain_steps 0 middle.pool.workers) after) where
  later : Follows after.table.entries middle (drain_steps 0 middle.pool.workers) after
  later = drained.follows after.table.entries (λ n marked. refl)

  earlier : Follows after.table.entries before steps middle
  earlier = played.follows after.table.entries later.agrees

  as_many : length after.table.pieces ≡ length before.table.pieces
  as_many =
      sym (length-map after.table.pieces updated)
      ∙ ap length (drained.pieces ∙ played.pieces)
      ∙ length-map before.table.pieces updated

  long : length after.table.entries ≡ length before.table.pieces
  long = drained.stands.as_many ∙ as_many

  middle_workers : middle.pool.workers ≡ (after_steps after.table.entries workers steps).workers
  middle_workers =
      ap (λ (pool : PoolState). pool.workers) earlier.leads
      ∙ workers_run after.table.entries before.pool (deal workers (length before.table.pieces)) steps given
      ∙ ap (λ (n : ℕ). (run after.table.entries (deal workers n) steps).workers) (sym long)

  after_workers : after.pool.workers ≡ (after_drain after.table.entries workers steps).workers
  after_workers =
      let last = after_steps after.table.entries workers steps in
      ap (λ (pool : PoolState). pool.workers) later.leads
      ∙ workers_run after.table.entries middle.pool last (drain_steps 0 middle.pool.workers) middle_workers
      ∙ ap (λ (ws : List WorkerState). (run after.table.entries last (drain_steps 0 ws)).workers) middle_workers

  is_marked : (n : ℕ) → n < length after.table.pieces → 0 < times_marked n after.pool
  is_marked n within =
      let once = drained_once after.table.entries workers steps n some (omega (arith, drained.stands.as_many)) in
      let same =
      ap (λ (ws : List WorkerState). sum_by (λ worker. sum_by (one_at n) worker.finished) ws) after_workers in
      let least = marks_finished n after.pool.workers in
      omega arith

  is_updated : (n : ℕ) (piece : Piece) → slice_get after.table.pieces n ≡ Some piece → piece.waiting ≡ 0
  is_updated n piece is =
      let within : n < length after.table.pieces = slice_get_within after.table.pieces n piece is in
      let has_entry : n < length after.table.entries = omega (arith, drained.stands.as_many) in
      (drained.stands.is_done n piece (get_or after.table.entries n no_entry) is
      (slice_get-get_or after.table.entries n no_entry has_entry) (is_marked n within)).0

  pub whole : IsWhole before workers steps after
  whole = record {
    as_many =
        ap length after_workers
        ∙ length-run after.table.entries (after_steps after.table.entries workers steps)
        (drain_steps 0 (after_steps after.table.entries workers steps).workers)
        ∙ length-run after.table.entries (deal workers (length after.table.entries)) steps
        ∙ length-deal workers (length after.table.entries);
    pieces = sym (all_updated after.table.pieces is_updated) ∙ drained.pieces ∙ played.pieces;
    entries = record {
      as_many = drained.stands.as_many;
      each = λ n piece entry is is_entry.
          (drained.stands.is_done n piece entry is is_entry
          (is_marked n (slice_get_within after.table.pieces n piece is))).1;
    };
    shares =
        let is_run = drained_is_run after.table.entries workers steps in
        ap sum_of_shares after_workers
        ∙ ap (λ (pool : PoolState). sum_of_shares pool.workers) (sym is_run)
        ∙ sym (book_is_shares after.table.entries workers (with_drain after.table.entries workers steps) some)
        ∙ ap (λ (pool : PoolState). pool.book) is_run
        ∙ drained_totals after.table.entries workers steps some;
    finished = λ others is_long.
        ap (map (λ (worker : WorkerState). worker.finished)) after_workers
        ∙ (alike_after_drain after.table.entries others workers steps (long ∙ sym is_long)).same_finished;
  }

-- a round that was dealt, played and drained
pub whole_of : (round dealt_round middle after : RoundState) (workers : ℕ) (steps : List Step) → 0 < workers
    → dealt_round ≡ with_pool round (dealt workers (length round.table.pieces) round.pool.book)
    → Plays dealt_round steps middle → Plays middle (drain_steps 0 middle.pool.workers) after
    → IsWhole round workers steps after
whole_of round dealt_round middle after workers steps some is played drained =
    let at_first = with_pool round (dealt workers (length round.table.pieces) round.pool.book) in
    let all =
    whole at_first middle after workers steps some refl
    (subst (λ (first : RoundState). Plays first steps middle) is played) drained in
    record {
      as_many = all.as_many;
      pieces = all.pieces;
      entries = all.entries;
      shares = all.shares;
      finished = all.finished;
    }
