-- Steps that are played one after the other.
use Rattle.std.proofs.Common.{◌≡◌, ℕ, ◌+◌, ◌<◌, ◌≤◌, List, [], ◌∷◌, ◌++◌, length, get_or, take, refl, sym, ap, ◌∙◌}
use Rattle.std.proofs.Common.{subst, arith}
use Rattle.std.proofs.lemmas.List.{take_more, take_all, length-take-le}
use Rattle.round_steps.specs.declared.step.Step.{Step}
use Rattle.round_steps.specs.declared.step.Step.TheVariants.{Pop, Update, Enter}
use Rattle.round_core.specs.state.Pool.{WorkerState, PoolState, worker_at, run, finishing_steps, drain_steps}
use Rattle.round_core.proofs.Runs.{run-append}
use Rattle.round_core.proofs.Turns.{length-run, after_drained, turn_more, drain_more}
use Rattle.played_round.specs.state.Round.{RoundState}
use Rattle.played_round.specs.state.Playing.{Stands, Plays}

pub plays_none : (r : RoundState) → Stands r → Plays r [] r
plays_none r stands =
    record { stands = stands; pieces = refl; follows = λ entries agrees. record { agrees = agrees; leads = refl } }

pub plays_then : (a b c : RoundState) (first second : List Step) → Plays a first b → Plays b second c
    → Plays a (first ++ second) c
plays_then a b c first second one other = record {
  stands = other.stands;
  pieces = other.pieces ∙ one.pieces;
  follows = λ entries agrees.
      let later = other.follows entries agrees in
      let earlier = one.follows entries later.agrees in
      record {
        agrees = earlier.agrees;
        leads =
            later.leads
            ∙ ap (λ (pool : PoolState). run entries pool second) earlier.leads
            ∙ sym (run-append entries a.pool first second);
      };
}

-- one more step
pub plays_more : (a b c : RoundState) (steps : List Step) (i : ℕ) (none : Step) → i < length steps
    → Plays a (take i steps) b → Plays b (get_or steps i none ∷ []) c → Plays a (take (i + 1) steps) c
plays_more a b c steps i none within one other =
    subst (λ (played : List Step). Plays a played c) (sym (take_more steps i none within))
    (plays_then a b c (take i steps) (get_or steps i none ∷ []) one other)

pub plays_all : (a b : RoundState) (steps : List Step) → Plays a (take (length steps) steps) b → Plays a steps b
plays_all a b steps played =
    let all : length steps ≤ length steps = omega arith in
    subst (λ (s : List Step). Plays a s b) (take_all (length steps) steps all) played

-- one more turn of a worker
pub plays_turn : (a b c : RoundState) (w : ℕ) (pieces : List ℕ) (i : ℕ) → i < length pieces
    → Plays a (finishing_steps w (take i pieces)) b → Plays b (Pop w ∷ Update w ∷ Enter w ∷ []) c
    → Plays a (finishing_steps w (take (i + 1) pieces)) c
plays_turn a b c w pieces i within one other =
    subst (λ (played : List Step). Plays a played c) (sym (turn_more w pieces i within))
    (plays_then a b c (finishing_steps w (take i pieces)) (Pop w ∷ Update w ∷ Enter w ∷ []) one other)

pub plays_turns : (a b : RoundState) (w : ℕ) (pieces : List ℕ)
    → Plays a (finishing_steps w (take (length pieces) pieces)) b → Plays a (finishing_steps w pieces) b
plays_turns a b w pieces played =
    let all : length pieces ≤ length pieces = omega arith in
    subst (λ (p : List ℕ). Plays a (finishing_steps w p) b) (take_all (length pieces) pieces all) played

-- The workers of a drain

module _ (a b : RoundState) (w : ℕ) (within : w < length a.pool.workers)
    (played : Plays a (drain_steps 0 (take w a.pool.workers)) b) where
  own : b.pool ≡ run b.table.entries a.pool (drain_steps 0 (take w a.pool.workers))
  own = (played.follows b.table.entries (λ n marked. refl)).leads

  -- there are as many workers as before
  pub as_many_workers : length b.pool.workers ≡ length a.pool.workers
  as_many_workers =
      ap (λ (pool : PoolState). length pool.workers) own
      ∙ length-run b.table.entries a.pool (drain_steps 0 (take w a.pool.workers))

  -- the next one is as it was
  next_worker : worker_at b.pool w ≡ worker_at a.pool w
  next_worker =
      let most : w ≤ length a.pool.workers = omega arith in
      let place = length-take-le w a.pool.workers most in
      ap (λ (pool : PoolState). worker_at pool w) own
      ∙ after_drained b.table.entries 0 (take w a.pool.workers) a.pool w (omega arith)

  -- one more worker of a drain
  pub plays_worker : (c : RoundState) → Plays b (finishing_steps w (worker_at b.pool w).deque) c
      → Plays a (drain_steps 0 (take (w + 1) a.pool.workers)) c
  plays_worker c finished =
      subst (λ (steps : List Step). Plays a steps c) (sym (drain_more a.pool.workers w within))
      (plays_then a b c (drain_steps 0 (take w a.pool.workers)) (finishing_steps w (worker_at a.pool w).deque) played
      (subst (λ (worker : WorkerState). Plays b (finishing_steps w worker.deque) c) next_worker finished))

pub plays_workers : (a b : RoundState) → Plays a (drain_steps 0 (take (length a.pool.workers) a.pool.workers)) b
    → Plays a (drain_steps 0 a.pool.workers) b
plays_workers a b played =
    let all : length a.pool.workers ≤ length a.pool.workers = omega arith in
    subst (λ (workers : List WorkerState). Plays a (drain_steps 0 workers) b)
    (take_all (length a.pool.workers) a.pool.workers all) played
