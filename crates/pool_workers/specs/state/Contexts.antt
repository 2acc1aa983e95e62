-- What stays the same of a context while its worker runs, and what holds of all contexts because of it.
use Rattle.std.specs.Prelude.{◌≡◌, ℕ, ◌+◌, List, All, length, map, vec_len}
use Rattle.std.specs.Global.{Global}
use Rattle.crossbeam_deque.specs.Handles.{worker_view}
use Rattle.crossbeam_deque.specs.declared.handles.Worker.{Worker}
use Rattle.pod_piece.specs.rule.Piece.{Piece}
use Rattle.piece_deques.specs.declared.rule.Tally.{Tally}
use Rattle.piece_deques.specs.state.Rule.{all_parts, FoundEmpty}
use Rattle.worker_results.specs.declared.handle.StealHandle.{StealHandle}
use Rattle.pool_workers.specs.declared.context.WorkerContext.{WorkerContext}
use Rattle.pool_workers.specs.state.Permits.{FilledDeque, permit_deque, owner_deque, pushed_sum, FoundAllEmpty}
use Rattle.pool_workers.specs.state.Dealing.{dealt_to}
use Rattle.worker_results.specs.state.Done.{weigh}

-- the deque of the owner and what was pushed to it, the owner's parts, the deques of the permits, and the parts of the
-- share
pub record Tag : Type 0 where
  pub filled : FilledDeque
  pub parts : ℕ
  pub permits : List FilledDeque
  pub share : ℕ

abbrev pub tag : FilledDeque → ℕ → List FilledDeque → ℕ → Tag
tag filled parts permits share = record { filled = filled; parts = parts; permits = permits; share = share }

abbrev pub tag_of : {T P D : Type 0} → Worker T Global Tally P → List (StealHandle D) → ℕ → Tag
tag_of owner handles share = tag (owner_deque owner) (worker_view owner).parts (map permit_deque handles) share

abbrev pub context_tag : {D U E O : Type 0} {g : _} → WorkerContext D U E O g → Tag
context_tag context = tag_of context.owner context.handles.items context.worker_result.share.parts

-- the worker's tag, the place of its own deque and the number of its permits are as they were
pub record IsSameWorker {D U E O : Type 0} {g : _} (old new : WorkerContext D U E O g) : Type 0 where
  pub tag_is : context_tag new ≡ context_tag old
  pub own : new.own ≡ old.own
  pub count : vec_len new.handles ≡ vec_len old.handles

-- this many permits of the deque are away, and the context has a permit of each of these deques and a part of the share
pub record IsLaid (away : ℕ) (filled : List FilledDeque) (t : Tag) : Type 0 where
  pub parts : t.parts + away ≡ all_parts
  pub permits : t.permits ≡ filled
  pub share : t.share ≡ 1

abbrev pub filled_in : List Tag → List FilledDeque
filled_in tags = map (λ (t : Tag). t.filled) tags

-- the contexts with these tags have a permit of each deque each, and these pieces were dealt to the deques by the rule:
-- once each, so that their numbers add up to the same, however they are weighed
pub record AreLaid (pieces : List Piece) (tags : List Tag) : Type 0 where
  pub each : All (IsLaid (length tags) (filled_in tags)) tags
  pub dealt : map (λ (p : FilledDeque). p.pushed) (filled_in tags) ≡ dealt_to (length tags) pieces
  pub pushed : (weight : ℕ → ℕ) → pushed_sum weight (filled_in tags) ≡ weigh weight pieces

-- the deque of a context's owner
abbrev pub context_deque : {D U E O : Type 0} {g : _} → WorkerContext D U E O g → FilledDeque
context_deque context = owner_deque context.owner

-- its owner has found its deque empty, and so has each of its permits of another deque
pub record HasEmptied {D U E O : Type 0} {g : _} (all : List Piece) (context : WorkerContext D U E O g) : Type 0 where
  pub own : FoundEmpty all (worker_view context.owner)
  pub others : FoundAllEmpty all context.own (length context.handles.items) context.handles.items
