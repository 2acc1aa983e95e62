-- The room that gathering takes.
use Rattle.std.specs.Prelude.{◌≡◌, ℕ, ◌≤◌, [], vec_capacity}
use Rattle.pool_workers.specs.declared.gathered.ResultBuffers.{ResultBuffers}

-- it is empty, and enough for this many workers
pub record HasRoom {D U E O : Type 0} {g : _} (workers : ℕ) (room : ResultBuffers D U E O g) : Type 0 where
  pub none : room.finished.items ≡ []
  pub empty : room.rows.items ≡ []
  pub finished : workers ≤ vec_capacity room.finished
  pub rows : workers ≤ vec_capacity room.rows
