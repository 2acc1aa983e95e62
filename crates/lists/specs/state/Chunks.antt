-- A list in chunks.
use Rattle.std.specs.Prelude.{◌≡◌, ◌≤◌, ℕ, List, [], ◌∷◌, ◌++◌, length, All, Vec}
use Rattle.std.specs.Global.{Global}

-- how many items a chunk has
abbrev pub chunk_length : ℕ
chunk_length = 64

-- the items of full chunks and of the last one, in order
abbrev pub joined : {X : Type 0} → List (Vec X Global) → List X → List X
joined [] last = last
joined (chunk ∷ full) last = chunk.items ++ joined full last

-- each of them has as many items as a chunk has
abbrev pub AreFull : {X : Type 0} → List (Vec X Global) → Type 0
AreFull {X} chunks = All (λ (chunk : Vec X Global). length chunk.items ≡ chunk_length) chunks

-- full chunks, a last one that may have room for more, and how many items they all have
pub record AreChunks {X : Type 0} (chunks : List (Vec X Global)) (last : List X) (count : ℕ) : Type 0 where
  pub full : AreFull chunks
  pub fits : length last ≤ chunk_length
  pub counted : count ≡ length (joined chunks last)
