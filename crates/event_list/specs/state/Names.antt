-- The names of the pods that have pieces.
use Rattle.std.specs.Prelude.{ℕ, List, slice_get, Option}
use Rattle.manifest.specs.declared.pod.PodSpec.{PodSpec}
use Rattle.eviction.specs.declared.eviction.Eviction.{Eviction}
use Rattle.pod_piece.specs.rule.Piece.{Piece}
use Rattle.pod_piece.specs.state.Piece.{pods_in}
use Rattle.event_list.specs.rule.Text.{words_among}

-- the pod of the piece with the number
abbrev pub pod_in : List Piece → ℕ → Option PodSpec
pod_in pieces n = slice_get (pods_in pieces) n

-- the words of an eviction of one of these pods
abbrev pub words_of : List Piece → Eviction → List ℕ
words_of pieces eviction = words_among (pods_in pieces) eviction
