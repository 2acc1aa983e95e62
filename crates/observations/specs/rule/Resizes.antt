-- What a tick reports of resized containers (Kubernetes, "Pod Lifecycle", "Pod resize"; that a trace can report it is
-- this project's extended format).
use Rattle.std.specs.Prelude.{ℕ, ◌==◌, List, [], ◌∷◌, Option, Some, None, if◌then◌else◌}
use Rattle.manifest.specs.rule.Resources.{Resources}
use Rattle.observations.specs.declared.resize.Resize.{Resize}

-- the requests and limits that the tick gives the container with the number, if it does
abbrev pub resized_to : List Resize → ℕ → Option Resources
resized_to [] number = None
resized_to (resize ∷ resizes) number =
    if resize.container == number then Some resize.resources else resized_to resizes number
