-- Containers that are written in one place.
use Rattle.std.proofs.Common.{List, [], ◌∷◌, ◌++◌, All}
use Rattle.std.proofs.lemmas.List.Elements.{All-nil, All-push}
use Rattle.manifest.specs.declared.pod.Place.{Place}
use Rattle.manifest.specs.declared.pod.ContainerSpec.{ContainerSpec}
use Rattle.manifest.specs.state.Containers.{IsOf, AllOf}

pub all_of_none : (place : Place) → AllOf place []
unfolding AllOf
all_of_none place = All-nil (IsOf place)

pub all_of_pushed : (place : Place) (cs : List ContainerSpec) (c : ContainerSpec) → AllOf place cs → IsOf place c
    → AllOf place (cs ++ c ∷ [])
unfolding AllOf
all_of_pushed place cs c all one = All-push (IsOf place) cs c all one

pub each_of : (place : Place) (cs : List ContainerSpec) → AllOf place cs → All (IsOf place) cs
unfolding AllOf
each_of place cs all = all
