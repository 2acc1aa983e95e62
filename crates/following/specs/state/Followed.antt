-- The differs that follow the containers of the pods, one tick after the other.
use Rattle.std.specs.Prelude.{◌≡◌, ◌↔◌, ℕ, ◌-◌, ◌<◌, ◌≤◌, Bool, false, List, [], ◌∷◌, ◌++◌, length, map, slice_get}
use Rattle.std.specs.Prelude.{slice_index_or, Some, IfSome, IsTrue, Vec}
use Rattle.std.specs.Global.{Global}
use Rattle.histories.specs.state.Histories.{EndsBefore}
use Rattle.state_diff.specs.declared.differ.Differ.{Differ}
use Rattle.state_diff.specs.state.Differ.{IsStateOf}
use Rattle.observations.specs.rule.Pods.{PodObs}
use Rattle.observations.specs.declared.tick.TickObs.{TickObs}
use Rattle.observations.specs.rule.Observations.{shown_of, own_ticks, history}
use Rattle.following.specs.rule.Backwards.{is_backwards}
use Rattle.following.specs.declared.listing_order.ListingOrder.{ListingOrder}

-- the last of the ticks, if there is one, is before the moment
abbrev pub EndBefore : List TickObs → ℕ → Type 0
EndBefore ticks moment = IfSome (slice_get ticks (length ticks - 1)) (λ last. last.at < moment)

-- the ticks are of this many pods, and no observation of one is later than the last tick
pub record AreOfPods (ticks : List TickObs) (pods : ℕ) : Type 0 where
  pub others : (pod : ℕ) → pods ≤ pod → own_ticks ticks pod ≡ []
  pub in_time : (pod container moment : ℕ) → EndBefore ticks moment → EndsBefore (history ticks pod container) moment

-- how many containers each pod has
abbrev pub counts_of : List (Vec Differ Global) → List ℕ
counts_of differs = map (λ (of_pod : Vec Differ Global). length of_pod.items) differs

-- one differ for each container of each pod, as the pod's own ticks leave it
pub record AreFollowed (ticks : List TickObs) (counts : List ℕ) (differs : List (Vec Differ Global)) : Type 0 where
  pub as_many : counts_of differs ≡ counts
  pub each : (p c : ℕ) (ds : Vec Differ Global) (d : Differ) → p < length differs
      → c < length (slice_index_or differs p ds).items
      → IsStateOf (history ticks p c) (slice_index_or (slice_index_or differs p ds).items c d)
  pub of_pods : AreOfPods ticks (length counts)

-- these ticks, of pods with this many containers, have left it so
abbrev pub HasFollowed : List TickObs → List ℕ → ListingOrder → Type 0
HasFollowed ticks counts following = AreFollowed ticks counts following.differs.items

-- the tick may follow these: for each of the pods it has that it is not present, or shows it with this many containers,
-- at its own moment, which is later than theirs
pub record ComesNext (ticks : List TickObs) (counts : List ℕ) (tick : TickObs) : Type 0 where
  pub as_many : length tick.pods ≡ length counts
  pub containers : (pod count : ℕ) (shown : PodObs) → slice_get counts pod ≡ Some count
      → shown_of tick pod ≡ Some shown → length shown.containers ≡ count
  pub moment : (pod : ℕ) (shown : PodObs) → shown_of tick pod ≡ Some shown → shown.at ≡ tick.at
  pub later : EndBefore ticks tick.at

-- it follows a pod more, of this many containers, through the same ticks
abbrev pub HasNewPod : ListingOrder → ℕ → ListingOrder → Type 0
HasNewPod old containers next = (ticks : List TickObs) (counts : List ℕ) → HasFollowed ticks counts old
    → HasFollowed ticks (counts ++ containers ∷ []) next

-- of a tick that may follow the ticks that it has followed, the test answers whether none of its listings goes back
abbrev pub Tells : Bool → ListingOrder → TickObs → Type 0
Tells test following tick = (ticks : List TickObs) (counts : List ℕ) → HasFollowed ticks counts following
    → ComesNext ticks counts tick → (IsTrue test ↔ is_backwards ticks tick ≡ false)

-- the tick may follow some ticks that it has followed, and none of its listings goes back
pub record MayFollow (following : ListingOrder) (tick : TickObs) : Type 0 where
  pub ticks : List TickObs
  pub counts : List ℕ
  pub followed : HasFollowed ticks counts following
  pub comes_next : ComesNext ticks counts tick
  pub forwards : is_backwards ticks tick ≡ false

-- the tick is followed now as well
abbrev pub HasNewTick : ListingOrder → TickObs → ListingOrder → Type 0
HasNewTick old tick next = (ticks : List TickObs) (counts : List ℕ) → HasFollowed ticks counts old
    → ComesNext ticks counts tick → HasFollowed (ticks ++ tick ∷ []) counts next
