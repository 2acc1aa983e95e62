-- A pod of one container, or of two, after one more tick.
use Rattle.std.proofs.Common.{◌≡◌, ℕ, zero, suc, ◌<◌, List, [], ◌∷◌, ◌++◌, length, get_or, arith, refl, sym}
use Rattle.phase.specs.declared.restart_view.RestartView.{RestartView}
use Rattle.manifest.specs.declared.pod.PodSpec.{PodSpec}
use Rattle.containers.specs.declared.container.Container.{Container}
use Rattle.containers.specs.declared.events.ContainerEvents.{ContainerEvents}
use Rattle.pod_state.specs.rule.Pods.{PodTick}
use Rattle.pod_state.specs.state.Pods.{IsViewOf, AreViewsOf}
use Rattle.pod_state.specs.state.Containers.{IsContainerOf, AreContainersOf}
use Rattle.pod_state.specs.rule.Events.{IsMadeOf, AreMade}
use Rattle.pod_state.proofs.ContainerLemmas.{item_at}

-- what holds of each of one or two items, each by its place
each_of_one : {A : Type 0} (P : ℕ → A → Type 0) (x : A) → P 0 x
    → (n : ℕ) (d : A) → n < 1 → P n (get_or (x ∷ []) n d)
each_of_one P x is zero d lt = is
each_of_one P x is (suc n) d lt = absurd (omega (arith, lt))

each_of_two : {A : Type 0} (P : ℕ → A → Type 0) (x y : A) → P 0 x → P 1 y
    → (n : ℕ) (d : A) → n < 2 → P n (get_or (x ∷ y ∷ []) n d)
each_of_two P x y is also zero d lt = is
each_of_two P x y is also (suc zero) d lt = also
each_of_two P x y is also (suc (suc n)) d lt = absurd (omega (arith, lt))

-- what a step makes of the container of a pod that has one, or of those of one that has two
module _ {A : Type 0} (P : ℕ → A → Type 0) (pod : PodSpec) (max_restart_delay : ℕ) (h : List PodTick)
    (containers : List Container) where
  one_stepped : (old : Container) (new : A) → length containers ≡ 1 → old ≡ get_or containers 0 old
      → (IsContainerOf pod max_restart_delay h 0 old → P 0 new) → AreContainersOf pod max_restart_delay h containers
      → (1 ≡ length pod.containers) × ((n : ℕ) (d : A) → n < length pod.containers → P n (get_or (new ∷ []) n d))
  one_stepped old new long is step are =
      let count : length pod.containers ≡ 1 = omega (arith, long, are.as_many) in
      let now = step (item_at pod max_restart_delay h 0 containers old old (omega (arith, long)) is
      (are.each 0 old (omega (arith, count)))) in
      (sym count, (λ n d lt. each_of_one P new now n d (omega (arith, count, lt))))

  two_stepped : (one other : Container) (next also : A) → length containers ≡ 2 → one ≡ get_or containers 0 one
      → other ≡ get_or containers 1 other
      → (IsContainerOf pod max_restart_delay h 0 one → P 0 next)
      → (IsContainerOf pod max_restart_delay h 1 other → P 1 also)
      → AreContainersOf pod max_restart_delay h containers
      → (2 ≡ length pod.containers)
      × ((n : ℕ) (d : A) → n < length pod.containers → P n (get_or (next ∷ also ∷ []) n d))
  two_stepped one other next also long is is_other step step_other are =
      let count : length pod.containers ≡ 2 = omega (arith, long, are.as_many) in
      let now = step (item_at pod max_restart_delay h 0 containers one one (omega (arith, long)) is
      (are.each 0 one (omega (arith, count)))) in
      let now_other = step_other (item_at pod max_restart_delay h 1 containers other other (omega (arith, long))
      is_other (are.each 1 other (omega (arith, count)))) in
      (sym count, (λ n d lt. each_of_two P next also now now_other n d (omega (arith, count, lt))))

-- the containers after the tick
pub one_next : (pod : PodSpec) (max_restart_delay : ℕ) (h : List PodTick) (tick : PodTick) (containers : List Container)
    (old new : Container) → length containers ≡ 1 → old ≡ get_or containers 0 old
    → (IsContainerOf pod max_restart_delay h 0 old → IsContainerOf pod max_restart_delay (h ++ tick ∷ []) 0 new)
    → AreContainersOf pod max_restart_delay h containers
    → AreContainersOf pod max_restart_delay (h ++ tick ∷ []) (new ∷ [])
one_next pod max_restart_delay h tick containers old new long is step are =
    let all = one_stepped (IsContainerOf pod max_restart_delay (h ++ tick ∷ [])) pod max_restart_delay h containers old
    new long is step are in
    record { as_many = all.0; each = all.1 }

pub two_next : (pod : PodSpec) (max_restart_delay : ℕ) (h : List PodTick) (tick : PodTick) (containers : List Container)
    (one other next also : Container) → length containers ≡ 2 → one ≡ get_or containers 0 one
    → other ≡ get_or containers 1 other
    → (IsContainerOf pod max_restart_delay h 0 one → IsContainerOf pod max_restart_delay (h ++ tick ∷ []) 0 next)
    → (IsContainerOf pod max_restart_delay h 1 other → IsContainerOf pod max_restart_delay (h ++ tick ∷ []) 1 also)
    → AreContainersOf pod max_restart_delay h containers
    → AreContainersOf pod max_restart_delay (h ++ tick ∷ []) (next ∷ also ∷ [])
two_next pod max_restart_delay h tick containers one other next also long is is_other step step_other are =
    let all = two_stepped (IsContainerOf pod max_restart_delay (h ++ tick ∷ [])) pod max_restart_delay h containers one
    other next also long is is_other step step_other are in
    record { as_many = all.0; each = all.1 }

-- what the tick made of them
pub one_made : (pod : PodSpec) (max_restart_delay : ℕ) (h : List PodTick) (tick : PodTick) (containers : List Container)
    (old : Container) (made : ContainerEvents) → length containers ≡ 1 → old ≡ get_or containers 0 old
    → (IsContainerOf pod max_restart_delay h 0 old → IsMadeOf pod max_restart_delay h tick 0 made)
    → AreContainersOf pod max_restart_delay h containers → AreMade pod max_restart_delay h tick (made ∷ [])
one_made pod max_restart_delay h tick containers old made long is step are =
    let all = one_stepped (IsMadeOf pod max_restart_delay h tick) pod max_restart_delay h containers old made long is
    step are in
    record { as_many = all.0; each = all.1 }

pub two_made : (pod : PodSpec) (max_restart_delay : ℕ) (h : List PodTick) (tick : PodTick) (containers : List Container)
    (one other : Container) (made also : ContainerEvents) → length containers ≡ 2 → one ≡ get_or containers 0 one
    → other ≡ get_or containers 1 other
    → (IsContainerOf pod max_restart_delay h 0 one → IsMadeOf pod max_restart_delay h tick 0 made)
    → (IsContainerOf pod max_restart_delay h 1 other → IsMadeOf pod max_restart_delay h tick 1 also)
    → AreContainersOf pod max_restart_delay h containers → AreMade pod max_restart_delay h tick (made ∷ also ∷ [])
two_made pod max_restart_delay h tick containers one other made also long is is_other step step_other are =
    let all = two_stepped (IsMadeOf pod max_restart_delay h tick) pod max_restart_delay h containers one other made also
    long is is_other step step_other are in
    record { as_many = all.0; each = all.1 }

-- and their views
pub one_view : (pod : PodSpec) (max_restart_delay : ℕ) (h : List PodTick) (container : Container) (view : RestartView)
    → (IsContainerOf pod max_restart_delay h 0 container → IsViewOf pod h 0 view)
    → AreContainersOf pod max_restart_delay h (container ∷ []) → AreViewsOf pod h (view ∷ [])
one_view pod max_restart_delay h container view shows are =
    let all = one_stepped (IsViewOf pod h) pod max_restart_delay h (container ∷ []) container view refl refl shows
    are in
    record { as_many = all.0; each = all.1 }

pub two_views : (pod : PodSpec) (max_restart_delay : ℕ) (h : List PodTick) (one other : Container)
    (view also : RestartView)
    → (IsContainerOf pod max_restart_delay h 0 one → IsViewOf pod h 0 view)
    → (IsContainerOf pod max_restart_delay h 1 other → IsViewOf pod h 1 also)
    → AreContainersOf pod max_restart_delay h (one ∷ other ∷ []) → AreViewsOf pod h (view ∷ also ∷ [])
two_views pod max_restart_delay h one other view also shows shows_other are =
    let all = two_stepped (IsViewOf pod h) pod max_restart_delay h (one ∷ other ∷ []) one other view also refl refl refl
    shows shows_other are in
    record { as_many = all.0; each = all.1 }
