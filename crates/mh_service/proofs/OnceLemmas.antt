-- The configurations of a service come each once, since the names of its groups do.
use Rattle.std.proofs.Common.{◌≡◌, ℕ, Bool, true, false, cond, ◌&&◌, List, [], ◌∷◌, ◌++◌, map, filter, Some, None, refl}
use Rattle.std.specs.List.{IsDistinct, AllByRecursion, flat_map}
use Rattle.std.specs.Str.{bytes_eq}
use Rattle.mh_group.specs.Table.{is_scene, is_application}
use Rattle.mh_model.specs.declared.config.Config.{Config}
use Rattle.mh_model.specs.declared.object.Fixed.{Fixed}
use Rattle.mh_model.specs.Service.{Service}
use Rattle.mh_model.specs.Configuration.{same_config, same_scene, with_scenes, configurations, names, is_group_of}

no_if_not : (a b : Bool) → a ≡ false → (a && b) ≡ false
no_if_not true b h = cc
no_if_not false b h = refl

no_and : (a b : Bool) → b ≡ false → (a && b) ≡ false
no_and true b h = h
no_and false b h = refl

all_kept : {X : Type 0} (P : X → Type 0) (p : X → Bool) (xs : List X) → AllByRecursion P xs → AllByRecursion P (filter p xs)
all_kept P p [] h = h
all_kept {X} P p (x ∷ xs) h = by (p x) (all_kept P p xs h.1)
  where
    by : (b : Bool) → AllByRecursion P (filter p xs) → AllByRecursion P (cond b (x ∷ filter p xs) (filter p xs))
    by true ih = (h.0, ih)
    by false ih = ih

all_joined : {X : Type 0} (P : X → Type 0) (xs ys : List X) → AllByRecursion P xs → AllByRecursion P ys → AllByRecursion P (xs ++ ys)
all_joined P [] ys h k = k
all_joined P (x ∷ xs) ys h k = (h.0, all_joined P xs ys h.1 k)

distinct_kept : {X : Type 0} (e : X → X → Bool) (p : X → Bool) (xs : List X) → IsDistinct e xs → IsDistinct e (filter p xs)
unfolding IsDistinct
distinct_kept e p [] h = h
distinct_kept {X} e p (x ∷ xs) h = by (p x) (distinct_kept e p xs h.1)
  where
    by : (b : Bool) → IsDistinct e (filter p xs) → IsDistinct e (cond b (x ∷ filter p xs) (filter p xs))
    by true ih = (all_kept (λ y. e x y ≡ false) p xs h.0, ih)
    by false ih = ih

distinct_joined : {X : Type 0} (e : X → X → Bool) (xs ys : List X) → IsDistinct e xs → IsDistinct e ys → AllByRecursion (λ x. AllByRecursion (λ y. e x y ≡ false) ys) xs → IsDistinct e (xs ++ ys)
unfolding IsDistinct
distinct_joined e [] ys h k c = k
distinct_joined e (x ∷ xs) ys h k c = (all_joined (λ y. e x y ≡ false) xs ys h.0 c.0, distinct_joined e xs ys h.1 k c.1)

abbrev under : List ℕ → List ℕ → Config
under app g = record { app = app; scene = Some g }

-- one application

no_scene_again : (app : List ℕ) (scenes : List (List ℕ)) → AllByRecursion (λ c. same_config (record { app = app; scene = None }) c ≡ false) (map (under app) scenes)
no_scene_again app [] = tt
no_scene_again app (g ∷ gs) = (no_and (bytes_eq app app) false refl, no_scene_again app gs)

scene_again : (app g : List ℕ) (scenes : List (List ℕ)) → AllByRecursion (λ h. bytes_eq g h ≡ false) scenes → AllByRecursion (λ c. same_config (under app g) c ≡ false) (map (under app) scenes)
scene_again app g [] h = tt
scene_again app g (k ∷ ks) h = (no_and (bytes_eq app app) (bytes_eq g k) h.0, scene_again app g ks h.1)

distinct_scenes : (app : List ℕ) (scenes : List (List ℕ)) → IsDistinct bytes_eq scenes → IsDistinct same_config (map (under app) scenes)
unfolding IsDistinct
distinct_scenes app [] h = tt
distinct_scenes app (g ∷ gs) h = (scene_again app g gs h.0, distinct_scenes app gs h.1)

distinct_with : (app : List ℕ) (scenes : List (List ℕ)) → IsDistinct bytes_eq scenes → IsDistinct same_config (with_scenes scenes app)
unfolding IsDistinct
distinct_with app scenes h = (no_scene_again app scenes, distinct_scenes app scenes h)

-- two applications

other_scenes : (c : Config) (app : List ℕ) (scenes : List (List ℕ)) → bytes_eq c.app app ≡ false → AllByRecursion (λ d. same_config c d ≡ false) (map (under app) scenes)
other_scenes c app [] h = tt
other_scenes c app (g ∷ gs) h = (no_if_not (bytes_eq c.app app) (same_scene c.scene (Some g)) h, other_scenes c app gs h)

others : (c : Config) (apps scenes : List (List ℕ)) → AllByRecursion (λ app. bytes_eq c.app app ≡ false) apps → AllByRecursion (λ d. same_config c d ≡ false) (flat_map (with_scenes scenes) apps)
others c [] scenes h = tt
others c (app ∷ apps) scenes h =
    all_joined (λ d. same_config c d ≡ false) (with_scenes scenes app) (flat_map (with_scenes scenes) apps)
    (no_if_not (bytes_eq c.app app) (same_scene c.scene None) h.0, other_scenes c app scenes h.0) (others c apps scenes h.1)

each_other : (app : List ℕ) (apps scenes some_scenes : List (List ℕ)) → AllByRecursion (λ other. bytes_eq app other ≡ false) apps → AllByRecursion (λ c. AllByRecursion (λ d. same_config c d ≡ false) (flat_map (with_scenes scenes) apps)) (map (under app) some_scenes)
each_other app apps scenes [] h = tt
each_other app apps scenes (g ∷ gs) h = (others (under app g) apps scenes h, each_other app apps scenes gs h)

distinct_all : (apps scenes : List (List ℕ)) → IsDistinct bytes_eq apps → IsDistinct bytes_eq scenes → IsDistinct same_config (flat_map (with_scenes scenes) apps)
unfolding IsDistinct
distinct_all [] scenes h k = tt
distinct_all (app ∷ apps) scenes h k =
    distinct_joined same_config (with_scenes scenes app) (flat_map (with_scenes scenes) apps) (distinct_with app scenes k) (distinct_all apps scenes h.1 k)
    (others (record { app = app; scene = None }) apps scenes h.0, each_other app apps scenes scenes h.0)

pub each_once : (s : Service) → IsDistinct bytes_eq (map (λ e. e.0) s.groups) → IsDistinct same_config (configurations s)
each_once s h =
    distinct_all (names is_application s) (names is_scene s)
    (distinct_kept bytes_eq (is_group_of is_application s) (map (λ (e : List ℕ × List Fixed). e.0) s.groups) h)
    (distinct_kept bytes_eq (is_group_of is_scene s) (map (λ (e : List ℕ × List Fixed). e.0) s.groups) h)
