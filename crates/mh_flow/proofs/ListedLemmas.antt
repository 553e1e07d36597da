-- What is reached is among the configurations of the service; to a scene an action leads under the same application.
use Rattle.std.specs.Prelude.{◌≡◌, ◌⊎◌, ℕ, Bool, true, false, cond, ◌&&◌, ◌==◌, List, [], ◌∷◌, map, Option, Some, None, refl, unwrap_or}
use Rattle.std.specs.List.{Contains, find}
use Rattle.std.specs.Option.{option_map, option_map_or}
use Rattle.std.specs.Str.{bytes_eq}
use Rattle.std.proofs.Common.{ap, ◌∙◌, subst, inl, inr}
use Rattle.std.proofs.lemmas.Slice.Eq.{bytes_eq-Decides}
use Rattle.mh_base.specs.declared.obj_ref.ObjRef.{ObjRef}
use Rattle.mh_group.specs.declared.action_name.ActionName.{ActionName}
use Rattle.mh_group.specs.declared.action_name.ActionName.TheVariants as action
use Rattle.mh_group.specs.declared.class.Class.{Class}
use Rattle.mh_group.specs.Table.{is_scene, is_application}
use Rattle.mh_model.specs.declared.config.Config.{Config}
use Rattle.mh_model.specs.declared.object.Fixed.{Fixed}
use Rattle.mh_model.specs.Service.{Service, part_at}
use Rattle.mh_model.specs.Reference.{group_ref}
use Rattle.mh_model.specs.Configuration.{is_service, is_group_of, names, with_scenes, configurations}
use Rattle.mh_model.proofs.ListLemmas.{some_same}
use Rattle.mh_model.proofs.ServiceLemmas.{of_service}
use Rattle.mh_laws.specs.Active.{leads_to}
use Rattle.mh_laws.specs.Least.{Derived, Fact, Reached, start, named, referred, written, read, original_value, original_item, given, filled, led, passed}
use Rattle.mh_flow.proofs.ContainsLemmas.{no_member, here, behind, first_or_behind, in_joined}
use Rattle.mh_flow.proofs.PlaceLemmas.{found_member}
use Rattle.mh_flow.proofs.PresentLemmas.{passing}

pub mapped : {X Y : Type 0} (f : X → Y) (xs : List X) (x : X) → Contains xs x → Contains (map f xs) (f x)
mapped f [] x m = absurd (no_member x m)
mapped {X} {Y} f (y ∷ xs) x m = by (first_or_behind y xs x m) (mapped f xs x)
  where
    by : (y ≡ x) ⊎ Contains xs x → (Contains xs x → Contains (map f xs) (f x)) → Contains (f y ∷ map f xs) (f x)
    by (inl same) ih = subst (λ (z : X). Contains (f y ∷ map f xs) (f z)) same (here (f y) (map f xs))
    by (inr k) ih = behind (f y) (map f xs) (f x) (ih k)

-- a group of such a class is among their names
listed : (p : Class → Bool) (s : Service) (g : List ℕ) → is_group_of p s g ≡ true → Contains (names p s) g
listed p s g h = passing (is_group_of p s) (map (λ (e : List ℕ × List Fixed). e.0) s.groups) g h (by (find (λ (e : List ℕ × List Fixed). bytes_eq e.0 g) s.groups) refl h)
  where
    by : (o : Option (List ℕ × List Fixed)) → find (λ (e : List ℕ × List Fixed). bytes_eq e.0 g) s.groups ≡ o → option_map_or (λ (x : Fixed). p x.class) (part_at (group_ref g) (unwrap_or (option_map (λ (e : List ℕ × List Fixed). e.1) o) [])) false ≡ true → Contains (map (λ (e : List ℕ × List Fixed). e.0) s.groups) g
    by None e k = absurd cc
    by (Some x) e k =
        let found = found_member (λ (y : List ℕ × List Fixed). bytes_eq y.0 g) s.groups x e in
        subst (λ (n : List ℕ). Contains (map (λ (y : List ℕ × List Fixed). y.0) s.groups) n) ((bytes_eq-Decides x.0 g).0 found.0) (mapped (λ (y : List ℕ × List Fixed). y.0) s.groups x found.1)

-- the scene of the configuration is one of the service
abbrev HasScene : Service → Option (List ℕ) → Type 0
HasScene s None = Unit {0}
HasScene s (Some g) = is_group_of is_scene s g ≡ true

record IsListed (s : Service) (c : Config) : Type 0 where
  app : is_group_of is_application s c.app ≡ true
  scene : HasScene s c.scene

abbrev alone : List ℕ → Config
alone app = record { app = app; scene = None }

-- an action leads to a scene under the same application, or to an application
leads_listed : (s : Service) (c d : Config) (n : ActionName) (r : ObjRef) → IsListed s c → leads_to s c n r ≡ Some d → IsListed s d
leads_listed s c d action.TransitionTo r h e = by (r.number == 0) (is_group_of is_scene s r.group) refl e
  where
    by : (t b : Bool) → is_group_of is_scene s r.group ≡ b → cond (t && b) (Some (record c { scene = Some r.group })) None ≡ Some d → IsListed s d
    by true true k e = subst (λ (x : Config). IsListed s x) (some_same e) (record { app = h.app; scene = k })
    by true false k e = absurd cc
    by false b k e = absurd cc
leads_listed s c d action.Launch r h e = by (r.number == 0) (is_group_of is_application s r.group) refl e
  where
    by : (t b : Bool) → is_group_of is_application s r.group ≡ b → cond (t && b) (Some (alone r.group)) None ≡ Some d → IsListed s d
    by true true k e = subst (λ (x : Config). IsListed s x) (some_same e) (record { app = k; scene = tt })
    by true false k e = absurd cc
    by false b k e = absurd cc
leads_listed s c d _ r h e = absurd cc

-- where it leads to a scene, the application stays
pub same_application : (s : Service) (c d : Config) (n : ActionName) (r : ObjRef) (g : List ℕ) → leads_to s c n r ≡ Some d → d.scene ≡ Some g → c.app ≡ d.app
same_application s c d action.TransitionTo r g e scene = by (r.number == 0 && is_group_of is_scene s r.group) e
  where
    by : (t : Bool) → cond t (Some (record c { scene = Some r.group })) None ≡ Some d → c.app ≡ d.app
    by true e = ap (λ (x : Config). x.app) (some_same e)
    by false e = absurd cc
same_application s c d action.Launch r g e scene = by (r.number == 0 && is_group_of is_application s r.group) e
  where
    by : (t : Bool) → cond t (Some (alone r.group)) None ≡ Some d → c.app ≡ d.app
    by true e = let never : None ≡ Some g = ap (λ (x : Config). x.scene) (some_same e) ∙ scene in absurd cc
    by false e = absurd cc
same_application s c d _ r g e scene = absurd cc

abbrev WhereListed : Service → Fact → Type 0
WhereListed v (Reached c) = IsListed v c
WhereListed v x = Unit {0}

where_listed : (v : Service) (x : Fact) → is_service v ≡ true → Derived v x → WhereListed v x
where_listed v _ is start = record { app = (of_service v is).start; scene = tt }
where_listed v _ is (named c r) = tt
where_listed v _ is (referred c w q refers d) = tt
where_listed v _ is (written c q) = tt
where_listed v _ is (read c w q k refers d) = tt
where_listed v _ is (original_value c p q d among refers e) = tt
where_listed v _ is (original_item c p q d among list e) = tt
where_listed v _ is (given c a n x r q d active says_it e comes takes reads hands) = tt
where_listed v _ is (filled c a r x q d active fill comes list receives refers held) = tt
where_listed v _ is (led c a r d h active comes e) = leads_listed v c d a.name r (where_listed v (Reached c) is h) e
where_listed v _ is (passed c a r d g p q h active comes e scene among held) = tt

under : (s : Service) (app : List ℕ) (scene : Option (List ℕ)) → HasScene s scene → Contains (with_scenes (names is_scene s) app) (record { app = app; scene = scene })
under s app None h = here (alone app) (map (λ (g : List ℕ). record { app = app; scene = Some g }) (names is_scene s))
under s app (Some g) h =
    behind (alone app) (map (λ (n : List ℕ). record { app = app; scene = Some n }) (names is_scene s)) (record { app = app; scene = Some g })
    (mapped (λ (n : List ℕ). record { app = app; scene = Some n }) (names is_scene s) g (listed is_scene s g h))

pub is_listed : (v : Service) (c : Config) → is_service v ≡ true → Derived v (Reached c) → Contains (configurations v) c
is_listed v c is d =
    let known : IsListed v c = where_listed v (Reached c) is d in
    in_joined (with_scenes (names is_scene v)) (names is_application v) c.app c (listed is_application v c.app known.app) (under v c.app c.scene known.scene)
