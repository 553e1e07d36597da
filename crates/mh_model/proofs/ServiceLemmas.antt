-- What holds of the objects of every service.
use Rattle.std.specs.Prelude.{◌≡◌, ℕ, ◌==◌, Bool, true, false, ◌&&◌, not, if◌then◌else◌, cond, List, [], ◌∷◌, ◌++◌, filter, Option, Some, None, unwrap_or, refl}
use Rattle.std.specs.Cmp.Derive.{both_true}
use Rattle.std.specs.List.{find, list_all}
use Rattle.std.specs.Option.{option_map, option_map_or, option_or}
use Rattle.std.specs.Str.{bytes_eq}
use Rattle.std.proofs.Common.{ap, ◌∙◌, sym, subst}
use Rattle.std.proofs.lemmas.Bool.Decides.{Decides-eqb}
use Rattle.std.proofs.lemmas.List.Folds.{list_all-append, find-append}
use Rattle.std.proofs.lemmas.Slice.Eq.{bytes_eq-Decides}
use Rattle.mh_base.specs.declared.obj_ref.ObjRef.{ObjRef}
use Rattle.mh_group.specs.declared.class.Class.{Class}
use Rattle.mh_group.specs.declared.class.Class.TheVariants as class
use Rattle.mh_group.specs.Table.{is_link, is_group_class, is_application}
use Rattle.mh_model.specs.declared.config.Config.{Config}
use Rattle.mh_model.specs.declared.object.Fixed.{Fixed}
use Rattle.mh_model.specs.Service.{Service, part_at, group_parts, is_in, is_there}
use Rattle.mh_model.specs.Reference.{same_ref, group_ref}
use Rattle.mh_model.specs.Configuration.{is_group_of, is_ingredient_of, is_group_list, has_value, is_each, is_service, scene_parts, present}
use Rattle.mh_model.specs.Effects.{sends_written}
use Rattle.mh_model.proofs.ListLemmas.{all_follow, all_joined, and_left, and_right, found}

-- References

pub same_ref-same : (a b : ObjRef) → same_ref a b ≡ true → a ≡ b
same_ref-same a b h =
    let groups : a.group ≡ b.group = (bytes_eq-Decides a.group b.group).0 (and_left (bytes_eq a.group b.group) (a.number == b.number) h) in
    let numbers : a.number ≡ b.number = (Decides-eqb a.number b.number).0 (and_right (bytes_eq a.group b.group) (a.number == b.number) h) in
    λ i. record { group = groups i; number = numbers i }

pub is_there_left : (r : ObjRef) (ps qs : List Fixed) → is_there r ps ≡ true → is_there r (ps ++ qs) ≡ true
is_there_left r ps qs h = ap (λ (m : Option Fixed). option_map_or (λ (o : Fixed). true) m false) (find-append (λ (o : Fixed). same_ref r o.key) ps qs) ∙ by (part_at r ps) h
  where
    by : (m : Option Fixed) → option_map_or (λ (o : Fixed). true) m false ≡ true → option_map_or (λ (o : Fixed). true) (option_or m (part_at r qs)) false ≡ true
    by None e = absurd cc
    by (Some o) e = refl

pub is_there_right : (r : ObjRef) (ps qs : List Fixed) → is_there r qs ≡ true → is_there r (ps ++ qs) ≡ true
is_there_right r ps qs h = ap (λ (m : Option Fixed). option_map_or (λ (o : Fixed). true) m false) (find-append (λ (o : Fixed). same_ref r o.key) ps qs) ∙ by (part_at r ps) h
  where
    by : (m : Option Fixed) → is_there r qs ≡ true → option_map_or (λ (o : Fixed). true) (option_or m (part_at r qs)) false ≡ true
    by None e = e
    by (Some o) e = refl

-- a group of some class is there itself
pub group_is_there : (is_class : Class → Bool) (v : Service) (g : List ℕ) → is_group_of is_class v g ≡ true → is_there (group_ref g) (group_parts v g) ≡ true
group_is_there is_class v g h = by (part_at (group_ref g) (group_parts v g)) h
  where
    by : (m : Option Fixed) → option_map_or (λ (o : Fixed). is_class o.class) m false ≡ true → option_map_or (λ (o : Fixed). true) m false ≡ true
    by None e = e
    by (Some o) e = refl

-- The objects of a service

-- what every service is, one by one
pub record OfService (v : Service) : Type 0 where
  pub lists : list_all (λ e. is_group_list e.0 e.1) v.groups ≡ true
  pub start : is_group_of is_application v v.start ≡ true
  pub values : is_each has_value v ≡ true
  pub sends : is_each sends_written v ≡ true

pub of_service : (v : Service) → is_service v ≡ true → OfService v
unfolding is_service
of_service v h =
    let front = and_left _ (is_each sends_written v) h in
    let known = and_left _ (is_each has_value v) front in
    record {
      lists = and_left _ (is_group_of is_application v v.start) known;
      start = and_right _ (is_group_of is_application v v.start) known;
      values = and_right _ (is_each has_value v) front;
      sends = and_right _ (is_each sends_written v) h;
    }

-- what each part of each group passes, those of a group pass
group_parts_each : (is : Fixed → Bool) (v : Service) (g : List ℕ) → is_each is v ≡ true → list_all is (group_parts v g) ≡ true
group_parts_each is v g h = by (find (λ (e : List ℕ × List Fixed). bytes_eq e.0 g) v.groups) refl
  where
    by : (m : Option (List ℕ × List Fixed)) → find (λ (e : List ℕ × List Fixed). bytes_eq e.0 g) v.groups ≡ m → list_all is (unwrap_or (option_map (λ (e : List ℕ × List Fixed). e.1) m) []) ≡ true
    by None e = refl
    by (Some e) at = (found (λ (x : List ℕ × List Fixed). bytes_eq x.0 g) (λ (x : List ℕ × List Fixed). list_all is x.1) v.groups e h at).1

-- and so do all that are present
present_each : (is : Fixed → Bool) (v : Service) (c : Config) → is_each is v ≡ true → list_all is (present v c) ≡ true
present_each is v c h = all_joined is (group_parts v c.app) (scene_parts v c.scene) (group_parts_each is v c.app h) (of_scene c.scene)
  where
    of_scene : (scene : Option (List ℕ)) → list_all is (scene_parts v scene) ≡ true
    of_scene None = refl
    of_scene (Some g) = group_parts_each is v g h

-- each variable of a group, or of what is present, has its original value

pub group_parts_valued : (v : Service) (g : List ℕ) → is_service v ≡ true → list_all has_value (group_parts v g) ≡ true
group_parts_valued v g h = group_parts_each has_value v g (of_service v h).values

pub present_valued : (v : Service) (c : Config) → is_service v ≡ true → list_all has_value (present v c) ≡ true
present_valued v c h = present_each has_value v c (of_service v h).values

-- and each event that is sent is written itself

pub group_parts_sent : (v : Service) (g : List ℕ) → is_service v ≡ true → list_all sends_written (group_parts v g) ≡ true
group_parts_sent v g h = group_parts_each sends_written v g (of_service v h).sends

pub present_sent : (v : Service) (c : Config) → is_service v ≡ true → list_all sends_written (present v c) ≡ true
present_sent v c h = present_each sends_written v c (of_service v h).sends

-- an object has number 0 exactly where it is a group
abbrev pub is_whole : Fixed → Bool
is_whole o = if o.key.number == 0 then is_group_class o.class else not (is_group_class o.class)

whole_group : (o : Fixed) → (o.key.number == 0) ≡ true → is_group_class o.class ≡ true → is_whole o ≡ true
whole_group o zeroth is = ap (λ (b : Bool). if b then is_group_class o.class else not (is_group_class o.class)) zeroth ∙ is

whole_ingredient : (b c : Bool) → not b ≡ true → not c ≡ true → (if b then c else not c) ≡ true
whole_ingredient true c e f = absurd cc
whole_ingredient false c e f = f

-- the objects of one group: each is of the group, and is whole
abbrev is_right_in : List ℕ → Fixed → Bool
is_right_in g o = is_in g o && is_whole o

ingredient_right : (g : List ℕ) (o : Fixed) → is_ingredient_of g o ≡ true → is_right_in g o ≡ true
ingredient_right g o h =
    let first = and_left (is_in g o && not (o.key.number == 0)) (not (is_group_class o.class)) h in
    both_true (and_left (is_in g o) (not (o.key.number == 0)) first)
    (whole_ingredient (o.key.number == 0) (is_group_class o.class) (and_right (is_in g o) (not (o.key.number == 0)) first) (and_right (is_in g o && not (o.key.number == 0)) (not (is_group_class o.class)) h))

group_list_right : (g : List ℕ) (ps : List Fixed) → is_group_list g ps ≡ true → list_all (is_right_in g) ps ≡ true
group_list_right g [] h = absurd cc
group_list_right g (o ∷ ps) h =
    let rest = and_right (is_in g o && o.key.number == 0 && is_group_class o.class) (list_all (is_ingredient_of g) ps) h in
    let front = and_left (is_in g o && o.key.number == 0 && is_group_class o.class) (list_all (is_ingredient_of g) ps) h in
    let is_group = and_right (is_in g o && o.key.number == 0) (is_group_class o.class) front in
    let at = and_left (is_in g o && o.key.number == 0) (is_group_class o.class) front in
    both_true (both_true (and_left (is_in g o) (o.key.number == 0) at) (whole_group o (and_right (is_in g o) (o.key.number == 0) at) is_group))
    (all_follow (is_ingredient_of g) (is_right_in g) (ingredient_right g) ps rest)

group_parts_right : (v : Service) (g : List ℕ) → is_service v ≡ true → list_all (is_right_in g) (group_parts v g) ≡ true
group_parts_right v g h =
    by (find (λ (e : List ℕ × List Fixed). bytes_eq e.0 g) v.groups) refl
  where
    lists : list_all (λ (e : List ℕ × List Fixed). is_group_list e.0 e.1) v.groups ≡ true
    lists = (of_service v h).lists

    by : (m : Option (List ℕ × List Fixed)) → find (λ (e : List ℕ × List Fixed). bytes_eq e.0 g) v.groups ≡ m → list_all (is_right_in g) (unwrap_or (option_map (λ (e : List ℕ × List Fixed). e.1) m) []) ≡ true
    by None e = refl
    by (Some e) is =
        let hit = found (λ (e : List ℕ × List Fixed). bytes_eq e.0 g) (λ (e : List ℕ × List Fixed). is_group_list e.0 e.1) v.groups e lists is in
        subst (λ (n : List ℕ). list_all (is_right_in n) e.1 ≡ true) ((bytes_eq-Decides e.0 g).0 hit.0) (group_list_right e.0 e.1 hit.1)

pub group_parts_whole : (v : Service) (g : List ℕ) → is_service v ≡ true → list_all is_whole (group_parts v g) ≡ true
group_parts_whole v g h = all_follow (is_right_in g) is_whole (λ o right. and_right (is_in g o) (is_whole o) right) (group_parts v g) (group_parts_right v g h)

pub group_parts_in : (v : Service) (g : List ℕ) → is_service v ≡ true → list_all (is_in g) (group_parts v g) ≡ true
group_parts_in v g h = all_follow (is_right_in g) (is_in g) (λ o right. and_left (is_in g o) (is_whole o) right) (group_parts v g) (group_parts_right v g h)

scene_parts_whole : (v : Service) (scene : Option (List ℕ)) → is_service v ≡ true → list_all is_whole (scene_parts v scene) ≡ true
scene_parts_whole v None h = refl
scene_parts_whole v (Some g) h = group_parts_whole v g h

pub present_whole : (v : Service) (c : Config) → is_service v ≡ true → list_all is_whole (present v c) ≡ true
present_whole v c h = all_joined is_whole (group_parts v c.app) (scene_parts v c.scene) (group_parts_whole v c.app h) (scene_parts_whole v c.scene h)

-- an object that is found under number 0 is no link
pub found_group : (g : List ℕ) (ps : List Fixed) (o : Fixed) → list_all is_whole ps ≡ true → part_at (group_ref g) ps ≡ Some o → is_link o.class ≡ false
found_group g ps o h e =
    let hit = found (λ (x : Fixed). same_ref (group_ref g) x.key) is_whole ps o h e in
    let key : group_ref g ≡ o.key = same_ref-same (group_ref g) o.key hit.0 in
    let zeroth : true ≡ (o.key.number == 0) = ap (λ (k : ObjRef). k.number == 0) key in
    let is_group : is_group_class o.class ≡ true = ap (λ (b : Bool). if b then is_group_class o.class else not (is_group_class o.class)) zeroth ∙ hit.1 in
    by o.class is_group
  where
    by : (k : Class) → is_group_class k ≡ true → is_link k ≡ false
    by class.Link is = absurd cc
    by _ is = refl

-- a group that is found is found under number 0
pub found_numbered : (r : ObjRef) (ps : List Fixed) (o : Fixed) → list_all is_whole ps ≡ true → part_at r ps ≡ Some o → is_group_class o.class ≡ true → (r.number == 0) ≡ true
found_numbered r ps o h e is = by (o.key.number == 0) refl
  where
    hit : (same_ref r o.key ≡ true) × (is_whole o ≡ true)
    hit = found (λ (x : Fixed). same_ref r x.key) is_whole ps o h e

    by : (b : Bool) → (o.key.number == 0) ≡ b → (r.number == 0) ≡ true
    by true numbered = ap (λ (k : ObjRef). k.number == 0) (same_ref-same r o.key hit.0) ∙ numbered
    by false numbered =
        let no_group : not (is_group_class o.class) ≡ true = ap (λ (b : Bool). if b then is_group_class o.class else not (is_group_class o.class)) (sym numbered) ∙ hit.1 in
        absurd cc
