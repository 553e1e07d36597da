-- What is present in a configuration: each object is found under its own reference, and is one of the service.
use Rattle.std.specs.Prelude.{◌≡◌, ◌⊎◌, ℕ, ◌==◌, Bool, true, false, not, cond, List, [], ◌∷◌, filter, Option, Some, None, unwrap_or, refl}
use Rattle.std.specs.List.{Contains, find, list_all}
use Rattle.std.specs.Option.{option_map, option_or}
use Rattle.std.specs.Str.{bytes_eq}
use Rattle.std.specs.Cmp.Lexicographic.{nat_list_eq_equiv}
use Rattle.std.proofs.Common.{ap, ◌∙◌, sym, subst, inl, inr}
use Rattle.std.proofs.lemmas.Bool.Decides.{Decides-eqb}
use Rattle.std.proofs.lemmas.List.Elements.{Contains-append_cases, Contains-append_left}
use Rattle.std.proofs.lemmas.List.Folds.{find-append}
use Rattle.std.proofs.lemmas.Slice.Eq.{bytes_eq-Decides}
use Rattle.mh_base.specs.declared.obj_ref.ObjRef.{ObjRef}
use Rattle.mh_model.specs.declared.act.Act.{Act}
use Rattle.mh_model.specs.declared.config.Config.{Config}
use Rattle.mh_model.specs.declared.object.Fixed.{Fixed}
use Rattle.mh_model.specs.Configuration.{are_apart, has_keys, is_keyed, is_service, present, scene_parts}
use Rattle.mh_model.specs.Effects.{actions}
use Rattle.mh_model.specs.Reference.{same_ref}
use Rattle.mh_model.specs.Service.{Service, group_parts, is_in, part_at}
use Rattle.mh_model.proofs.ServiceLemmas.{group_parts_in, same_ref-same}
use Rattle.mh_laws.specs.Active.{active_actions, is_active}
use Rattle.mh_flow.specs.Chart.{all_parts}
use Rattle.mh_flow.proofs.ContainsLemmas.{all_of, both, halves, here, behind, first_or_behind, in_joined, joined_from, no_member}
use Rattle.mh_flow.proofs.PlaceLemmas.{any_member, found_member}

-- References

pub same_itself : (r : ObjRef) → same_ref r r ≡ true
same_itself r = both (bytes_eq r.group r.group) (r.number == r.number) (nat_list_eq_equiv.refl r.group) ((Decides-eqb r.number r.number).1 refl)

-- What passes a test

pub passing_from : {X : Type 0} (p : X → Bool) (xs : List X) (x : X) → Contains (filter p xs) x → (p x ≡ true) × Contains xs x
passing_from p [] x m = absurd (no_member x m)
passing_from {X} p (y ∷ xs) x m = by (p y) refl m (passing_from p xs x)
  where
    first : p y ≡ true → (y ≡ x) ⊎ Contains (filter p xs) x → (Contains (filter p xs) x → (p x ≡ true) × Contains xs x) → (p x ≡ true) × Contains (y ∷ xs) x
    first is (inl same) ih = (subst (λ (z : X). p z ≡ true) same is, subst (λ (z : X). Contains (y ∷ xs) z) same (here y xs))
    first is (inr k) ih = let found = ih k in (found.0, behind y xs x found.1)

    by : (b : Bool) → p y ≡ b → Contains (cond b (y ∷ filter p xs) (filter p xs)) x → (Contains (filter p xs) x → (p x ≡ true) × Contains xs x) → (p x ≡ true) × Contains (y ∷ xs) x
    by true is m ih = first is (first_or_behind y (filter p xs) x m) ih
    by false is m ih = let found = ih m in (found.0, behind y xs x found.1)

pub passing : {X : Type 0} (p : X → Bool) (xs : List X) (x : X) → p x ≡ true → Contains xs x → Contains (filter p xs) x
passing p [] x e m = absurd (no_member x m)
passing {X} p (y ∷ xs) x e m = by (p y) refl (first_or_behind y xs x m) (passing p xs x e)
  where
    by : (b : Bool) → p y ≡ b → (y ≡ x) ⊎ Contains xs x → (Contains xs x → Contains (filter p xs) x) → Contains (cond b (y ∷ filter p xs) (filter p xs)) x
    by true d (inl same) ih = subst (λ (z : X). Contains (y ∷ filter p xs) z) same (here y (filter p xs))
    by true d (inr k) ih = behind y (filter p xs) x (ih k)
    by false d (inl same) ih = let never : true ≡ false = sym (subst (λ (z : X). p z ≡ true) (sym same) e) ∙ d in absurd cc
    by false d (inr k) ih = ih k

-- Objects of the service

-- what is said of a group stands among the groups
group_entry : (v : Service) (g : List ℕ) (p : Fixed) → Contains (group_parts v g) p → (e : List ℕ × List Fixed) × Contains v.groups e × (group_parts v g ≡ e.1)
group_entry v g p m = by (find (λ (e : List ℕ × List Fixed). bytes_eq e.0 g) v.groups) refl m
  where
    by : (o : Option (List ℕ × List Fixed)) → find (λ (e : List ℕ × List Fixed). bytes_eq e.0 g) v.groups ≡ o → Contains (unwrap_or (option_map (λ (e : List ℕ × List Fixed). e.1) o) []) p → (e : List ℕ × List Fixed) × Contains v.groups e × (group_parts v g ≡ e.1)
    by None e k = absurd (no_member p k)
    by (Some x) e k =
        (x, (found_member (λ (y : List ℕ × List Fixed). bytes_eq y.0 g) v.groups x e).1, ap (λ (o : Option (List ℕ × List Fixed)). unwrap_or (option_map (λ (y : List ℕ × List Fixed). y.1) o) []) e)

group_part : (v : Service) (g : List ℕ) (p : Fixed) → Contains (group_parts v g) p → Contains (all_parts v) p
group_part v g p m =
    let entry = group_entry v g p m in
    in_joined (λ (e : List ℕ × List Fixed). e.1) v.groups entry.0 p entry.1 (subst (λ (ps : List Fixed). Contains ps p) entry.2 m)

-- what is present is in the application or in the scene
pub in_group : (v : Service) (c : Config) (p : Fixed) → Contains (present v c) p → Contains (group_parts v c.app) p ⊎ Contains (scene_parts v c.scene) p
in_group v c p m = Contains-append_cases (group_parts v c.app) (scene_parts v c.scene) p m

pub own_present : (v : Service) (c : Config) (p : Fixed) → Contains (group_parts v c.app) p → Contains (present v c) p
own_present v c p m = Contains-append_left (group_parts v c.app) (scene_parts v c.scene) p m

pub present_part : (v : Service) (c : Config) (p : Fixed) → Contains (present v c) p → Contains (all_parts v) p
present_part v c p m = by (in_group v c p m)
  where
    of_scene : (scene : Option (List ℕ)) → Contains (scene_parts v scene) p → Contains (all_parts v) p
    of_scene None k = absurd (no_member p k)
    of_scene (Some g) k = group_part v g p k

    by : Contains (group_parts v c.app) p ⊎ Contains (scene_parts v c.scene) p → Contains (all_parts v) p
    by (inl k) = group_part v c.app p k
    by (inr k) = of_scene c.scene k

-- Objects under their references

-- where no two have one, each is found under its own
apart_found : (ps : List Fixed) (p : Fixed) → are_apart ps ≡ true → Contains ps p → part_at p.key ps ≡ Some p
apart_found [] p apart m = absurd (no_member p m)
apart_found (q ∷ ps) p apart m =
    let two = halves (not (is_keyed q.key ps)) (are_apart ps) apart in
    by (same_ref p.key q.key) refl two.0 (first_or_behind q ps p m) (apart_found ps p two.1)
  where
    by : (b : Bool) → same_ref p.key q.key ≡ b → not (is_keyed q.key ps) ≡ true → (q ≡ p) ⊎ Contains ps p → (Contains ps p → part_at p.key ps ≡ Some p) → cond b (Some q) (part_at p.key ps) ≡ Some p
    by true is none (inl same) ih = ap Some same
    by true is none (inr k) ih =
        let keyed : same_ref q.key p.key ≡ true = subst (λ (r : ObjRef). same_ref r p.key ≡ true) (same_ref-same p.key q.key is) (same_itself p.key) in
        let there : is_keyed q.key ps ≡ true = any_member (λ (x : Fixed). same_ref q.key x.key) ps p keyed k in
        let never : not true ≡ true = subst (λ (b : Bool). not b ≡ true) there none in
        absurd cc
    by false is none (inl same) ih = let never : true ≡ false = sym (subst (λ (x : Fixed). same_ref p.key x.key ≡ true) (sym same) (same_itself p.key)) ∙ is in absurd cc
    by false is none (inr k) ih = ih k

keys_of : (v : Service) → has_keys v ≡ true → list_all (λ (e : List ℕ × List Fixed). are_apart e.1) v.groups ≡ true
unfolding has_keys
keys_of v h = h

-- no two objects of a group have one key
pub group_apart : (v : Service) (g : List ℕ) → has_keys v ≡ true → are_apart (group_parts v g) ≡ true
group_apart v g keys = by (find (λ (e : List ℕ × List Fixed). bytes_eq e.0 g) v.groups) refl
  where
    by : (o : Option (List ℕ × List Fixed)) → find (λ (e : List ℕ × List Fixed). bytes_eq e.0 g) v.groups ≡ o → are_apart (unwrap_or (option_map (λ (e : List ℕ × List Fixed). e.1) o) []) ≡ true
    by None e = refl
    by (Some x) e = all_of (λ (e : List ℕ × List Fixed). are_apart e.1) v.groups x (keys_of v keys) (found_member (λ (y : List ℕ × List Fixed). bytes_eq y.0 g) v.groups x e).1

group_found : (v : Service) (g : List ℕ) (p : Fixed) → has_keys v ≡ true → Contains (group_parts v g) p → part_at p.key (group_parts v g) ≡ Some p
group_found v g p keys m =
    let entry = group_entry v g p m in
    apart_found (group_parts v g) p (subst (λ (ps : List Fixed). are_apart ps ≡ true) (sym entry.2) (all_of (λ (e : List ℕ × List Fixed). are_apart e.1) v.groups entry.0 (keys_of v keys) entry.1)) m

-- an object has the name of its group in its reference
group_named : (v : Service) (g : List ℕ) (p : Fixed) → is_service v ≡ true → Contains (group_parts v g) p → p.key.group ≡ g
group_named v g p is m = (bytes_eq-Decides p.key.group g).0 (all_of (is_in g) (group_parts v g) p (group_parts_in v g is) m)

-- what is found among the application is found among what is present
pub own_found : (v : Service) (c : Config) (p : Fixed) → has_keys v ≡ true → Contains (group_parts v c.app) p → part_at p.key (present v c) ≡ Some p
own_found v c p keys m =
    find-append (λ (q : Fixed). same_ref p.key q.key) (group_parts v c.app) (scene_parts v c.scene)
    ∙ ap (λ (o : Option Fixed). option_or o (part_at p.key (scene_parts v c.scene))) (group_found v c.app p keys m)

pub present_found : (v : Service) (c : Config) (p : Fixed) → is_service v ≡ true → has_keys v ≡ true → Contains (present v c) p → part_at p.key (present v c) ≡ Some p
present_found v c p is keys m = by (in_group v c p m)
  where
    in_scene : (scene : Option (List ℕ)) → Contains (scene_parts v scene) p → (o : Option Fixed) → part_at p.key (group_parts v c.app) ≡ o → option_or o (part_at p.key (scene_parts v scene)) ≡ Some p
    in_scene None k o e = absurd (no_member p k)
    in_scene (Some g) k None e = group_found v g p keys k
    in_scene (Some g) k (Some q) e =
        let found = found_member (λ (x : Fixed). same_ref p.key x.key) (group_parts v c.app) q e in
        let key : p.key ≡ q.key = same_ref-same p.key q.key found.0 in
        let group : c.app ≡ g = sym (group_named v c.app q is found.1) ∙ ap (λ (r : ObjRef). r.group) (sym key) ∙ group_named v g p is k in
        sym e ∙ ap (λ (n : List ℕ). part_at p.key (group_parts v n)) group ∙ group_found v g p keys k

    by : Contains (group_parts v c.app) p ⊎ Contains (scene_parts v c.scene) p → part_at p.key (present v c) ≡ Some p
    by (inl k) = own_found v c p keys k
    by (inr k) = find-append (λ (q : Fixed). same_ref p.key q.key) (group_parts v c.app) (scene_parts v c.scene) ∙ in_scene c.scene k (part_at p.key (group_parts v c.app)) refl

-- Actions

-- an active action is one of an object that is present
pub acting : (ps : List Fixed) (a : Act) → Contains (active_actions ps) a → (p : Fixed) × Contains ps p × Contains (actions p) a
acting ps a m =
    let from = joined_from actions (filter (is_active ps) ps) a m in
    (from.0, (passing_from (is_active ps) ps from.0 from.1).1, from.2)
