-- An object is where it is likely to be: what stands at a place under the number of a reference is the one to which it leads.
use Rattle.std.specs.Prelude.{◌≡◌, ℕ, zero, suc, ◌+◌, ◌==◌, Bool, true, false, not, cond, List, [], ◌∷◌, ◌++◌, length, slice_get, Option, Some, None, option_and_then, refl}
use Rattle.std.specs.List.{find, list_all}
use Rattle.std.specs.Map.{lookup}
use Rattle.std.specs.Option.{option_map, option_map_or}
use Rattle.std.specs.Str.{bytes_eq}
use Rattle.std.specs.Cmp.Lexicographic.{nat_list_eq_equiv}
use Rattle.std.proofs.Common.{ap, ◌∙◌, sym, subst, arith}
use Rattle.std.proofs.lemmas.Slice.Eq.{bytes_eq-Decides}
use Rattle.mh_base.specs.declared.obj_ref.ObjRef.{ObjRef}
use Rattle.mh_model.specs.declared.config.Config.{Config}
use Rattle.mh_model.specs.declared.object.Fixed.{Fixed}
use Rattle.mh_model.specs.Configuration.{are_apart, has_keys, is_keyed, is_service, present, same_scene, scene_parts}
use Rattle.mh_model.specs.Reference.{same_ref}
use Rattle.mh_model.specs.Service.{Service, group_parts, is_in, part_at}
use Rattle.mh_model.proofs.ListLemmas.{some_same}
use Rattle.mh_model.proofs.ServiceLemmas.{group_parts_in, same_ref-same}
use Rattle.mh_flow.specs.Chart.{place_in}
use Rattle.mh_flow.specs.Index.{AreNamed, Home, IsPresent, indexed}
use Rattle.mh_flow.specs.Likely.{has_number}
use Rattle.mh_flow.proofs.ContainsLemmas.{all_of, both, halves}
use Rattle.mh_flow.proofs.IndexLemmas.{place_given, place_in_group, position_next, standing}
use Rattle.mh_flow.proofs.PlaceLemmas.{any_member, get_member, place, placed, position_place}
use Rattle.mh_flow.proofs.PresentLemmas.{group_apart, same_itself}

-- where no two have one key, the one with it stands at its place alone
pub apart_place : (r : ObjRef) (ps : List Fixed) (i : ℕ) (p : Fixed) → are_apart ps ≡ true → slice_get ps i ≡ Some p → same_ref r p.key ≡ true → place_in ps r ≡ Some i
apart_place r [] i p apart at is = absurd cc
apart_place r (x ∷ ps) zero p apart at is =
    position_next (λ (q : Fixed). same_ref r q.key) x ps
    ∙ ap (λ (b : Bool). cond b (Some 0) (option_map suc (place_in ps r))) (ap (λ (q : Fixed). same_ref r q.key) (some_same at) ∙ is)
apart_place r (x ∷ ps) (suc i) p apart at is =
    let two = halves (not (is_keyed x.key ps)) (are_apart ps) apart in
    position_next (λ (q : Fixed). same_ref r q.key) x ps
    ∙ by (same_ref r x.key) refl two.0 (apart_place r ps i p two.1 at is)
  where
    by : (b : Bool) → same_ref r x.key ≡ b → not (is_keyed x.key ps) ≡ true → place_in ps r ≡ Some i → cond b (Some 0) (option_map suc (place_in ps r)) ≡ Some (suc i)
    by true same none ih =
        let keyed : same_ref x.key p.key ≡ true = subst (λ (k : ObjRef). same_ref k p.key ≡ true) (same_ref-same r x.key same) is in
        let there : is_keyed x.key ps ≡ true = any_member (λ (q : Fixed). same_ref x.key q.key) ps p keyed (get_member ps i p at) in
        let never : not true ≡ true = subst (λ (t : Bool). not t ≡ true) there none in
        absurd cc
    by false other none ih = ap (option_map suc) ih

pub likely_is : (v : Service) (r : ObjRef) (ps : List Fixed) (i : ℕ) → is_service v ≡ true → has_keys v ≡ true → ps ≡ group_parts v r.group → has_number ps i r.number ≡ true → Some i ≡ place_in ps r
likely_is v r ps i is keys own h = by (slice_get ps i) refl h
  where
    by : (o : Option Fixed) → slice_get ps i ≡ o → option_map_or (λ p. p.key.number == r.number) o false ≡ true → Some i ≡ place_in ps r
    by None at e = absurd cc
    by (Some p) at e =
        let among : list_all (is_in r.group) ps ≡ true = subst (λ (qs : List Fixed). list_all (is_in r.group) qs ≡ true) (sym own) (group_parts_in v r.group is) in
        let group : bytes_eq p.key.group r.group ≡ true = all_of (is_in r.group) ps p among (get_member ps i p at) in
        let apart : are_apart ps ≡ true = subst (λ (qs : List Fixed). are_apart qs ≡ true) (sym own) (group_apart v r.group keys) in
        let key : same_ref p.key r ≡ true = both (bytes_eq p.key.group r.group) (p.key.number == r.number) group e in
        let itself : same_ref r p.key ≡ true = subst (λ (k : ObjRef). same_ref k p.key ≡ true) (same_ref-same p.key r key) (same_itself p.key) in
        sym (apart_place r ps i p apart at itself)

-- what is found under the reference in the index of its group
pub listed_is : (v : Service) (r : ObjRef) (ps : List Fixed) (es : List (ObjRef × Home)) (o : Option Home) → AreNamed v → es ≡ indexed v → ps ≡ group_parts v r.group → o ≡ lookup (same_ref r) es → option_map (λ h. h.place) o ≡ place_in ps r
listed_is v r ps es o named index own e =
    ap (option_map (λ h. h.place)) (e ∙ ap (lookup (same_ref r)) index)
    ∙ ap (λ (b : Bool). cond b (option_map (λ h. h.place) (lookup (same_ref r) (indexed v))) None) (sym (nat_list_eq_equiv.refl r.group))
    ∙ sym (place_in_group v r r.group named)
    ∙ ap (λ (qs : List Fixed). place_in qs r) (sym own)

-- The group that is entered.

pub application_parts : (v : Service) (c : Config) (g : List ℕ) (ps : List Fixed) → ps ≡ group_parts v c.app → bytes_eq g c.app ≡ true → ps ≡ group_parts v g
application_parts v c g ps e is = e ∙ ap (group_parts v) (sym ((bytes_eq-Decides g c.app).0 is))

pub scene_named : (v : Service) (c : Config) (g : List ℕ) (ps : List Fixed) → ps ≡ scene_parts v c.scene → same_scene c.scene (Some g) ≡ true → ps ≡ group_parts v g
scene_named v c g ps e is = e ∙ by c.scene is
  where
    by : (s : Option (List ℕ)) → same_scene s (Some g) ≡ true → scene_parts v s ≡ group_parts v g
    by None is = absurd cc
    by (Some h) is = ap (group_parts v) ((bytes_eq-Decides h g).0 is)

-- The place among what is present.

-- the place in the group of the reference, where it is in the index
homed : (v : Service) (c : Config) (es : List (ObjRef × Home)) (ps qs : List Fixed) (r : ObjRef) (gs : List Fixed) → IsPresent v c es ps qs → gs ≡ group_parts v r.group → place_in gs r ≡ option_map (λ h. h.place) (lookup (same_ref r) es)
homed v c es ps qs r gs k own = sym (listed_is v r gs es (lookup (same_ref r) es) k.named k.index own refl)

in_application : (n : ℕ) (b : Bool) (o : Option Home) → option_map (λ h. h.place) o ≡ standing true b n o
in_application n b None = refl
in_application n b (Some h) = refl

in_scene : (n : ℕ) (o : Option Home) → option_map (λ i. n + i) (option_map (λ h. h.place) o) ≡ standing false true n o
in_scene n None = refl
in_scene n (Some h) = refl

in_neither : (n : ℕ) (o : Option Home) → None ≡ standing false false n o
in_neither n None = refl
in_neither n (Some h) = refl

pub of_application : (v : Service) (c : Config) (es : List (ObjRef × Home)) (ps qs all : List Fixed) (r : ObjRef) → IsPresent v c es ps qs → ps ++ qs ≡ all → bytes_eq r.group c.app ≡ true → place_in ps r ≡ place_in all r
of_application v c es ps qs all r k whole is =
    homed v c es ps qs r ps k (application_parts v c r.group ps k.application is)
    ∙ in_application (length ps) (same_scene c.scene (Some r.group)) (lookup (same_ref r) es)
    ∙ place_given v c es ps qs all r k whole true (same_scene c.scene (Some r.group)) (lookup (same_ref r) es) (sym is) refl refl

pub of_scene : (v : Service) (c : Config) (es : List (ObjRef × Home)) (ps qs all : List Fixed) (r : ObjRef) → IsPresent v c es ps qs → ps ++ qs ≡ all → bytes_eq r.group c.app ≡ false → same_scene c.scene (Some r.group) ≡ true → option_map (λ i. length ps + i) (place_in qs r) ≡ place_in all r
of_scene v c es ps qs all r k whole other is =
    ap (option_map (λ i. length ps + i)) (homed v c es ps qs r qs k (scene_named v c r.group qs k.scene is))
    ∙ in_scene (length ps) (lookup (same_ref r) es)
    ∙ place_given v c es ps qs all r k whole false true (lookup (same_ref r) es) (sym other) (sym is) refl

pub of_neither : (v : Service) (c : Config) (es : List (ObjRef × Home)) (ps qs all : List Fixed) (r : ObjRef) → IsPresent v c es ps qs → ps ++ qs ≡ all → bytes_eq r.group c.app ≡ false → same_scene c.scene (Some r.group) ≡ false → None ≡ place_in all r
of_neither v c es ps qs all r k whole other out =
    in_neither (length ps) (lookup (same_ref r) es)
    ∙ place_given v c es ps qs all r k whole false false (lookup (same_ref r) es) (sym other) (sym out) refl

none_found : {X : Type 0} (p : X → Bool) (xs : List X) → place p xs ≡ None → None ≡ find p xs
none_found p [] e = refl
none_found {X} p (x ∷ xs) e = by (p x) (none_found p xs) e
  where
    of : (o : Option ℕ) → option_map (λ (n : ℕ). suc n) o ≡ None → o ≡ None
    of None e = refl
    of (Some n) e = absurd cc

    by : (b : Bool) → (place p xs ≡ None → None ≡ find p xs) → cond b (Some 0) (option_map (λ (n : ℕ). suc n) (place p xs)) ≡ None → None ≡ cond b (Some x) (find p xs)
    by true ih e = absurd cc
    by false ih e = ih (of (place p xs) e)

-- what stands at the place of a reference is the one to which it leads
pub at_place_found : (ps : List Fixed) (r : ObjRef) (o : Option ℕ) → o ≡ place_in ps r → option_and_then (slice_get ps) o ≡ part_at r ps
at_place_found ps r o e = by o (sym (position_place (λ p. same_ref r p.key) ps) ∙ sym e)
  where
    by : (m : Option ℕ) → place (λ (p : Fixed). same_ref r p.key) ps ≡ m → option_and_then (slice_get ps) m ≡ part_at r ps
    by None is = none_found (λ (p : Fixed). same_ref r p.key) ps is
    by (Some i) is = let one = placed (λ (p : Fixed). same_ref r p.key) ps i is in one.at ∙ sym one.found
