-- Each part of what is present is found under its own reference, since no two have one.
use Rattle.std.specs.Prelude.{◌≡◌, ◌⊎◌, ℕ, Bool, true, false, ◌||◌, not, cond, List, [], ◌∷◌, Option, Some, None, unwrap_or, refl}
use Rattle.std.specs.List.{find, list_all}
use Rattle.std.specs.Option.{option_map, option_or}
use Rattle.std.specs.Str.{bytes_eq}
use Rattle.std.proofs.Common.{inl, inr, ap, ◌∙◌, sym, subst}
use Rattle.std.proofs.lemmas.List.Folds.{find-append}
use Rattle.std.proofs.lemmas.Slice.Eq.{bytes_eq-Decides}
use Rattle.mh_base.specs.declared.obj_ref.ObjRef.{ObjRef}
use Rattle.mh_model.specs.declared.config.Config.{Config}
use Rattle.mh_model.specs.declared.object.Fixed.{Fixed}
use Rattle.mh_model.specs.Configuration.{are_apart, has_keys, is_keyed, is_service, present, scene_parts}
use Rattle.mh_model.specs.Reference.{same_ref}
use Rattle.mh_model.specs.Service.{Service, group_parts, is_in, part_at}
use Rattle.mh_model.proofs.ListLemmas.{and_left, and_right, found}
use Rattle.mh_model.proofs.ServiceLemmas.{group_parts_in, same_ref-same}
use Rattle.mh_laws.specs.Each.{Among}
use Rattle.mh_laws.proofs.EachLemmas.{among_all, among_either}
use Rattle.mh_layers.proofs.MetLemmas.{found_among, same_itself}

keyed_among : (r : ObjRef) (ps : List Fixed) (p : Fixed) → same_ref r p.key ≡ true → Among ps p → is_keyed r ps ≡ true
keyed_among r [] p is there = absurd cc
keyed_among r (q ∷ ps) p is (inl same) =
    ap (λ (b : Bool). b || is_keyed r ps) (subst (λ (x : Fixed). same_ref r x.key ≡ true) (sym same) is)
keyed_among r (q ∷ ps) p is (inr more) = by (same_ref r q.key) (keyed_among r ps p is more)
  where
    by : (b : Bool) → is_keyed r ps ≡ true → (b || is_keyed r ps) ≡ true
    by true h = refl
    by false h = h

apart_found : (ps : List Fixed) (p : Fixed) → are_apart ps ≡ true → Among ps p → part_at p.key ps ≡ Some p
apart_found [] p apart there = absurd cc
apart_found (q ∷ ps) p apart there =
    by (same_ref p.key q.key) refl (and_left (not (is_keyed q.key ps)) (are_apart ps) apart) there (apart_found ps p (and_right (not (is_keyed q.key ps)) (are_apart ps) apart))
  where
    by : (b : Bool) → same_ref p.key q.key ≡ b → not (is_keyed q.key ps) ≡ true → (q ≡ p) ⊎ Among ps p → (Among ps p → part_at p.key ps ≡ Some p) → cond b (Some q) (part_at p.key ps) ≡ Some p
    by true is none (inl same) behind = ap Some same
    by true is none (inr more) behind =
        let keyed : is_keyed q.key ps ≡ true = keyed_among q.key ps p (subst (λ (r : ObjRef). same_ref r p.key ≡ true) (same_ref-same p.key q.key is) (same_itself p.key)) more in
        let never : not true ≡ true = subst (λ (b : Bool). not b ≡ true) keyed none in
        absurd cc
    by false is none (inl same) behind =
        let itself : same_ref p.key q.key ≡ true = subst (λ (x : Fixed). same_ref p.key x.key ≡ true) (sym same) (same_itself p.key) in
        absurd cc
    by false is none (inr more) behind = behind more

keys_apart : (v : Service) → has_keys v ≡ true → list_all (λ (e : List ℕ × List Fixed). are_apart e.1) v.groups ≡ true
unfolding has_keys
keys_apart v h = h

group_apart : (v : Service) (g : List ℕ) → has_keys v ≡ true → are_apart (group_parts v g) ≡ true
group_apart v g keys = by (find (λ (e : List ℕ × List Fixed). bytes_eq e.0 g) v.groups) refl
  where
    by : (o : Option (List ℕ × List Fixed)) → find (λ (e : List ℕ × List Fixed). bytes_eq e.0 g) v.groups ≡ o → are_apart (unwrap_or (option_map (λ (e : List ℕ × List Fixed). e.1) o) []) ≡ true
    by None e = refl
    by (Some x) e =
        (found (λ (y : List ℕ × List Fixed). bytes_eq y.0 g) (λ (y : List ℕ × List Fixed). are_apart y.1) v.groups x (keys_apart v keys) e).1

group_found : (v : Service) (g : List ℕ) (p : Fixed) → has_keys v ≡ true → Among (group_parts v g) p → part_at p.key (group_parts v g) ≡ Some p
group_found v g p keys there = apart_found (group_parts v g) p (group_apart v g keys) there

-- an object has the name of its group in its reference
group_named : (v : Service) (g : List ℕ) (p : Fixed) → is_service v ≡ true → Among (group_parts v g) p → p.key.group ≡ g
group_named v g p good there = (bytes_eq-Decides p.key.group g).0 (among_all (is_in g) (group_parts v g) p (group_parts_in v g good) there)

pub present_found : (v : Service) → is_service v ≡ true → has_keys v ≡ true → (c : Config) (p : Fixed) → Among (present v c) p → part_at p.key (present v c) ≡ Some p
present_found v good keys c p there =
    find-append (λ (q : Fixed). same_ref p.key q.key) (group_parts v c.app) (scene_parts v c.scene)
    ∙ by (among_either (group_parts v c.app) (scene_parts v c.scene) p there)
  where
    in_scene : (scene : Option (List ℕ)) → Among (scene_parts v scene) p → (o : Option Fixed) → part_at p.key (group_parts v c.app) ≡ o → option_or o (part_at p.key (scene_parts v scene)) ≡ Some p
    in_scene None k o e = absurd cc
    in_scene (Some g) k None e = group_found v g p keys k
    in_scene (Some g) k (Some q) e =
        let at = found_among p.key (group_parts v c.app) q e in
        let group : c.app ≡ g = sym (group_named v c.app q good at.1) ∙ ap (λ (r : ObjRef). r.group) (sym at.0) ∙ group_named v g p good k in
        sym e ∙ ap (λ (n : List ℕ). part_at p.key (group_parts v n)) group ∙ group_found v g p keys k

    by : Among (group_parts v c.app) p ⊎ Among (scene_parts v c.scene) p → option_or (part_at p.key (group_parts v c.app)) (part_at p.key (scene_parts v c.scene)) ≡ Some p
    by (inl k) = ap (λ (o : Option Fixed). option_or o (part_at p.key (scene_parts v c.scene))) (group_found v c.app p keys k)
    by (inr k) = in_scene c.scene k (part_at p.key (group_parts v c.app)) refl
