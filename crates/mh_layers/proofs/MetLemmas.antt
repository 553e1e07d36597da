-- What is met: configurations that may be reached, what is present there, and the effects that are active.
use Rattle.std.specs.Prelude.{◌≡◌, ◌<◌, ℕ, ◌==◌, Bool, true, false, ◌&&◌, ◌||◌, not, if◌then◌else◌, cond, List, [], ◌∷◌, filter, length, Option, Some, None, refl}
use Rattle.std.specs.List.{flat_map, range_with_len}
use Rattle.std.specs.Option.{option_map_or, option_or}
use Rattle.std.specs.Str.{bytes_eq}
use Rattle.std.specs.Cmp.Lexicographic.{nat_list_eq_equiv}
use Rattle.std.proofs.Common.{arith, inl, inr, ap, ◌∙◌, sym, subst}
use Rattle.std.proofs.lemmas.Bool.Decides.{Decides-eqb}
use Rattle.std.proofs.lemmas.List.Folds.{find-append}
use Rattle.std.proofs.lemmas.Slice.Eq.{bytes_eq-Decides}
use Rattle.mh_base.specs.declared.obj_ref.ObjRef.{ObjRef}
use Rattle.mh_base.specs.declared.value.Value.{Value}
use Rattle.mh_base.specs.declared.value.Value.TheVariants as value
use Rattle.mh_group.specs.declared.attribute.Attribute.TheVariants as attribute
use Rattle.mh_group.specs.Table.{is_group_class, is_link}
use Rattle.mh_model.specs.declared.config.Config.{Config}
use Rattle.mh_model.specs.declared.object.Fixed.{Fixed}
use Rattle.mh_model.specs.Configuration.{is_among, is_service, present, same_config, same_scene, scene_parts}
use Rattle.mh_model.specs.Items.{hears_source}
use Rattle.mh_model.specs.Property.{held, as_value}
use Rattle.mh_model.specs.Reference.{group_ref, same_ref}
use Rattle.mh_model.specs.Service.{Service, group_parts, is_in, is_there, part_at}
use Rattle.mh_model.proofs.ListLemmas.{and_left, and_right, found}
use Rattle.mh_model.proofs.ServiceLemmas.{found_group, group_parts_in, is_whole, present_whole, same_ref-same}
use Rattle.mh_laws.specs.Active.{has_source, is_active}
use Rattle.mh_laws.specs.Costs as costs
use Rattle.mh_laws.specs.Each.{Among}
use Rattle.mh_laws.specs.Flow.{Flow, reached}
use Rattle.mh_laws.specs.Layers.{IsOn, effects_in}
use Rattle.mh_laws.specs.Safe.{IsPartOf}
use Rattle.mh_laws.proofs.EachLemmas.{among_filtered, among_joined, among_mapped, among_range}

-- References and configurations

pub same_itself : (r : ObjRef) → same_ref r r ≡ true
same_itself r = λ i. nat_list_eq_equiv.refl r.group i && (Decides-eqb r.number r.number).1 refl i

scene_is : (a b : Option (List ℕ)) → same_scene a b ≡ true → a ≡ b
scene_is None None h = refl
scene_is (Some g) (Some h) e = ap Some ((bytes_eq-Decides g h).0 e)
scene_is None (Some h) e = absurd cc
scene_is (Some g) None e = absurd cc

scene_itself : (a : Option (List ℕ)) → same_scene a a ≡ true
scene_itself None = refl
scene_itself (Some g) = nat_list_eq_equiv.refl g

config_is : (c d : Config) → same_config c d ≡ true → c ≡ d
config_is c d h =
    let app : c.app ≡ d.app = (bytes_eq-Decides c.app d.app).0 (and_left (bytes_eq c.app d.app) (same_scene c.scene d.scene) h) in
    let scene : c.scene ≡ d.scene = scene_is c.scene d.scene (and_right (bytes_eq c.app d.app) (same_scene c.scene d.scene) h) in
    λ i. record { app = app i; scene = scene i }

pub among_reached : (cs : List Config) (c : Config) → is_among cs c ≡ true → Among cs c
among_reached [] c h = absurd cc
among_reached (d ∷ cs) c h = by (same_config c d) refl h (among_reached cs c)
  where
    by : (b : Bool) → same_config c d ≡ b → (b || is_among cs c) ≡ true → (is_among cs c ≡ true → Among cs c) → Among (d ∷ cs) c
    by true e h behind = inl (sym (config_is c d e))
    by false e h behind = inr (behind h)

pub reached_among : (cs : List Config) (c : Config) → Among cs c → is_among cs c ≡ true
reached_among [] c there = absurd cc
reached_among (d ∷ cs) c (inl same) =
    subst (λ (x : Config). is_among (d ∷ cs) x ≡ true) same (λ i. (nat_list_eq_equiv.refl d.app i && scene_itself d.scene i) || is_among cs d)
reached_among (d ∷ cs) c (inr more) = by (same_config c d) (reached_among cs c more)
  where
    by : (b : Bool) → is_among cs c ≡ true → (b || is_among cs c) ≡ true
    by true h = refl
    by false h = h

-- Parts

pub found_there : (r : ObjRef) (ps : List Fixed) (p : Fixed) → part_at r ps ≡ Some p → is_there r ps ≡ true
found_there r ps p e = ap (λ (o : Option Fixed). option_map_or (λ (q : Fixed). true) o false) e

pub there_found : (r : ObjRef) (ps : List Fixed) → is_there r ps ≡ true → (p : Fixed) × (part_at r ps ≡ Some p)
there_found r ps h = by (part_at r ps) refl h
  where
    by : (o : Option Fixed) → part_at r ps ≡ o → option_map_or (λ (q : Fixed). true) o false ≡ true → (p : Fixed) × (part_at r ps ≡ Some p)
    by None e h = absurd cc
    by (Some p) e h = (p, e)

pub found_among : (r : ObjRef) (ps : List Fixed) (p : Fixed) → part_at r ps ≡ Some p → (r ≡ p.key) × Among ps p
found_among r [] p e = absurd cc
found_among r (q ∷ ps) p e = by (same_ref r q.key) refl e (found_among r ps p)
  where
    one : Some q ≡ Some p → q ≡ p
    one f = cc

    by : (b : Bool) → same_ref r q.key ≡ b → cond b (Some q) (part_at r ps) ≡ Some p → (part_at r ps ≡ Some p → (r ≡ p.key) × Among ps p) → (r ≡ p.key) × Among (q ∷ ps) p
    by true is f behind = (same_ref-same r q.key is ∙ ap (λ (x : Fixed). x.key) (one f), inl (one f))
    by false is f behind = let more = behind f in (more.0, inr more.1)

-- Active effects

pub on_of : (v : Service) (w : Flow) (c : Config) (p : Fixed) (n : ℕ) → reached w c ≡ true → Among (present v c) p → is_active (present v c) p ≡ true → n < length (costs.effects p) → IsOn v w (record { config = c; object = p.key; number = n })
on_of v w c p n is there active less =
    among_joined (λ (d : Config). flat_map (effects_in d) (filter (is_active (present v d)) (present v d))) w.configs c (record { config = c; object = p.key; number = n })
    (among_reached w.configs c is)
    (among_joined (effects_in c) (filter (is_active (present v c)) (present v c)) p (record { config = c; object = p.key; number = n })
    (among_filtered (is_active (present v c)) (present v c) p active there)
    (among_mapped (λ (m : ℕ). place c p.key m) (range_with_len 0 (length (costs.effects p))) n (among_range 0 (length (costs.effects p)) n (omega arith) (omega (arith, less)))))
  where
    place : Config → ObjRef → ℕ → costs.Effect
    place d r m = record { config = d; object = r; number = m }

-- a link is active whose source is there

source_there : (o : Option Value) (r : ObjRef) (ps : List Fixed) → hears_source o r ≡ true → is_there r ps ≡ true → has_source ps o ≡ true
source_there None r ps h there = absurd cc
source_there (Some (value.Object q)) r ps h there = subst (λ (x : ObjRef). is_there x ps ≡ true) (sym (same_ref-same q r h)) there
source_there (Some _) r ps h there = absurd cc

pub link_active : (ps : List Fixed) (p : Fixed) (r : ObjRef) → hears_source (as_value (held attribute.EventSource p.properties)) r ≡ true → is_there r ps ≡ true → is_active ps p ≡ true
link_active ps p r hears there = by (is_link p.class)
  where
    by : (b : Bool) → (if b then has_source ps (as_value (held attribute.EventSource p.properties)) else true) ≡ true
    by true = source_there (as_value (held attribute.EventSource p.properties)) r ps hears there
    by false = refl

pub other_active : (ps : List Fixed) (p : Fixed) → is_link p.class ≡ false → is_active ps p ≡ true
other_active ps p e = ap (λ (b : Bool). if b then has_source ps (as_value (held attribute.EventSource p.properties)) else true) e

-- Groups

-- a group of the configuration is found among what is present as it is among its own parts
part_of_app : (v : Service) (c : Config) → is_service v ≡ true → (o : Option Fixed) → part_at (group_ref c.app) (group_parts v c.app) ≡ o → (scene : Option (List ℕ)) → option_or o (part_at (group_ref c.app) (scene_parts v scene)) ≡ o
part_of_app v c good (Some p) e scene = refl
part_of_app v c good None e None = refl
part_of_app v c good None e (Some g) = by (part_at (group_ref c.app) (group_parts v g)) refl
  where
    by : (o : Option Fixed) → part_at (group_ref c.app) (group_parts v g) ≡ o → o ≡ None
    by None f = refl
    by (Some q) f =
        let hit = found (λ (x : Fixed). same_ref (group_ref c.app) x.key) (is_in g) (group_parts v g) q (group_parts_in v g good) f in
        let group : c.app ≡ g = ap (λ (r : ObjRef). r.group) (same_ref-same (group_ref c.app) q.key hit.0) ∙ (bytes_eq-Decides q.key.group g).0 hit.1 in
        let never : Some q ≡ None = sym f ∙ ap (λ (n : List ℕ). part_at (group_ref c.app) (group_parts v n)) (sym group) ∙ e in
        absurd cc

part_of_scene : (v : Service) (c : Config) (g : List ℕ) → is_service v ≡ true → (o : Option Fixed) → part_at (group_ref g) (group_parts v c.app) ≡ o → option_or o (part_at (group_ref g) (group_parts v g)) ≡ part_at (group_ref g) (group_parts v g)
part_of_scene v c g good None e = refl
part_of_scene v c g good (Some q) e =
    let hit = found (λ (x : Fixed). same_ref (group_ref g) x.key) (is_in c.app) (group_parts v c.app) q (group_parts_in v c.app good) e in
    let group : g ≡ c.app = ap (λ (r : ObjRef). r.group) (same_ref-same (group_ref g) q.key hit.0) ∙ (bytes_eq-Decides q.key.group c.app).0 hit.1 in
    sym e ∙ ap (λ (n : List ℕ). part_at (group_ref g) (group_parts v n)) (sym group)

pub part_of : (v : Service) (c : Config) (g : List ℕ) → is_service v ≡ true → IsPartOf c g → part_at (group_ref g) (present v c) ≡ part_at (group_ref g) (group_parts v g)
part_of v c g good (inl is) =
    subst (λ (n : List ℕ). part_at (group_ref n) (present v c) ≡ part_at (group_ref n) (group_parts v n)) (sym is)
    (find-append (λ (q : Fixed). same_ref (group_ref c.app) q.key) (group_parts v c.app) (scene_parts v c.scene)
    ∙ part_of_app v c good (part_at (group_ref c.app) (group_parts v c.app)) refl c.scene)
part_of v c g good (inr is) =
    find-append (λ (q : Fixed). same_ref (group_ref g) q.key) (group_parts v c.app) (scene_parts v c.scene)
    ∙ ap (λ (scene : Option (List ℕ)). option_or (part_at (group_ref g) (group_parts v c.app)) (part_at (group_ref g) (scene_parts v scene))) is
    ∙ part_of_scene v c g good (part_at (group_ref g) (group_parts v c.app)) refl

pub group_whole : (v : Service) (c : Config) (g : List ℕ) (p : Fixed) → is_service v ≡ true → part_at (group_ref g) (present v c) ≡ Some p → is_group_class p.class ≡ true
group_whole v c g p good e =
    let hit = found (λ (x : Fixed). same_ref (group_ref g) x.key) is_whole (present v c) p (present_whole v c good) e in
    let zeroth : true ≡ (p.key.number == 0) = ap (λ (k : ObjRef). k.number == 0) (same_ref-same (group_ref g) p.key hit.0) in
    ap (λ (b : Bool). if b then is_group_class p.class else not (is_group_class p.class)) zeroth ∙ hit.1

pub group_active : (v : Service) (c : Config) (g : List ℕ) (p : Fixed) → is_service v ≡ true → part_at (group_ref g) (present v c) ≡ Some p → is_active (present v c) p ≡ true
group_active v c g p good e = other_active (present v c) p (found_group g (present v c) p (present_whole v c good) e)
