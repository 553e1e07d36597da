-- What is known of each object of a group that the tables allow: a variable has its original value, and each
-- event that is sent is written itself.
use Rattle.std.proofs.Common.{◌≡◌, ℕ, ◌==◌, Bool, true, false, cond, ◌&&◌, ◌||◌, nat_le, List, [], ◌∷◌, ◌++◌, length, map, Option, Some, None, refl, subst}
use Rattle.std.proofs.lemmas.Bool.Decides.{Decides-eqb}
use Rattle.std.specs.Cmp.Derive.{both_true}
use Rattle.std.specs.List.{list_all, find, flat_map}
use Rattle.std.specs.Option.{option_map, option_map_or, is_some}
use Rattle.mh_base.specs.declared.value.Kind.{Kind}
use Rattle.mh_group.specs.declared.action.Action.{Action}
use Rattle.mh_group.specs.declared.action.Parameter.{Parameter}
use Rattle.mh_group.specs.declared.action.Parameter.TheVariants as parameter
use Rattle.mh_group.specs.declared.action_name.ActionName.{ActionName}
use Rattle.mh_group.specs.declared.action_name.ActionName.TheVariants as action
use Rattle.mh_group.specs.declared.attribute.Attribute.{Attribute}
use Rattle.mh_group.specs.declared.attribute.Attribute.TheVariants as attribute
use Rattle.mh_group.specs.declared.class.Class.{Class}
use Rattle.mh_group.specs.declared.class.Class.TheVariants as class
use Rattle.mh_group.specs.declared.shape.Shape.{Shape}
use Rattle.mh_group.specs.declared.shape.Shape.TheVariants as shape
use Rattle.mh_group.specs.declared.written.Field.{Field}
use Rattle.mh_group.specs.declared.written.Ingredient.{Ingredient}
use Rattle.mh_group.specs.declared.written.Member.{Member}
use Rattle.mh_group.specs.declared.written.Setting.{Setting}
use Rattle.mh_group.specs.declared.written.Setting.TheVariants as setting
use Rattle.mh_group.specs.declared.written.Written.{Written}
use Rattle.mh_group.specs.Table.{attribute_number, is_group_class, needs_of, optional_of, shape_of, value_shape}
use Rattle.mh_group.specs.Fit.{fits, fits_action, fits_each, fits_effect, fits_member, fits_parameters, has_attribute, has_required, ingredient_misfit, ingredients_misfit, is_group, is_list_item, items_of}
use Rattle.mh_group.proofs.MisfitLemmas.{AreRight, are_right, is_right, if_no_none, or_none}
use Rattle.mh_model.specs.declared.act.Act.{Act}
use Rattle.mh_model.specs.declared.held.Held.{Held}
use Rattle.mh_model.specs.declared.held.Property.{Property}
use Rattle.mh_model.specs.declared.object.Fixed.{Fixed}
use Rattle.mh_model.specs.Configuration.{has_value}
use Rattle.mh_model.specs.Effects.{has_direct_event, is_sending, sends_direct, sends_written}
use Rattle.mh_model.specs.Property.{held, is_of, as_effect, as_members, as_value}
use Rattle.mh_model.specs.Tokens.{member_actions, slot_actions}
use Rattle.mh_model.specs.Variables.{variable_kind}
use Rattle.mh_model.proofs.ListLemmas.{and_left, and_right, all_follow, all_joined}
use Rattle.mh_service.specs.Refusals.{File}
use Rattle.mh_service.specs.Resolved.{act_of, arguments_of, held_of, member_of, new_part, part_of, parts_of, property_of, resolved}

-- Original values

abbrev is_value : Held → Bool
is_value h = is_some (as_value (Some h))

-- what has the shape of a variable's value is held as a value
value_of : (from : List ℕ) (c : Class) (x : Setting) → fits (value_shape c) x ≡ true → is_value (held_of from x) ≡ true
value_of from class.BooleanVar x h = by x h
  where
    by : (x : Setting) → fits shape.Bool x ≡ true → is_value (held_of from x) ≡ true
    by (setting.Bool b) h = refl
    by _ h = cc
value_of from class.OStringVar x h = by x h
  where
    by : (x : Setting) → fits shape.Octets x ≡ true → is_value (held_of from x) ≡ true
    by (setting.Octets os) h = refl
    by _ h = cc
value_of from class.ObjectRefVar x h = by x h
  where
    by : (x : Setting) → fits shape.Ref x ≡ true → is_value (held_of from x) ≡ true
    by (setting.Ref r) h = refl
    by _ h = cc
value_of from class.ContentRefVar x h = by x h
  where
    by : (x : Setting) → fits shape.ContentRef x ≡ true → is_value (held_of from x) ≡ true
    by (setting.ContentRef name) h = refl
    by _ h = cc
value_of from _ x h = by x h
  where
    by : (x : Setting) → fits shape.Int x ≡ true → is_value (held_of from x) ≡ true
    by (setting.Int n) h = refl
    by _ h = cc

-- what stands under the number of an original value has its shape
value_shaped : (c : Class) (a : Attribute) → (attribute_number a == attribute_number attribute.OrigValue) ≡ true → shape_of c a ≡ value_shape c
value_shaped c attribute.OrigValue e = refl
value_shaped c _ e = cc

held_value : (from : List ℕ) (c : Class) (fs : List Field) → has_attribute fs attribute.OrigValue ≡ true → fits_each c fs ≡ true → is_some (as_value (held attribute.OrigValue (map (property_of from) fs))) ≡ true
held_value from c [] h k = cc
held_value from c (f ∷ fs) h k =
    by (attribute_number f.attribute == attribute_number attribute.OrigValue) refl h (and_left (fits (shape_of c f.attribute) f.setting) (fits_each c fs) k) (λ some. held_value from c fs some (and_right (fits (shape_of c f.attribute) f.setting) (fits_each c fs) k))
  where
    by : (b : Bool) → (attribute_number f.attribute == attribute_number attribute.OrigValue) ≡ b → (b || has_attribute fs attribute.OrigValue) ≡ true → fits (shape_of c f.attribute) f.setting ≡ true → (has_attribute fs attribute.OrigValue ≡ true → is_some (as_value (held attribute.OrigValue (map (property_of from) fs))) ≡ true) → is_some (as_value (option_map (λ (p : Property). p.held) (cond b (Some (property_of from f)) (find (is_of attribute.OrigValue) (map (property_of from) fs))))) ≡ true
    by true e h fit ih = value_of from c f.setting (subst (λ (s : Shape). fits s f.setting ≡ true) (value_shaped c f.attribute e) fit)
    by false e h fit ih = ih h

-- a variable is written with its original value
value_required : (c : Class) (fs : List Field) → has_required c fs ≡ true → option_map_or (λ k. has_attribute fs attribute.OrigValue) (variable_kind c) true ≡ true
value_required class.BooleanVar fs h = and_left (has_attribute fs attribute.OrigValue) true h
value_required class.IntegerVar fs h = and_left (has_attribute fs attribute.OrigValue) true h
value_required class.OStringVar fs h = and_left (has_attribute fs attribute.OrigValue) true h
value_required class.ObjectRefVar fs h = and_left (has_attribute fs attribute.OrigValue) true h
value_required class.ContentRefVar fs h = and_left (has_attribute fs attribute.OrigValue) true h
value_required _ fs h = refl

part_value : (from : List ℕ) (n : ℕ) (c : Class) (fs : List Field) → AreRight c fs → has_value (new_part from n c fs) ≡ true
part_value from n c fs right =
    by (variable_kind c) (value_required c fs right.required) right.fit
  where
    by : (m : Option Kind) → option_map_or (λ (k : Kind). has_attribute fs attribute.OrigValue) m true ≡ true → fits_each c fs ≡ true → option_map_or (λ (k : Kind). is_some (as_value (held attribute.OrigValue (map (property_of from) fs)))) m true ≡ true
    by None h k = refl
    by (Some t) h k = held_value from c fs h k

-- Events that are sent

-- the event is the second parameter, and written itself
event_direct : (from : List ℕ) (ps : List Parameter) → fits_parameters (optional_of action.SendEvent) (needs_of action.SendEvent) ps ≡ true → has_direct_event (needs_of action.SendEvent) (flat_map (arguments_of from) ps) ≡ true
event_direct from (parameter.Ref r ∷ parameter.Event e ∷ ps) h = refl
event_direct from _ h = cc

act_direct : (from : List ℕ) (a : Action) → fits_action a ≡ true → sends_direct (act_of from a) ≡ true
act_direct from a h = by a.name a.parameters h
  where
    by : (n : ActionName) (ps : List Parameter) → fits_parameters (optional_of n) (needs_of n) ps ≡ true → cond (is_sending n) (has_direct_event (needs_of n) (flat_map (arguments_of from) ps)) true ≡ true
    by action.SendEvent ps h = event_direct from ps h
    by _ ps h = refl

effect_direct : (from : List ℕ) (e : List Action) → fits_effect e ≡ true → list_all sends_direct (map (act_of from) e) ≡ true
effect_direct from [] h = refl
effect_direct from (a ∷ e) h =
    both_true (act_direct from a (and_left (fits_action a) (fits_effect e) h)) (effect_direct from e (and_right (fits_action a) (fits_effect e) h))

-- the slots of a member
slots_direct : (from : List ℕ) (slots : List (List Action)) → list_all fits_effect slots ≡ true → list_all sends_direct (flat_map (λ slot. slot) (map (map (act_of from)) slots)) ≡ true
slots_direct from [] h = refl
slots_direct from (slot ∷ slots) h =
    all_joined sends_direct (map (act_of from) slot) (flat_map (λ (one : List Act). one) (map (map (act_of from)) slots))
    (effect_direct from slot (and_left (fits_effect slot) (list_all fits_effect slots) h)) (slots_direct from slots (and_right (fits_effect slot) (list_all fits_effect slots) h))

members_direct : (from : List ℕ) (ms : List Member) → list_all fits_member ms ≡ true → list_all sends_direct (flat_map member_actions (map (member_of from) ms)) ≡ true
members_direct from [] h = refl
members_direct from (m ∷ ms) h =
    all_joined sends_direct (member_actions (member_of from m)) (flat_map member_actions (map (member_of from) ms))
    (slots_direct from m.slots (and_left (fits_member m) (list_all fits_member ms) h)) (members_direct from ms (and_right (fits_member m) (list_all fits_member ms) h))

-- a list group's members have no slots
item_fits : (m : Member) → is_list_item m ≡ true → fits_member m ≡ true
item_fits m h = by m.slots h
  where
    by : (slots : List (List Action)) → (length slots == 0) ≡ true → list_all fits_effect slots ≡ true
    by [] h = refl
    by (slot ∷ slots) h = let none : length (slot ∷ slots) ≡ 0 = (Decides-eqb (length (slot ∷ slots)) 0).0 h in cc

-- the actions that are held
abbrev held_direct : Held → Bool
held_direct h = list_all sends_direct (as_effect (Some h)) && list_all sends_direct (flat_map member_actions (as_members (Some h)))

setting_direct : (from : List ℕ) (s : Shape) (x : Setting) → fits s x ≡ true → held_direct (held_of from x) ≡ true
setting_direct from s (setting.Effect e) h = both_true (effect_direct from e (by s h)) refl
  where
    by : (s : Shape) → fits s (setting.Effect e) ≡ true → fits_effect e ≡ true
    by shape.Effect h = h
    by _ h = cc
setting_direct from s (setting.Members ms) h = members_direct from ms (by s h)
  where
    by : (s : Shape) → fits s (setting.Members ms) ≡ true → list_all fits_member ms ≡ true
    by shape.Members h = h
    by shape.ListItems h = all_follow is_list_item fits_member item_fits ms (and_right (nat_le (length ms) 256) (list_all is_list_item ms) h)
    by _ h = cc
setting_direct from s _ h = refl

-- what is held under an attribute
held_sent : (from : List ℕ) (c : Class) (a : Attribute) (fs : List Field) → fits_each c fs ≡ true → option_map_or held_direct (held a (map (property_of from) fs)) true ≡ true
held_sent from c a [] k = refl
held_sent from c a (f ∷ fs) k =
    by (attribute_number f.attribute == attribute_number a) (setting_direct from (shape_of c f.attribute) f.setting (and_left (fits (shape_of c f.attribute) f.setting) (fits_each c fs) k)) (held_sent from c a fs (and_right (fits (shape_of c f.attribute) f.setting) (fits_each c fs) k))
  where
    by : (b : Bool) → held_direct (held_of from f.setting) ≡ true → option_map_or held_direct (held a (map (property_of from) fs)) true ≡ true → option_map_or held_direct (option_map (λ (p : Property). p.held) (cond b (Some (property_of from f)) (find (is_of a) (map (property_of from) fs)))) true ≡ true
    by true first ih = first
    by false first ih = ih

effect_sent : (h : Option Held) → option_map_or held_direct h true ≡ true → list_all sends_direct (as_effect h) ≡ true
effect_sent None k = refl
effect_sent (Some h) k = and_left (list_all sends_direct (as_effect (Some h))) (list_all sends_direct (flat_map member_actions (as_members (Some h)))) k

slots_sent : (h : Option Held) → option_map_or held_direct h true ≡ true → list_all sends_direct (flat_map member_actions (as_members h)) ≡ true
slots_sent None k = refl
slots_sent (Some h) k = and_right (list_all sends_direct (as_effect (Some h))) (list_all sends_direct (flat_map member_actions (as_members (Some h)))) k

abbrev effect_in : List ℕ → List Field → Attribute → List Act
effect_in from fs a = as_effect (held a (map (property_of from) fs))

part_sends : (from : List ℕ) (n : ℕ) (c : Class) (fs : List Field) → AreRight c fs → sends_written (new_part from n c fs) ≡ true
part_sends from n c fs right =
    let ends = all_joined sends_direct (effect_in from fs attribute.OnStartUp) (effect_in from fs attribute.OnCloseDown) (effect attribute.OnStartUp) (effect attribute.OnCloseDown) in
    let effects = all_joined sends_direct (effect_in from fs attribute.OnStartUp ++ effect_in from fs attribute.OnCloseDown) (effect_in from fs attribute.LinkEffect) ends (effect attribute.LinkEffect) in
    all_joined sends_direct (effect_in from fs attribute.OnStartUp ++ effect_in from fs attribute.OnCloseDown ++ effect_in from fs attribute.LinkEffect) (slot_actions (new_part from n c fs)) effects
    (slots_sent (held attribute.TokenGroupItems (map (property_of from) fs)) (held_sent from c attribute.TokenGroupItems fs right.fit))
  where
    effect : (a : Attribute) → list_all sends_direct (effect_in from fs a) ≡ true
    effect a = effect_sent (held a (map (property_of from) fs)) (held_sent from c a fs right.fit)

-- All parts

-- each part of a group passes a test that all of its objects pass whose fields are right
abbrev Passes : (Fixed → Bool) → Type 0
Passes is = (from : List ℕ) (n : ℕ) (c : Class) (fs : List Field) → AreRight c fs → is (new_part from n c fs) ≡ true

ingredients_pass : (is : Fixed → Bool) → Passes is → (from : List ℕ) (xs : List Ingredient) → ingredients_misfit xs ≡ None → list_all is (map (part_of from) xs) ≡ true
ingredients_pass is pass from [] none = refl
ingredients_pass is pass from (i ∷ xs) none =
    let two = or_none (ingredient_misfit i) (ingredients_misfit xs) none in
    let plain = if_no_none (is_group_class i.class) _ _ two.0 in
    let numbered = if_no_none (i.number == 0) _ _ plain.1 in
    both_true (pass from i.number i.class i.fields (are_right i.class i.fields numbered.1)) (ingredients_pass is pass from xs two.1)

group_passes : (is : Fixed → Bool) → Passes is → (from : List ℕ) (w : Written) → is_group w ≡ true → list_all is (parts_of from w) ≡ true
group_passes is pass from w h =
    let right = is_right w h in
    both_true (pass from 0 w.class w.fields right.fields) (ingredients_pass is pass from (items_of w) right.items)

groups_pass : (is : Fixed → Bool) → Passes is → (files : List File) → list_all (λ f. is_group f.1) files ≡ true → list_all (λ e. list_all is e.1) (map resolved files) ≡ true
groups_pass is pass [] h = refl
groups_pass is pass (f ∷ fs) h =
    both_true (group_passes is pass f.0 f.1 (and_left (is_group f.1) (list_all (λ (g : File). is_group g.1) fs) h)) (groups_pass is pass fs (and_right (is_group f.1) (list_all (λ (g : File). is_group g.1) fs) h))

pub groups_valued : (files : List File) → list_all (λ f. is_group f.1) files ≡ true → list_all (λ e. list_all has_value e.1) (map resolved files) ≡ true
groups_valued files h = groups_pass has_value part_value files h

pub groups_sent : (files : List File) → list_all (λ f. is_group f.1) files ≡ true → list_all (λ e. list_all sends_written e.1) (map resolved files) ≡ true
groups_sent files h = groups_pass sends_written part_sends files h
