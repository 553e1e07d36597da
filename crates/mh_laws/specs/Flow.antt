-- Flow: which references a variable may hold and a list may have, configuration by configuration.
use Rattle.std.specs.Prelude.{◌≡◌, ℕ, Bool, true, false, ◌&&◌, ◌||◌, List, slice_get, Option, Some, None}
use Rattle.std.specs.List.{Contains, list_any}
use Rattle.std.specs.Option.{option_map_or}
use Rattle.mh_base.specs.declared.obj_ref.ObjRef.{ObjRef}
use Rattle.mh_base.specs.declared.value.Kind.TheVariants as kind
use Rattle.mh_base.specs.declared.value.Value.TheVariants as value
use Rattle.mh_group.specs.declared.action_name.ActionName.{ActionName}
use Rattle.mh_group.specs.declared.action_name.ActionName.TheVariants as action
use Rattle.mh_group.specs.declared.class.Class.{Class}
use Rattle.mh_group.specs.Table.{admits, is_list_group}
use Rattle.mh_model.specs.declared.act.Act.{Act}
use Rattle.mh_model.specs.declared.act.Argument.{Argument}
use Rattle.mh_model.specs.declared.act.Argument.TheVariants as argument
use Rattle.mh_model.specs.declared.act.Target.{Target}
use Rattle.mh_model.specs.declared.act.Target.TheVariants as target
use Rattle.mh_model.specs.declared.config.Config.{Config}
use Rattle.mh_model.specs.declared.object.Fixed.{Fixed}
use Rattle.mh_model.specs.declared.object.Object.{Object}
use Rattle.mh_model.specs.Arguments.{receivers}
use Rattle.mh_model.specs.Configuration.{starting, present, is_among}
use Rattle.mh_model.specs.Known.{class_at}
use Rattle.mh_model.specs.ListItems.{has_item}
use Rattle.mh_model.specs.Property.{value_held, as_reference}
use Rattle.mh_model.specs.Reference.{same_ref}
use Rattle.mh_model.specs.Service.{Service, group_parts, fresh}
use Rattle.mh_model.specs.Variables.{variable_kind, same_kind}
use Rattle.mh_laws.specs.Active.{active_actions, leads_to}
use Rattle.mh_laws.specs.Describing.{Hands, says}
use Rattle.mh_laws.specs.Each.{Each}

-- Sets: to what each variable may refer, and what each list may have as items.

abbrev pub Sets : Type 0
Sets = ObjRef → List ObjRef

abbrev pub has : Sets → ObjRef → ObjRef → Bool
has h r q = list_any (same_ref q) (h r)

-- a class whose objects are variables of references
abbrev pub refers : Class → Bool
refers c = option_map_or (same_kind kind.Object) (variable_kind c) false

-- a class whose objects have a set
abbrev pub is_holder : Class → Bool
is_holder c = refers c || is_list_group c

-- what an object holds is in its set
pub record IsHeld (h : Sets) (o : Object) : Type 0 where
  pub value : refers o.fixed.class ≡ true → (q : ObjRef) → as_reference (value_held o.fixed o.body) ≡ Some q → has h o.fixed.key q ≡ true
  pub items : is_list_group o.fixed.class ≡ true → (q : ObjRef) → has_item q o.body.list.entries ≡ true → has h o.fixed.key q ≡ true

-- Places

-- the variable is there, and is one of references
abbrev pub is_reference_in : List Fixed → ObjRef → Bool
is_reference_in ps v = option_map_or refers (class_at v ps) false

-- the list is there
abbrev pub is_list_in : List Fixed → ObjRef → Bool
is_list_in ps r = option_map_or is_list_group (class_at r ps) false

-- to what a target may come
abbrev pub MayBe : Sets → List Fixed → Target → ObjRef → Type 0
MayBe h ps (target.Direct r) q = r ≡ q
MayBe h ps (target.Through v) q = (is_reference_in ps v ≡ true) × (has h v q ≡ true)

-- which references an argument may come to
abbrev pub MayHand : Sets → List Fixed → Argument → ObjRef → Type 0
MayHand h ps (argument.Direct v) q = v ≡ value.Object q
MayHand h ps (argument.Through v k) q = (is_reference_in ps v ≡ true) × (has h v q ≡ true)
MayHand h ps (argument.Receiver v) q = false ≡ true

-- the action reads the argument as a reference: what a variable is set to through another is one only where it is
-- written as an object's value
abbrev pub reads_reference : Argument → ActionName → Bool
reads_reference (argument.Through v k) action.SetVariable = option_map_or (same_kind kind.Object) k false
reads_reference _ _ = true

-- what the action answers are items of the list that is asked
abbrev pub fills : ActionName → Bool
fills action.GetListItem = true
fills action.GetCellItem = true
fills _ = false

-- the object is there, and the action can hand it what it keeps
abbrev pub is_given : List Fixed → ActionName → ObjRef → Bool
is_given ps n r = option_map_or (λ c. admits c n && is_holder c) (class_at r ps) false

-- the sets have what the action hands on: what a variable is set to, what is put into a list, and what is read out of one
pub record Keeps (h : Sets) (ps : List Fixed) (a : Act) : Type 0 where
  pub given : (n : ℕ) (x : Argument) (r q : ObjRef) → Contains (says a.name) (Hands n) → slice_get a.arguments n ≡ Some x → MayBe h ps a.target r → is_given ps a.name r ≡ true → reads_reference x a.name ≡ true → MayHand h ps x q → has h r q ≡ true
  pub filled : (r v q : ObjRef) → fills a.name ≡ true → MayBe h ps a.target r → is_list_in ps r ≡ true → Contains (receivers a.arguments) v → is_reference_in ps v ≡ true → has h r q ≡ true → has h v q ≡ true

-- Flows

-- the configurations that may be reached, and the sets in each of them
pub record Flow : Type 0 where
  pub configs : List Config
  pub sets : Config → Sets

abbrev pub reached : Flow → Config → Bool
reached w c = is_among w.configs c

-- to a scene the application's objects take along what they hold
abbrev pub Passes : Service → Flow → Config → Config → Option (List ℕ) → Type 0
Passes v w c d None = Unit {0}
Passes v w c d (Some g) = (p : Fixed) → Contains (group_parts v c.app) p → (q : ObjRef) → has (w.sets c) p.key q ≡ true → has (w.sets d) p.key q ≡ true

-- the flow goes on from the first configuration to the second
abbrev pub IsOpen : Service → Flow → Config → Config → Type 0
IsOpen v w c d = (reached w d ≡ true) × Passes v w c d d.scene

abbrev pub IsOpenIf : Service → Flow → Config → Option Config → Type 0
IsOpenIf v w c None = Unit {0}
IsOpenIf v w c (Some d) = IsOpen v w c d

-- the flow goes on wherever the action may lead
abbrev pub IsLed : Service → Flow → Config → Act → Type 0
IsLed v w c a = (r : ObjRef) → MayBe (w.sets c) (present v c) a.target r → IsOpenIf v w c (leads_to v c a.name r)

-- A solution: the start is reached; and in what is reached the sets have what objects hold at first and what active
-- actions hand on, and the flow goes on wherever active actions lead.
pub record IsSolution (v : Service) (w : Flow) : Type 0 where
  pub start : reached w (starting v) ≡ true
  pub original : (c : Config) → reached w c ≡ true → Each (λ p. IsHeld (w.sets c) (fresh p)) (present v c)
  pub keeps : (c : Config) → reached w c ≡ true → Each (Keeps (w.sets c) (present v c)) (active_actions (present v c))
  pub leads : (c : Config) → reached w c ≡ true → Each (IsLed v w c) (active_actions (present v c))
