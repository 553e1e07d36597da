-- The numbers of a service: of its configurations, of the references that its variables and lists may hold, and of the sets.
-- The configurations that are reached are the members of one set, those to which a configuration leads of another; and
-- each variable of references and each list has a set in each configuration in which it is present.
use Rattle.std.specs.Prelude.{false, Bool, ◌≡◌, ◌<◌, true, slice_get, ℕ, suc, ◌+◌, ◌^◌, nat_lt, ◌||◌, if◌then◌else◌, List, [], ◌∷◌, ◌++◌, length, map, position, Option, Some, None, option_and_then}
use Rattle.std.specs.List.{IsDistinct, flat_map, list_any}
use Rattle.std.specs.Map.{lookup}
use Rattle.std.specs.Option.{option_or, option_to_list}
use Rattle.mh_base.specs.declared.obj_ref.ObjRef.{ObjRef}
use Rattle.mh_base.specs.declared.value.Value.TheVariants as value
use Rattle.mh_group.specs.declared.action_name.ActionName.{ActionName}
use Rattle.mh_group.specs.declared.action_name.ActionName.TheVariants as action
use Rattle.mh_group.specs.Table.{is_list_group}
use Rattle.mh_model.specs.declared.act.Act.{Act}
use Rattle.mh_model.specs.declared.act.Argument.{Argument}
use Rattle.mh_model.specs.declared.act.Argument.TheVariants as argument
use Rattle.mh_model.specs.declared.act.Target.{Target}
use Rattle.mh_model.specs.declared.act.Target.TheVariants as target
use Rattle.mh_model.specs.declared.config.Config.{Config}
use Rattle.mh_model.specs.declared.object.member.Member.{Member}
use Rattle.mh_model.specs.declared.object.Fixed.{Fixed}
use Rattle.mh_model.specs.Configuration.{has_keys, is_service, configurations, present, same_config, scene_parts}
use Rattle.mh_model.specs.Effects.{actions}
use Rattle.mh_model.specs.Property.{value_held, as_reference}
use Rattle.mh_model.specs.Reference.{same_ref}
use Rattle.mh_model.specs.Service.{Service, fresh, group_parts}
use Rattle.mh_model.specs.Tokens.{members}
use Rattle.mh_laws.specs.Describing.{Hands, Says, says}
use Rattle.mh_laws.specs.Flow.{is_holder, refers, reads_reference}
use Rattle.mh_laws.specs.Least.{are_ascending}
use Rattle.mh_flow.specs.Index.{AreNamed, Home, held_index, holders, indexed}
use Rattle.mh_flow.specs.declared.chart.Bases.{Bases}
use Rattle.mh_flow.specs.declared.chart.Set.{Set}
use Rattle.mh_flow.specs.declared.chart.Set.TheVariants as set

pub record Chart : Type 0 where
  -- each configuration, with the numbers of the first sets of its application and of its scene
  pub configs : List (Config × Bases)
  -- the references that may be held
  pub members : List ObjRef
  -- the variables through which an action has its target that goes on from there
  pub targeted : List ObjRef
  -- what each set is
  pub sets : List Set
  -- the objects of the service under their references
  pub index : List (ObjRef × Home)
  -- those that have a set
  pub holders : List (ObjRef × Home)

-- References that may be held

-- a reference more, unless it is there already
abbrev pub with_reference : List ObjRef → ObjRef → List ObjRef
with_reference qs q = if list_any (same_ref q) qs then qs else qs ++ q ∷ []

abbrev pub with_references : List ObjRef → List ObjRef → List ObjRef
with_references qs [] = qs
with_references qs (r ∷ rs) = with_references (with_reference qs r) rs

-- the reference that a variable has at first, and what a list has
abbrev pub first_value : Fixed → Option ObjRef
first_value p = if refers p.class then as_reference (value_held p (fresh p).body) else None

abbrev pub first_items : Fixed → List Member
first_items p = if is_list_group p.class then members p else []

-- what an object holds at first
abbrev pub firsts : Fixed → List ObjRef
firsts p =
    (if refers p.class then option_to_list (as_reference (value_held p (fresh p).body)) else [])
    ++ (if is_list_group p.class then map (λ m. m.object) (members p) else [])

abbrev pub written_reference : Argument → List ObjRef
written_reference (argument.Direct (value.Object q)) = q ∷ []
written_reference _ = []

-- the argument with which an action can hand a reference on, if there is one
abbrev pub argument_of : List Says → List Argument → Option Argument
argument_of [] xs = None
argument_of (Hands n ∷ ss) xs = slice_get xs n

-- such an argument, where the action reads it as a reference
abbrev pub read_by : ActionName → Option Argument → Option Argument
read_by n None = None
read_by n (Some x) = if reads_reference x n then Some x else None

-- the argument that an action hands on as a reference, if it hands one on
abbrev pub handed_argument : Act → Option Argument
handed_argument a = read_by a.name (argument_of (says a.name) a.arguments)

-- the references that are written where an action hands one on
abbrev pub handed_by : List Says → List Argument → List ObjRef
handed_by [] xs = []
handed_by (Hands n ∷ ss) xs = flat_map written_reference (option_to_list (slice_get xs n)) ++ handed_by ss xs

abbrev pub handed : Act → List ObjRef
handed a = handed_by (says a.name) a.arguments

abbrev pub held_of : Fixed → List ObjRef
held_of p = firsts p ++ flat_map handed (actions p)

abbrev pub target_variables : Target → List ObjRef
target_variables (target.Direct r) = []
target_variables (target.Through v) = v ∷ []

-- the argument is a reference, or what a variable has
abbrev pub hands_on : Option Argument → Bool
hands_on None = false
hands_on (Some (argument.Direct (value.Object q))) = true
hands_on (Some (argument.Direct x)) = false
hands_on (Some (argument.Through x k)) = true
hands_on (Some (argument.Receiver x)) = false

-- the action reads references out of a list, or leads to a group
abbrev pub leads_on : ActionName → Bool
leads_on action.GetListItem = true
leads_on action.GetCellItem = true
leads_on action.TransitionTo = true
leads_on action.Launch = true
leads_on _ = false

-- the action goes on from where its target comes to: it hands something on, or leads on
abbrev pub goes_on : Act → Bool
goes_on a = hands_on (handed_argument a) || leads_on a.name

-- the variable through which such an action has its target
abbrev pub targeted_by : Act → List ObjRef
targeted_by a = if goes_on a then target_variables a.target else []

abbrev pub targeted_of : Fixed → List ObjRef
targeted_of p = flat_map targeted_by (actions p)

-- of all objects of the service
abbrev pub all_parts : Service → List Fixed
all_parts v = flat_map (λ g. g.1) v.groups

abbrev pub all_held : Service → List ObjRef
all_held v = flat_map held_of (all_parts v)

abbrev pub all_targeted : Service → List ObjRef
all_targeted v = flat_map targeted_of (all_parts v)

-- Sets

-- those of the objects of a configuration, by its number and their places
abbrev pub sets_in : ℕ → ℕ → List Fixed → List Set
sets_in k j [] = []
sets_in k j (p ∷ ps) = if is_holder p.class then set.Held k j ∷ sets_in k (suc j) ps else sets_in k (suc j) ps

-- of all configurations, from this number on
abbrev pub sets_from : Service → ℕ → List Config → List Set
sets_from v k [] = []
sets_from v k (c ∷ cs) = sets_in k 0 (present v c) ++ sets_from v (suc k) cs

abbrev pub led_from : ℕ → List Config → List Set
led_from k [] = []
led_from k (c ∷ cs) = set.Led k ∷ led_from (suc k) cs

-- those of configurations: the one of all that are reached, and one for each
abbrev pub first_sets : List Config → List Set
first_sets cs = set.Reached ∷ led_from 0 cs

-- the numbers of the sets of a configuration, from this number on
abbrev pub bases_of : Service → ℕ → Config → Bases
bases_of v n c = record { application = n; scene = n + length (holders (group_parts v c.app)) }

-- the configurations with the numbers of their sets, from this number on
abbrev pub based : Service → ℕ → List Config → List (Config × Bases)
based v n [] = []
based v n (c ∷ cs) = (c, bases_of v n c) ∷ based v (n + length (holders (present v c))) cs

abbrev pub all_sets : Service → List Set
all_sets v = first_sets (configurations v) ++ sets_from v 0 (configurations v)

-- the numbers are those of the service
pub record IsChart (v : Service) (ch : Chart) : Type 0 where
  pub service : is_service v ≡ true
  pub index : ch.index ≡ indexed v
  pub holders : ch.holders ≡ held_index v
  pub configs : ch.configs ≡ based v (suc (length (configurations v))) (configurations v)
  pub sets : ch.sets ≡ all_sets v
  pub members : (q : ObjRef) → list_any (same_ref q) ch.members ≡ list_any (same_ref q) (all_held v)
  pub targeted : (q : ObjRef) → list_any (same_ref q) ch.targeted ≡ list_any (same_ref q) (all_targeted v)
  pub ascending : are_ascending ch.members ≡ true
  pub fits : length ch.sets < 2 ^ 64
  pub named : AreNamed v
  pub keys : has_keys v ≡ true
  pub once : IsDistinct same_config (configurations v)

-- Numbers

-- the number of a configuration
abbrev pub config_number : Chart → Config → Option ℕ
config_number ch c = position (λ e. same_config c e.0) ch.configs

-- the sum, if it is a number of 64 bits
abbrev pub sum_of : ℕ → ℕ → Option ℕ
sum_of a b = if nat_lt (a + b) (2 ^ 64) then Some (a + b) else None

-- how many objects stand before the one to which a reference leads
abbrev pub place_in : List Fixed → ObjRef → Option ℕ
place_in ps r = position (λ p. same_ref r p.key) ps

-- the number of an object's set, where this is that of the first among these, if it has one
abbrev pub node_at : ℕ → List Fixed → ObjRef → Option ℕ
node_at b ps r = option_and_then (sum_of b) (place_in (holders ps) r)

-- the number of an object's set in a configuration, if it has one there
abbrev pub node_from : Service → Config → ObjRef → Bases → Option ℕ
node_from v c r b = option_or (node_at b.application (group_parts v c.app) r) (node_at b.scene (scene_parts v c.scene) r)

abbrev pub node_of : Service → Chart → Config → ObjRef → Option ℕ
node_of v ch c r = option_and_then (node_from v c r) (lookup (same_config c) ch.configs)

-- the number of a reference that may be held
abbrev pub member_of : Chart → ObjRef → Option ℕ
member_of ch q = position (same_ref q) ch.members
