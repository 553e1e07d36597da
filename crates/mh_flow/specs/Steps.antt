-- The moves of references: where they are at first or are written, and where actions take them, in all configurations
-- that are reached. Only where a move comes from nowhere does it matter which reference it brings: from there on each
-- move takes along whatever is held.
use Rattle.std.specs.Prelude.{◌≡◌, Bool, true, ◌&&◌, if◌then◌else◌, ℕ, List, [], ◌∷◌, ◌++◌, Option, Some, None}
use Rattle.std.specs.List.{Contains, flat_map, list_any}
use Rattle.std.specs.Option.{option_to_list}
use Rattle.mh_base.specs.declared.obj_ref.ObjRef.{ObjRef}
use Rattle.mh_base.specs.declared.value.Value.TheVariants as value
use Rattle.mh_model.specs.declared.act.Argument.{Argument}
use Rattle.mh_model.specs.declared.act.Argument.TheVariants as argument
use Rattle.mh_model.specs.declared.act.Target.{Target}
use Rattle.mh_model.specs.declared.act.Target.TheVariants as target
use Rattle.mh_model.specs.declared.config.Config.{Config}
use Rattle.mh_model.specs.declared.object.Fixed.{Fixed}
use Rattle.mh_model.specs.Arguments.{receivers}
use Rattle.mh_model.specs.Configuration.{present}
use Rattle.mh_model.specs.Reference.{same_ref}
use Rattle.mh_model.specs.Service.{Service, group_parts}
use Rattle.mh_laws.specs.Active.{leads_to}
use Rattle.mh_laws.specs.Flow.{Flow, Sets, fills, has, is_given, is_list_in, is_reference_in}
use Rattle.mh_laws.specs.Least.{Derived, Reached, Held}
use Rattle.mh_flow.specs.declared.chain.moves.Holder.{Holder}
use Rattle.mh_flow.specs.declared.chain.moves.ActionSite.{ActionSite}
use Rattle.mh_flow.specs.declared.chain.moves.Move.{Move}
use Rattle.mh_flow.specs.Chart.{firsts, handed_argument}
use Rattle.mh_flow.specs.Sites.{Site, sites_of}
use Rattle.mh_flow.specs.Solved.{held_by}

abbrev pub holder_at : Config → ObjRef → Holder
holder_at c r = record { config = c; at = r }

abbrev pub first_action_site : Fixed → ActionSite
first_action_site p = record { key = p.key; index = 0 }

abbrev pub action_site_at : Site → ActionSite
action_site_at x = record { key = x.key; index = x.index }

-- a reference comes from nowhere; from a holder; and stays with what holds it

abbrev pub comes : ActionSite → Holder → Move
comes s p = record { from = None; action_site = Some s; to = p }

abbrev pub goes : Holder → ActionSite → Holder → Move
goes o s p = record { from = Some o; action_site = Some s; to = p }

abbrev pub stays : Holder → Holder → Move
stays o p = record { from = Some o; action_site = None; to = p }

-- the reference is one of these
abbrev pub is_one_of : List ObjRef → ObjRef → Bool
is_one_of qs q = list_any (same_ref q) qs

-- A configuration that is reached, with what is present there, the sets that it has, and the references that are sought.
pub record SearchedConfig : Type 0 where
  pub service : Service
  pub config : Config
  pub present : List Fixed
  pub sets : Sets
  pub sought : List ObjRef

-- the same with a list for each that is present
pub record SearchedConfigLem : Type 0 where
  pub service : Service
  pub config : Config
  pub present : List Fixed
  pub held : List (List ObjRef)
  pub sought : List ObjRef

abbrev pub ground_of : SearchedConfigLem → SearchedConfig
ground_of h = record { service = h.service; config = h.config; present = h.present; sets = held_by h.present h.held; sought = h.sought }

-- a holder there
abbrev pub there : SearchedConfig → ObjRef → Holder
there g r = holder_at g.config r

-- what holds one of them there
abbrev pub holds : SearchedConfig → ObjRef → Bool
holds g r = list_any (is_one_of g.sought) (g.sets r)

-- the object has one of them at first
abbrev pub first_moves : SearchedConfig → Fixed → List Move
first_moves g p =
    if list_any (is_one_of g.sought) (firsts p) then comes (first_action_site p) (there g p.key) ∷ [] else []

-- Actions. Each function says what the action at a site does where its target comes to an object.

-- it writes one of them there; it hands on what a variable holds
abbrev pub written_moves : SearchedConfig → Site → ObjRef → ObjRef → List Move
written_moves g x r y = if is_one_of g.sought y then comes (action_site_at x) (there g r) ∷ [] else []

abbrev pub read_moves : SearchedConfig → Site → ObjRef → ObjRef → List Move
read_moves g x r y =
    if is_reference_in g.present y && holds g y then goes (there g y) (action_site_at x) (there g r) ∷ [] else []

-- the argument brings one of them to the object
abbrev pub handed_moves : SearchedConfig → Site → ObjRef → Argument → List Move
handed_moves g x r (argument.Direct (value.Object y)) = written_moves g x r y
handed_moves g x r (argument.Direct y) = []
handed_moves g x r (argument.Through y k) = read_moves g x r y
handed_moves g x r (argument.Receiver y) = []

abbrev pub given_moves : SearchedConfig → Site → ObjRef → List Move
given_moves g x r =
    if is_given g.present x.act.name r
    then flat_map (handed_moves g x r) (option_to_list (handed_argument x.act)) else []

-- the variable receives what the list has
abbrev pub received_moves : SearchedConfig → Site → ObjRef → ObjRef → List Move
received_moves g x r y =
    if is_reference_in g.present y then goes (there g r) (action_site_at x) (there g y) ∷ [] else []

abbrev pub filled_moves : SearchedConfig → Site → ObjRef → List Move
filled_moves g x r =
    if fills x.act.name && is_list_in g.present r && holds g r
    then flat_map (received_moves g x r) (receivers x.act.arguments) else []

-- the object takes along what it holds of them
abbrev pub kept_moves : SearchedConfig → Config → Fixed → List Move
kept_moves g d p = if holds g p.key then stays (there g p.key) (holder_at d p.key) ∷ [] else []

abbrev pub passed_moves : SearchedConfig → Config → Option (List ℕ) → List Move
passed_moves g d None = []
passed_moves g d (Some s) = flat_map (kept_moves g d) (group_parts g.service g.config.app)

abbrev pub led_moves : SearchedConfig → Option Config → List Move
led_moves g None = []
led_moves g (Some d) = passed_moves g d d.scene

abbrev pub done_moves : SearchedConfig → Site → ObjRef → List Move
done_moves g x r =
    given_moves g x r ++ filled_moves g x r ++ led_moves g (leads_to g.service g.config x.act.name r)

-- the objects to which a target may come
abbrev pub targets : List Fixed → Sets → Target → List ObjRef
targets ps h (target.Direct r) = r ∷ []
targets ps h (target.Through w) = if is_reference_in ps w then h w else []

abbrev pub site_moves : SearchedConfig → Site → List Move
site_moves g x = flat_map (done_moves g x) (targets g.present g.sets x.act.target)

-- All

abbrev pub moves_in : SearchedConfig → List Move
moves_in g = flat_map (first_moves g) g.present ++ flat_map (site_moves g) (sites_of g.present)

abbrev pub searched_in : Service → Flow → List ObjRef → Config → SearchedConfig
searched_in v w qs c = record { service = v; config = c; present = present v c; sets = w.sets c; sought = qs }

abbrev pub moves_of : Service → Flow → List ObjRef → List Move
moves_of v w qs = flat_map (λ c. moves_in (searched_in v w qs c)) w.configs

-- the flow has what is derived, and nothing else
pub record IsExact (v : Service) (w : Flow) : Type 0 where
  pub reached : (c : Config) → Derived v (Reached c) → Contains w.configs c
  pub only_reached : (c : Config) → Contains w.configs c → Derived v (Reached c)
  pub held : (c : Config) (r q : ObjRef) → Derived v (Held c r q) → has (w.sets c) r q ≡ true
  pub only_held : (c : Config) (r q : ObjRef) → has (w.sets c) r q ≡ true → Derived v (Held c r q)
