-- Examples, counted by the definitions alone: the six costs of small services, with the flow and the layers of each written
-- by hand.
use Rattle.std.specs.Prelude.{◌≡◌, ℕ, ◌+◌, ◌-◌, ◌==◌, ◌||◌, true, if◌then◌else◌, List, [], ◌∷◌, Option, Some, None, pos}
use Rattle.std.specs.Str.{bytes_eq}
use Rattle.mh_base.specs.declared.obj_ref.ObjRef.{ObjRef}
use Rattle.mh_base.specs.declared.value.Kind.TheVariants as kind
use Rattle.mh_base.specs.declared.value.Value.TheVariants as value
use Rattle.mh_base.specs.declared.event.EventType.{EventType}
use Rattle.mh_base.specs.declared.event.EventType.TheVariants as event
use Rattle.mh_group.specs.declared.class.Class.TheVariants as class
use Rattle.mh_group.specs.declared.action_name.ActionName.TheVariants as action
use Rattle.mh_group.specs.declared.attribute.Attribute.TheVariants as attribute
use Rattle.mh_model.specs.declared.act.Act.{Act}
use Rattle.mh_model.specs.declared.act.Argument.{Argument}
use Rattle.mh_model.specs.declared.act.Argument.TheVariants as argument
use Rattle.mh_model.specs.declared.act.Target.TheVariants as target
use Rattle.mh_model.specs.declared.config.Config.{Config}
use Rattle.mh_model.specs.declared.held.Held.TheVariants as of
use Rattle.mh_model.specs.declared.held.Property.{Property}
use Rattle.mh_model.specs.declared.object.Fixed.{Fixed}
use Rattle.mh_model.specs.Reference.{group_ref}
use Rattle.mh_model.specs.Service.{Service}
use Rattle.mh_laws.specs.Budget.{Bounds, six_costs}
use Rattle.mh_laws.specs.Costs.{Effect}
use Rattle.mh_laws.specs.ExampleComputing.{to_number}
use Rattle.mh_laws.specs.ExampleFirst.{a, s, service, empty_service, application, scene}
use Rattle.mh_laws.specs.ExamplePassing.{p, to_group, with_timers}
use Rattle.mh_laws.specs.Flow.{Flow, Sets}
use Rattle.mh_laws.specs.Layers.{costs, is_layering}

-- the layers are such, and by them the six costs are these
pub record Counts (v : Service) (w : Flow) (rank : Effect → ℕ) (b : Bounds) : Type 0 where
  pub layered : is_layering v w rank ≡ true
  pub counted : six_costs v w (costs v w rank) ≡ b

abbrev pub six : ℕ → ℕ → ℕ → ℕ → ℕ → ℕ → Bounds
six start key tick stream engine arrive = record { start = start; key = key; tick = tick; stream = stream; engine = engine; arrive = arrive }

-- the application, with this scene or none, and no variable that refers to anything
abbrev pub within : Option (List ℕ) → Config
within scene = record { app = a; scene = scene }

abbrev pub with_sets : (ObjRef → List ObjRef) → List Config → Flow
with_sets h cs = record { configs = cs; sets = λ c. h }

abbrev pub none_held : Sets
none_held r = []

-- the application and its one scene
abbrev pub both : Flow
both = with_sets none_held (within None ∷ within (Some s) ∷ [])

-- the application alone
abbrev pub alone : Flow
alone = with_sets none_held (within None ∷ [])

-- what the application does is above what its scenes do
abbrev pub by_group : Effect → ℕ
by_group x = if bytes_eq x.object.group a then 1 else 0

-- objects of the application

abbrev pub own : ℕ → ObjRef
own n = record { group = a; number = n }

-- a link that hears this event of the source, whatever its data
abbrev pub when : ObjRef → ObjRef → EventType → List Property → List Act → Fixed
when r source kind more effect = record {
  key = r;
  class = class.Link;
  properties =
      record { attribute = attribute.EventSource; held = of.Value (value.Object source) }
      ∷ record { attribute = attribute.EventType; held = of.Event kind }
      ∷ record { attribute = attribute.LinkEffect; held = of.Effect effect }
      ∷ more;
}

-- A chain of tests: when the application runs it tests the first of four variables, and the link that hears the test of one
-- tests the next twice. To enter costs 1, each of the four links 3, that the application runs 1, and a test 2 and what comes
-- of it: from the last to the first 2, 6, 14 and 30.

abbrev pub truth : ℕ → Fixed
truth n = record {
  key = own n;
  class = class.BooleanVar;
  properties = record { attribute = attribute.OrigValue; held = of.Value (value.Bool true) } ∷ [];
}

abbrev pub test : ℕ → Act
test n = record {
  name = action.TestVariable;
  target = target.Direct (own n);
  arguments = to_number (pos 1) ∷ argument.Direct (value.Bool true) ∷ [];
}

abbrev pub tests_next : ℕ → Fixed
tests_next n = when (own (100 + n)) (own n) event.TestEvent [] (test (n + 1) ∷ test (n + 1) ∷ [])

abbrev pub chain : Service
chain = record {
  groups = (
    a,
    record application { properties = [] } ∷ truth 1 ∷ truth 2 ∷ truth 3 ∷ truth 4
        ∷ when (own 100) (group_ref a) event.IsRunning [] (test 1 ∷ [])
        ∷ tests_next 1 ∷ tests_next 2 ∷ tests_next 3 ∷ [],
  )
      ∷ [];
  start = a;
  programs = [];
  files = [];
  late = [];
}

-- a later link of the chain is lower
abbrev pub by_number : Effect → ℕ
by_number x = 104 - x.object.number

-- References that are handed on: a scene that is entered hands a text of its own to a variable of the application, and that on
-- to another; a link of the application then gives octets to whatever that one refers to. The red key leads on to a second
-- scene.

abbrev pub q : List ℕ
q = 113 ∷ []

abbrev pub there : List ℕ → ℕ → ObjRef
there g n = record { group = g; number = n }

abbrev pub text : ObjRef → Fixed
text r = record { key = r; class = class.Text; properties = [] }

abbrev pub refers_first : ℕ → Fixed
refers_first n = record {
  key = own n;
  class = class.ObjectRefVar;
  properties = record { attribute = attribute.OrigValue; held = of.Value (value.Object (own 30)) } ∷ [];
}

abbrev pub give : ℕ → Argument → Act
give n x = record { name = action.SetVariable; target = target.Direct (own n); arguments = x ∷ [] }

abbrev pub write_to : ℕ → Act
write_to n = record { name = action.SetData; target = target.Through (own n); arguments = argument.Direct (value.Octets (88 ∷ [])) ∷ [] }

abbrev pub handing : Service
handing = record {
  groups = (
    a,
    record application { properties = [] } ∷ refers_first 20 ∷ refers_first 21 ∷ text (own 30)
        ∷ when (own 31) (group_ref p) event.IsRunning (record { attribute = attribute.Shared; held = of.Value (value.Bool true) } ∷ []) (write_to 21 ∷ [])
        ∷ when (own 32) (group_ref a) event.IsRunning [] (to_group p ∷ []) ∷ [],
  )
      ∷ (
        p,
        record scene {
          key = group_ref p;
          properties = record {
            attribute = attribute.OnStartUp;
            held = of.Effect (give 20 (argument.Direct (value.Object (there p 10))) ∷ give 21 (argument.Through (own 20) (Some kind.Object)) ∷ []);
          } ∷ [];
        }
            ∷ text (there p 10)
            ∷ when (there p 11) (group_ref p) event.UserInput (record { attribute = attribute.EventData; held = of.Value (value.Int (pos 100)) } ∷ []) (to_group q ∷ []) ∷ [],
      )
      ∷ (q, record scene { key = group_ref q; properties = [] } ∷ [])
      ∷ [];
  start = a;
  programs = [];
  files = [];
  late = [];
}

-- either variable may refer to either text
abbrev pub handed_on : Sets
handed_on r = if r.number == 20 || r.number == 21 then own 30 ∷ there p 10 ∷ [] else []

abbrev pub three : Flow
three = with_sets handed_on (within None ∷ within (Some p) ∷ within (Some q) ∷ [])

-- what leads on is above the rest
abbrev pub by_way : Effect → ℕ
by_way x = if x.object.number == 11 || x.object.number == 32 then 1 else 0

-- The six costs: of the start, a key, a tick, a stream event, an engine event, and a file that arrives.

pub record CountsExamples : Type 0 where
  -- a rectangle that the red key moves
  pub moving : Counts service both by_group (six 12 2 1 1 1 1)
  -- an application that does nothing
  pub empty : Counts empty_service alone (λ x. 0) (six 2 1 1 1 1 1)
  -- the chain of tests
  pub tested : Counts chain alone by_number (six 44 1 1 1 1 1)
  -- references that are handed on
  pub handed : Counts handing three by_way (six 34 13 1 1 1 3)
  -- three timers, one of which is set again when it fires
  pub timed : Counts with_timers both by_group (six 21 1 14 1 1 1)
