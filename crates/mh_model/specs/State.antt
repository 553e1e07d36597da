-- The state of the object machine.
use Rattle.std.specs.Prelude.{ℕ, Bool, false, List, [], ◌∷◌, ◌++◌, Option, None}
use Rattle.mh_base.specs.declared.obj_ref.ObjRef.{ObjRef}
use Rattle.mh_model.specs.declared.object.Object.{Object}
use Rattle.mh_model.specs.declared.item.Item.{Item}
use Rattle.mh_model.specs.declared.item.Item.TheVariants as item
use Rattle.mh_model.specs.declared.input.Waiting.{Waiting}
use Rattle.mh_model.specs.declared.fault.Fault.{Fault}
use Rattle.mh_model.specs.declared.file.File.{File}
use Rattle.mh_model.specs.declared.file.Wait.{Wait}
use Rattle.mh_model.specs.declared.interaction.Interaction.{Interaction}
use Rattle.mh_model.specs.declared.program.Outcome.{Outcome}
use Rattle.mh_model.specs.declared.program.Outcome.TheVariants as outcome
use Rattle.mh_model.specs.declared.time.Moments.{Moments}
use Rattle.mh_model.specs.declared.time.Timer.{Timer}
use Rattle.mh_model.specs.declared.transition.Transition.{Transition}
use Rattle.mh_model.specs.declared.transition.Transition.TheVariants as transition
use Rattle.mh_model.specs.Planes.{Planes, blank}
use Rattle.mh_model.specs.Service.{Service, group_objects}

-- the objects that are present: those of the active application, and those of the current scene, each group
-- in Items order
pub record Objects : Type 0 where
  pub application : List Object
  pub scene : List Object

-- all of them, the application's first
abbrev pub all : Objects → List Object
all os = os.application ++ os.scene

pub record State : Type 0 where
  -- the service, which stays as it is
  pub service : Service
  -- the configuration: the active application, and the current scene if there is one
  pub application : List ℕ
  pub scene : Option (List ℕ)
  pub objects : Objects
  -- the display stack, the bottom first
  pub stack : List ObjRef
  -- the object that interacts, if one does
  pub interaction : Option Interaction
  -- the timers that are set, in the order in which they were
  pub timers : List Timer
  -- what waits to be taken: inputs, and events that are not dealt with at once
  pub queue : List Waiting
  -- the work that is to be done before the next input is taken
  pub work : List Item
  -- the present moment, and those in which the active application and the current scene were entered
  pub moments : Moments
  -- a transition has begun, and its exchange is still to come; or a scene is waited for to which one leads
  pub transition : Transition
  -- the scenes that are still late
  pub late : List (List ℕ)
  -- the application has quit, and nothing is done any more
  pub ended : Bool
  -- how often the screen is locked, and the picture that it shows while it is
  pub locks : ℕ
  pub frozen : Planes
  -- the steps taken, and the faults met
  pub taken : ℕ
  pub faults : List Fault
  -- the content files that are there, and the objects that wait for one
  pub files : List File
  pub waits : List Wait
  -- the modified Julian day on which the engine began
  pub mjd : ℕ
  -- what a program of the receiver has said last; before a step calls one, it says what comes of that
  pub said : Outcome

-- the state from which a run begins, on a day: the start application is there and about to be entered
abbrev pub begun : Service → ℕ → State
begun s mjd = record {
  service = s;
  application = s.start;
  scene = None;
  objects = record { application = group_objects s s.start; scene = [] };
  stack = [];
  interaction = None;
  timers = [];
  queue = [];
  work = item.Enter s.start ∷ [];
  moments = record { present = 0; application = 0; scene = 0 };
  transition = transition.Rests;
  late = s.late;
  ended = false;
  locks = 0;
  frozen = blank;
  taken = 0;
  faults = [];
  files = [];
  waits = [];
  mjd = mjd;
  said = outcome.Failed;
}
