-- What an arrow grants: to what a variable refers, and which item lists have, each once.
use Rattle.std.specs.Prelude.{Bool, ◌&&◌, if◌then◌else◌, List, [], ◌∷◌, ◌++◌, Option, Some, None}
use Rattle.std.specs.List.{list_any}
use Rattle.mh_base.specs.declared.obj_ref.ObjRef.{ObjRef}
use Rattle.mh_group.specs.Table.{is_list_group}
use Rattle.mh_model.specs.declared.act.Act.{Act}
use Rattle.mh_model.specs.declared.act.Argument.{Argument}
use Rattle.mh_model.specs.declared.act.Argument.TheVariants as argument
use Rattle.mh_model.specs.declared.act.Target.{Target}
use Rattle.mh_model.specs.declared.act.Target.TheVariants as target
use Rattle.mh_model.specs.declared.config.Config.{Config}
use Rattle.mh_model.specs.declared.object.Fixed.{Fixed}
use Rattle.mh_model.specs.Configuration.{present}
use Rattle.mh_model.specs.Faults.{is_transition}
use Rattle.mh_model.specs.Reference.{same_key, same_ref}
use Rattle.mh_model.specs.Service.{Service}
use Rattle.mh_laws.specs.Flow.{Flow, Sets, reached}
use Rattle.mh_laws.specs.Safe.{exchanged}
use Rattle.mh_layers.specs.declared.arrows.arrow.Held.{Held}

abbrev pub held_so : ObjRef → ObjRef → Held
held_so r q = record { by = r; at = q }

abbrev pub is_held_so : ObjRef → ObjRef → Held → Bool
is_held_so r q h = same_key r h.by && same_key q h.at

-- it is put behind these, unless it is one of them
abbrev pub with_held : List Held → ObjRef → ObjRef → List Held
with_held hs r q = if list_any (is_held_so r q) hs then hs else hs ++ held_so r q ∷ []

-- if the object is among those of the holder
abbrev pub with_had : List ObjRef → List Held → ObjRef → ObjRef → List Held
with_had qs hs r q = if list_any (same_ref q) qs then with_held hs r q else hs

-- for each list of these, if it has the object
abbrev pub with_items : Sets → List Fixed → List Held → ObjRef → List Held
with_items h [] hs q = hs
with_items h (p ∷ ps) hs q = with_items h ps (if is_list_group p.class then with_had (h p.key) hs p.key q else hs) q

-- the object to which the target comes
abbrev pub with_target : Target → ObjRef → List Held
with_target (target.Direct r) t = []
with_target (target.Through x) t = held_so x t ∷ []

-- and the object that the first argument names
abbrev pub with_sent : Sets → List Argument → List Held → ObjRef → List Held
with_sent h (argument.Through x k ∷ more) hs q = with_had (h x) hs x q
with_sent h xs hs q = hs

-- the lists of the configuration to which a transition leads, if that is reached
abbrev pub with_next : Service → Flow → Config → List Held → ObjRef → List Held
with_next v w d hs q = if reached w d then with_items (w.sets d) (present v d) hs q else hs

abbrev pub with_led : Service → Flow → Config → Act → ObjRef → List Held → ObjRef → List Held
with_led v w c a t hs q = if is_transition a.name then with_next v w (exchanged v c t.group) hs q else hs

-- what is granted to an action that is done to this object, where the link waits for events of the other
abbrev pub with_source : Service → Flow → Config → Act → ObjRef → Option ObjRef → List Held → List Held
with_source v w c a t None hs = hs
with_source v w c a t (Some q) hs =
    with_led v w c a t (with_items (w.sets c) (present v c) (with_had (w.sets c t) (with_sent (w.sets c) a.arguments hs q) t q) q) q

abbrev pub held_for : Service → Flow → Config → Act → ObjRef → Option ObjRef → List Held
held_for v w c a t o = with_source v w c a t o (with_target a.target t)
