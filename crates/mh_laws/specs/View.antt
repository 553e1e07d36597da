-- What objects, lists and actions come to in a configuration, over whatever is counted there: said once.
use Rattle.std.specs.Prelude.{ℕ, Bool, true, false, ◌&&◌, not, List, [], ◌∷◌, filter, reverse, Option, Some, None, pos}
use Rattle.std.specs.Option.{option_map, option_map_or}
use Rattle.mh_base.specs.declared.obj_ref.ObjRef.{ObjRef}
use Rattle.mh_base.specs.declared.value.Value.TheVariants as value
use Rattle.mh_base.specs.declared.event.EventType.{EventType}
use Rattle.mh_base.specs.declared.event.EventType.TheVariants as event
use Rattle.mh_group.specs.declared.action_name.ActionName.{ActionName}
use Rattle.mh_group.specs.declared.action_name.ActionName.TheVariants as action
use Rattle.mh_group.specs.declared.class.Class.{Class}
use Rattle.mh_group.specs.declared.class.Class.TheVariants as class
use Rattle.mh_group.specs.Table.{has_content, is_link, is_runnable}
use Rattle.mh_model.specs.declared.act.Act.{Act}
use Rattle.mh_model.specs.declared.act.Argument.{Argument}
use Rattle.mh_model.specs.declared.act.Argument.TheVariants as argument
use Rattle.mh_model.specs.declared.act.Target.{Target}
use Rattle.mh_model.specs.declared.act.Target.TheVariants as target
use Rattle.mh_model.specs.declared.object.member.Member.{Member}
use Rattle.mh_model.specs.declared.object.Fixed.{Fixed}
use Rattle.mh_model.specs.Groups.{is_initially_active, is_shared}
use Rattle.mh_model.specs.Saying.{event_numbered}
use Rattle.mh_model.specs.Tokens.{members}
use Rattle.mh_laws.specs.Price.{Price, Nothing, One, Plus, sum_price, most_price, if_price}
use Rattle.mh_laws.specs.Ways.{Told, Sure, Unsure, Share, Prepares, Runs, Halts, Drops, Tells, Sends, Changes, Slots, ways}

-- what is there
pub record View (K : Type 0) : Type 0 where
  pub part : ObjRef → Option Fixed
  pub set : ObjRef → List ObjRef
  pub dealt_with : ObjRef → EventType → Told → Price K
  -- the largest of its slots
  pub slots : Fixed → Price K

-- and a change of a list, which may have a key of its own
pub record Lists (K : Type 0) : Type 0 where
  pub view : View K
  pub change : ObjRef → Price K

-- and how one leaves the scene or all, and goes on to another group
pub record Around (K : Type 0) : Type 0 where
  pub lists : Lists K
  pub leave : Bool → Price K
  pub exchange : List ℕ → Price K

abbrev pub emit : {K : Type 0} → View K → ObjRef → EventType → Told → Price K
emit a r kind d = Plus One (a.dealt_with r kind d)

abbrev pub plain_emit : {K : Type 0} → View K → ObjRef → EventType → Price K
plain_emit a r kind = emit a r kind (Sure None)

-- Life

abbrev pub rise_of : {K : Type 0} → View K → ObjRef → Class → Price K
rise_of a r k = Plus (plain_emit a r event.IsAvailable) (if_price (has_content k) (plain_emit a r event.ContentAvailable))

abbrev pub rise : {K : Type 0} → View K → ObjRef → Price K
rise a r = option_map_or (rise_of a r) (option_map (λ (p : Fixed). p.class) (a.part r)) Nothing

abbrev pub prepare : {K : Type 0} → View K → ObjRef → Price K
prepare a r = Plus One (rise a r)

abbrev pub run_alone : {K : Type 0} → View K → ObjRef → Price K
run_alone a r = Plus One (Plus (rise a r) (plain_emit a r event.IsRunning))

abbrev pub halt_alone : {K : Type 0} → View K → ObjRef → Price K
halt_alone a r = Plus One (plain_emit a r event.IsStopped)

abbrev pub dropped : {K : Type 0} → View K → ObjRef → Price K
dropped a r = Plus One (plain_emit a r event.IsDeleted)

-- a list changes: each item that it may have halts and runs, and its four events are told
abbrev pub change : {K : Type 0} → View K → ObjRef → Price K
change a r =
    Plus (sum_price (halt_alone a) (a.set r))
    (Plus (sum_price (run_alone a) (a.set r))
    (Plus (emit a r event.FirstItemPresented Unsure) (Plus (emit a r event.LastItemPresented Unsure)
    (Plus (emit a r event.HeadItems Unsure) (emit a r event.TailItems Unsure)))))

abbrev pub group_run : {K : Type 0} → Lists K → ObjRef → Fixed → Class → Price K
group_run a r p class.TokenGroup =
    Plus (sum_price (λ (m : Member). run_alone a.view m.object) (members p))
    (emit a.view r event.TokenMovedTo (Sure (Some (value.Int (pos 1)))))
group_run a r p class.ListGroup = a.change r
group_run a r p _ = Nothing

abbrev pub group_halt : {K : Type 0} → Lists K → ObjRef → Fixed → Class → Price K
group_halt a r p class.TokenGroup = sum_price (λ (m : Member). halt_alone a.view m.object) (members p)
group_halt a r p class.ListGroup = sum_price (halt_alone a.view) (a.view.set r)
group_halt a r p _ = Nothing

abbrev pub run : {K : Type 0} → Lists K → ObjRef → Price K
run a r = Plus (run_alone a.view r) (option_map_or (λ (p : Fixed). group_run a r p p.class) (a.view.part r) Nothing)

abbrev pub halt : {K : Type 0} → Lists K → ObjRef → Price K
halt a r = Plus (halt_alone a.view r) (option_map_or (λ (p : Fixed). group_halt a r p p.class) (a.view.part r) Nothing)

-- Actions

abbrev pub targets : {K : Type 0} → View K → Target → List ObjRef
targets a (target.Direct r) = r ∷ []
targets a (target.Through x) = a.set x

abbrev pub named : {K : Type 0} → View K → Argument → List ObjRef
named a (argument.Direct (value.Object q)) = q ∷ []
named a (argument.Through x k) = a.set x
named a _ = []

-- what is known of the data of an event that is sent
abbrev pub data_sent : List Argument → Told
data_sent [] = Sure None
data_sent (argument.Direct x ∷ xs) = Sure (Some x)
data_sent (_ ∷ xs) = Unsure

abbrev pub sends : {K : Type 0} → View K → List Argument → Price K
sends a (x ∷ argument.Direct (value.Int n) ∷ more) =
    option_map_or (λ kind. most_price (λ q. emit a q kind (data_sent more)) (named a x)) (event_numbered n) Nothing
sends a _ = Nothing

abbrev pub slots : {K : Type 0} → View K → Fixed → Price K
slots a p = if_price (not (is_link p.class)) (a.slots p)

abbrev pub share : {K : Type 0} → Lists K → List Argument → ObjRef → Share → Price K
share a xs r Prepares = prepare a.view r
share a xs r Runs = run a r
share a xs r Halts = halt a r
share a xs r Drops = dropped a.view r
share a xs r (Tells kind d) = emit a.view r kind d
share a xs r Sends = sends a.view xs
share a xs r Changes = a.change r
share a xs r Slots = option_map_or (slots a.view) (a.view.part r) Nothing

abbrev pub put_in : {K : Type 0} → Lists K → List Argument → ObjRef → List (List Share) → Price K
put_in a xs r pss = most_price (sum_price (share a xs r)) pss

abbrev pub done_to : {K : Type 0} → Around K → ActionName → List Argument → ObjRef → Price K
done_to a action.TransitionTo xs r = Plus (a.leave false) (a.exchange r.group)
done_to a action.Launch xs r = Plus (a.leave true) (a.exchange r.group)
done_to a action.Quit xs r = Plus (a.leave true) One
done_to a n xs r = put_in a.lists xs r (ways n xs)

abbrev pub act : {K : Type 0} → Around K → Act → Price K
act a x = Plus One (most_price (done_to a x.name x.arguments) (targets a.lists.view x.target))

abbrev pub acts : {K : Type 0} → Around K → List Act → Price K
acts a xs = sum_price (act a) xs

-- Groups

-- a group of these parts is entered: its start-up, all of it that is active at first runs, and it runs itself
abbrev pub enter : {K : Type 0} → Lists K → Price K → ObjRef → List Fixed → Price K
enter a starts g ps =
    Plus One (Plus starts
    (Plus (sum_price (λ (p : Fixed). run a p.key) (filter is_initially_active ps)) (plain_emit a.view g event.IsRunning)))

-- what halts of these, from the last on
abbrev pub halts : {K : Type 0} → Lists K → (Fixed → Bool) → List Fixed → Price K
halts a is ps = sum_price (λ (p : Fixed). halt a p.key) (filter is (reverse ps))

-- the scene is left: its close-down, and what halts of it and of the application
abbrev pub leave_scene : {K : Type 0} → Lists K → Price K → List Fixed → List Fixed → Price K
leave_scene a closes ps qs =
    Plus closes (Plus (halts a (λ p. is_runnable p.class) ps) (halts a (λ p. is_runnable p.class && not (is_shared p)) qs))

abbrev pub leave_all : {K : Type 0} → Lists K → Price K → Price K → List Fixed → List Fixed → Price K
leave_all a closes ends ps qs =
    Plus closes (Plus ends (Plus (halts a (λ p. is_runnable p.class) ps) (halts a (λ p. is_runnable p.class) qs)))
