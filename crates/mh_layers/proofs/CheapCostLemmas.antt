-- What things come to by a flow within another is below what they come to by the other: an instance of the law of views.
use Rattle.std.specs.Prelude.{◌≤◌, ℕ, Bool, true, false, if◌then◌else◌, List, filter, refl}
use Rattle.mh_base.specs.declared.obj_ref.ObjRef.{ObjRef}
use Rattle.mh_base.specs.declared.event.EventType.{EventType}
use Rattle.mh_base.specs.Event.{is_sync}
use Rattle.mh_group.specs.declared.action_name.ActionName.{ActionName}
use Rattle.mh_model.specs.declared.act.Act.{Act}
use Rattle.mh_model.specs.declared.act.Argument.{Argument}
use Rattle.mh_model.specs.declared.act.Target.{Target}
use Rattle.mh_model.specs.declared.act.Target.TheVariants as target
use Rattle.mh_model.specs.declared.config.Config.{Config}
use Rattle.mh_model.specs.declared.object.Fixed.{Fixed}
use Rattle.mh_model.specs.Configuration.{present, scene_parts}
use Rattle.mh_model.specs.Reference.{group_ref, same_ref}
use Rattle.mh_model.specs.Service.{Service, group_parts}
use Rattle.mh_laws.specs.Costs.{Effect, act, acts_price, around, done_to, effect_at, effect_price, emit, enter, entry, exchange, fired_if_there, group_effect, leave_scene, leaves, lists, objects, on_close_down, on_start_up, scene_closes, targets}
use Rattle.mh_laws.specs.Flow.{Flow, reached}
use Rattle.mh_laws.specs.Price.{Nothing, One}
use Rattle.mh_laws.specs.Safe.{exchanged}
use Rattle.mh_laws.specs.Ways.{Told, count_of}
use Rattle.mh_prices.proofs.NearLemmas.{NearDone, NearLists, NearSets, NearViews, Passes, change_near, done_near, enter_near, leave_all_near, leave_scene_near}
use Rattle.mh_layers.proofs.CheapFlowLemmas.{IsWithin, configs_within, count_refs, set_within}
use Rattle.mh_layers.proofs.CheapListLemmas.{Within, counted_within}
use Rattle.mh_layers.proofs.CheapPriceLemmas.{IsBelow, below_counted, below_dearest, below_if, below_itself, below_larger, below_most, below_plus, below_step, below_sum}

-- Events

pub entry_below : (v : Service) (least w : Flow) → IsWithin least w → (r : ObjRef) (kind : EventType) (d : Told) → IsBelow (entry v least r kind d) (entry v w r kind d)
entry_below v least w k r kind d =
    below_step
    (below_dearest (λ (c : Config). fired_if_there v c r kind d) (λ (c : Config). fired_if_there v c r kind d) (λ c. below_itself (fired_if_there v c r kind d)) least.configs w.configs (configs_within least w k))

dealt_below : (v : Service) (least w : Flow) → IsWithin least w → (c : Config) (r : ObjRef) (kind : EventType) (d : Told) → IsBelow ((objects v least c).dealt_with r kind d) ((objects v w c).dealt_with r kind d)
dealt_below v least w k c r kind d = by (is_sync kind)
  where
    by : (b : Bool) → IsBelow (if b then fired_if_there v c r kind d else entry v least r kind d) (if b then fired_if_there v c r kind d else entry v w r kind d)
    by true = below_itself (fired_if_there v c r kind d)
    by false = entry_below v least w k r kind d

pub emit_below : (v : Service) (least w : Flow) → IsWithin least w → (c : Config) (r : ObjRef) (kind : EventType) (d : Told) → IsBelow (emit v least c r kind d) (emit v w c r kind d)
emit_below v least w k c r kind d = below_step (dealt_below v least w k c r kind d)

-- Views

below_passes : Passes IsBelow
below_passes = record {
  nothing = below_itself Nothing;
  one = below_itself One;
  plus = λ p r q s h k. below_plus h k;
  most = λ p r q s h k. below_larger h k;
}

abbrev Fewer : List ObjRef → List ObjRef → Type 0
Fewer rs ss = (q : ObjRef) → count_of q rs ≤ count_of q ss

below_sets : NearSets (λ r. IsBelow) IsBelow Fewer
below_sets = record {
  sums = λ f g each rs ss fewer. below_counted same_ref count_of count_refs f g each rs ss fewer;
  largest = λ f g each rs ss fewer. below_dearest f g each rs ss (counted_within same_ref count_of count_refs rs ss fewer);
}

views_below : (v : Service) (least w : Flow) → IsWithin least w → (c : Config) → NearViews (λ r. IsBelow) IsBelow (objects v least c) (objects v w c)
views_below v least w k c = record {
  part = λ r. refl;
  dealt_with = dealt_below v least w k c;
  slots = λ r p at other. below_itself ((objects v least c).slots p);
}

lists_below : (v : Service) (least w : Flow) → IsWithin least w → (c : Config) → NearLists (λ r. IsBelow) IsBelow Fewer (lists v least c) (lists v w c)
lists_below v least w k c = record {
  view = views_below v least w k c;
  items = λ r p at listed. k.sets c r;
  change = λ r fewer.
      change_near (λ q. IsBelow) IsBelow Fewer (λ q. below_passes) below_passes (λ q o u h. h) below_sets
      (objects v least c) (objects v w c) (views_below v least w k c) r fewer;
}

-- Groups

pub enter_below : (v : Service) (least w : Flow) → IsWithin least w → (c : Config) (g : List ℕ) → IsBelow (enter v least c g) (enter v w c g)
enter_below v least w k c g =
    enter_near (λ q. IsBelow) IsBelow Fewer (λ q. below_passes) below_passes (λ q o u h. h) below_sets
    (lists v least c) (lists v w c) (lists_below v least w k c) (group_effect v c g on_start_up) (group_effect v c g on_start_up) (below_itself (group_effect v c g on_start_up))
    (group_ref g) (group_parts v g)

pub exchange_below : (v : Service) (least w : Flow) → IsWithin least w → (c : Config) (g : List ℕ) → IsBelow (exchange v least c g) (exchange v w c g)
exchange_below v least w k c g =
    below_step (below_if (reached least (exchanged v c g)) (reached w (exchanged v c g)) (k.configs (exchanged v c g)) (enter_below v least w k (exchanged v c g) g))

pub leave_scene_below : (v : Service) (least w : Flow) → IsWithin least w → (c : Config) → IsBelow (leave_scene v least c) (leave_scene v w c)
leave_scene_below v least w k c =
    leave_scene_near (λ q. IsBelow) IsBelow Fewer (λ q. below_passes) below_passes (λ q o u h. h) below_sets
    (lists v least c) (lists v w c) (lists_below v least w k c) (scene_closes v c) (scene_closes v c) (below_itself (scene_closes v c))
    (scene_parts v c.scene) (group_parts v c.app)

leaves_below : (v : Service) (least w : Flow) → IsWithin least w → (c : Config) (all : Bool) → IsBelow (leaves v least c all) (leaves v w c all)
leaves_below v least w k c false = leave_scene_below v least w k c
leaves_below v least w k c true =
    leave_all_near (λ q. IsBelow) IsBelow Fewer (λ q. below_passes) below_passes (λ q o u h. h) below_sets
    (lists v least c) (lists v w c) (lists_below v least w k c)
    (scene_closes v c) (group_effect v c c.app on_close_down) (scene_closes v c) (group_effect v c c.app on_close_down)
    (below_itself (scene_closes v c)) (below_itself (group_effect v c c.app on_close_down)) (scene_parts v c.scene) (group_parts v c.app)

-- Actions

pub targets_within : (least w : Flow) → IsWithin least w → (c : Config) (t : Target) → Within (targets least c t) (targets w c t)
targets_within least w k c (target.Direct r) q there = there
targets_within least w k c (target.Through x) q there = set_within least w k c x q there

done_below : (v : Service) (least w : Flow) → IsWithin least w → (c : Config) (n : ActionName) (xs : List Argument) (r : ObjRef) → IsBelow (done_to v least c n xs r) (done_to v w c n xs r)
done_below v least w k c n xs r =
    done_near (λ q. IsBelow) IsBelow Fewer (λ q. below_passes) below_passes (λ q o u h. h) below_sets (around v least c) (around v w c) n xs r near
  where
    near : NearDone (λ q. IsBelow) IsBelow Fewer (around v least c) (around v w c) n xs r
    near = record {
      lists = lists_below v least w k c;
      leave = leaves_below v least w k c;
      exchange = λ leads. exchange_below v least w k c r.group;
      own = k.sets c r;
      sent = λ x i more e. k.sets c x;
    }

act_below : (v : Service) (least w : Flow) → IsWithin least w → (c : Config) (a : Act) → IsBelow (act v least c a) (act v w c a)
act_below v least w k c a =
    below_step
    (below_dearest (done_to v least c a.name a.arguments) (done_to v w c a.name a.arguments) (done_below v least w k c a.name a.arguments) (targets least c a.target) (targets w c a.target) (targets_within least w k c a.target))

acts_below : (v : Service) (least w : Flow) → IsWithin least w → (c : Config) (e : List Act) → IsBelow (acts_price v least c e) (acts_price v w c e)
acts_below v least w k c e = below_sum (act v least c) (act v w c) (act_below v least w k c) e

pub effect_below : (v : Service) (least w : Flow) → IsWithin least w → (x : Effect) → IsBelow (effect_price v least x) (effect_price v w x)
effect_below v least w k x =
    below_most (λ (p : Fixed). acts_price v least x.config (effect_at p x.number)) (λ (p : Fixed). acts_price v w x.config (effect_at p x.number)) (λ p. acts_below v least w k x.config (effect_at p x.number))
    (filter (λ (p : Fixed). same_ref x.object p.key) (present v x.config))
