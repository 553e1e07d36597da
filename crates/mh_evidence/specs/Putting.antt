-- Whether an action puts an effect to work: the price of the action counts it, in the view of a configuration that an arrow
-- grants. Of the effect that is asked for this says which events put it to work.
use Rattle.std.specs.Prelude.{ℕ, nat_lt, Bool, true, false, ◌==◌, ◌&&◌, ◌||◌, List, [], ◌∷◌, drop, length, take}
use Rattle.std.specs.List.{list_any, sum_by}
use Rattle.mh_base.specs.declared.event.EventType.{EventType}
use Rattle.mh_base.specs.declared.obj_ref.ObjRef.{ObjRef}
use Rattle.mh_model.specs.declared.act.Act.{Act}
use Rattle.mh_model.specs.declared.config.Config.{Config}
use Rattle.mh_model.specs.declared.object.Fixed.{Fixed}
use Rattle.mh_model.specs.Configuration.{present}
use Rattle.mh_model.specs.Reference.{same_key}
use Rattle.mh_model.specs.Service.{Service, is_there}
use Rattle.mh_laws.specs.Costs as costs
use Rattle.mh_laws.specs.Costs.{Effect}
use Rattle.mh_laws.specs.Flow.{Flow}
use Rattle.mh_laws.specs.Price.{Price, Nothing, One, Node, Plus, Most}
use Rattle.mh_laws.specs.Safe.{exchanged}
use Rattle.mh_laws.specs.View.{Around}
use Rattle.mh_laws.specs.Ways.{Told, Sure, Unsure}
use Rattle.mh_flow.specs.Sites.{sites}
use Rattle.mh_layers.specs.declared.arrows.arrow.Arrow.{Arrow}
use Rattle.mh_layers.specs.declared.arrows.arrow.By.{By}
use Rattle.mh_layers.specs.declared.arrows.arrow.By.TheVariants as by
use Rattle.mh_layers.specs.Arrows.{counts, granted, held_by, is_action_of, leads, number_by, put_by, puts, same_action, same_effect}
use Rattle.mh_layers.specs.CostNodes.{waits_for}
use Rattle.mh_prices.specs.Meter.{Meter}
use Rattle.mh_prices.specs.Meters.{finding}

-- the price counts the effect, read off it part by part (`PutLemmas`)
abbrev pub tells : Effect → Price Effect → Bool
tells y Nothing = false
tells y One = false
tells y (Node k) = same_effect y k
tells y (Plus p q) = tells y p || tells y q
tells y (Most p q) = tells y p || tells y q

-- what is asked: whether the action of an arrow, or what that puts, puts the effect of the next arrow to work, done in this
-- configuration
pub record Asked : Type 0 where
  pub service : Service
  pub arrow : Arrow
  pub next : Arrow
  pub act : Act
  pub config : Config

abbrev pub asked : Service → Arrow → Arrow → Act → Asked
asked v a next x = record { service = v; arrow = a; next = next; act = x; config = a.cause.config }

unfoldable pub flow_of : Asked → Flow
flow_of a = granted a.service a.arrow a.next.cause.config a.act

unfoldable pub effect_of : Asked → Effect
effect_of a = put_by a.arrow.by a.next.cause

-- The view of the configuration. To where the action leads is granted, so whatever is gone on to is entered.

abbrev pub around_of : Asked → Around Effect
around_of a = record {
  lists = costs.lists a.service (flow_of a) a.config;
  leave = costs.leaves a.service (flow_of a) a.config;
  exchange = λ g. Plus One (costs.enter a.service (flow_of a) (exchanged a.service a.config g) g);
}

-- what a variable refers to and a list has, of all that is granted from a place on
abbrev pub left_of : Asked → ObjRef → ℕ → List ObjRef
left_of a r n = held_by (drop n a.arrow.held) r

abbrev pub starts_of : Asked → List ℕ → Price Effect
starts_of a g = costs.group_effect a.service a.config g costs.on_start_up

abbrev pub closes_of : Asked → List ℕ → Price Effect
closes_of a g = costs.group_effect a.service a.config g costs.on_close_down

-- and what its prices are added up to: whether the effect was found
abbrev pub meter_of : Asked → Meter Effect Bool (record {})
meter_of a = finding (same_effect (effect_of a))

-- what is present where the effect is
abbrev pub there : Asked → List Fixed
there a = present a.service a.next.cause.config

abbrev pub ref_of : List ℕ → ℕ → ObjRef
ref_of g n = record { group = g; number = n }

-- a link can hear such an event, of whose data this is known
abbrev pub could_hear : ObjRef → EventType → Told → Fixed → Bool
could_hear r kind (Sure m) p = costs.can_hear (costs.event_from r kind m) p
could_hear r kind Unsure p = waits_for r kind p

-- the link whose effect it is hears the event where that effect is, and what emits it is there
unfoldable pub is_heard : Asked → ObjRef → EventType → Told → Bool
is_heard a r kind d =
    number_by a.arrow.by == costs.link_effect && is_there r (there a)
    && list_any (λ p. could_hear r kind d p && same_key a.next.cause.at p.key) (there a)

-- how many actions of the object stand before its effect with this number
unfoldable pub acts_before : ℕ → Fixed → ℕ
acts_before n p = sum_by (λ (e : List Act). length e) (take n (costs.effects p))

-- it is put to work as one of so many slots
abbrev pub is_slot : ℕ → By → Bool
is_slot count (by.Slot n) = nat_lt n count
is_slot count _ = false

-- the action is the arrow's, and counts the effect of the next
unfoldable pub is_putting : Service → Arrow → Arrow → Act → Bool
is_putting v a next x =
    same_action a.action x.name && counts (put_by a.by next.cause) (costs.act v (granted v a next.cause.config x) a.cause.config x)

-- such an action is one of the object
unfoldable pub puts_in : Service → Arrow → Arrow → Fixed → Bool
puts_in v a next p = list_any (λ x. is_action_of a x && puts v a next x) (sites p)

-- the first of these, or this one where there is none
abbrev pub next_of : Arrow → List Arrow → Arrow
next_of z [] = z
next_of z (b ∷ rest) = b

-- each arrow leads to the next, and the last to this one; there may be none
abbrev pub lead_on : Service → Arrow → List Arrow → Bool
lead_on v z [] = true
lead_on v z (a ∷ rest) = leads v a (next_of z rest) && lead_on v z rest
