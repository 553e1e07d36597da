-- Arrows: an action of an active effect puts the effect of the next arrow to work. To what its variables refer then, which items
-- lists have, and which configurations are reached, is granted.
use Rattle.std.specs.Prelude.{◌≡◌, ◌⊎◌, ℕ, ◌+◌, Bool, true, false, ◌&&◌, ◌==◌, nat_le, nat_lt, List, [], ◌∷◌, map, filter, length}
use Rattle.std.specs.List.{list_any}
use Rattle.std.specs.Option.{option_eq, option_map_or}
use Rattle.mh_base.specs.declared.obj_ref.ObjRef.{ObjRef}
use Rattle.mh_group.specs.declared.action_name.ActionName.{ActionName}
use Rattle.mh_group.specs.Table.{action_number}
use Rattle.mh_model.specs.declared.act.Act.{Act}
use Rattle.mh_model.specs.declared.act.Target.{Target}
use Rattle.mh_model.specs.declared.act.Target.TheVariants as target
use Rattle.mh_model.specs.declared.config.Config.{Config}
use Rattle.mh_model.specs.declared.object.Fixed.{Fixed}
use Rattle.mh_model.specs.Configuration.{has_keys, is_service, present}
use Rattle.mh_model.specs.Faults.{is_transition}
use Rattle.mh_model.specs.Reference.{same_key}
use Rattle.mh_model.specs.Service.{Service, part_at}
use Rattle.mh_model.specs.Variables.{same_value}
use Rattle.mh_laws.specs.Costs.{Effect, act, effect_at, first_slot, link_effect, on_close_down, on_start_up}
use Rattle.mh_laws.specs.Each.{Among, Each}
use Rattle.mh_laws.specs.Flow.{Flow, has, reached}
use Rattle.mh_laws.specs.Layers.{Causes}
use Rattle.mh_laws.specs.Safe.{exchanged}
use Rattle.mh_laws.specs.Price.{Price, counted_in}
use Rattle.mh_flow.specs.Sites.{Site, sites_of}
use Rattle.mh_layers.specs.declared.arrows.arrow.Arrow.{Arrow}
use Rattle.mh_layers.specs.declared.arrows.arrow.By.{By}
use Rattle.mh_layers.specs.declared.arrows.arrow.By.TheVariants as by
use Rattle.mh_layers.specs.declared.arrows.arrow.Held.{Held}
use Rattle.mh_layers.specs.declared.cause.Cause.{Cause}
use Rattle.mh_layers.specs.Cycle.{AreFirstCycle, first_number}
use Rattle.mh_layers.specs.CostNodes.{data_of, waits_for}
use Rattle.mh_layers.specs.Reading.{same_setting}

-- What is granted

abbrev pub held_by : List Held → ObjRef → List ObjRef
held_by hs r = map (λ (h : Held). h.at) (filter (λ (h : Held). same_key r h.by) hs)

-- to what a target comes then
abbrev pub comes_to : List Held → Target → List ObjRef
comes_to hs (target.Direct r) = r ∷ []
comes_to hs (target.Through x) = held_by hs x

-- the flow that has what the arrow says, its configuration and that of the next, and those to which its action leads
abbrev pub granted : Service → Arrow → Config → Act → Flow
granted v a d x = record {
  configs = a.cause.config ∷ d ∷ map (λ (r : ObjRef). exchanged v a.cause.config r.group) (comes_to a.held x.target);
  sets = λ c r. held_by a.held r;
}

-- What is put to work

-- the number of the effect through those of its object
abbrev pub number_by : By → ℕ
number_by (by.Event e) = link_effect
number_by (by.Slot n) = first_slot + n
number_by by.Entered = on_start_up
number_by by.Left = on_close_down

abbrev pub put_by : By → Cause → Effect
put_by b x = record { config = x.config; object = x.at; number = number_by b }

abbrev pub same_effect : Effect → Effect → Bool
same_effect x y = same_setting x.config y.config && same_key x.object y.object && x.number == y.number

-- the price counts the effect
abbrev pub counts : Effect → Price Effect → Bool
counts y p = list_any (same_effect y) (counted_in p)

-- the object is a link that waits for just this event; of what else puts an effect to work nothing is asked
abbrev pub is_waited_for : By → Fixed → Bool
is_waited_for (by.Event e) p = waits_for e.source e.kind p && option_eq same_value (data_of p) e.data
is_waited_for _ p = true

-- the arrow's action is one of the object's effect with this number, and its effect is that
abbrev pub is_action_in : ℕ → Arrow → Fixed → Bool
is_action_in n b p =
    b.cause.index == first_number n p && nat_le b.cause.index b.index && nat_lt b.index (b.cause.index + length (effect_at p n))

-- what is put to work is the effect of the next arrow
abbrev pub meets : Service → By → Arrow → Bool
meets v b next =
    option_map_or (λ p. is_waited_for b p && is_action_in (number_by b) next p) (part_at next.cause.at (present v next.cause.config)) false

-- An arrow

abbrev pub same_action : ActionName → ActionName → Bool
same_action m n = action_number m == action_number n

-- the action at the site is the arrow's
abbrev pub is_action_of : Arrow → Site → Bool
is_action_of a x = same_key a.cause.at x.key && a.index == x.index && same_action a.action x.act.name

-- and what it comes to counts the next effect
abbrev pub puts : Service → Arrow → Arrow → Site → Bool
puts v a next x = counts (put_by a.by next.cause) (act v (granted v a next.cause.config x.act) a.cause.config x.act)

-- AN ARROW LEADS TO THE NEXT: its action, of an active effect, puts the next effect to work
abbrev pub leads : Service → Arrow → Arrow → Bool
leads v a next =
    list_any (λ x. is_action_of a x && puts v a next x) (sites_of (present v a.cause.config)) && meets v a.by next

-- each leads to the next, and the last to this one
abbrev pub leads_back : Service → Arrow → List Arrow → Bool
leads_back v z [] = false
leads_back v z (a ∷ []) = leads v a z
leads_back v z (a ∷ b ∷ rest) = leads v a b && leads_back v z (b ∷ rest)

-- there is an arrow, each leads to the next, and the last to the first
abbrev pub goes_round : Service → List Arrow → Bool
goes_round v [] = false
goes_round v (a ∷ rest) = leads_back v a (a ∷ rest)

-- The arrows of a cycle

-- the arrow's action is a transition, and enters the configuration where its target comes to this object
pub record Enters (v : Service) (a : Arrow) (c : Config) : Type 0 where
  pub site : Site
  pub there : Among (sites_of (present v a.cause.config)) site
  pub own : is_action_of a site ≡ true
  pub transition : is_transition a.action ≡ true
  pub at : ObjRef
  pub comes : Among (comes_to a.held site.act.target) at
  pub entered : c ≡ exchanged v a.cause.config at.group

-- the configuration in which the arrow's action is done, or one that it enters
abbrev pub IsWhere : Service → Arrow → Config → Type 0
IsWhere v a c = (c ≡ a.cause.config) ⊎ Enters v a c

-- what is granted holds by the flow there
abbrev pub IsGrantedBy : Service → Flow → Arrow → Held → Type 0
IsGrantedBy v w a h = (c : Config) × IsWhere v a c × (reached w c ≡ true) × (has (w.sets c) h.by h.at ≡ true)

-- so is all that an arrow grants, whose configuration is reached
pub record AreGrantedBy (v : Service) (w : Flow) (a : Arrow) : Type 0 where
  pub from : reached w a.cause.config ≡ true
  pub held : Each (IsGrantedBy v w a) a.held

-- they are of the effects of the first cycle, from the first on; each leads to the next, and the last to the first; and what each
-- grants is so by the flow where its action is done, or where that leads
pub record AreFirstArrows (v : Service) (w : Flow) (arrows : List Arrow) : Type 0 where
  pub cycle : AreFirstCycle v w (map (λ (a : Arrow). a.cause) arrows)
  pub round : goes_round v arrows ≡ true
  pub granted : Each (AreGrantedBy v w) arrows

-- THE LAW. An arrow's effect, which the arrow before it puts to work, causes the next where what the arrow says is granted.
abbrev pub ArrowsAreCauses : Type 0
ArrowsAreCauses =
    (v : Service) (before a next : Arrow) → is_service v ≡ true → has_keys v ≡ true → leads v before a ≡ true → leads v a next ≡ true →
    (x : Act) × Causes v (granted v a next.cause.config x) (put_by before.by a.cause) (put_by a.by next.cause)
