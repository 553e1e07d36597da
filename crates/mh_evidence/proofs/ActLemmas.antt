-- Actions: that the walk at the view that an arrow grants finds what their prices count.
use Rattle.std.specs.Prelude.{◌≡◌, ◌<◌, ◌+◌, ◌==◌, ℕ, zero, suc, nat_lt, Bool, true, false, ◌&&◌, ◌||◌, List, [], ◌∷◌, map, length, Result, Ok, refl}
use Rattle.std.specs.List.{list_all, list_any, range_with_len}
use Rattle.std.proofs.Common.{arith, inl, ap, ◌∙◌, subst, sym}
use Rattle.std.proofs.Math.Bool.{or-false}
use Rattle.mh_base.specs.declared.obj_ref.ObjRef.{ObjRef}
use Rattle.mh_group.specs.declared.action_name.ActionName.{ActionName}
use Rattle.mh_group.specs.declared.action_name.ActionName.TheVariants as action
use Rattle.mh_model.specs.declared.act.Act.{Act}
use Rattle.mh_model.specs.declared.act.Argument.{Argument}
use Rattle.mh_model.specs.declared.act.Target.{Target}
use Rattle.mh_model.specs.declared.act.Target.TheVariants as target
use Rattle.mh_model.specs.declared.config.Config.{Config}
use Rattle.mh_model.specs.declared.object.Fixed.{Fixed}
use Rattle.mh_model.specs.Configuration.{same_config}
use Rattle.mh_model.specs.Reference.{same_key}
use Rattle.mh_model.specs.Service.{Service}
use Rattle.mh_laws.specs.Costs as costs
use Rattle.mh_laws.specs.Costs.{Effect, effect, enter, first_slot, leave_all, leave_scene, link_effect, on_close_down, on_start_up, slot_numbers}
use Rattle.mh_laws.specs.Flow.{Flow, reached}
use Rattle.mh_laws.specs.Price.{Price, if_price, most_price}
use Rattle.mh_laws.specs.Safe.{exchanged}
use Rattle.mh_laws.specs.View as view
use Rattle.mh_laws.specs.Ways.{slots_of}
use Rattle.mh_laws.proofs.NodeLemmas.{among_is}
use Rattle.mh_layers.specs.declared.arrows.arrow.Arrow.{Arrow}
use Rattle.mh_layers.specs.declared.arrows.arrow.By.{By}
use Rattle.mh_layers.specs.declared.arrows.arrow.By.TheVariants as by
use Rattle.mh_layers.specs.Arrows.{comes_to, counts, granted, number_by, put_by}
use Rattle.mh_layers.specs.Reading.{same_setting}
use Rattle.mh_prices.specs.Meter.{Adds, onto}
use Rattle.mh_evidence.specs.Putting.{Asked, around_of, asked, effect_of, flow_of, is_slot, meter_of, tells}
use Rattle.mh_evidence.proofs.AnyLemmas.{any_and, any_more, any_same_where, each_one}
use Rattle.mh_evidence.proofs.PutLemmas.{counts_tells, found_told, tells_most}

-- Transitions go on to where they lead, since what their targets come to is granted

is_led : Service → Flow → Config → ObjRef → Bool
is_led v w c r = reached w (exchanged v c r.group)

led_on : (y : Effect) (b : Bool) (p : Price Effect) → b ≡ true → (false || tells y (if_price b p)) ≡ (false || tells y p)
led_on y true p e = refl
led_on y false p e = absurd cc

done_asked : (a : Asked) (n : ActionName) (xs : List Argument) (r : ObjRef) → is_led a.service (flow_of a) a.config r ≡ true → tells (effect_of a) (costs.done_to a.service (flow_of a) a.config n xs r) ≡ tells (effect_of a) (view.done_to (around_of a) n xs r)
unfolding is_led
done_asked a action.TransitionTo xs r led =
    ap (λ (b : Bool). tells (effect_of a) (leave_scene a.service (flow_of a) a.config) || b)
    (led_on (effect_of a) (reached (flow_of a) (exchanged a.service a.config r.group)) (enter a.service (flow_of a) (exchanged a.service a.config r.group) r.group) led)
done_asked a action.Launch xs r led =
    ap (λ (b : Bool). tells (effect_of a) (leave_all a.service (flow_of a) a.config) || b)
    (led_on (effect_of a) (reached (flow_of a) (exchanged a.service a.config r.group)) (enter a.service (flow_of a) (exchanged a.service a.config r.group) r.group) led)
done_asked a n xs r led = refl

config_itself : (c : Config) → same_config c c ≡ true
config_itself c = sym (or-false (same_config c c)) ∙ among_is (c ∷ []) c (inl refl)

all_led : (v : Service) (a : Arrow) (d : Config) (x : Act) → list_all (is_led v (granted v a d x) a.cause.config) (comes_to a.held x.target) ≡ true
unfolding is_led
all_led v a d x =
    any_more there a.cause.config (d ∷ map led (comes_to a.held x.target)) (comes_to a.held x.target)
    (any_more there d (map led (comes_to a.held x.target)) (comes_to a.held x.target)
    (each_one there led (λ (r : ObjRef). config_itself (led r)) (comes_to a.held x.target)))
  where
    led : ObjRef → Config
    led r = exchanged v a.cause.config r.group

    there : ObjRef → Config → Bool
    there r c = same_config (led r) c

targets_granted : (a : Asked) (t : Target) → view.targets (around_of a).lists.view t ≡ comes_to a.arrow.held t
unfolding flow_of
targets_granted a (target.Direct r) = refl
targets_granted a (target.Through y) = refl

act_told : (a : Asked) (n : ActionName) (xs : List Argument) (rs : List ObjRef) → list_all (is_led a.service (flow_of a) a.config) rs ≡ true → tells (effect_of a) (most_price (costs.done_to a.service (flow_of a) a.config n xs) rs) ≡ tells (effect_of a) (most_price (view.done_to (around_of a) n xs) rs)
act_told a n xs rs led =
    tells_most (effect_of a) (costs.done_to a.service (flow_of a) a.config n xs) rs
    ∙ any_same_where (is_led a.service (flow_of a) a.config) (λ (r : ObjRef). tells (effect_of a) (costs.done_to a.service (flow_of a) a.config n xs r)) (λ (r : ObjRef). tells (effect_of a) (view.done_to (around_of a) n xs r)) (done_asked a n xs) rs led
    ∙ sym (tells_most (effect_of a) (view.done_to (around_of a) n xs) rs)

-- what the walk finds is what the action counts
act_found : (v : Service) (a next : Arrow) (x : Act) → onto (meter_of (asked v a next x)) (view.act (around_of (asked v a next x)) x) false ≡ counts (put_by a.by next.cause) (costs.act v (granted v a next.cause.config x) a.cause.config x)
unfolding flow_of effect_of
act_found v a next x =
    found_told (effect_of here) (view.act (around_of here) x) false
    ∙ sym (act_told here x.name x.arguments (view.targets (around_of here).lists.view x.target) led)
    ∙ sym (counts_tells (effect_of here) (costs.act v (flow_of here) a.cause.config x))
  where
    here : Asked
    here = asked v a next x

    led : list_all (is_led v (flow_of here) a.cause.config) (view.targets (around_of here).lists.view x.target) ≡ true
    led = ap (λ (rs : List ObjRef). list_all (is_led v (flow_of here) a.cause.config) rs) (targets_granted here x.target) ∙ all_led v a next.cause.config x

pub puts_found : {E : Type 0} (v : Service) (a next : Arrow) (x : Act) (here : Asked) (r : Result Bool E) (t : Bool) → here ≡ asked v a next x → r ≡ Ok t → Adds (λ (y : Bool). y) (meter_of here) (view.act (around_of here) x) false r → t ≡ counts (put_by a.by next.cause) (costs.act v (granted v a next.cause.config x) a.cause.config x)
puts_found {E} v a next x here r t is ok adds =
    subst (λ (z : Asked × Result Bool E). Adds (λ (y : Bool). y) (meter_of z.0) (view.act (around_of z.0) x) false z.1) (λ i. (is i, ok i)) adds
    ∙ act_found v a next x

-- Slots

same_number : (a : ℕ) → (a + 0 == a) ≡ true
same_number a = grind arith

later_number : (a m : ℕ) → (a + suc m == a) ≡ false
later_number a m = grind arith

among_range : (a m n : ℕ) → list_any (λ k. a + m == k) (range_with_len a n) ≡ nat_lt m n
among_range a m zero = grind arith
among_range a zero (suc n) = ap (λ (b : Bool). b || list_any (λ (k : ℕ). a + 0 == k) (range_with_len (a + 1) n)) (same_number a)
    ∙ first n
  where
    first : (x : ℕ) → true ≡ nat_lt 0 (suc x)
    first x = grind arith
among_range a (suc m) (suc n) =
    ap (λ (b : Bool). b || list_any (λ (k : ℕ). a + suc m == k) (range_with_len (a + 1) n)) (later_number a m)
    ∙ ap (λ (x : ℕ). list_any (λ (k : ℕ). x == k) (range_with_len (a + 1) n)) moved
    ∙ among_range (a + 1) m n
    ∙ less m n
  where
    moved : a + suc m ≡ a + 1 + m
    moved = omega arith

    less : (x y : ℕ) → nat_lt x y ≡ nat_lt (suc x) (suc y)
    less x y = grind arith

earlier_number : (m a : ℕ) → m < a → (m == a) ≡ false
earlier_number m a h = grind (arith, h)

below_range : (m a n : ℕ) → m < a → list_any (λ k. m == k) (range_with_len a n) ≡ false
below_range m a zero h = refl
below_range m a (suc n) h =
    ap (λ (b : Bool). b || list_any (λ (k : ℕ). m == k) (range_with_len (a + 1) n)) (earlier_number m a h) ∙ below_range m (a + 1) n (omega (arith, h))

in_range : (b : By) (count : ℕ) → list_any (λ k. number_by b == k) (range_with_len first_slot count) ≡ is_slot count b
in_range (by.Event e) count = below_range link_effect first_slot count (omega arith)
in_range (by.Slot n) count = among_range first_slot n count
in_range by.Entered count = below_range on_start_up first_slot count (omega arith)
in_range by.Left count = below_range on_close_down first_slot count (omega arith)

pub slots_asked : (a : Asked) (p : Fixed) → tells (effect_of a) ((around_of a).lists.view.slots p) ≡ ((same_setting a.next.cause.config a.config && same_key a.next.cause.at p.key) && is_slot (length (slots_of p)) a.arrow.by)
unfolding effect_of
slots_asked a p =
    tells_most (effect_of a) (λ (n : ℕ). effect a.config n p) (slot_numbers p)
    ∙ any_and (same_setting a.next.cause.config a.config && same_key a.next.cause.at p.key) (λ (n : ℕ). number_by a.arrow.by == n) (slot_numbers p)
    ∙ ap (λ (b : Bool). (same_setting a.next.cause.config a.config && same_key a.next.cause.at p.key) && b) (in_range a.arrow.by (length (slots_of p)))
