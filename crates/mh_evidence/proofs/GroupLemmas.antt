-- The effects of groups that are entered and left, and by what they are told apart from others.
use Rattle.std.specs.Prelude.{◌≡◌, ◌≤◌, ◌+◌, ◌==◌, ℕ, Bool, true, false, ◌&&◌, List, Option, Some, None, Result, Ok, Err, refl}
use Rattle.std.specs.Option.{option_map_or}
use Rattle.std.proofs.Common.{arith, subst}
use Rattle.std.proofs.Math.Bool.{and_comm}
use Rattle.mh_model.specs.declared.object.Fixed.{Fixed}
use Rattle.mh_model.specs.Reference.{group_ref, same_key}
use Rattle.mh_model.specs.Service.{group_parts, part_at}
use Rattle.mh_laws.specs.Costs.{effect, enter, first_slot, group_effect, on_close_down, on_start_up}
use Rattle.mh_laws.specs.Price.{Nothing}
use Rattle.mh_laws.specs.Safe.{exchanged}
use Rattle.mh_laws.specs.View as view
use Rattle.mh_layers.specs.Arrows.{number_by}
use Rattle.mh_layers.specs.Reading.{same_setting}
use Rattle.mh_prices.specs.Meter.{Adds}
use Rattle.mh_evidence.specs.Putting.{Asked, around_of, effect_of, flow_of, meter_of, starts_of, tells}

apart : (k m : ℕ) → k ≤ 2 → 3 ≤ m → (m == k) ≡ false
apart k m h l = grind (arith, h, l)

pub slot_is_no_start : (n : ℕ) → (first_slot + n == on_start_up) ≡ false
slot_is_no_start n = apart on_start_up (first_slot + n) (omega arith) (omega arith)

pub slot_is_no_end : (n : ℕ) → (first_slot + n == on_close_down) ≡ false
slot_is_no_end n = apart on_close_down (first_slot + n) (omega arith) (omega arith)

-- an effect of a group itself
pub group_asked : (a : Asked) (g : List ℕ) (n : ℕ) → tells (effect_of a) (group_effect a.service a.config g n) ≡ (number_by a.arrow.by == n && option_map_or (λ p. same_setting a.next.cause.config a.config && same_key a.next.cause.at p.key) (part_at (group_ref g) (group_parts a.service g)) false)
unfolding effect_of
group_asked a g n = by (part_at (group_ref g) (group_parts a.service g))
  where
    none : (b : Bool) → false ≡ (b && false)
    none true = refl
    none false = refl

    by : (o : Option Fixed) → tells (effect_of a) (option_map_or (effect a.config n) o Nothing) ≡ (number_by a.arrow.by == n && option_map_or (λ p. same_setting a.next.cause.config a.config && same_key a.next.cause.at p.key) o false)
    by None = none (number_by a.arrow.by == n)
    by (Some p) = and_comm (same_setting a.next.cause.config a.config && same_key a.next.cause.at p.key) (number_by a.arrow.by == n)

-- a group is entered behind the exchange
pub entered : {E : Type 0} (a e : Asked) (g : List ℕ) (ps : List Fixed) (b : Bool) (r : Result Bool E) → e ≡ record a { config = exchanged a.service a.config g } → ps ≡ group_parts a.service g → Adds (λ (x : Bool). x) (meter_of e) (view.enter (around_of e).lists (starts_of e g) (group_ref g) ps) b r → Adds (λ (x : Bool). x) (meter_of a) ((around_of a).exchange g) b r
unfolding flow_of effect_of
entered {E} a e g ps b r is are adds =
    by r (subst (λ (z : Asked × List Fixed). Adds (λ (x : Bool). x) (meter_of z.0) (view.enter (around_of z.0).lists (starts_of z.0 g) (group_ref g) z.1) b r) (λ i. (is i, are i)) adds)
  where
    by : (s : Result Bool E) → Adds (λ (x : Bool). x) (meter_of a) (enter a.service (flow_of a) (exchanged a.service a.config g) g) b s → Adds (λ (x : Bool). x) (meter_of a) ((around_of a).exchange g) b s
    by (Ok t) h = h
    by (Err t) h = h
