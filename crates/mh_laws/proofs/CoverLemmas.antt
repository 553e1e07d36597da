-- Where costs cover, so they do each effect of an active object.
use Rattle.std.specs.Prelude.{◌<◌, ◌∷◌, ◌≡◌, ◌≤◌, List, [], filter, get_or, length, suc, true, ℕ}
use Rattle.std.proofs.Common.{arith, inl, inr}
use Rattle.mh_model.specs.declared.act.Act.{Act}
use Rattle.mh_model.specs.declared.config.Config.{Config}
use Rattle.mh_model.specs.declared.object.Fixed.{Fixed}
use Rattle.mh_model.specs.Configuration.{present}
use Rattle.mh_model.specs.Reference.{same_ref}
use Rattle.mh_model.specs.Service.{Service}
use Rattle.mh_laws.specs.Costs.{Costing, acts_price, effect_at, effects, first_slot, slot_numbers}
use Rattle.mh_laws.specs.Each.{Among}
use Rattle.mh_laws.specs.Flow.{Flow, reached}
use Rattle.mh_laws.specs.Layers.{Covers}
use Rattle.mh_laws.specs.Ways.{slots_of}
use Rattle.mh_laws.proofs.EachLemmas.{among_each, among_filtered, among_range}
use Rattle.mh_laws.proofs.NodeLemmas.{is_on}
use Rattle.mh_laws.proofs.PriceLemmas.{among_most, le_trans}
use Rattle.mh_laws.proofs.SetLemmas.{same_itself}
use Rattle.mh_laws.specs.Price as priced
use Rattle.mh_laws.specs.Weighing.{AreCovered, CoversAll, IsActiveCovered, Weights, acts_cost}

-- What is covered

pub covered_here : (v : Service) (w : Flow) (f : Weights) (c : Config) → CoversAll v w f → reached w c ≡ true → AreCovered v w f c (present v c) (present v c)
covered_here v w f c covers reached_it = covers c reached_it

-- where nothing is marked
abbrev pub unmarked : Costing → Weights
unmarked f = record { cost = f; mark = λ c a. 0; wakes = λ r. true; may = λ e. true }

unmarked_acts : (v : Service) (w : Flow) (f : Costing) (c : Config) (e : List Act) → acts_cost v w (unmarked f) c e ≤ priced.worth f (acts_price v w c e)
unmarked_acts v w f c [] = omega arith
unmarked_acts v w f c (a ∷ e) = let h = unmarked_acts v w f c e in omega (arith, h)

pub unmarked_covers : (v : Service) (w : Flow) (f : Costing) → Covers v w f → CoversAll v w (unmarked f)
unmarked_covers v w f covers c reached_it = among_each (IsActiveCovered v w (unmarked f) c (present v c)) (present v c) one
  where
    one : (p : Fixed) → Among (present v c) p → IsActiveCovered v w (unmarked f) c (present v c) p
    one p there active awake n less =
        let whole = covers (record { config = c; object = p.key; number = n }) (is_on v w c p n reached_it there active less) in
        let own = among_most f (λ (q : Fixed). acts_price v w c (effect_at q n)) (filter (λ (q : Fixed). same_ref p.key q.key) (present v c)) p (among_filtered (λ (q : Fixed). same_ref p.key q.key) (present v c) p (same_itself p.key) there) in
        le_trans _ _ _ (le_trans _ _ _ (unmarked_acts v w f c (effect_at p n)) own) whole

-- Slots

record Placed (es : List (List Act)) (e : List Act) : Type 0 where
  at : ℕ
  less : at < length es
  same : get_or es at [] ≡ e

placed_at : (es : List (List Act)) (e : List Act) → Among es e → Placed es e
placed_at [] e h = absurd cc
placed_at (x ∷ es) e (inl same) = record { at = 0; less = omega arith; same = same }
placed_at (x ∷ es) e (inr more) = let k = placed_at es e more in let less = k.less in record { at = suc k.at; less = omega (arith, less); same = k.same }

-- a slot has a number
pub slot_at : (p : Fixed) (e : List Act) → Among (slots_of p) e → (n : ℕ) × Among (slot_numbers p) n × (n < length (effects p)) × (effect_at p n ≡ e)
slot_at p e h =
    let k = placed_at (slots_of p) e h in
    let less = k.less in
    (suc (suc (suc k.at)), among_range first_slot (length (slots_of p)) (suc (suc (suc k.at))) (omega arith) (omega (arith, less)), omega (arith, less), k.same)
