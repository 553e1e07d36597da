-- What configurations come to over nodes is what they come to over effects: an instance of the law of views.
use Rattle.std.specs.Prelude.{◌≡◌, ◌<◌, ◌≤◌, ◌+◌, ℕ, zero, suc, Bool, true, false, not, if◌then◌else◌, List, length, reverse, [], ◌∷◌, Option, Some, None, refl}
use Rattle.std.specs.List.{range_with_len}
use Rattle.std.specs.Option.{option_map_or}
use Rattle.std.proofs.lemmas.List.{reverse-append}
use Rattle.std.proofs.Common.{arith, inl, inr, ap, ◌∙◌, sym, subst}
use Rattle.mh_base.specs.declared.obj_ref.ObjRef.{ObjRef}
use Rattle.mh_group.specs.Table.{is_application, is_group_class, is_link}
use Rattle.mh_model.specs.declared.config.Config.{Config}
use Rattle.mh_model.specs.declared.object.Fixed.{Fixed}
use Rattle.mh_model.specs.Configuration.{is_group_of, present, scene_parts}
use Rattle.mh_model.specs.Reference.{group_ref}
use Rattle.mh_model.specs.Service.{Service, group_parts, part_at}
use Rattle.mh_laws.specs.Costs as costs
use Rattle.mh_laws.specs.Each.{Among}
use Rattle.mh_laws.specs.Flow.{is_list_in, reached}
use Rattle.mh_laws.specs.Price.{Price, Nothing, One, Node, sum_price, if_price}
use Rattle.mh_laws.specs.Safe.{IsPartOf, exchanged}
use Rattle.mh_laws.specs.View as view
use Rattle.mh_laws.specs.View.{Around}
use Rattle.mh_laws.specs.Ways.{slots_of}
use Rattle.mh_laws.proofs.EachLemmas.{from_range}
use Rattle.mh_prices.proofs.NearLemmas.{NearLists, NearViews, change_near, enter_near, halt_near, leave_all_near, leave_scene_near, run_near}
use Rattle.mh_layers.specs.CostNode.{CostNode, Effect, Change, Enter}
use Rattle.mh_layers.specs.CostNodes.{effect, entered, group_effect, is_caused, leave_price, lists, around_of, objects, scene_closes}
use Rattle.mh_layers.proofs.AgreeLemmas.{Agrees, SameSets, Setting, agrees_if, agrees_largest, agrees_node, agrees_nothing, agrees_one, agrees_passes, agrees_plus, agrees_sets, agrees_wider, effects_come}
use Rattle.mh_layers.proofs.FiredLemmas.{heard_agrees}
use Rattle.mh_layers.proofs.MetLemmas.{found_among, group_active, group_whole, on_of, other_active, part_of}
use Rattle.mh_layers.proofs.ReckonLemmas.{plus_right, sum_joined}

-- a configuration that may be reached, by nodes
abbrev pub numbered_service : {A : Type 0} → Setting A → Config → Around CostNode
numbered_service s c = around_of s.service s.flow s.heard c

-- Slots

slot_agrees : {A : Type 0} (s : Setting A) (n : ℕ) → 1 ≤ n → (c : Config) → reached s.flow c ≡ true → (p : Fixed) → Among (present s.service c) p → is_link p.class ≡ false → (k : ℕ) → 3 ≤ k → k < 3 + length (slots_of p) → Agrees s n (effect c k p) (costs.effect c k p)
slot_agrees s n low c here p there not_link k from less =
    agrees_node s n (Effect c p.key k) (
      on_of s.service s.flow c p k here there (other_active (present s.service c) p not_link) (within (length (slots_of p)) less),
      ap (λ (o : Option Fixed). option_map_or (is_caused k) o false) (s.found c p there) ∙ caused k from,
    ) low
  where
    within : (m : ℕ) → k < 3 + m → k < suc (suc (suc m))
    within m h = omega (arith, h)

    caused : (m : ℕ) → 3 ≤ m → is_caused m p ≡ true
    caused zero h = absurd (omega (arith, h))
    caused (suc zero) h = absurd (omega (arith, h))
    caused (suc (suc zero)) h = absurd (omega (arith, h))
    caused (suc (suc (suc m))) h = ap not not_link

from_first : (a n k : ℕ) → Among (range_with_len a n) k → a ≤ k
from_first a zero k there = absurd cc
from_first a (suc n) k (inl same) = omega (arith, same)
from_first a (suc n) k (inr more) = let behind = from_first (a + 1) n k more in omega (arith, behind)

slots_agree : {A : Type 0} (s : Setting A) (n : ℕ) → 1 ≤ n → (c : Config) → reached s.flow c ≡ true → (r : ObjRef) (p : Fixed) → part_at r (present s.service c) ≡ Some p → is_link p.class ≡ false → Agrees s n ((objects s.service s.flow s.heard c).slots p) ((costs.objects s.service s.flow c).slots p)
slots_agree s n low c here r p at not_link =
    agrees_largest s n (λ k. effect c k p) (λ k. costs.effect c k p) (range_with_len 3 (length (slots_of p)))
    (λ k there.
    slot_agrees s n low c here p (found_among r (present s.service c) p at).1 not_link k (from_first 3 (length (slots_of p)) k there) (from_range 3 (length (slots_of p)) k there))

-- Objects and lists

pub views : {A : Type 0} (s : Setting A) (n : ℕ) → 4 ≤ n → (c : Config) → reached s.flow c ≡ true → NearViews (λ r. Agrees s n) (Agrees s n) (objects s.service s.flow s.heard c) (costs.objects s.service s.flow c)
views s n more c here = record {
  part = λ r. refl;
  dealt_with = λ r kind d.
      agrees_wider s 4 n ((objects s.service s.flow s.heard c).dealt_with r kind d) ((costs.objects s.service s.flow c).dealt_with r kind d) more
      (heard_agrees s c r kind d (s.heard r kind) refl here);
  slots = slots_agree s n (omega (arith, more)) c here;
}

pub change_agrees : {A : Type 0} (s : Setting A) (n : ℕ) → 4 ≤ n → (c : Config) → reached s.flow c ≡ true → (r : ObjRef) → Agrees s n (view.change (objects s.service s.flow s.heard c) r) (costs.change s.service s.flow c r)
change_agrees s n more c here r =
    change_near (λ q. Agrees s n) (Agrees s n) SameSets (λ q. agrees_passes s n) (agrees_passes s n) (λ q o u a. a) (agrees_sets s n)
    (objects s.service s.flow s.heard c) (costs.objects s.service s.flow c) (views s n more c here) r refl

-- a change, by its node if it is a list's
changes_agree : {A : Type 0} (s : Setting A) (n : ℕ) → 5 ≤ n → (c : Config) → reached s.flow c ≡ true → (r : ObjRef) → Agrees s n ((lists s.service s.flow s.heard c).change r) (costs.change s.service s.flow c r)
changes_agree {A} s n more c here r = by (is_list_in (present s.service c) r) refl
  where
    by : (b : Bool) → is_list_in (present s.service c) r ≡ b → Agrees s n (if b then Node (Change c r) else view.change (objects s.service s.flow s.heard c) r) (costs.change s.service s.flow c r)
    by true e = agrees_node s n (Change c r) (here, e) (omega (arith, more))
    by false e = change_agrees s n (omega (arith, more)) c here r

pub all_lists : {A : Type 0} (s : Setting A) (n : ℕ) → 5 ≤ n → (c : Config) → reached s.flow c ≡ true → NearLists (λ r. Agrees s n) (Agrees s n) SameSets (lists s.service s.flow s.heard c) (costs.lists s.service s.flow c)
all_lists s n more c here = record {
  view = views s n (omega (arith, more)) c here;
  items = λ r p at listed. refl;
  change = λ r own. changes_agree s n more c here r;
}

pub run_agrees : {A : Type 0} (s : Setting A) (c : Config) → reached s.flow c ≡ true → (r : ObjRef) → Agrees s 5 (view.run (lists s.service s.flow s.heard c) r) (costs.run s.service s.flow c r)
run_agrees s c here r =
    run_near (λ q. Agrees s 5) (Agrees s 5) SameSets (λ q. agrees_passes s 5) (agrees_passes s 5) (λ q o u a. a) (agrees_sets s 5)
    (lists s.service s.flow s.heard c) (costs.lists s.service s.flow c) (all_lists s 5 (omega arith) c here) r

pub halt_agrees : {A : Type 0} (s : Setting A) (c : Config) → reached s.flow c ≡ true → (r : ObjRef) → Agrees s 5 (view.halt (lists s.service s.flow s.heard c) r) (costs.halt s.service s.flow c r)
halt_agrees s c here r =
    halt_near (λ q. Agrees s 5) (Agrees s 5) SameSets (λ q. agrees_passes s 5) (agrees_passes s 5) (λ q o u a. a) (agrees_sets s 5)
    (lists s.service s.flow s.heard c) (costs.lists s.service s.flow c) (all_lists s 5 (omega arith) c here) r

-- Effects of groups

-- start-up and close-down
abbrev pub IsOfGroup : ℕ → Type 0
IsOfGroup n = ((p : Fixed) → is_caused n p ≡ is_group_class p.class) × (n < 2)

pub group_effect_agrees : {A : Type 0} (s : Setting A) (c : Config) → reached s.flow c ≡ true → (g : List ℕ) (n : ℕ) → IsOfGroup n → IsPartOf c g → Agrees s 5 (group_effect s.service c n g) (costs.group_effect s.service c g n)
group_effect_agrees {A} s c here g n own is = subst (λ (o : Option Fixed). Agrees s 5 (group_effect s.service c n g) (option_map_or (costs.effect c n) o Nothing)) (part_of s.service c g s.good is) (by (part_at (group_ref g) (present s.service c)) refl)
  where
    by : (o : Option Fixed) → part_at (group_ref g) (present s.service c) ≡ o → Agrees s 5 (if_price (option_map_or (λ (p : Fixed). true) o false) (Node (Effect c (group_ref g) n))) (option_map_or (costs.effect c n) o Nothing)
    by None e = agrees_nothing s 5
    by (Some p) e =
        let at = found_among (group_ref g) (present s.service c) p e in
        subst (λ (r : ObjRef). Agrees s 5 (Node (Effect c r n)) (costs.effect c n p)) (sym at.0)
        (agrees_node s 5 (Effect c p.key n) (
          on_of s.service s.flow c p n here at.1 (group_active s.service c g p s.good e) (omega (arith, own.1)),
          ap (λ (o : Option Fixed). option_map_or (is_caused n) o false) (s.found c p at.1) ∙ own.0 p ∙ group_whole s.service c g p s.good e,
        ) (omega arith))

pub start_up : IsOfGroup 0
start_up = (λ p. refl, omega arith)

pub close_down : IsOfGroup 1
close_down = (λ p. refl, omega arith)

-- Groups

-- the order of a sum is no matter
pub turned : {A X : Type 0} (s : Setting A) (h : X → Price costs.Effect) (xs : List X) → effects_come s (sum_price h (reverse xs)) ≡ effects_come s (sum_price h xs)
turned s h [] = refl
turned {A} {X} s h (x ∷ xs) =
    ap (λ (zs : List X). effects_come s (sum_price h zs)) (reverse-append (x ∷ []) xs) ∙ sum_joined s.way s.of h (reverse xs) (x ∷ [])
    ∙ (λ i. s.way.plus (turned s h xs i) (plus_right s.way (effects_come s (h x)) i)) ∙ s.way.plus_swap (effects_come s (sum_price h xs)) (effects_come s (h x))

-- a configuration is left

scene_closes_agree : {A : Type 0} (s : Setting A) (c : Config) → reached s.flow c ≡ true → Agrees s 5 (scene_closes s.service c) (costs.scene_closes s.service c)
scene_closes_agree {A} s c here = by c.scene refl
  where
    by : (scene : Option (List ℕ)) → c.scene ≡ scene → Agrees s 5 (option_map_or (group_effect s.service c costs.on_close_down) scene Nothing) (option_map_or (λ g. costs.group_effect s.service c g costs.on_close_down) scene Nothing)
    by None e = agrees_nothing s 5
    by (Some g) e = group_effect_agrees s c here g 1 close_down (inr e)

pub leave_agrees : {A : Type 0} (s : Setting A) (c : Config) → reached s.flow c ≡ true → (all : Bool) → Agrees s 5 (leave_price s.service s.flow s.heard c all) (costs.leaves s.service s.flow c all)
leave_agrees s c here false =
    leave_scene_near (λ q. Agrees s 5) (Agrees s 5) SameSets (λ q. agrees_passes s 5) (agrees_passes s 5) (λ q o u a. a) (agrees_sets s 5)
    (lists s.service s.flow s.heard c) (costs.lists s.service s.flow c) (all_lists s 5 (omega arith) c here) (scene_closes s.service c) (costs.scene_closes s.service c)
    (scene_closes_agree s c here) (scene_parts s.service c.scene) (group_parts s.service c.app)
leave_agrees s c here true =
    leave_all_near (λ q. Agrees s 5) (Agrees s 5) SameSets (λ q. agrees_passes s 5) (agrees_passes s 5) (λ q o u a. a) (agrees_sets s 5)
    (lists s.service s.flow s.heard c) (costs.lists s.service s.flow c) (all_lists s 5 (omega arith) c here)
    (scene_closes s.service c) (group_effect s.service c 1 c.app) (costs.scene_closes s.service c) (costs.group_effect s.service c c.app 1)
    (scene_closes_agree s c here) (group_effect_agrees s c here c.app 1 close_down (inl refl)) (scene_parts s.service c.scene) (group_parts s.service c.app)

-- a configuration is entered

entered_part : (c : Config) (scene : Option (List ℕ)) → c.scene ≡ scene → IsPartOf c (entered c scene)
entered_part c None e = inl refl
entered_part c (Some g) e = inr e

pub enter_agrees : {A : Type 0} (s : Setting A) (c : Config) → reached s.flow c ≡ true → (g : List ℕ) → IsPartOf c g → Agrees s 5 (view.enter (lists s.service s.flow s.heard c) (group_effect s.service c 0 g) (group_ref g) (group_parts s.service g)) (costs.enter s.service s.flow c g)
enter_agrees s c here g is =
    enter_near (λ q. Agrees s 5) (Agrees s 5) SameSets (λ q. agrees_passes s 5) (agrees_passes s 5) (λ q o u a. a) (agrees_sets s 5)
    (lists s.service s.flow s.heard c) (costs.lists s.service s.flow c) (all_lists s 5 (omega arith) c here)
    (group_effect s.service c 0 g) (costs.group_effect s.service c g 0) (group_effect_agrees s c here g 0 start_up is) (group_ref g) (group_parts s.service g)

pub own_enter_agrees : {A : Type 0} (s : Setting A) (c : Config) → reached s.flow c ≡ true → Agrees s 5 (view.enter (lists s.service s.flow s.heard c) (group_effect s.service c 0 (entered c c.scene)) (group_ref (entered c c.scene)) (group_parts s.service (entered c c.scene))) (costs.enter s.service s.flow c (entered c c.scene))
own_enter_agrees s c here = enter_agrees s c here (entered c c.scene) (entered_part c c.scene refl)

entered_exchanged : (v : Service) (c : Config) (g : List ℕ) → entered (exchanged v c g) (exchanged v c g).scene ≡ g
entered_exchanged v c g = by (is_group_of is_application v g)
  where
    to : Bool → Config
    to b = if b then record { app = g; scene = None } else record c { scene = Some g }

    by : (b : Bool) → entered (to b) (to b).scene ≡ g
    by true = refl
    by false = refl

pub exchange_agrees : {A : Type 0} (s : Setting A) (c : Config) (g : List ℕ) → Agrees s 6 ((numbered_service s c).exchange g) (costs.exchange s.service s.flow c g)
exchange_agrees {A} s c g =
    agrees_plus s 6 One (if_price (reached s.flow (exchanged s.service c g)) (Node (Enter (exchanged s.service c g)))) One
    (if_price (reached s.flow (exchanged s.service c g)) (costs.enter s.service s.flow (exchanged s.service c g) g)) (agrees_one s 6)
    (agrees_if s 6 (reached s.flow (exchanged s.service c g)) (Node (Enter (exchanged s.service c g))) (costs.enter s.service s.flow (exchanged s.service c g) g)
    (λ e. subst (λ (n : List ℕ). Agrees s 6 (Node (Enter (exchanged s.service c g))) (costs.enter s.service s.flow (exchanged s.service c g) n)) (entered_exchanged s.service c g)
    (agrees_node s 6 (Enter (exchanged s.service c g)) e (omega arith))))
