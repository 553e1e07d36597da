-- Each node agrees with what it stands for, and each active effect with what it comes to.
use Rattle.std.specs.Prelude.{◌≡◌, ◌⊎◌, ◌<◌, ◌≤◌, ℕ, zero, suc, nat_le, Bool, true, false, cond, List, [], ◌∷◌, filter, get_or, length, Option, Some, None, refl}
use Rattle.std.specs.List.{flat_map, range_with_len}
use Rattle.std.specs.Option.{option_map_or}
use Rattle.std.proofs.Common.{arith, inl, inr, ap, ◌∙◌, sym, subst, leb-true, leb-false}
use Rattle.mh_base.specs.declared.obj_ref.ObjRef.{ObjRef}
use Rattle.mh_model.specs.declared.act.Act.{Act}
use Rattle.mh_model.specs.declared.config.Config.{Config}
use Rattle.mh_model.specs.declared.object.Fixed.{Fixed}
use Rattle.mh_model.specs.Configuration.{present}
use Rattle.mh_model.specs.Reference.{same_ref}
use Rattle.mh_model.specs.Service.{is_there, part_at}
use Rattle.mh_model.proofs.ServiceLemmas.{same_ref-same}
use Rattle.mh_laws.specs.Active.{is_active}
use Rattle.mh_laws.specs.Costs as costs
use Rattle.mh_laws.specs.Each.{Among}
use Rattle.mh_laws.specs.Flow.{reached}
use Rattle.mh_laws.specs.Layers.{IsOn, effects_in}
use Rattle.mh_laws.specs.Price.{Price, Nothing, most_price, if_price}
use Rattle.mh_laws.specs.View as view
use Rattle.mh_laws.proofs.EachLemmas.{among_filtered, from_joined, from_mapped}
use Rattle.mh_layers.specs.CostNode.{CostNode, Effect, Fired, Entry, Change, Leave, Enter, Taken}
use Rattle.mh_layers.specs.CostNodes.{effect_of, IsKept, level, price_of, stands_for}
use Rattle.mh_layers.proofs.ActAgreeLemmas.{acts_agree}
use Rattle.mh_layers.proofs.AgreeLemmas.{Agrees, Setting, agrees_then, effects_come}
use Rattle.mh_layers.proofs.FiredLemmas.{entry_agrees, fired_agrees}
use Rattle.mh_layers.proofs.LifeAgreeLemmas.{change_agrees, leave_agrees, numbered_service, own_enter_agrees}
use Rattle.mh_layers.proofs.MetLemmas.{found_among, on_of, reached_among, same_itself}
use Rattle.mh_layers.proofs.TakenAgreeLemmas.{taken_agrees}
use Rattle.mh_layers.proofs.ReckonLemmas.{Below, all_below, below_among, below_same, both_below}

-- nodes that are no effects
abbrev pub IsOther : CostNode → Type 0
IsOther (Effect c r n) = false ≡ true
IsOther k = Unit {0}

pub node_agrees : {A : Type 0} (s : Setting A) (k : CostNode) → IsOther k → IsKept s.service s.flow s.heard k → Agrees s (level k) (price_of s.service s.flow s.heard k) (stands_for s.service s.flow k)
node_agrees s (Effect c r n) other kept = absurd cc
node_agrees s (Fired c r kind g) other kept = fired_agrees s c r kind g kept
node_agrees s (Entry r kind g) other kept = entry_agrees s r kind g kept
node_agrees s (Change c r) other kept = change_agrees s 4 (omega arith) c kept.0 r
node_agrees s (Leave c all) other kept = leave_agrees s c kept all
node_agrees s (Enter c) other kept = own_enter_agrees s c kept
node_agrees s (Taken c k) other kept = taken_agrees s c kept.0 kept.1 k

-- Effects

pub from_filtered : {X : Type 0} (t : X → Bool) (xs : List X) (x : X) → Among (filter t xs) x → (t x ≡ true) × Among xs x
from_filtered t [] x there = absurd cc
from_filtered {X} t (y ∷ xs) x there = by (t y) refl there (from_filtered t xs x)
  where
    by : (b : Bool) → t y ≡ b → Among (cond b (y ∷ filter t xs) (filter t xs)) x → (Among (filter t xs) x → (t x ≡ true) × Among xs x) → (t x ≡ true) × Among (y ∷ xs) x
    by true e (inl same) behind = (subst (λ (z : X). t z ≡ true) same e, inl same)
    by true e (inr more) behind = let found = behind more in (found.0, inr found.1)
    by false e more behind = let found = behind more in (found.0, inr found.1)

-- what an active effect is
pub record IsActiveEffect {A : Type 0} (s : Setting A) (x : costs.Effect) : Type 0 where
  pub part : Fixed
  pub here : reached s.flow x.config ≡ true
  pub there : Among (present s.service x.config) part
  pub active : is_active (present s.service x.config) part ≡ true
  pub object : x.object ≡ part.key

pub on_is : {A : Type 0} (s : Setting A) (x : costs.Effect) → IsOn s.service s.flow x → IsActiveEffect s x
on_is {A} s x on =
    let at = from_joined (λ (d : Config). flat_map (effects_in d) (filter (is_active (present s.service d)) (present s.service d))) s.flow.configs x on in
    let own = from_joined (effects_in at.0) (filter (is_active (present s.service at.0)) (present s.service at.0)) x at.2 in
    let passed = from_filtered (is_active (present s.service at.0)) (present s.service at.0) own.0 own.1 in
    let number = from_mapped (λ (m : ℕ). place at.0 own.0.key m) (range_with_len 0 (length (costs.effects own.0))) x own.2 in
    of at.0 own.0 number.0 at.1 passed.1 passed.0 number.2
  where
    place : Config → ObjRef → ℕ → costs.Effect
    place d r m = record { config = d; object = r; number = m }

    of : (c : Config) (p : Fixed) (n : ℕ) → Among s.flow.configs c → Among (present s.service c) p → is_active (present s.service c) p ≡ true → place c p.key n ≡ x → IsActiveEffect s x
    of c p n there among active same =
        subst (λ (y : costs.Effect). IsActiveEffect s y) same
        (record { part = p; here = reached_among s.flow.configs c there; there = among; active = active; object = refl })

-- so it may have a number
pub on_kept : {A : Type 0} (s : Setting A) (x : costs.Effect) → IsOn s.service s.flow x → IsKept s.service s.flow s.heard (Effect x.config x.object x.number)
on_kept {A} s x on = by (on_is s x on)
  where
    by : IsActiveEffect s x → IsKept s.service s.flow s.heard (Effect x.config x.object x.number)
    by k = (
      k.here,
      ap (λ (r : ObjRef). is_there r (present s.service x.config)) k.object
          ∙ ap (λ (o : Option Fixed). option_map_or (λ p. true) o false) (s.found x.config k.part k.there),
    )

-- it is priced by the one object that has its key
pub one_object : {A : Type 0} (s : Setting A) (c : Config) (p : Fixed) (n : ℕ) → Among (present s.service c) p → effects_come s (costs.acts_price s.service s.flow c (costs.effect_at p n)) ≡ effects_come s (costs.effect_price s.service s.flow (record { config = c; object = p.key; number = n }))
one_object {A} s c p n there = both_below s.way (of p) whole lower upper
  where
    price : Fixed → Price costs.Effect
    price q = costs.acts_price s.service s.flow c (costs.effect_at q n)

    of : Fixed → A
    of q = effects_come s (price q)

    own : List Fixed
    own = filter (λ (q : Fixed). same_ref p.key q.key) (present s.service c)

    whole : A
    whole = effects_come s (most_price price own)

    lower : Below s.way (of p) whole
    lower = below_among s.way s.of price own p (among_filtered (λ (q : Fixed). same_ref p.key q.key) (present s.service c) p (same_itself p.key) there)

    one : (a b : Fixed) → Some a ≡ Some b → a ≡ b
    one a b e = cc

    same : (q : Fixed) → Among own q → p ≡ q
    same q among =
        let passed = from_filtered (λ (x : Fixed). same_ref p.key x.key) (present s.service c) q among in
        one p q (sym (s.found c p there) ∙ ap (λ (r : ObjRef). part_at r (present s.service c)) (same_ref-same p.key q.key passed.0) ∙ s.found c q passed.1)

    upper : Below s.way whole (of p)
    upper = all_below s.way s.of price own (of p) (λ q among. subst (λ (x : Fixed). Below s.way (of x) (of p)) (same q among) (below_same s.way (of p)))

pub effect_agrees : {A : Type 0} (s : Setting A) (x : costs.Effect) → IsOn s.service s.flow x → Agrees s 6 (price_of s.service s.flow s.heard (Effect x.config x.object x.number)) (costs.effect_price s.service s.flow x)
effect_agrees {A} s x on = by (on_is s x on)
  where
    by : IsActiveEffect s x → Agrees s 6 (price_of s.service s.flow s.heard (Effect x.config x.object x.number)) (costs.effect_price s.service s.flow x)
    by k =
        subst (λ (r : ObjRef). Agrees s 6 (price_of s.service s.flow s.heard (Effect x.config r x.number)) (costs.effect_price s.service s.flow (record { config = x.config; object = r; number = x.number }))) (sym k.object)
        (subst (λ (o : Option Fixed). Agrees s 6 (option_map_or (effect_of s.service s.flow s.heard x.config x.number) o Nothing) (costs.effect_price s.service s.flow (record { config = x.config; object = k.part.key; number = x.number }))) (sym (s.found x.config k.part k.there))
        (subst (λ (b : Bool). Agrees s 6 (if_price b (view.acts (numbered_service s x.config) (costs.effect_at k.part x.number))) (costs.effect_price s.service s.flow (record { config = x.config; object = k.part.key; number = x.number }))) (sym k.active)
        (agrees_then s 6 (view.acts (numbered_service s x.config) (costs.effect_at k.part x.number)) (costs.acts_price s.service s.flow x.config (costs.effect_at k.part x.number)) (costs.effect_price s.service s.flow (record { config = x.config; object = k.part.key; number = x.number }))
        (acts_agree s x.config k.here (costs.effect_at k.part x.number)) (one_object s x.config k.part x.number k.there))))

-- an effect of a configuration that may be reached is active, or its price is nothing

got_none : (xs : List (List Act)) (n : ℕ) → length xs ≤ n → get_or xs n [] ≡ []
got_none [] n past = refl
got_none (x ∷ xs) zero past = absurd (omega (arith, past))
got_none (x ∷ xs) (suc n) past = got_none xs n (omega (arith, past))

pub on_or_nothing : {A : Type 0} (s : Setting A) (c : Config) (r : ObjRef) (n : ℕ) → reached s.flow c ≡ true → IsOn s.service s.flow (record { config = c; object = r; number = n }) ⊎ (price_of s.service s.flow s.heard (Effect c r n) ≡ Nothing)
on_or_nothing {A} s c r n here = by (part_at r (present s.service c)) refl
  where
    priced : Option Fixed → Price CostNode
    priced o = option_map_or (effect_of s.service s.flow s.heard c n) o Nothing

    numbered : (p : Fixed) → part_at r (present s.service c) ≡ Some p → is_active (present s.service c) p ≡ true → (b : Bool) → nat_le (suc n) (length (costs.effects p)) ≡ b → IsOn s.service s.flow (record { config = c; object = r; number = n }) ⊎ (view.acts (numbered_service s c) (costs.effect_at p n) ≡ Nothing)
    numbered p e active true less =
        let at = found_among r (present s.service c) p e in
        inl (subst (λ (q : ObjRef). IsOn s.service s.flow (record { config = c; object = q; number = n })) (sym at.0)
        (on_of s.service s.flow c p n here at.1 active (leb-true (suc n) (length (costs.effects p)) less)))
    numbered p e active false less =
        inr (ap (λ (xs : List Act). view.acts (numbered_service s c) xs) (got_none (costs.effects p) n (past (leb-false (suc n) (length (costs.effects p)) less))))
      where
        past : {m : ℕ} → m < suc n → m ≤ n
        past h = omega (arith, h)

    of : (p : Fixed) → part_at r (present s.service c) ≡ Some p → (b : Bool) → is_active (present s.service c) p ≡ b → IsOn s.service s.flow (record { config = c; object = r; number = n }) ⊎ (if_price b (view.acts (numbered_service s c) (costs.effect_at p n)) ≡ Nothing)
    of p e true active = numbered p e active (nat_le (suc n) (length (costs.effects p))) refl
    of p e false active = inr refl

    by : (o : Option Fixed) → part_at r (present s.service c) ≡ o → IsOn s.service s.flow (record { config = c; object = r; number = n }) ⊎ (priced o ≡ Nothing)
    by None e = inr refl
    by (Some p) e = of p e (is_active (present s.service c) p) refl
