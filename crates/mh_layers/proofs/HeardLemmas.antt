-- What events set going: the links of one hearing after another come to what all links do that an event can match.
use Rattle.std.specs.Prelude.{◌≡◌, ◌⊎◌, Bool, true, false, ◌&&◌, ◌||◌, List, [], ◌∷◌, map, Option, Some, None, refl}
use Rattle.std.specs.List.{list_any}
use Rattle.std.specs.Cmp.Lexicographic.{nat_list_eq_equiv}
use Rattle.std.proofs.Common.{inl, inr, ap, ◌∙◌, sym, subst}
use Rattle.std.proofs.lemmas.Bool.Decides.{Decides-int_eq}
use Rattle.std.proofs.lemmas.Slice.Eq.{bytes_eq-Decides}
use Rattle.mh_base.specs.declared.obj_ref.ObjRef.{ObjRef}
use Rattle.mh_base.specs.declared.value.Value.{Value}
use Rattle.mh_base.specs.declared.value.Value.TheVariants as value
use Rattle.mh_base.specs.declared.event.EventType.{EventType}
use Rattle.mh_model.specs.declared.config.Config.{Config}
use Rattle.mh_model.specs.declared.object.Fixed.{Fixed}
use Rattle.mh_model.specs.Items.{hears_data}
use Rattle.mh_model.specs.Variables.{same_value}
use Rattle.mh_model.proofs.ListLemmas.{and_left, and_right}
use Rattle.mh_model.proofs.ServiceLemmas.{same_ref-same}
use Rattle.mh_laws.specs.Costs as costs
use Rattle.mh_laws.specs.Each.{Among}
use Rattle.mh_laws.specs.Price.{Price, sum_price, most_price, if_price}
use Rattle.mh_laws.proofs.EachLemmas.{among_mapped}
use Rattle.mh_layers.specs.Grouped.{has, is_plain}
use Rattle.mh_layers.specs.CostNodes.{data_of, knows, waits_for}
use Rattle.mh_layers.proofs.AgreeLemmas.{Setting, effects_come}
use Rattle.mh_layers.proofs.MetLemmas.{same_itself}
use Rattle.mh_layers.proofs.ReckonLemmas.{Below, all_below, all_below_with, below_among, below_none, below_plus, both_below, plus_pairs, plus_right}

-- Values

pub same_value-same : (a b : Value) → same_value a b ≡ true → a ≡ b
same_value-same (value.Bool true) (value.Bool true) e = refl
same_value-same (value.Bool false) (value.Bool false) e = refl
same_value-same (value.Bool true) (value.Bool false) e = absurd cc
same_value-same (value.Bool false) (value.Bool true) e = absurd cc
same_value-same (value.Int a) (value.Int b) e = ap value.Int ((Decides-int_eq a b).0 e)
same_value-same (value.Octets a) (value.Octets b) e = ap value.Octets ((bytes_eq-Decides a b).0 e)
same_value-same (value.Object a) (value.Object b) e = ap value.Object (same_ref-same a b e)
same_value-same (value.Content a) (value.Content b) e = ap value.Content ((bytes_eq-Decides a b).0 e)
same_value-same (value.Bool true) _ e = absurd cc
same_value-same (value.Bool false) _ e = absurd cc
same_value-same (value.Int a) _ e = absurd cc
same_value-same (value.Octets a) _ e = absurd cc
same_value-same (value.Object a) _ e = absurd cc
same_value-same (value.Content a) _ e = absurd cc

pub same_value-itself : (a : Value) → same_value a a ≡ true
same_value-itself (value.Bool true) = refl
same_value-itself (value.Bool false) = refl
same_value-itself (value.Int a) = (Decides-int_eq a a).1 refl
same_value-itself (value.Octets a) = nat_list_eq_equiv.refl a
same_value-itself (value.Object a) = same_itself a
same_value-itself (value.Content a) = nat_list_eq_equiv.refl a

pub any_among : {X : Type 0} (p : X → Bool) (xs : List X) → list_any p xs ≡ true → (x : X) × Among xs x × (p x ≡ true)
any_among p [] h = absurd cc
any_among {X} p (x ∷ xs) h = by (p x) refl h (any_among p xs)
  where
    by : (b : Bool) → p x ≡ b → (b || list_any p xs) ≡ true → (list_any p xs ≡ true → (z : X) × Among xs z × (p z ≡ true)) → (z : X) × Among (x ∷ xs) z × (p z ≡ true)
    by true e h behind = (x, inl refl, e)
    by false e h behind = let more = behind h in (more.0, inr more.1, more.2)

pub among_any : {X : Type 0} (p : X → Bool) (xs : List X) (x : X) → Among xs x → p x ≡ true → list_any p xs ≡ true
among_any p [] x there h = absurd cc
among_any {X} p (z ∷ xs) x (inl same) h = ap (λ (b : Bool). b || list_any p xs) (subst (λ (t : X). p t ≡ true) (sym same) h)
among_any p (z ∷ xs) x (inr more) h = by (p z) (among_any p xs x more h)
  where
    by : (b : Bool) → list_any p xs ≡ true → (b || list_any p xs) ≡ true
    by true h = refl
    by false h = h

pub value_there : (xs : List Value) (x : Value) → Among xs x → list_any (same_value x) xs ≡ true
value_there xs x there = among_any (same_value x) xs x there (same_value-itself x)

has_data : (d : Option Value) (x : Value) → has same_value x d ≡ true → d ≡ Some x
has_data None x e = absurd cc
has_data (Some d) x e = ap Some (same_value-same d x e)

-- The links of one hearing

abbrev pub links : Config → ObjRef → EventType → (Option Value → Bool) → List Fixed → Price costs.Effect
links c r kind is ps = sum_price (λ (p : Fixed). if_price (waits_for r kind p && is (data_of p)) (costs.effect c costs.link_effect p)) ps

plain_data : (d : Option Value) → hears_data d None ≡ is_plain d
plain_data None = refl
plain_data (Some d) = refl

pub plain_heard : {A : Type 0} (s : Setting A) (c : Config) (r : ObjRef) (kind : EventType) (ps : List Fixed) → effects_come s (costs.heard_by c (costs.event_from r kind None) ps) ≡ effects_come s (links c r kind is_plain ps)
plain_heard s c r kind [] = refl
plain_heard s c r kind (p ∷ ps) =
    λ i. s.way.plus (effects_come s (if_price (waits_for r kind p && plain_data (data_of p) i) (costs.effect c costs.link_effect p))) (plain_heard s c r kind ps i)

split : {A : Type 0} (s : Setting A) (b : Bool) (d : Option Value) (x : Value) (e : Price costs.Effect) → effects_come s (if_price (b && hears_data d (Some x)) e) ≡ s.way.plus (effects_come s (if_price (b && is_plain d) e)) (effects_come s (if_price (b && has same_value x d) e))
split s false d x e = sym (s.way.plus_none s.way.none)
split s true None x e = sym (plus_right s.way (effects_come s e))
split s true (Some d) x e = sym (s.way.plus_none (effects_come s (if_price (same_value d x) e)))

pub value_heard : {A : Type 0} (s : Setting A) (c : Config) (r : ObjRef) (kind : EventType) (x : Value) (ps : List Fixed) → effects_come s (costs.heard_by c (costs.event_from r kind (Some x)) ps) ≡ s.way.plus (effects_come s (links c r kind is_plain ps)) (effects_come s (links c r kind (has same_value x) ps))
value_heard s c r kind x [] = sym (s.way.plus_none s.way.none)
value_heard s c r kind x (p ∷ ps) =
    (λ i. s.way.plus (split s (waits_for r kind p) (data_of p) x (costs.effect c costs.link_effect p) i) (value_heard s c r kind x ps i))
    ∙ plus_pairs s.way _ _ _ _

-- one of them hears, or nothing comes of them
pub named_or_quiet : {A : Type 0} (s : Setting A) (c : Config) (r : ObjRef) (kind : EventType) (is : Option Value → Bool) (ps : List Fixed) → ((p : Fixed) × Among ps p × ((waits_for r kind p && is (data_of p)) ≡ true)) ⊎ (effects_come s (links c r kind is ps) ≡ s.way.none)
named_or_quiet s c r kind is [] = inr refl
named_or_quiet {A} s c r kind is (p ∷ ps) = by (waits_for r kind p && is (data_of p)) refl (named_or_quiet s c r kind is ps)
  where
    by : (b : Bool) → (waits_for r kind p && is (data_of p)) ≡ b → ((q : Fixed) × Among ps q × ((waits_for r kind q && is (data_of q)) ≡ true)) ⊎ (effects_come s (links c r kind is ps) ≡ s.way.none) → ((q : Fixed) × Among (p ∷ ps) q × ((waits_for r kind q && is (data_of q)) ≡ true)) ⊎ (effects_come s (links c r kind is (p ∷ ps)) ≡ s.way.none)
    by true e more = inl (p, inl refl, e)
    by false e (inl (q, there, h)) = inl (q, inr there, h)
    by false e (inr none) =
        inr ((λ i. s.way.plus (effects_come s (if_price (e i) (costs.effect c costs.link_effect p))) (none i)) ∙ s.way.plus_none s.way.none)

-- what links name of their data is known
abbrev pub AreKnown : ObjRef → EventType → Option (List Value) → List Fixed → Type 0
AreKnown r kind o ps = (p : Fixed) → Among ps p → waits_for r kind p ≡ true → knows o (data_of p) ≡ true

-- nothing is heard where no link is known
pub unheard : {A : Type 0} (s : Setting A) (c : Config) (r : ObjRef) (kind : EventType) (is : Option Value → Bool) (ps : List Fixed) → AreKnown r kind None ps → effects_come s (links c r kind is ps) ≡ s.way.none
unheard {A} s c r kind is ps known = by (named_or_quiet s c r kind is ps)
  where
    by : ((p : Fixed) × Among ps p × ((waits_for r kind p && is (data_of p)) ≡ true)) ⊎ (effects_come s (links c r kind is ps) ≡ s.way.none) → effects_come s (links c r kind is ps) ≡ s.way.none
    by (inl (p, there, e)) = let never = known p there (and_left (waits_for r kind p) (is (data_of p)) e) in absurd cc
    by (inr none) = none

-- nor by data that is not named
pub unnamed : {A : Type 0} (s : Setting A) (c : Config) (r : ObjRef) (kind : EventType) (xs : List Value) (x : Value) (ps : List Fixed) → AreKnown r kind (Some xs) ps → list_any (same_value x) xs ≡ false → effects_come s (links c r kind (has same_value x) ps) ≡ s.way.none
unnamed {A} s c r kind xs x ps known not_there = by (named_or_quiet s c r kind (has same_value x) ps)
  where
    by : ((p : Fixed) × Among ps p × ((waits_for r kind p && has same_value x (data_of p)) ≡ true)) ⊎ (effects_come s (links c r kind (has same_value x) ps) ≡ s.way.none) → effects_come s (links c r kind (has same_value x) ps) ≡ s.way.none
    by (inl (p, there, e)) =
        let «data» = has_data (data_of p) x (and_right (waits_for r kind p) (has same_value x (data_of p)) e) in
        let is : list_any (same_value x) xs ≡ true = subst (λ (d : Option Value). knows (Some xs) d ≡ true) «data» (known p there (and_left (waits_for r kind p) (has same_value x (data_of p)) e)) in
        absurd cc
    by (inr none) = none

-- Events of any data: the links without data, and the largest of those with one

pub any_heard : {A : Type 0} (s : Setting A) (c : Config) (r : ObjRef) (kind : EventType) (xs : List Value) (ps : List Fixed) → AreKnown r kind (Some xs) ps → s.way.plus (effects_come s (links c r kind is_plain ps)) (effects_come s (most_price (λ x. links c r kind (has same_value x) ps) xs)) ≡ effects_come s (most_price (λ m. costs.heard_by c (costs.event_from r kind m) ps) (costs.named_data ps))
any_heard {A} s c r kind xs ps known = both_below s.way left right lower upper
  where
    plain : A
    plain = effects_come s (links c r kind is_plain ps)

    largest : A
    largest = effects_come s (most_price (λ x. links c r kind (has same_value x) ps) xs)

    left : A
    left = s.way.plus plain largest

    heard : Option Value → Price costs.Effect
    heard m = costs.heard_by c (costs.event_from r kind m) ps

    right : A
    right = effects_come s (most_price heard (costs.named_data ps))

    plain_right : Below s.way plain right
    plain_right = subst (λ (a : A). Below s.way a right) (plain_heard s c r kind ps) (below_among s.way s.of heard (costs.named_data ps) None (inl refl))

    quiet : (x : Value) → effects_come s (links c r kind (has same_value x) ps) ≡ s.way.none → plain ≡ s.way.plus plain (effects_come s (links c r kind (has same_value x) ps))
    quiet x none = sym (plus_right s.way plain) ∙ ap (λ (a : A). s.way.plus plain a) (sym none)

    -- a value that is known
    one : (x : Value) → ((p : Fixed) × Among ps p × ((waits_for r kind p && has same_value x (data_of p)) ≡ true)) ⊎ (effects_come s (links c r kind (has same_value x) ps) ≡ s.way.none) → Below s.way (s.way.plus plain (effects_come s (links c r kind (has same_value x) ps))) right
    one x (inl (p, there, e)) =
        let «data» = has_data (data_of p) x (and_right (waits_for r kind p) (has same_value x (data_of p)) e) in
        subst (λ (a : A). Below s.way a right) (value_heard s c r kind x ps)
        (below_among s.way s.of heard (costs.named_data ps) (Some x) (inr (subst (λ (d : Option Value). Among (map data_of ps) d) «data» (among_mapped data_of ps p there))))
    one x (inr none) = subst (λ (a : A). Below s.way a right) (quiet x none) plain_right

    lower : Below s.way left right
    lower = all_below_with s.way s.of (λ x. links c r kind (has same_value x) ps) xs plain right plain_right (λ x there. one x (named_or_quiet s c r kind (has same_value x) ps))

    plain_left : Below s.way plain left
    plain_left = s.way.above plain largest

    -- a value that a link names
    other : (x : Value) → ((p : Fixed) × Among ps p × ((waits_for r kind p && has same_value x (data_of p)) ≡ true)) ⊎ (effects_come s (links c r kind (has same_value x) ps) ≡ s.way.none) → Below s.way (effects_come s (links c r kind (has same_value x) ps)) largest
    other x (inl (p, there, e)) =
        let «data» = has_data (data_of p) x (and_right (waits_for r kind p) (has same_value x (data_of p)) e) in
        let is : list_any (same_value x) xs ≡ true = subst (λ (d : Option Value). knows (Some xs) d ≡ true) «data» (known p there (and_left (waits_for r kind p) (has same_value x (data_of p)) e)) in
        let hit = any_among (same_value x) xs is in
        below_among s.way s.of (λ y. links c r kind (has same_value y) ps) xs x (subst (λ (y : Value). Among xs y) (sym (same_value-same x hit.0 hit.2)) hit.1)
    other x (inr none) = subst (λ (a : A). Below s.way a largest) (sym none) (below_none s.way largest)

    named : (m : Option Value) → Below s.way (effects_come s (heard m)) left
    named None = subst (λ (a : A). Below s.way a left) (sym (plain_heard s c r kind ps)) plain_left
    named (Some x) =
        subst (λ (a : A). Below s.way a left) (sym (value_heard s c r kind x ps))
        (below_plus s.way plain (effects_come s (links c r kind (has same_value x) ps)) largest (other x (named_or_quiet s c r kind (has same_value x) ps)))

    upper : Below s.way right left
    upper = all_below s.way s.of heard (costs.named_data ps) left (λ m there. named m)
