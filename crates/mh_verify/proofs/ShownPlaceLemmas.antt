-- The sites of what is present: each is of its own object, is counted from 1 on, and is the only one at its place.
use Rattle.std.proofs.Common.{◌≡◌, ◌⊎◌, inl, inr, ℕ, suc, ◌+◌, ◌<◌, ◌≤◌, Bool, true, false, List, [], ◌∷◌, length, filter, Option, Some, None, refl, ap, sym, ◌∙◌, subst, arith}
use Rattle.std.proofs.lemmas.List.Elements.{Contains-append_cases}
use Rattle.std.specs.List.{Contains}
use Rattle.std.specs.Option.{option_map, option_map_or, option_or}
use Rattle.std.proofs.lemmas.List.Folds.{find-append}
use Rattle.std.proofs.lemmas.Slice.Eq.{bytes_eq-Decides}
use Rattle.mh_base.specs.declared.obj_ref.ObjRef.{ObjRef}
use Rattle.mh_group.specs.declared.class.Class.{Class}
use Rattle.mh_model.specs.declared.act.Act.{Act}
use Rattle.mh_model.specs.declared.config.Config.{Config}
use Rattle.mh_model.specs.declared.object.Fixed.{Fixed}
use Rattle.mh_model.specs.Configuration.{has_keys, is_service, present, scene_parts}
use Rattle.mh_model.specs.Known.{class_at}
use Rattle.mh_model.specs.Reference.{same_ref}
use Rattle.mh_model.specs.Service.{Service, group_parts, is_in, part_at}
use Rattle.mh_model.proofs.ListLemmas.{some_same}
use Rattle.mh_model.proofs.ServiceLemmas.{group_parts_in, same_ref-same}
use Rattle.mh_laws.specs.Active.{is_active}
use Rattle.mh_laws.specs.Costs.{effects}
use Rattle.mh_flow.specs.Sites.{Site, numbered, sites, sites_of, through_effects}
use Rattle.mh_flow.proofs.ContainsLemmas.{all_of, no_member, first_or_behind, joined_from}
use Rattle.mh_flow.proofs.PlaceLemmas.{found_member}
use Rattle.mh_flow.proofs.PresentLemmas.{passing_from, present_found}

-- Sites of one object

-- a site that is counted from here on, of this object
record IsCounted (k : ObjRef) (i : ℕ) (x : Site) : Type 0 where
  key : x.key ≡ k
  from : i ≤ x.index

further : (k : ObjRef) (i j : ℕ) (x : Site) → i ≤ j → IsCounted k j x → IsCounted k i x
further k i j x less h = record { key = h.key; from = omega (arith, less, h.from) }

numbered_counted : (k : ObjRef) (f i : ℕ) (acts : List Act) (x : Site) → Contains (numbered k f i acts) x → IsCounted k i x × (x.index < i + length acts)
numbered_counted k f i [] x m = absurd (no_member x m)
numbered_counted k f i (a ∷ acts) x m = by (first_or_behind _ (numbered k f (suc i) acts) x m) (numbered_counted k f (suc i) acts x)
  where
    by : ((record { key = k; index = i; first = f; act = a }) ≡ x) ⊎ Contains (numbered k f (suc i) acts) x → (Contains (numbered k f (suc i) acts) x → IsCounted k (suc i) x × (x.index < suc i + length acts)) → IsCounted k i x × (x.index < i + suc (length acts))
    by (inl e) ih =
        let n : i ≡ x.index = ap (λ (y : Site). y.index) e in
        (record { key = sym (ap (λ (y : Site). y.key) e); from = omega (arith, n) }, omega (arith, n))
    by (inr k) ih = let h = ih k in let less = h.1 in (further _ i (suc i) x (omega arith) h.0, omega (arith, less))

through_counted : (k : ObjRef) (i : ℕ) (es : List (List Act)) (x : Site) → Contains (through_effects k i es) x → IsCounted k i x
through_counted k i [] x m = absurd (no_member x m)
through_counted k i (e ∷ es) x m = elim (Contains-append_cases (numbered k i i e) (through_effects k (i + length e) es) x m) [
  | inl n ↦ (numbered_counted k i i e x n).0
  | inr n ↦ further k i (i + length e) x (omega arith) (through_counted k (i + length e) es x n)
]

-- two that have one number are one

numbered_one : (k : ObjRef) (f i : ℕ) (acts : List Act) (x y : Site) → Contains (numbered k f i acts) x → Contains (numbered k f i acts) y → x.index ≡ y.index → x ≡ y
numbered_one k f i [] x y m n same = absurd (no_member x m)
numbered_one k f i (a ∷ acts) x y m n same = by (first_or_behind first rest x m) (first_or_behind first rest y n) (λ l j. numbered_one k f (suc i) acts x y l j same)
  where
    first : Site
    first = record { key = k; index = i; first = f; act = a }

    rest : List Site
    rest = numbered k f (suc i) acts

    past : (z : Site) → Contains rest z → i < z.index
    past z l = (numbered_counted k f (suc i) acts z l).0.from

    by : (first ≡ x) ⊎ Contains rest x → (first ≡ y) ⊎ Contains rest y → (Contains rest x → Contains rest y → x ≡ y) → x ≡ y
    by (inl d) (inl e) ih = sym d ∙ e
    by (inl d) (inr l) ih = let at : i ≡ x.index = ap (λ (z : Site). z.index) d in absurd (omega (arith, at, same, past y l))
    by (inr l) (inl e) ih = let at : i ≡ y.index = ap (λ (z : Site). z.index) e in absurd (omega (arith, at, same, past x l))
    by (inr l) (inr j) ih = ih l j

through_one : (k : ObjRef) (i : ℕ) (es : List (List Act)) (x y : Site) → Contains (through_effects k i es) x → Contains (through_effects k i es) y → x.index ≡ y.index → x ≡ y
through_one k i [] x y m n same = absurd (no_member x m)
through_one k i (e ∷ es) x y m n same = by (Contains-append_cases front rest x m) (Contains-append_cases front rest y n) (λ l j. through_one k (i + length e) es x y l j same)
  where
    front : List Site
    front = numbered k i i e

    rest : List Site
    rest = through_effects k (i + length e) es

    near : (z : Site) → Contains front z → z.index < i + length e
    near z l = (numbered_counted k i i e z l).1

    far : (z : Site) → Contains rest z → i + length e ≤ z.index
    far z l = (through_counted k (i + length e) es z l).from

    by : Contains front x ⊎ Contains rest x → Contains front y ⊎ Contains rest y → (Contains rest x → Contains rest y → x ≡ y) → x ≡ y
    by (inl l) (inl j) ih = numbered_one k i i e x y l j same
    by (inl l) (inr j) ih = absurd (omega (arith, near x l, far y j, same))
    by (inr l) (inl j) ih = absurd (omega (arith, near y j, far x l, same))
    by (inr l) (inr j) ih = ih l j

-- Sites of what is present

-- the object of a site
pub record IsSiteOf (ps : List Fixed) (x : Site) : Type 0 where
  pub part : Fixed
  pub there : Contains ps part
  pub among : Contains (sites part) x
  pub key : x.key ≡ part.key
  pub counted : 1 ≤ x.index

pub site_of : (ps : List Fixed) (x : Site) → Contains (sites_of ps) x → IsSiteOf ps x
site_of ps x m =
    let from = joined_from sites (filter (is_active ps) ps) x m in
    let counted = through_counted from.0.key 1 (effects from.0) x from.2 in
    record { part = from.0; there = (passing_from (is_active ps) ps from.0 from.1).1; among = from.2; key = counted.key; counted = counted.from }

pub one_site : (v : Service) (c : Config) (x y : Site) → is_service v ≡ true → has_keys v ≡ true → Contains (sites_of (present v c)) x → Contains (sites_of (present v c)) y → x.key ≡ y.key → x.index ≡ y.index → x ≡ y
one_site v c x y good keys m n same at =
    let p = site_of (present v c) x m in
    let q = site_of (present v c) y n in
    let key : p.part.key ≡ q.part.key = sym p.key ∙ same ∙ q.key in
    let part : p.part ≡ q.part = some_same (sym (present_found v c p.part good keys p.there) ∙ ap (λ (r : ObjRef). part_at r (present v c)) key ∙ present_found v c q.part good keys q.there) in
    through_one q.part.key 1 (effects q.part) x y (subst (λ (z : Fixed). Contains (sites z) x) part p.among) q.among at

-- What is present is in its own group

own_named : (v : Service) (g : List ℕ) (p : Fixed) → is_service v ≡ true → Contains (group_parts v g) p → g ≡ p.key.group
own_named v g p good m = sym ((bytes_eq-Decides p.key.group g).0 (all_of (is_in g) (group_parts v g) p (group_parts_in v g good) m))

pub in_own : (v : Service) (c : Config) (p : Fixed) → is_service v ≡ true → Contains (present v c) p → Contains (group_parts v p.key.group) p
in_own v c p good m = elim (Contains-append_cases (group_parts v c.app) (scene_parts v c.scene) p m) [
  | inl k ↦ named c.app k
  | inr k ↦ of_scene c.scene k
]
  where
    named : (g : List ℕ) → Contains (group_parts v g) p → Contains (group_parts v p.key.group) p
    named g k = subst (λ (n : List ℕ). Contains (group_parts v n) p) (own_named v g p good k) k

    of_scene : (scene : Option (List ℕ)) → Contains (scene_parts v scene) p → Contains (group_parts v p.key.group) p
    of_scene None k = absurd (no_member p k)
    of_scene (Some g) k = named g k

-- and what is found there is found in its own group
found_own : (v : Service) (c : Config) (r : ObjRef) (p : Fixed) → is_service v ≡ true → part_at r (present v c) ≡ Some p → part_at r (group_parts v r.group) ≡ Some p
found_own v c r p good e =
    by (part_at r (group_parts v c.app)) refl c.scene (sym (find-append (λ (q : Fixed). same_ref r q.key) (group_parts v c.app) (scene_parts v c.scene)) ∙ e)
  where
    named : (g : List ℕ) (q : Fixed) → part_at r (group_parts v g) ≡ Some q → part_at r (group_parts v r.group) ≡ Some q
    named g q at =
        let found = found_member (λ (x : Fixed). same_ref r x.key) (group_parts v g) q at in
        let group : g ≡ r.group = own_named v g q good found.1 ∙ ap (λ (x : ObjRef). x.group) (sym (same_ref-same r q.key found.0)) in
        subst (λ (n : List ℕ). part_at r (group_parts v n) ≡ Some q) group at

    by : (o : Option Fixed) → part_at r (group_parts v c.app) ≡ o → (scene : Option (List ℕ)) → option_or o (part_at r (scene_parts v scene)) ≡ Some p → part_at r (group_parts v r.group) ≡ Some p
    by (Some q) at scene is = named c.app q at ∙ is
    by None at None is = absurd cc
    by None at (Some g) is = named g p is

-- so that what its class passes there, it passes here
pub passes_own : (is : Class → Bool) (v : Service) (c : Config) (r : ObjRef) → is_service v ≡ true → option_map_or is (class_at r (present v c)) false ≡ true → option_map_or is (class_at r (group_parts v r.group)) false ≡ true
passes_own is v c r good h = by (part_at r (present v c)) refl h
  where
    passes : Option Fixed → Bool
    passes o = option_map_or is (option_map (λ (p : Fixed). p.class) o) false

    by : (o : Option Fixed) → part_at r (present v c) ≡ o → passes o ≡ true → passes (part_at r (group_parts v r.group)) ≡ true
    by None e k = absurd cc
    by (Some p) e k = ap passes (found_own v c r p good e) ∙ k
