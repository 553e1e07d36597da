-- What is found under a reference is the object to which it leads, and where it stands in its group.
use Rattle.std.proofs.Common.{◌≡◌, ℕ, suc, ◌+◌, ◌<◌, Bool, true, false, ◌&&◌, ◌||◌, not, cond, ◌==◌, nat_lt, List, [], ◌∷◌, ◌++◌, filter, length, map, Option, Some, None, refl, ap, sym, ◌∙◌, subst, arith}
use Rattle.std.specs.List.{AllByRecursion, IsDistinct, find, list_all, position, position_or_len}
use Rattle.std.specs.Map.{lookup}
use Rattle.std.specs.Option.{is_some, option_map, option_or}
use Rattle.std.specs.Str.{bytes_eq}
use Rattle.std.specs.Prelude.{unwrap_or}
use Rattle.std.proofs.Math.Bool.{and_comm}
use Rattle.std.proofs.lemmas.Bool.Decides.{nat_tests}
use Rattle.std.proofs.lemmas.List.Folds.{find-append}
use Rattle.std.proofs.lemmas.List.Quantifiers.{position-Some}
use Rattle.std.proofs.lemmas.Map.Keys.{IsDistinct-head, IsDistinct-tail}
use Rattle.std.proofs.lemmas.Slice.Eq.{bytes_eq-Decides}
use Rattle.std.specs.Cmp.Lexicographic.{nat_list_eq_equiv}
use Rattle.indexmap.proofs.CallerLemmas.{insert_entry-new}
use Rattle.indexmap.specs.IndexMap.{IndexMap, insert_entry}
use Rattle.mh_base.specs.declared.obj_ref.ObjRef.{ObjRef}
use Rattle.mh_model.specs.declared.config.Config.{Config}
use Rattle.mh_model.specs.declared.object.Fixed.{Fixed}
use Rattle.mh_model.specs.Configuration.{is_group_list, is_ingredient_of, present, same_scene, scene_parts}
use Rattle.mh_model.specs.Reference.{same_key, same_ref}
use Rattle.mh_model.specs.Service.{Service, group_parts, is_in, part_at}
use Rattle.mh_laws.specs.Flow.{is_holder}
use Rattle.mh_model.proofs.ListLemmas.{all_follow, and_left, and_right}
use Rattle.mh_model.proofs.ServiceLemmas.{group_parts_in, of_service, same_ref-same}
use Rattle.mh_flow.specs.Chart.{place_in}
use Rattle.mh_flow.specs.Index.{AreNamed, Home, IsPresent, held_index, holders, indexed, is_entered, with_groups, with_home, with_homes}

-- An entry more.

lookup_last : {X : Type 0} (r k : ObjRef) (es : List (ObjRef × X)) (x : X) → lookup (same_ref r) (es ++ (k, x) ∷ []) ≡ option_or (lookup (same_ref r) es) (cond (same_ref r k) (Some x) None)
lookup_last r k [] x = refl
lookup_last {X} r k (e ∷ es) x = by (same_ref r e.0) (lookup_last r k es x)
  where
    by : (b : Bool) → lookup (same_ref r) (es ++ (k, x) ∷ []) ≡ option_or (lookup (same_ref r) es) (cond (same_ref r k) (Some x) None) → cond b (Some e.1) (lookup (same_ref r) (es ++ (k, x) ∷ [])) ≡ option_or (cond b (Some e.1) (lookup (same_ref r) es)) (cond (same_ref r k) (Some x) None)
    by true ih = refl
    by false ih = ih

-- what stands there already stays
some_stays : {X : Type 0} (o p : Option X) → is_some o ≡ true → o ≡ option_or o p
some_stays (Some x) p h = refl
some_stays None p h = cc

none_behind : {X : Type 0} (o : Option X) → o ≡ option_or o None
none_behind (Some x) = refl
none_behind None = refl

abbrev home : Fixed → ℕ → Home
home p n = record { part = p; place = n }

lookup_with : (r : ObjRef) (es : List (ObjRef × Home)) (n : ℕ) (p : Fixed) → lookup (same_ref r) (with_home es n p) ≡ option_or (lookup (same_ref r) es) (cond (same_ref r p.key) (Some (record { part = p; place = n })) None)
lookup_with r es n p = by (is_some (lookup (same_ref p.key) es)) refl
  where
    there : (t : Bool) → same_ref r p.key ≡ t → is_some (lookup (same_ref p.key) es) ≡ true → lookup (same_ref r) es ≡ option_or (lookup (same_ref r) es) (cond t (Some (record { part = p; place = n })) None)
    there true same h = some_stays (lookup (same_ref r) es) _ (subst (λ (q : ObjRef). is_some (lookup (same_ref q) es) ≡ true) (sym (same_ref-same r p.key same)) h)
    there false same h = none_behind (lookup (same_ref r) es)

    by : (b : Bool) → is_some (lookup (same_ref p.key) es) ≡ b → lookup (same_ref r) (cond b es (es ++ (p.key, record { part = p; place = n }) ∷ [])) ≡ option_or (lookup (same_ref r) es) (cond (same_ref r p.key) (Some (record { part = p; place = n })) None)
    by true h = there (same_ref r p.key) refl h
    by false h = lookup_last r p.key es (record { part = p; place = n })

-- The objects of a group, and of groups.

-- the home of the first to which a reference leads, with the place from this one on
abbrev home_in : ObjRef → ℕ → List Fixed → Option Home
home_in r n [] = None
home_in r n (p ∷ ps) = cond (same_ref r p.key) (Some (record { part = p; place = n })) (home_in r (suc n) ps)

one_first : {X : Type 0} (o : Option X) (t : Bool) (x : X) (q : Option X) → option_or (option_or o (cond t (Some x) None)) q ≡ option_or o (cond t (Some x) q)
one_first (Some y) t x q = refl
one_first None true x q = refl
one_first None false x q = refl

lookup_homes : (r : ObjRef) (es : List (ObjRef × Home)) (n : ℕ) (ps : List Fixed) → lookup (same_ref r) (with_homes es n ps) ≡ option_or (lookup (same_ref r) es) (home_in r n ps)
lookup_homes r es n [] = none_behind (lookup (same_ref r) es)
lookup_homes r es n (p ∷ ps) =
    lookup_homes r (with_home es n p) (suc n) ps
    ∙ ap (λ (o : Option Home). option_or o (home_in r (suc n) ps)) (lookup_with r es n p)
    ∙ one_first (lookup (same_ref r) es) (same_ref r p.key) (record { part = p; place = n }) (home_in r (suc n) ps)

abbrev first_home : ObjRef → List (List ℕ × List Fixed) → Option Home
first_home r [] = None
first_home r (g ∷ gs) = option_or (home_in r 0 g.1) (first_home r gs)

or_or : {X : Type 0} (a b c : Option X) → option_or (option_or a b) c ≡ option_or a (option_or b c)
or_or (Some x) b c = refl
or_or None b c = refl

lookup_groups : (r : ObjRef) (es : List (ObjRef × Home)) (gs : List (List ℕ × List Fixed)) → lookup (same_ref r) (with_groups es (map (λ e. e.1) gs)) ≡ option_or (lookup (same_ref r) es) (first_home r gs)
lookup_groups r es [] = none_behind (lookup (same_ref r) es)
lookup_groups r es (g ∷ gs) =
    lookup_groups r (with_homes es 0 g.1) gs
    ∙ ap (λ (o : Option Home). option_or o (first_home r gs)) (lookup_homes r es 0 g.1)
    ∙ or_or (lookup (same_ref r) es) (home_in r 0 g.1) (first_home r gs)

-- Groups with names of their own.

own_part : (g : List ℕ) (ps : List Fixed) → is_group_list g ps ≡ true → list_all (is_in g) ps ≡ true
own_part g [] h = absurd cc
own_part g (p ∷ ps) h =
    let front = and_left (is_in g p && p.key.number == 0 && _) (list_all (is_ingredient_of g) ps) h in
    let first = and_left (is_in g p) (p.key.number == 0) (and_left (is_in g p && p.key.number == 0) _ front) in
    let rest = all_follow (is_ingredient_of g) (is_in g) (λ q is. and_left (is_in g q) (not (q.key.number == 0)) (and_left (is_in g q && not (q.key.number == 0)) _ is)) ps (and_right _ (list_all (is_ingredient_of g) ps) h) in
    rw (first, rest) refl

no_home : (r : ObjRef) (g : List ℕ) (n : ℕ) (ps : List Fixed) → list_all (is_in g) ps ≡ true → bytes_eq g r.group ≡ false → home_in r n ps ≡ None
no_home r g n [] h other = refl
no_home r g n (p ∷ ps) h other = by (same_ref r p.key) refl (no_home r g (suc n) ps (and_right (is_in g p) (list_all (is_in g) ps) h) other)
  where
    own : p.key.group ≡ g
    own = (bytes_eq-Decides p.key.group g).0 (and_left (is_in g p) (list_all (is_in g) ps) h)

    by : (b : Bool) → same_ref r p.key ≡ b → home_in r (suc n) ps ≡ None → cond b (Some (home p n)) (home_in r (suc n) ps) ≡ None
    by true e ih =
        let same : g ≡ r.group = sym own ∙ sym (ap (λ (k : ObjRef). k.group) (same_ref-same r p.key e)) in
        let itself : bytes_eq g r.group ≡ true = subst (λ (m : List ℕ). bytes_eq g m ≡ true) same (nat_list_eq_equiv.refl g) in
        absurd cc
    by false e ih = ih

-- with another name than that of the reference
abbrev AreOthers : List ℕ → List (List ℕ × List Fixed) → Type 0
AreOthers g gs = AllByRecursion (λ m. bytes_eq g m ≡ false) (map (λ e. e.0) gs)

-- all have the name of their group in their references
abbrev AreOwn : List (List ℕ × List Fixed) → Bool
AreOwn gs = list_all (λ e. list_all (is_in e.0) e.1) gs

own_parts : (gs : List (List ℕ × List Fixed)) → list_all (λ e. is_group_list e.0 e.1) gs ≡ true → AreOwn gs ≡ true
own_parts gs h = all_follow (λ (e : List ℕ × List Fixed). is_group_list e.0 e.1) (λ (e : List ℕ × List Fixed). list_all (is_in e.0) e.1) (λ e is. own_part e.0 e.1 is) gs h

none_of_others : (r : ObjRef) (g : List ℕ) (gs : List (List ℕ × List Fixed)) → g ≡ r.group → AreOwn gs ≡ true → AreOthers g gs → first_home r gs ≡ None
none_of_others r g [] same h other = refl
none_of_others r g (e ∷ gs) same h other =
    let own = and_left (list_all (is_in e.0) e.1) (AreOwn gs) h in
    let apart : bytes_eq e.0 r.group ≡ false = subst (λ (m : List ℕ). bytes_eq e.0 m ≡ false) same (turned g e.0 other.0) in
    ap (λ (o : Option Home). option_or o (first_home r gs)) (no_home r e.0 0 e.1 own apart)
    ∙ none_of_others r g gs same (and_right (list_all (is_in e.0) e.1) (AreOwn gs) h) other.1
  where
    turned : (a b : List ℕ) → bytes_eq a b ≡ false → bytes_eq b a ≡ false
    turned a b h = nat_list_eq_equiv.symm b a ∙ h

first_of_own : (r : ObjRef) (gs : List (List ℕ × List Fixed)) → AreOwn gs ≡ true → IsDistinct bytes_eq (map (λ e. e.0) gs) → first_home r gs ≡ home_in r 0 (unwrap_or (option_map (λ e. e.1) (find (λ e. bytes_eq e.0 r.group) gs)) [])
first_of_own r [] h once = refl
first_of_own r (g ∷ gs) h once = by (bytes_eq g.0 r.group) refl (first_of_own r gs behind (IsDistinct-tail bytes_eq g.0 (map (λ x. x.0) gs) once))
  where
    behind : AreOwn gs ≡ true
    behind = and_right (list_all (is_in g.0) g.1) (AreOwn gs) h

    by : (b : Bool) → bytes_eq g.0 r.group ≡ b → first_home r gs ≡ home_in r 0 (unwrap_or (option_map (λ e. e.1) (find (λ e. bytes_eq e.0 r.group) gs)) []) → option_or (home_in r 0 g.1) (first_home r gs) ≡ home_in r 0 (unwrap_or (option_map (λ e. e.1) (cond b (Some g) (find (λ e. bytes_eq e.0 r.group) gs))) [])
    by true e ih =
        ap (λ (o : Option Home). option_or (home_in r 0 g.1) o) (none_of_others r g.0 gs ((bytes_eq-Decides g.0 r.group).0 e) behind (IsDistinct-head bytes_eq g.0 (map (λ x. x.0) gs) once))
        ∙ sym (none_behind (home_in r 0 g.1))
    by false e ih =
        ap (λ (o : Option Home). option_or o (first_home r gs)) (no_home r g.0 0 g.1 (and_left (list_all (is_in g.0) g.1) (AreOwn gs) h) e)
        ∙ ih

-- the home of an object is its place in the group of its name
pub found_home : (v : Service) (r : ObjRef) → AreNamed v → lookup (same_ref r) (indexed v) ≡ home_in r 0 (group_parts v r.group)
found_home v r named = lookup_groups r [] v.groups ∙ first_of_own r v.groups (own_parts v.groups (of_service v named.service).lists) named.once

-- The object, and its place.

part_of_home : (r : ObjRef) (n : ℕ) (ps : List Fixed) → option_map (λ h. h.part) (home_in r n ps) ≡ part_at r ps
part_of_home r n [] = refl
part_of_home r n (p ∷ ps) = by (same_ref r p.key) (part_of_home r (suc n) ps)
  where
    by : (b : Bool) → option_map (λ h. h.part) (home_in r (suc n) ps) ≡ part_at r ps → option_map (λ h. h.part) (cond b (Some (home p n)) (home_in r (suc n) ps)) ≡ cond b (Some p) (part_at r ps)
    by true ih = refl
    by false ih = ih

-- the place of the first, one by one
pub position_next : {X : Type 0} (t : X → Bool) (x : X) (xs : List X) → position t (x ∷ xs) ≡ cond (t x) (Some 0) (option_map suc (position t xs))
position_next {X} t x xs = by (t x)
  where
    next : (n m : ℕ) → cond (nat_lt (1 + n) (suc m)) (Some (1 + n)) None ≡ option_map suc (cond (nat_lt n m) (Some n) None)
    next n m = ap (λ (k : ℕ). cond (nat_lt k (suc m)) (Some k) None) one ∙ ap (λ (b : Bool). cond b (Some (suc n)) None) less ∙ of (nat_lt n m)
      where
        one : 1 + n ≡ suc n
        one = omega arith

        less : nat_lt (suc n) (suc m) ≡ nat_lt n m
        less = grind (arith, nat_tests)

        of : (c : Bool) → cond c (Some (suc n)) None ≡ option_map suc (cond c (Some n) None)
        of true = refl
        of false = refl

    by : (b : Bool) → cond (nat_lt (cond (not b) (1 + position_or_len t xs) 0) (suc (length xs))) (Some (cond (not b) (1 + position_or_len t xs) 0)) None ≡ cond b (Some 0) (option_map suc (position t xs))
    by true = ap (λ (b : Bool). cond b (Some 0) None) first
      where
        first : nat_lt 0 (suc (length xs)) ≡ true
        first = grind (arith, nat_tests)
    by false = next (position_or_len t xs) (length xs)

from_next : (r : ObjRef) (n : ℕ) (ps : List Fixed) → option_map (λ h. h.place) (home_in r (suc n) ps) ≡ option_map suc (option_map (λ h. h.place) (home_in r n ps))
from_next r n [] = refl
from_next r n (p ∷ ps) = by (same_ref r p.key) (from_next r (suc n) ps)
  where
    by : (b : Bool) → option_map (λ h. h.place) (home_in r (suc (suc n)) ps) ≡ option_map suc (option_map (λ h. h.place) (home_in r (suc n) ps)) → option_map (λ h. h.place) (cond b (Some (home p (suc n))) (home_in r (suc (suc n)) ps)) ≡ option_map suc (option_map (λ h. h.place) (cond b (Some (home p n)) (home_in r (suc n) ps)))
    by true ih = refl
    by false ih = ih

place_of_home : (r : ObjRef) (ps : List Fixed) → option_map (λ h. h.place) (home_in r 0 ps) ≡ place_in ps r
place_of_home r [] = refl
place_of_home r (p ∷ ps) = by (same_ref r p.key) (place_of_home r ps) ∙ sym (position_next (λ x. same_ref r x.key) p ps)
  where
    by : (b : Bool) → option_map (λ h. h.place) (home_in r 0 ps) ≡ place_in ps r → option_map (λ h. h.place) (cond b (Some (home p 0)) (home_in r 1 ps)) ≡ cond b (Some 0) (option_map suc (place_in ps r))
    by true ih = refl
    by false ih = from_next r 0 ps ∙ ap (option_map suc) ih

-- what is found in a group is there only where the group is that of the reference
in_group : (v : Service) (r : ObjRef) (g : List ℕ) → AreNamed v → home_in r 0 (group_parts v g) ≡ cond (bytes_eq r.group g) (lookup (same_ref r) (indexed v)) None
in_group v r g named = by (bytes_eq r.group g) refl
  where
    by : (b : Bool) → bytes_eq r.group g ≡ b → home_in r 0 (group_parts v g) ≡ cond b (lookup (same_ref r) (indexed v)) None
    by true e = ap (λ (m : List ℕ). home_in r 0 (group_parts v m)) (sym ((bytes_eq-Decides r.group g).0 e)) ∙ sym (found_home v r named)
    by false e = no_home r g 0 (group_parts v g) (group_parts_in v g named.service) (nat_list_eq_equiv.symm g r.group ∙ e)

in_scene : (v : Service) (r : ObjRef) (g : Option (List ℕ)) → AreNamed v → home_in r 0 (scene_parts v g) ≡ cond (same_scene g (Some r.group)) (lookup (same_ref r) (indexed v)) None
in_scene v r None named = refl
in_scene v r (Some g) named = in_group v r g named ∙ ap (λ (b : Bool). cond b (lookup (same_ref r) (indexed v)) None) (nat_list_eq_equiv.symm r.group g)

-- the part that is present
pub part_entered : (v : Service) (c : Config) (r : ObjRef) → AreNamed v → option_map (λ h. h.part) (cond (is_entered c r.group) (lookup (same_ref r) (indexed v)) None) ≡ part_at r (present v c)
part_entered v c r named =
    either (bytes_eq r.group c.app) (same_scene c.scene (Some r.group)) (lookup (same_ref r) (indexed v))
    ∙ (λ i. option_or (option_map (λ h. h.part) (sym (in_group v r c.app named) i)) (option_map (λ h. h.part) (sym (in_scene v r c.scene named) i)))
    ∙ (λ i. option_or (part_of_home r 0 (group_parts v c.app) i) (part_of_home r 0 (scene_parts v c.scene) i))
    ∙ sym (find-append (λ (p : Fixed). same_ref r p.key) (group_parts v c.app) (scene_parts v c.scene))
  where
    either : (a b : Bool) (o : Option Home) → option_map (λ h. h.part) (cond (a || b) o None) ≡ option_or (option_map (λ h. h.part) (cond a o None)) (option_map (λ h. h.part) (cond b o None))
    either true true None = refl
    either true true (Some h) = refl
    either true false None = refl
    either true false (Some h) = refl
    either false b o = refl

-- among these, which are present
pub present_found : (v : Service) (c : Config) (es : List (ObjRef × Home)) (ps qs : List Fixed) (r : ObjRef) → IsPresent v c es ps qs → (b : Bool) → b ≡ is_entered c r.group → option_map (λ h. h.part) (cond b (lookup (same_ref r) es) None) ≡ part_at r (ps ++ qs)
present_found v c es ps qs r k b is =
    (λ i. option_map (λ h. h.part) (cond (is i) (lookup (same_ref r) (k.index i)) None))
    ∙ part_entered v c r k.named
    ∙ sym (λ i. part_at r (k.application i ++ k.scene i))

-- and its place
pub place_in_group : (v : Service) (r : ObjRef) (g : List ℕ) → AreNamed v → place_in (group_parts v g) r ≡ cond (bytes_eq r.group g) (option_map (λ h. h.place) (lookup (same_ref r) (indexed v))) None
place_in_group v r g named =
    sym (place_of_home r (group_parts v g)) ∙ ap (option_map (λ h. h.place)) (in_group v r g named) ∙ by (bytes_eq r.group g)
  where
    by : (b : Bool) → option_map (λ h. h.place) (cond b (lookup (same_ref r) (indexed v)) None) ≡ cond b (option_map (λ h. h.place) (lookup (same_ref r) (indexed v))) None
    by true = refl
    by false = refl

pub place_in_scene : (v : Service) (r : ObjRef) (g : Option (List ℕ)) → AreNamed v → place_in (scene_parts v g) r ≡ cond (same_scene g (Some r.group)) (option_map (λ h. h.place) (lookup (same_ref r) (indexed v))) None
place_in_scene v r None named = refl
place_in_scene v r (Some g) named = place_in_group v r g named ∙ ap (λ (b : Bool). cond b (option_map (λ h. h.place) (lookup (same_ref r) (indexed v))) None) (nat_list_eq_equiv.symm r.group g)

-- Those that have a set.

-- groups with these alone
abbrev of_holders : List (List ℕ × List Fixed) → List (List ℕ × List Fixed)
of_holders gs = map (λ e. (e.0, holders e.1)) gs

holders_lists : (gs : List (List ℕ × List Fixed)) → map (λ e. holders e.1) gs ≡ map (λ e. e.1) (of_holders gs)
holders_lists [] = refl
holders_lists (g ∷ gs) = ap (λ (t : List (List Fixed)). holders g.1 ∷ t) (holders_lists gs)

holders_names : (gs : List (List ℕ × List Fixed)) → map (λ e. e.0) gs ≡ map (λ e. e.0) (of_holders gs)
holders_names [] = refl
holders_names (g ∷ gs) = ap (λ (t : List (List ℕ)). g.0 ∷ t) (holders_names gs)

kept_all : (p q : Fixed → Bool) (ps : List Fixed) → list_all p ps ≡ true → list_all p (filter q ps) ≡ true
kept_all p q [] h = refl
kept_all p q (x ∷ ps) h = by (q x) (kept_all p q ps (and_right (p x) (list_all p ps) h))
  where
    by : (b : Bool) → list_all p (filter q ps) ≡ true → list_all p (cond b (x ∷ filter q ps) (filter q ps)) ≡ true
    by true ih = rw (and_left (p x) (list_all p ps) h, ih) refl
    by false ih = ih

holders_own : (gs : List (List ℕ × List Fixed)) → AreOwn gs ≡ true → AreOwn (of_holders gs) ≡ true
holders_own [] h = refl
holders_own (g ∷ gs) h = rw (kept_all (is_in g.0) (λ p. is_holder p.class) g.1 (and_left (list_all (is_in g.0) g.1) (AreOwn gs) h), holders_own gs (and_right (list_all (is_in g.0) g.1) (AreOwn gs) h)) refl

holders_found : (g : List ℕ) (gs : List (List ℕ × List Fixed)) → unwrap_or (option_map (λ e. e.1) (find (λ e. bytes_eq e.0 g) (of_holders gs))) [] ≡ holders (unwrap_or (option_map (λ e. e.1) (find (λ e. bytes_eq e.0 g) gs)) [])
holders_found g [] = refl
holders_found g (e ∷ gs) = by (bytes_eq e.0 g) (holders_found g gs)
  where
    by : (b : Bool) → unwrap_or (option_map (λ x. x.1) (find (λ x. bytes_eq x.0 g) (of_holders gs))) [] ≡ holders (unwrap_or (option_map (λ x. x.1) (find (λ x. bytes_eq x.0 g) gs)) []) → unwrap_or (option_map (λ x. x.1) (cond b (Some (e.0, holders e.1)) (find (λ x. bytes_eq x.0 g) (of_holders gs)))) [] ≡ holders (unwrap_or (option_map (λ x. x.1) (cond b (Some e) (find (λ x. bytes_eq x.0 g) gs))) [])
    by true ih = refl
    by false ih = ih

-- those of each group, taken apart first
pub holders_mapped : (gs : List (List ℕ × List Fixed)) → map holders (map (λ e. e.1) gs) ≡ map (λ e. holders e.1) gs
holders_mapped [] = refl
holders_mapped (g ∷ gs) = ap (λ (t : List (List Fixed)). holders g.1 ∷ t) (holders_mapped gs)

found_holder : (v : Service) (r : ObjRef) → AreNamed v → lookup (same_ref r) (held_index v) ≡ home_in r 0 (holders (group_parts v r.group))
found_holder v r named =
    ap (λ (t : List (List Fixed)). lookup (same_ref r) (with_groups [] t)) (holders_lists v.groups)
    ∙ lookup_groups r [] (of_holders v.groups)
    ∙ first_of_own r (of_holders v.groups) (holders_own v.groups (own_parts v.groups (of_service v named.service).lists)) (subst (λ (t : List (List ℕ)). IsDistinct bytes_eq t) (holders_names v.groups) named.once)
    ∙ ap (home_in r 0) (holders_found r.group v.groups)

holder_in_group : (v : Service) (r : ObjRef) (g : List ℕ) → AreNamed v → home_in r 0 (holders (group_parts v g)) ≡ cond (bytes_eq r.group g) (lookup (same_ref r) (held_index v)) None
holder_in_group v r g named = by (bytes_eq r.group g) refl
  where
    by : (b : Bool) → bytes_eq r.group g ≡ b → home_in r 0 (holders (group_parts v g)) ≡ cond b (lookup (same_ref r) (held_index v)) None
    by true e = ap (λ (m : List ℕ). home_in r 0 (holders (group_parts v m))) (sym ((bytes_eq-Decides r.group g).0 e)) ∙ sym (found_holder v r named)
    by false e = no_home r g 0 (holders (group_parts v g)) (kept_all (is_in g) (λ p. is_holder p.class) (group_parts v g) (group_parts_in v g named.service)) (nat_list_eq_equiv.symm g r.group ∙ e)

pub holder_place : (v : Service) (r : ObjRef) (g : List ℕ) → AreNamed v → place_in (holders (group_parts v g)) r ≡ cond (bytes_eq r.group g) (option_map (λ h. h.place) (lookup (same_ref r) (held_index v))) None
holder_place v r g named =
    sym (place_of_home r (holders (group_parts v g))) ∙ ap (option_map (λ h. h.place)) (holder_in_group v r g named) ∙ by (bytes_eq r.group g)
  where
    by : (b : Bool) → option_map (λ h. h.place) (cond b (lookup (same_ref r) (held_index v)) None) ≡ cond b (option_map (λ h. h.place) (lookup (same_ref r) (held_index v))) None
    by true = refl
    by false = refl

pub holder_place_in_scene : (v : Service) (r : ObjRef) (g : Option (List ℕ)) → AreNamed v → place_in (holders (scene_parts v g)) r ≡ cond (same_scene g (Some r.group)) (option_map (λ h. h.place) (lookup (same_ref r) (held_index v))) None
holder_place_in_scene v r None named = refl
holder_place_in_scene v r (Some g) named = holder_place v r g named ∙ ap (λ (b : Bool). cond b (option_map (λ h. h.place) (lookup (same_ref r) (held_index v))) None) (nat_list_eq_equiv.symm r.group g)

-- The place among those that are present.

place_joined : (r : ObjRef) (ps qs : List Fixed) → place_in (ps ++ qs) r ≡ option_or (place_in ps r) (option_map (λ k. length ps + k) (place_in qs r))
place_joined r [] qs = by (place_in qs r)
  where
    by : (o : Option ℕ) → o ≡ option_map (λ k. 0 + k) o
    by None = refl
    by (Some k) = ap Some same
      where
        same : k ≡ 0 + k
        same = omega arith
place_joined r (p ∷ ps) qs =
    position_next (λ x. same_ref r x.key) p (ps ++ qs)
    ∙ ap (λ (o : Option ℕ). cond (same_ref r p.key) (Some 0) (option_map suc o)) (place_joined r ps qs)
    ∙ by (same_ref r p.key) (place_in ps r) (place_in qs r)
    ∙ ap (λ (o : Option ℕ). option_or o (option_map (λ k. suc (length ps) + k) (place_in qs r))) (sym (position_next (λ x. same_ref r x.key) p ps))
  where
    by : (b : Bool) (o m : Option ℕ) → cond b (Some 0) (option_map suc (option_or o (option_map (λ k. length ps + k) m))) ≡ option_or (cond b (Some 0) (option_map suc o)) (option_map (λ k. suc (length ps) + k) m)
    by true o m = refl
    by false (Some n) m = refl
    by false None None = refl
    by false None (Some k) = ap Some next
      where
        next : suc (length ps + k) ≡ suc (length ps) + k
        next = omega arith

-- in the application, or behind it in the scene
abbrev pub standing : Bool → Bool → ℕ → Option Home → Option ℕ
standing a b n None = None
standing a b n (Some h) = cond a (Some h.place) (cond b (Some (n + h.place)) None)

pub place_present : (v : Service) (c : Config) (es : List (ObjRef × Home)) (ps qs : List Fixed) (r : ObjRef) → IsPresent v c es ps qs → place_in (ps ++ qs) r ≡ standing (bytes_eq r.group c.app) (same_scene c.scene (Some r.group)) (length ps) (lookup (same_ref r) es)
place_present v c es ps qs r k =
    place_joined r ps qs
    ∙ (λ i. option_or (first i) (option_map (λ n. length ps + n) (second i)))
    ∙ by (bytes_eq r.group c.app) (same_scene c.scene (Some r.group)) (lookup (same_ref r) es)
  where
    first : place_in ps r ≡ cond (bytes_eq r.group c.app) (option_map (λ h. h.place) (lookup (same_ref r) es)) None
    first = ap (λ (xs : List Fixed). place_in xs r) k.application ∙ place_in_group v r c.app k.named ∙ ap (λ (xs : List (ObjRef × Home)). cond (bytes_eq r.group c.app) (option_map (λ h. h.place) (lookup (same_ref r) xs)) None) (sym k.index)

    second : place_in qs r ≡ cond (same_scene c.scene (Some r.group)) (option_map (λ h. h.place) (lookup (same_ref r) es)) None
    second = ap (λ (xs : List Fixed). place_in xs r) k.scene ∙ place_in_scene v r c.scene k.named ∙ ap (λ (xs : List (ObjRef × Home)). cond (same_scene c.scene (Some r.group)) (option_map (λ h. h.place) (lookup (same_ref r) xs)) None) (sym k.index)

    by : (a b : Bool) (o : Option Home) → option_or (cond a (option_map (λ h. h.place) o) None) (option_map (λ n. length ps + n) (cond b (option_map (λ h. h.place) o) None)) ≡ standing a b (length ps) o
    by true true None = refl
    by true false None = refl
    by true b (Some h) = refl
    by false true None = refl
    by false true (Some h) = refl
    by false false None = refl
    by false false (Some h) = refl

-- the same, where the tests and the home are known
pub place_given : (v : Service) (c : Config) (es : List (ObjRef × Home)) (ps qs all : List Fixed) (r : ObjRef) → IsPresent v c es ps qs → ps ++ qs ≡ all → (a b : Bool) (o : Option Home) → a ≡ bytes_eq r.group c.app → b ≡ same_scene c.scene (Some r.group) → o ≡ lookup (same_ref r) es → standing a b (length ps) o ≡ place_in all r
place_given v c es ps qs all r k whole a b o here there found =
    (λ i. standing (here i) (there i) (length ps) (found i)) ∙ sym (place_present v c es ps qs r k) ∙ ap (λ (xs : List Fixed). place_in xs r) whole

pub place_within : (v : Service) (c : Config) (es : List (ObjRef × Home)) (ps qs : List Fixed) (r : ObjRef) (h : Home) → IsPresent v c es ps qs → same_scene c.scene (Some r.group) ≡ true → lookup (same_ref r) es ≡ Some h → h.place < length qs
place_within v c es ps qs r h k is at = (position-Some (λ p. same_ref r p.key) qs h.place h.part place).0
  where
    place : place_in qs r ≡ Some h.place
    place =
        ap (λ (xs : List Fixed). place_in xs r) k.scene
        ∙ place_in_scene v r c.scene k.named
        ∙ (λ i. cond (is i) (option_map (λ x. x.place) (lookup (same_ref r) (sym k.index i))) None)
        ∙ ap (option_map (λ x. x.place)) at

-- Keys of maps.

-- as keys are compared, the same is found
pub lookup_key : {X : Type 0} (r : ObjRef) (es : List (ObjRef × X)) → lookup (same_key r) es ≡ lookup (same_ref r) es
lookup_key r [] = refl
lookup_key {X} r (e ∷ es) =
    ap (λ (b : Bool). cond b (Some e.1) (lookup (same_key r) es)) (and_comm (r.number == e.0.number) (bytes_eq r.group e.0.group))
    ∙ ap (λ (o : Option X). cond (same_ref r e.0) (Some e.1) o) (lookup_key r es)

-- what is new goes last
pub insert_last : {S : Type 0} (m : IndexMap ObjRef Home S) (k key : ObjRef) (x p : Home) → k ≡ key → x ≡ p → is_some (lookup (same_ref key) m.entries) ≡ false → insert_entry same_key m.entries k x ≡ m.entries ++ (key, p) ∷ []
insert_last m k key x p e f none =
    insert_entry-new same_key m k x (lookup_key k m.entries ∙ by (lookup (same_ref k) m.entries) (subst (λ (r : ObjRef). is_some (lookup (same_ref r) m.entries) ≡ false) (sym e) none))
    ∙ ap (λ (t : ObjRef × Home). m.entries ++ t ∷ []) (λ i. (e i, f i))
  where
    by : (o : Option Home) → is_some o ≡ false → o ≡ None
    by None h = refl
    by (Some y) h = cc
