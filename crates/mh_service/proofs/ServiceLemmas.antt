-- What every service is: the parts of a group begin with the group itself, and no two of them have one key; the
-- start is an application; and what is known of each part (PartLemmas).
use Rattle.std.proofs.Common.{◌≡◌, ℕ, ◌==◌, nat_eq, Bool, true, false, cond, ◌&&◌, ◌||◌, not, List, [], ◌∷◌, ◌++◌, map, Option, Some, None, refl, ap, ◌∙◌, sym, subst}
use Rattle.std.specs.List.{list_all, list_any, find}
use Rattle.std.specs.Option.{option_map, option_map_or, option_or}
use Rattle.std.specs.Prelude.{unwrap_or, is_none}
use Rattle.std.specs.Cmp.Derive.{both_true}
use Rattle.std.specs.Str.{bytes_eq}
use Rattle.std.specs.Cmp.Lexicographic.{nat_list_eq_equiv}
use Rattle.std.proofs.lemmas.Cmp.{nat_eq_equiv}
use Rattle.std.proofs.lemmas.Slice.Eq.{bytes_eq-Decides}
use Rattle.mh_group.specs.declared.misfit.MisfitWhy.{MisfitWhy}
use Rattle.mh_group.specs.declared.misfit.MisfitWhy.TheVariants as misfit
use Rattle.mh_group.specs.declared.written.Ingredient.{Ingredient}
use Rattle.mh_group.specs.declared.written.Written.{Written}
use Rattle.mh_group.specs.Table.{is_group_class, is_application}
use Rattle.mh_group.specs.Fit.{is_group, misfit_of, fields_misfit, ingredient_misfit, ingredients_misfit, items_of}
use Rattle.mh_model.specs.declared.object.Fixed.{Fixed}
use Rattle.mh_model.specs.declared.program.Signature.{Signature}
use Rattle.mh_model.specs.Service.{Service, part_at, is_in}
use Rattle.mh_model.specs.Reference.{group_ref}
use Rattle.mh_model.specs.Configuration.{is_service, is_group_list, is_ingredient_of, has_keys, is_keyed, are_apart}
use Rattle.mh_model.proofs.ServiceLemmas.{group_parts_in}
use Rattle.mh_model.proofs.ListLemmas.{and_left, and_right, found}
use Rattle.mh_service.specs.Resolved.{parts_of, part_of, resolved, parts_under}
use Rattle.mh_service.specs.Refusals.{File, double_name, missing_start, double_number, has_double, has_double_number, over_limit, has_application, start_unfit, for_reason, refusal_before}
use Rattle.mh_service.specs.Limits.{whole_room}
use Rattle.mh_service.specs.declared.service_error.Why.TheVariants as why
use Rattle.mh_service.proofs.Lookups.{same_either_way}
use Rattle.mh_service.proofs.PartLemmas.{groups_valued, groups_sent}

-- Tests and options.

neither_true : (a b : Bool) → (a || b) ≡ false → (a ≡ false) × (b ≡ false)
neither_true true b h = cc
neither_true false b h = (refl, h)

any-append : {X : Type 0} (p : X → Bool) (xs ys : List X) → list_any p xs ≡ true → list_any p (xs ++ ys) ≡ true
any-append p [] ys h = cc
any-append {X} p (x ∷ xs) ys h = by (p x) (any-append p xs ys) h
  where
    by : (b : Bool) → (list_any p xs ≡ true → list_any p (xs ++ ys) ≡ true) → (b || list_any p xs) ≡ true → (b || list_any p (xs ++ ys)) ≡ true
    by true ih h = refl
    by false ih h = ih h

any-last : {X : Type 0} (p : X → Bool) (xs : List X) (y : X) → p y ≡ true → list_any p (xs ++ y ∷ []) ≡ true
any-last p [] y h = rw h refl
any-last {X} p (x ∷ xs) y h = by (p x) (any-last p xs y h)
  where
    by : (b : Bool) → list_any p (xs ++ y ∷ []) ≡ true → (b || list_any p (xs ++ y ∷ [])) ≡ true
    by true ih = refl
    by false ih = ih

neither : {T : Type 0} (a b : Option T) → option_or a b ≡ None → (a ≡ None) × (b ≡ None)
neither None b h = (refl, h)
neither (Some x) b h = cc

same_bytes : (xs : List ℕ) → bytes_eq xs xs ≡ true
same_bytes xs = nat_list_eq_equiv.refl xs

-- The parts of a group.

passed : {T : Type 0} (a b : Bool) (x y : T) (o : Option T) → cond a (Some x) (cond b (Some y) o) ≡ None → (a ≡ false) × (b ≡ false)
passed true b x y o h = cc
passed false true x y o h = cc
passed false false x y o h = (refl, refl)

plain_ingredient : (g : List ℕ) (i : Ingredient) → ingredient_misfit i ≡ None → is_ingredient_of g (part_of g i) ≡ true
plain_ingredient g i h =
    let two = passed _ _ _ _ _ h in
    both_true (both_true (same_bytes g) (ap not two.1)) (ap not two.0)

plain_ingredients : (g : List ℕ) (is : List Ingredient) → ingredients_misfit is ≡ None → list_all (is_ingredient_of g) (map (part_of g) is) ≡ true
plain_ingredients g [] h = refl
plain_ingredients g (i ∷ is) h =
    let two = neither (ingredient_misfit i) (ingredients_misfit is) h in
    both_true (plain_ingredient g i two.0) (plain_ingredients g is two.1)

group_class : (w : Written) → is_group w ≡ true → (is_group_class w.class ≡ true) × (ingredients_misfit (items_of w) ≡ None)
unfolding misfit_of
group_class w h = by (is_group_class w.class) (fields_misfit w.class w.fields) (ingredients_misfit (items_of w)) h
  where
    by : (b : Bool) (f r : Option MisfitWhy) → is_none (cond (not b) (Some misfit.NotAGroup) (option_or f r)) ≡ true → (b ≡ true) × (r ≡ None)
    by true None None h = (refl, refl)
    by true None (Some x) h = cc
    by true (Some y) r h = cc
    by false f r h = cc

ingredients_in : (g : List ℕ) (w : Written) → is_group w ≡ true → list_all (is_ingredient_of g) (map (part_of g) (items_of w)) ≡ true
ingredients_in g w h = plain_ingredients g (items_of w) (group_class w h).1

pub group_list : (g : List ℕ) (w : Written) → is_group w ≡ true → is_group_list g (parts_of g w) ≡ true
group_list g w h = both_true (both_true (both_true (same_bytes g) refl) (group_class w h).0) (ingredients_in g w h)

group_lists : (files : List File) → list_all (λ f. is_group f.1) files ≡ true → list_all (λ e. is_group_list e.0 e.1) (map resolved files) ≡ true
group_lists [] h = refl
group_lists (f ∷ fs) h =
    both_true (group_list f.0 f.1 (and_left (is_group f.1) (list_all (λ (g : File). is_group g.1) fs) h)) (group_lists fs (and_right (is_group f.1) (list_all (λ (g : File). is_group g.1) fs) h))

-- Their keys.

-- none of the ingredients has the key of the group
own_key : (g : List ℕ) (ps : List Fixed) → list_all (is_ingredient_of g) ps ≡ true → is_keyed (group_ref g) ps ≡ false
own_key g [] h = refl
own_key g (p ∷ ps) h =
    let first = and_left (is_ingredient_of g p) (list_all (is_ingredient_of g) ps) h in
    let numbered = and_left (bytes_eq p.key.group g && not (p.key.number == 0)) (not (is_group_class p.class)) first in
    rw (other (bytes_eq g p.key.group) (p.key.number == 0) (0 == p.key.number) (and_right (bytes_eq p.key.group g) (not (p.key.number == 0)) numbered) (nat_eq_equiv.symm p.key.number 0)) (own_key g ps (and_right (is_ingredient_of g p) (list_all (is_ingredient_of g) ps) h))
  where
    other : (b c d : Bool) → not c ≡ true → c ≡ d → (b && d) ≡ false
    other b true d h e = cc
    other true false d h e = sym e
    other false c d h e = refl

keyed_number : (g : List ℕ) (n : ℕ) (is : List Ingredient) → is_keyed (record { group = g; number = n }) (map (part_of g) is) ≡ list_any (nat_eq n) (map (λ i. i.number) is)
keyed_number g n [] = refl
keyed_number g n (i ∷ is) = rw (same_bytes g, keyed_number g n is) refl

ingredients_apart : (g : List ℕ) (is : List Ingredient) → has_double (map (λ i. i.number) is) ≡ false → are_apart (map (part_of g) is) ≡ true
ingredients_apart g [] h = refl
ingredients_apart g (i ∷ is) h =
    let two = neither_true (list_any (nat_eq i.number) (map (λ (j : Ingredient). j.number) is)) (has_double (map (λ (j : Ingredient). j.number) is)) h in
    both_true (ap not (keyed_number g i.number is ∙ two.0)) (ingredients_apart g is two.1)

pub group_apart : (g : List ℕ) (w : Written) → is_group w ≡ true → has_double_number w ≡ false → are_apart (parts_of g w) ≡ true
group_apart g w h k = both_true (ap not (own_key g (map (part_of g) (items_of w)) (ingredients_in g w h))) (ingredients_apart g (items_of w) k)

groups_apart : (files : List File) → list_all (λ f. is_group f.1) files ≡ true → double_number files ≡ None → list_all (λ e. are_apart e.1) (map resolved files) ≡ true
groups_apart [] h k = refl
groups_apart (f ∷ fs) h k =
    let two = by (has_double_number f.1) k in
    both_true (group_apart f.0 f.1 (and_left (is_group f.1) (list_all (λ (g : File). is_group g.1) fs) h) two.0) (groups_apart fs (and_right (is_group f.1) (list_all (λ (g : File). is_group g.1) fs) h) two.1)
  where
    by : (b : Bool) → option_map (λ (g : File). g.0) (cond b (Some f) (find (λ (g : File). has_double_number g.1) fs)) ≡ None → (b ≡ false) × (double_number fs ≡ None)
    by true h = cc
    by false h = (refl, h)

-- the parts of a group that is found
pub apart_under : (s : Service) (name : List ℕ) (ps : List Fixed) → has_keys s ≡ true → parts_under name s.groups ≡ Some ps → are_apart ps ≡ true
unfolding has_keys
apart_under s name ps h e = by (find (λ (x : List ℕ × List Fixed). bytes_eq x.0 name) s.groups) refl e
  where
    by : (m : Option (List ℕ × List Fixed)) → find (λ (x : List ℕ × List Fixed). bytes_eq x.0 name) s.groups ≡ m → option_map (λ (x : List ℕ × List Fixed). x.1) m ≡ Some ps → are_apart ps ≡ true
    by None is e = cc
    by (Some x) is e =
        let same : x.1 ≡ ps = ap (λ (m : Option (List Fixed)). option_map_or (λ (t : List Fixed). t) m ps) e in
        let hit = found (λ (x : List ℕ × List Fixed). bytes_eq x.0 name) (λ (x : List ℕ × List Fixed). are_apart x.1) s.groups x h is in
        subst (λ (t : List Fixed). are_apart t ≡ true) same hit.1

pub own_under : (s : Service) (name : List ℕ) (ps : List Fixed) → is_service s ≡ true → parts_under name s.groups ≡ Some ps → list_all (is_in name) ps ≡ true
own_under s name ps h e =
    subst (λ (m : Option (List Fixed)). list_all (is_in name) (unwrap_or m []) ≡ true) e (group_parts_in s name h)

-- The start.

-- a name that came before comes in none of these files
none_again : (p : File → Bool) (name : List ℕ) (seen : List (List ℕ)) (files : List File) → double_name seen files ≡ None → list_any (bytes_eq name) seen ≡ true → list_any (λ f. bytes_eq f.0 name && p f) files ≡ false
none_again p name seen [] h k = refl
none_again p name seen (f ∷ fs) h k = by (bytes_eq f.0 name) refl (list_any (bytes_eq f.0) seen) refl h (λ h. none_again p name (seen ++ f.0 ∷ []) fs h (any-append (bytes_eq name) seen (f.0 ∷ []) k))
  where
    by : (b : Bool) → bytes_eq f.0 name ≡ b → (c : Bool) → list_any (bytes_eq f.0) seen ≡ c → cond c (Some f.0) (double_name (seen ++ f.0 ∷ []) fs) ≡ None → (double_name (seen ++ f.0 ∷ []) fs ≡ None → list_any (λ (g : File). bytes_eq g.0 name && p g) fs ≡ false) → ((b && p f) || list_any (λ (g : File). bytes_eq g.0 name && p g) fs) ≡ false
    by true e true d h ih = cc
    by true e false d h ih =
        let same : f.0 ≡ name = (bytes_eq-Decides f.0 name).0 e in
        let seen_name : list_any (bytes_eq name) seen ≡ false = subst (λ (n : List ℕ). list_any (bytes_eq n) seen ≡ false) same d in
        cc
    by false e true d h ih = cc
    by false e false d h ih = ih h

-- the first entry under the name is that of the application
start_is : (name : List ℕ) (seen : List (List ℕ)) (files : List File) → double_name seen files ≡ None → has_application name files ≡ true → option_map_or (λ p. is_application p.class) (part_at (group_ref name) (unwrap_or (option_map (λ e. e.1) (find (λ e. bytes_eq e.0 name) (map resolved files))) [])) false ≡ true
start_is name seen [] h k = cc
start_is name seen (f ∷ fs) h k = by (bytes_eq f.0 name) refl (list_any (bytes_eq f.0) seen) h k (λ h k. start_is name (seen ++ f.0 ∷ []) fs h k)
  where
    first : (b : Bool) → bytes_eq f.0 name ≡ true → double_name (seen ++ f.0 ∷ []) fs ≡ None → is_application f.1.class ≡ b → (b || list_any (λ (g : File). bytes_eq g.0 name && is_application g.1.class) fs) ≡ true → is_application f.1.class ≡ true
    first true e h d k = d
    first false e h d k =
        let same : f.0 ≡ name = (bytes_eq-Decides f.0 name).0 e in
        let seen_name : list_any (bytes_eq name) (seen ++ f.0 ∷ []) ≡ true = any-last (bytes_eq name) seen f.0 (subst (λ (n : List ℕ). bytes_eq name n ≡ true) (sym same) (same_bytes name)) in
        let none = none_again (λ (g : File). is_application g.1.class) name (seen ++ f.0 ∷ []) fs h seen_name in
        cc

    by : (b : Bool) → bytes_eq f.0 name ≡ b → (c : Bool) → cond c (Some f.0) (double_name (seen ++ f.0 ∷ []) fs) ≡ None → ((b && is_application f.1.class) || list_any (λ (g : File). bytes_eq g.0 name && is_application g.1.class) fs) ≡ true → (double_name (seen ++ f.0 ∷ []) fs ≡ None → list_any (λ (g : File). bytes_eq g.0 name && is_application g.1.class) fs ≡ true → option_map_or (λ (p : Fixed). is_application p.class) (part_at (group_ref name) (unwrap_or (option_map (λ (e : List ℕ × List Fixed). e.1) (find (λ (e : List ℕ × List Fixed). bytes_eq e.0 name) (map resolved fs))) [])) false ≡ true) → option_map_or (λ (p : Fixed). is_application p.class) (part_at (group_ref name) (unwrap_or (option_map (λ (e : List ℕ × List Fixed). e.1) (cond b (Some (resolved f)) (find (λ (e : List ℕ × List Fixed). bytes_eq e.0 name) (map resolved fs)))) [])) false ≡ true
    by b e true h k ih = cc
    by true e false h k ih = rw (same_either_way name f.0 ∙ e) (first (is_application f.1.class) e h refl k)
    by false e false h k ih = ih h k

-- what is looked for before the references does not stand
unrefused : (a b c d e : Option (List ℕ)) → option_or (for_reason why.DoubleName a) (option_or (for_reason why.NoStart b) (option_or (for_reason why.DoubleNumber c) (option_or (for_reason why.NotAnApplication d) (for_reason why.Limit e)))) ≡ None → (a ≡ None) × (c ≡ None) × (d ≡ None)
unrefused None None None None e h = (refl, refl, refl)
unrefused (Some x) b c d e h = cc
unrefused None (Some x) c d e h = cc
unrefused None None (Some x) d e h = cc
unrefused None None None (Some x) e h = cc

unrefused_files : (start : List ℕ) (files : List File) → refusal_before start files ≡ None → (double_name [] files ≡ None) × (double_number files ≡ None) × (start_unfit start files ≡ None)
unrefused_files start files good = unrefused (double_name [] files) (missing_start start files) (double_number files) (start_unfit start files) (over_limit whole_room files) good

-- The groups of files that are not refused, with their start.

pub is_service_of : (start : List ℕ) (files : List File) (ps : List Signature) (fs : List File) (ls : List (List ℕ)) → list_all (λ f. is_group f.1) files ≡ true → refusal_before start files ≡ None → is_service (record { groups = map resolved files; start = start; programs = ps; files = fs; late = ls }) ≡ true
unfolding is_service
is_service_of start files ps fs ls groups good =
    let none = unrefused_files start files good in
    let begun = start_is start [] files none.0 (fits (has_application start files) none.2) in
    both_true (both_true (both_true (group_lists files groups) begun) (groups_valued files groups)) (groups_sent files groups)
  where
    fits : (b : Bool) → cond b None (Some start) ≡ None → b ≡ true
    fits true h = refl
    fits false h = cc

pub has_keys_of : (start : List ℕ) (files : List File) (ps : List Signature) (fs : List File) (ls : List (List ℕ)) → list_all (λ f. is_group f.1) files ≡ true → refusal_before start files ≡ None → has_keys (record { groups = map resolved files; start = start; programs = ps; files = fs; late = ls }) ≡ true
unfolding has_keys
has_keys_of start files ps fs ls groups good = groups_apart files groups (unrefused_files start files good).1
