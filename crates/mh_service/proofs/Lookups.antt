-- Looking up a name among groups, in the words of the map and in those of the service.
use Rattle.std.proofs.Common.{◌≡◌, ℕ, Bool, true, false, cond, ◌||◌, List, [], ◌∷◌, map, Some, None, refl, ap, ◌∙◌, ◌++◌, nat_eq}
use Rattle.std.specs.List.{list_any, find}
use Rattle.std.specs.Option.{option_map}
use Rattle.std.specs.Map.{lookup}
use Rattle.std.specs.Str.{bytes_eq}
use Rattle.std.specs.Cmp.Lexicographic.{pointwise, nat_list_eq_equiv}
use Rattle.indexmap.proofs.CallerLemmas.{insert_entry-new}
use Rattle.indexmap.specs.IndexMap.{IndexMap, insert_entry}

-- what no key passes is not found
pub lookup_none : {K X : Type 0} (p : K → Bool) (es : List (K × X)) → list_any p (map (λ e. e.0) es) ≡ false → lookup p es ≡ None
lookup_none p [] none = refl
lookup_none {K} {X} p (e ∷ es) none = by (p e.0) (lookup_none p es) none
  where
    by : (b : Bool) → (list_any p (map (λ (x : K × X). x.0) es) ≡ false → lookup p es ≡ None) → (b || list_any p (map (λ (x : K × X). x.0) es)) ≡ false → cond b (Some e.1) (lookup p es) ≡ None
    by true ih h = cc
    by false ih h = ih h

pub same_either_way : (a b : List ℕ) → bytes_eq a b ≡ bytes_eq b a
same_either_way a b = nat_list_eq_equiv.symm a b

-- a look-up in the map is one in the list of its groups
pub lookup_find : {X : Type 0} (name : List ℕ) (es : List (List ℕ × X)) → lookup (bytes_eq name) es ≡ option_map (λ e. e.1) (find (λ e. bytes_eq e.0 name) es)
lookup_find name [] = refl
lookup_find {X} name (e ∷ es) = by (bytes_eq name e.0) (bytes_eq e.0 name) (lookup_find name es) (same_either_way name e.0)
  where
    by : (b c : Bool) → lookup (bytes_eq name) es ≡ option_map (λ (x : List ℕ × X). x.1) (find (λ (x : List ℕ × X). bytes_eq x.0 name) es) → b ≡ c → cond b (Some e.1) (lookup (bytes_eq name) es) ≡ option_map (λ (x : List ℕ × X). x.1) (cond c (Some e) (find (λ (x : List ℕ × X). bytes_eq x.0 name) es))
    by true true ih h = refl
    by true false ih h = cc
    by false true ih h = cc
    by false false ih h = ih

-- a name that is new goes last
pub insert_new : {X S : Type 0} (m : IndexMap (List ℕ) X S) (n name : List ℕ) (x y : X) → n ≡ name → x ≡ y → list_any (bytes_eq name) (map (λ e. e.0) m.entries) ≡ false → insert_entry (pointwise nat_eq) m.entries n x ≡ m.entries ++ (name, y) ∷ []
insert_new m n name x y p q r =
    let none : list_any (bytes_eq n) (map (λ e. e.0) m.entries) ≡ false = rw p r in
    insert_entry-new (pointwise nat_eq) m n x (lookup_none (bytes_eq n) m.entries none) ∙ ap (λ e. m.entries ++ e ∷ []) (λ i. (p i, q i))
