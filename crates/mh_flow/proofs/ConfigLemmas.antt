-- Configurations: when two are the same, and which are among a list.
use Rattle.std.proofs.Common.{◌≡◌, ◌⊎◌, inl, inr, ℕ, Bool, true, false, ◌||◌, List, [], ◌∷◌, ◌++◌, Option, Some, None, refl, ap, sym, subst}
use Rattle.std.specs.List.{Contains}
use Rattle.std.specs.Str.{bytes_eq}
use Rattle.std.specs.Cmp.Lexicographic.{nat_list_eq_equiv}
use Rattle.std.proofs.lemmas.Slice.Eq.{bytes_eq-Decides}
use Rattle.mh_model.specs.declared.config.Config.{Config}
use Rattle.mh_model.specs.Configuration.{same_scene, same_config, is_among}
use Rattle.mh_flow.proofs.ContainsLemmas.{both, halves, no_member, here, behind, first_or_behind}

same_bytes : (xs : List ℕ) → bytes_eq xs xs ≡ true
same_bytes xs = nat_list_eq_equiv.refl xs

scene_is : (a b : Option (List ℕ)) → same_scene a b ≡ true → a ≡ b
scene_is None None h = refl
scene_is (Some g) (Some h) e = ap Some ((bytes_eq-Decides g h).0 e)
scene_is None (Some h) e = cc
scene_is (Some g) None e = cc

scene_itself : (a : Option (List ℕ)) → same_scene a a ≡ true
scene_itself None = refl
scene_itself (Some g) = same_bytes g

pub config_is : (c d : Config) → same_config c d ≡ true → c ≡ d
config_is c d h =
    let two = halves (bytes_eq c.app d.app) (same_scene c.scene d.scene) h in
    let app : c.app ≡ d.app = (bytes_eq-Decides c.app d.app).0 two.0 in
    let scene : c.scene ≡ d.scene = scene_is c.scene d.scene two.1 in
    λ i. record { app = app i; scene = scene i }

pub config_itself : (c : Config) → same_config c c ≡ true
config_itself c = both (bytes_eq c.app c.app) (same_scene c.scene c.scene) (same_bytes c.app) (scene_itself c.scene)

-- what is among them by the test is a member

pub member_of : (cs : List Config) (c : Config) → is_among cs c ≡ true → Contains cs c
member_of [] c h = cc
member_of (d ∷ cs) c h = by (same_config c d) refl h (member_of cs c)
  where
    by : (b : Bool) → same_config c d ≡ b → (b || is_among cs c) ≡ true → (is_among cs c ≡ true → Contains cs c) → Contains (d ∷ cs) c
    by true e h ih = subst (λ (x : Config). Contains (d ∷ cs) x) (sym (config_is c d e)) (here d cs)
    by false e h ih = behind d cs c (ih h)

pub among_of : (cs : List Config) (c : Config) → Contains cs c → is_among cs c ≡ true
among_of [] c m = absurd (no_member c m)
among_of (d ∷ cs) c m = by (same_config c d) refl (first_or_behind d cs c m) (among_of cs c)
  where
    by : (b : Bool) → same_config c d ≡ b → (d ≡ c) ⊎ Contains cs c → (Contains cs c → is_among cs c ≡ true) → (b || is_among cs c) ≡ true
    by true e m ih = refl
    by false e (inl same) ih = let itself = subst (λ (x : Config). same_config c x ≡ true) (sym same) (config_itself c) in cc
    by false e (inr k) ih = ih k

pub among_append : (xs ys : List Config) (c : Config) → is_among (xs ++ ys) c ≡ (is_among xs c || is_among ys c)
among_append [] ys c = refl
among_append (x ∷ xs) ys c = by (same_config c x) (among_append xs ys c)
  where
    by : (b : Bool) → is_among (xs ++ ys) c ≡ (is_among xs c || is_among ys c) → (b || is_among (xs ++ ys) c) ≡ ((b || is_among xs c) || is_among ys c)
    by true ih = refl
    by false ih = ih
