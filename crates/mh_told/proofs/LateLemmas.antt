-- Lines that all name scenes are names of scenes.
use Rattle.std.specs.Prelude.{◌≡◌, ℕ, Bool, true, false, ◌&&◌, not, if◌then◌else◌, List, [], ◌∷◌, ◌++◌, Option, Some, None, Ok, nat_eq, refl}
use Rattle.std.specs.List.{find, list_any}
use Rattle.std.specs.Cmp.Lexicographic.{pointwise}
use Rattle.std.proofs.Common.{subst}
use Rattle.indexmap.specs.IndexSet.{insert_all, insert_key}
use Rattle.mh_base.specs.Path.{is_path}
use Rattle.mh_group.specs.Table.{is_scene}
use Rattle.mh_model.specs.Service.{Service}
use Rattle.mh_model.specs.Configuration.{is_group_of}
use Rattle.mh_told.specs.Reading.{each_once, names_no_scene, unless_no_scene}

pub all_scenes : (service : Service) (names : List (List ℕ)) → find (names_no_scene service) names ≡ None → find (λ n. not (is_group_of is_scene service n)) names ≡ None
all_scenes service [] none = refl
all_scenes service (n ∷ ns) none = by (is_path n) (is_group_of is_scene service n) none (λ h. all_scenes service ns h)
  where
    by : (p s : Bool) → (if not (p && s) then Some n else find (names_no_scene service) ns) ≡ None
        → (find (names_no_scene service) ns ≡ None → find (λ m. not (is_group_of is_scene service m)) ns ≡ None)
        → (if not s then Some n else find (λ m. not (is_group_of is_scene service m)) ns) ≡ None
    by true true h rest = rest h
    by true false h rest = cc
    by false s h rest = cc

-- names that do not pass a test, and one more
behind_none : (p : List ℕ → Bool) (keys : List (List ℕ)) (n : List ℕ) → find p keys ≡ None → p n ≡ false → find p (keys ++ n ∷ []) ≡ None
behind_none p [] n none fails = by (p n) fails
  where
    by : (b : Bool) → b ≡ false → (if b then Some n else None) ≡ None
    by true h = absurd cc
    by false h = refl
behind_none p (k ∷ ks) n none fails = by (p k) none (λ h. behind_none p ks n h fails)
  where
    by : (b : Bool) → (if b then Some k else find p ks) ≡ None → (find p ks ≡ None → find p (ks ++ n ∷ []) ≡ None) → (if b then Some k else find p (ks ++ n ∷ [])) ≡ None
    by true h rest = cc
    by false h rest = rest h

added_none : (p : List ℕ → Bool) (keys : List (List ℕ)) (n : List ℕ) → find p keys ≡ None → p n ≡ false → find p (insert_key (pointwise nat_eq) keys n) ≡ None
added_none p keys n none fails = by (list_any (pointwise nat_eq n) keys)
  where
    by : (b : Bool) → find p (if b then keys else keys ++ n ∷ []) ≡ None
    by true = none
    by false = behind_none p keys n none fails

all_added_none : (p : List ℕ → Bool) (keys names : List (List ℕ)) → find p keys ≡ None → find p names ≡ None → find p (insert_all (pointwise nat_eq) keys names) ≡ None
all_added_none p keys [] none h = none
all_added_none p keys (n ∷ ns) none h = by (p n) refl h (λ fails rest. all_added_none p (insert_key (pointwise nat_eq) keys n) ns (added_none p keys n none fails) rest)
  where
    by : (b : Bool) → p n ≡ b → (if b then Some n else find p ns) ≡ None
        → (p n ≡ false → find p ns ≡ None → find p (insert_all (pointwise nat_eq) (insert_key (pointwise nat_eq) keys n) ns) ≡ None)
        → find p (insert_all (pointwise nat_eq) (insert_key (pointwise nat_eq) keys n) ns) ≡ None
    by true e h step = cc
    by false e h step = step e h

-- the names of lines that all name scenes, each once
pub once_scenes : (service : Service) (lines names : List (List ℕ)) → unless_no_scene (find (names_no_scene service) lines) (each_once lines) ≡ Ok names → find (names_no_scene service) names ≡ None
once_scenes service lines names given = by (find (names_no_scene service) lines) refl given
  where
    by : (found : Option (List ℕ)) → find (names_no_scene service) lines ≡ found → unless_no_scene found (each_once lines) ≡ Ok names → find (names_no_scene service) names ≡ None
    by None e h =
        let same : each_once lines ≡ names = cc in
        subst (λ (ns : List (List ℕ)). find (names_no_scene service) ns ≡ None) same (all_added_none (names_no_scene service) [] lines refl e)
    by (Some line) e h = cc
