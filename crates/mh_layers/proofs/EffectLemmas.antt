-- Effects by their numbers, and the numbers of their first actions.
use Rattle.std.specs.Prelude.{◌≡◌, ◌<◌, ◌+◌, ℕ, zero, suc, true, List, [], ◌∷◌, ◌++◌, length, map, take, get_or, slice_get, is_some, min, Option, Some, None, refl}
use Rattle.std.specs.List.{flat_map}
use Rattle.std.specs.Option.{option_map, option_map_or, option_or}
use Rattle.std.proofs.Common.{arith, ap, ◌∙◌, append-nil, length-append, subst, sym}
use Rattle.std.proofs.lemmas.List.Folds.{find-append}
use Rattle.std.proofs.lemmas.Slice.Eq.{bytes_eq-Decides}
use Rattle.std.proofs.Math.Nat.{min-zero, suc-min-suc, zero-min}
use Rattle.mh_base.specs.declared.obj_ref.ObjRef.{ObjRef}
use Rattle.mh_model.specs.declared.act.Act.{Act}
use Rattle.mh_model.specs.declared.config.Config.{Config}
use Rattle.mh_model.specs.declared.object.Fixed.{Fixed}
use Rattle.mh_model.specs.Configuration.{has_keys, is_service, present, scene_parts}
use Rattle.mh_model.specs.Reference.{same_ref}
use Rattle.mh_model.specs.Service.{Service, group_parts, is_in, part_at}
use Rattle.mh_model.proofs.ListLemmas.{found}
use Rattle.mh_model.proofs.ServiceLemmas.{group_parts_in, same_ref-same}
use Rattle.mh_flow.proofs.PlaceLemmas.{get_member}
use Rattle.mh_flow.proofs.PresentLemmas.{own_found}
use Rattle.mh_laws.specs.Costs.{effect_at, effects}
use Rattle.mh_layers.specs.declared.numbered_node.NumberedNode.{NumberedNode}
use Rattle.mh_layers.specs.Applied.{number_in}
use Rattle.mh_layers.specs.NumberedEffects.{effects_at, first_numbers}
use Rattle.mh_layers.specs.Reading.{Reading, has_object, no_object, object_named}

-- THE NUMBERS OF FIRST ACTIONS

abbrev all_acts : List (List Act) → List Act
all_acts xs = flat_map (λ (e : List Act). e) xs

pub numbers_length : (xs : List (List Act)) (n : ℕ) → length (first_numbers n xs) ≡ suc (length xs)
numbers_length [] n = refl
numbers_length (x ∷ xs) n = ap suc (numbers_length xs (n + length x))

-- so many stand before the effect with a number, and before what is behind all
pub number_at : (xs : List (List Act)) (n k d : ℕ) → get_or (first_numbers n xs) (min k (length xs)) d ≡ n + length (flat_map (λ (e : List Act). e) (take k xs))
number_at [] n zero d = omega arith
number_at [] n (suc k) d =
    let same : n ≡ n + 0 = omega arith in
    ap (λ (m : ℕ). get_or (n ∷ []) m d) (min-zero (suc k)) ∙ same
number_at (x ∷ xs) n zero d =
    let same : n ≡ n + 0 = omega arith in
    ap (λ (m : ℕ). get_or (first_numbers n (x ∷ xs)) m d) (zero-min (suc (length xs))) ∙ same
number_at (x ∷ xs) n (suc k) d =
    let both = length-append x (all_acts (take k xs)) in
    let same : n + length x + length (all_acts (take k xs)) ≡ n + length (x ++ all_acts (take k xs)) = omega (arith, both) in
    ap (λ (m : ℕ). get_or (first_numbers n (x ∷ xs)) m d) (suc-min-suc k (length xs)) ∙ number_at xs (n + length x) k d ∙ same

-- an effect with actions is one of these
pub number_within : (xs : List (List Act)) (n k : ℕ) → k < length (get_or xs n []) → n < length xs
number_within [] zero k less = absurd (omega (arith, less))
number_within [] (suc n) k less = absurd (omega (arith, less))
number_within (x ∷ xs) zero k less = omega arith
number_within (x ∷ xs) (suc n) k less = let ih = number_within xs n k less in omega (arith, ih)

acts_next : (xs : List (List Act)) (n : ℕ) → length (all_acts (take (suc n) xs)) ≡ length (all_acts (take n xs)) + length (get_or xs n [])
acts_next [] zero = refl
acts_next [] (suc n) = refl
acts_next (x ∷ xs) zero = let e : length (x ++ []) ≡ length x = ap length (append-nil x) in omega (arith, e)
acts_next (x ∷ xs) (suc n) =
    let ih = acts_next xs n in
    let a = length-append x (all_acts (take (suc n) xs)) in
    let b = length-append x (all_acts (take n xs)) in
    omega (arith, ih, a, b)

-- with one more effect there are its actions more
pub acts_more : (xs : List (List Act)) (n m : ℕ) → m ≡ suc (length (flat_map (λ (e : List Act). e) (take n xs))) → m + length (get_or xs n []) ≡ suc (length (flat_map (λ (e : List Act). e) (take (n + 1) xs)))
acts_more xs n m is =
    let one : suc n ≡ n + 1 = omega arith in
    let next : length (all_acts (take (n + 1) xs)) ≡ length (all_acts (take n xs)) + length (get_or xs n []) = subst (λ (k : ℕ). length (all_acts (take k xs)) ≡ length (all_acts (take n xs)) + length (get_or xs n [])) one (acts_next xs n) in
    omega (arith, is, next)

-- THE OBJECT OF A NUMBER

-- what is found in a group is found in the group that its reference names
found_own : (v : Service) (g : List ℕ) (r : ObjRef) (p : Fixed) → is_service v ≡ true → part_at r (group_parts v g) ≡ Some p → part_at r (group_parts v r.group) ≡ Some p
found_own v g r p good f =
    let hit = found (λ (x : Fixed). same_ref r x.key) (is_in g) (group_parts v g) p (group_parts_in v g good) f in
    let key : r ≡ p.key = same_ref-same r p.key hit.0 in
    let named : p.key.group ≡ g = (bytes_eq-Decides p.key.group g).0 hit.1 in
    let one : r.group ≡ g = ap (λ (q : ObjRef). q.group) key ∙ named in
    ap (λ (x : List ℕ). part_at r (group_parts v x)) one ∙ f

-- what is present at a reference is what the service has there
pub present_own : (v : Service) (c : Config) (r : ObjRef) (p : Fixed) → is_service v ≡ true → part_at r (present v c) ≡ Some p → part_at r (group_parts v r.group) ≡ Some p
present_own v c r p good at =
    by (part_at r (group_parts v c.app)) refl (sym (find-append (λ (x : Fixed). same_ref r x.key) (group_parts v c.app) (scene_parts v c.scene)) ∙ at)
  where
    in_scene : (scene : Option (List ℕ)) → part_at r (scene_parts v scene) ≡ Some p → part_at r (group_parts v r.group) ≡ Some p
    in_scene None e = absurd cc
    in_scene (Some g) e = found_own v g r p good e

    by : (m : Option Fixed) → part_at r (group_parts v c.app) ≡ m → option_or m (part_at r (scene_parts v c.scene)) ≡ Some p → part_at r (group_parts v r.group) ≡ Some p
    by (Some q) e f = found_own v c.app r p good (e ∙ f)
    by None e f = in_scene c.scene f

-- so are its effects
pub effects_own : (v : Service) (c : Config) (r : ObjRef) (p : Fixed) → is_service v ≡ true → part_at r (present v c) ≡ Some p → effects_at v r ≡ effects p
effects_own v c r p good at = ap (λ (o : Option Fixed). option_map_or effects o []) (present_own v c r p good at)

-- ROWS

-- each object that has a number has a row, of its effects
pub row_at : (v : Service) (r : Reading) (n : ℕ) → has_object r n ≡ true → slice_get (map (effects_at v) r.listeners.objects) n ≡ Some (effects_at v (object_named r n))
row_at v r n there = by r.listeners.objects n (no_object r.listeners.objects) there
  where
    by : (os : List ObjRef) (k : ℕ) (d : ObjRef) → is_some (slice_get os k) ≡ true → slice_get (map (effects_at v) os) k ≡ Some (effects_at v (get_or os k d))
    by [] zero d e = absurd cc
    by [] (suc k) d e = absurd cc
    by (o ∷ os) zero d e = refl
    by (o ∷ os) (suc k) d e = by os k d e

-- what was mapped and stands at a place
pub got_mapped : {X Y : Type 0} (f : X → Y) (xs : List X) (n : ℕ) (x : X) (d : Y) → n < length xs → x ≡ get_or xs n x → f x ≡ get_or (map f xs) n d
got_mapped f [] n x d less e = absurd (omega (arith, less))
got_mapped f (y ∷ xs) zero x d less e = ap f e
got_mapped f (y ∷ xs) (suc n) x d less e = got_mapped f xs n x d (omega (arith, less)) e

-- EFFECTS THAT ARE THERE

-- what is asked of the effects of an object, if it is there
pub asked_there : {A : Type 0} (f : List (List Act) → A) (o : Option Fixed) (d : A) → option_map_or f (option_map effects o) d ≡ option_map_or (λ (p : Fixed). f (effects p)) o d
asked_there f None d = refl
asked_there f (Some p) d = refl

-- the actions of an effect, where these are the effects of its object
pub acts_named : (k : NumberedNode) (p : Fixed) (es : List (List Act)) (n : ℕ) (acts : List Act) → es ≡ effects p → n ≡ number_in k → acts ≡ get_or es n [] → acts ≡ effect_at p (number_in k)
acts_named k p es n acts own number are = are ∙ (λ i. get_or (own i) (number i) [])

-- what stands in its group under the reference of an object is what the service has there
pub own_at : (v : Service) (r : ObjRef) (i : ℕ) (p : Fixed) → has_keys v ≡ true → slice_get (group_parts v r.group) i ≡ Some p → same_ref r p.key ≡ true → part_at r (group_parts v r.group) ≡ Some p
own_at v r i p keys at is =
    let among = get_member (group_parts v r.group) i p at in
    let found : part_at p.key (group_parts v r.group ++ []) ≡ Some p = own_found v (record { app = r.group; scene = None }) p keys among in
    subst (λ (x : ObjRef). part_at x (group_parts v r.group) ≡ Some p) (sym (same_ref-same r p.key is))
    (subst (λ (ps : List Fixed). part_at p.key ps ≡ Some p) (append-nil (group_parts v r.group)) found)
