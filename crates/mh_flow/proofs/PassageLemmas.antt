-- What an application's objects take along from one configuration to another: their sets stand side by side.
use Rattle.std.specs.Prelude.{◌≡◌, ◌⊎◌, ℕ, zero, suc, ◌+◌, ◌-◌, ◌<◌, ◌≤◌, Bool, true, false, ◌&&◌, not, nat_lt, cond, if◌then◌else◌, List, [], ◌∷◌, ◌++◌, length, slice_get, Option, Some, None, refl}
use Rattle.std.specs.List.{Contains}
use Rattle.std.specs.Option.{option_map, option_or}
use Rattle.std.proofs.Common.{ap, ◌∙◌, sym, subst, arith, inl, inr}
use Rattle.std.proofs.lemmas.Bool.{ltb-true, ltb-false}
use Rattle.std.proofs.lemmas.Option.{slice_get_within}
use Rattle.mh_base.specs.declared.obj_ref.ObjRef.{ObjRef}
use Rattle.mh_model.specs.declared.config.Config.{Config}
use Rattle.mh_model.specs.declared.object.Fixed.{Fixed}
use Rattle.mh_model.specs.Configuration.{are_apart, is_keyed, scene_parts}
use Rattle.mh_model.specs.Reference.{same_ref}
use Rattle.mh_model.specs.Service.{Service, group_parts}
use Rattle.mh_model.proofs.ListLemmas.{some_same}
use Rattle.mh_laws.specs.Flow.{is_holder}
use Rattle.mh_flow.specs.declared.chart.Bases.{Bases}
use Rattle.mh_flow.specs.declared.chart.Set.{Set}
use Rattle.mh_flow.specs.declared.chart.Set.TheVariants as set
use Rattle.mh_flow.specs.declared.fixpoint.constraints.Item.{Item}
use Rattle.mh_flow.specs.declared.fixpoint.constraints.Item.TheVariants as item
use Rattle.mh_flow.specs.Chart.{Chart, IsChart, node_from}
use Rattle.mh_flow.specs.Index.{holders}
use Rattle.mh_flow.specs.Opening.{side_by_side, smaller, taken_along}
use Rattle.mh_flow.proofs.ContainsLemmas.{both, halves, no_member, here, behind, first_or_behind}
use Rattle.mh_flow.proofs.LikelyLemmas.{apart_place}
use Rattle.mh_flow.proofs.NumberLemmas.{IsAt, IsSetOf, holders_joined, is_set_of, node_sum, place_of_key}
use Rattle.mh_flow.proofs.PlaceLemmas.{any_member, get_left, get_member, member_any, member_get, place, place_joined, position_place}
use Rattle.mh_flow.proofs.PresentLemmas.{group_apart, passing, passing_from, same_itself}
use Rattle.mh_flow.proofs.SiteLemmas as sites

-- Edges side by side

below_smaller : (n a b : ℕ) → n < smaller a b → (n < a) × (n < b)
below_smaller n a b less = by (nat_lt a b) refl less
  where
    by : (t : Bool) → nat_lt a b ≡ t → n < (if t then a else b) → (n < a) × (n < b)
    by true e h = let more : a < b = ltb-true a b e in (h, omega (arith, h, more))
    by false e h = let more : b ≤ a = ltb-false a b e in (omega (arith, h, more), h)

smaller_than : (n a b : ℕ) → n < a → n < b → n < smaller a b
smaller_than n a b left right = by (nat_lt a b)
  where
    by : (t : Bool) → n < (if t then a else b)
    by true = left
    by false = right

pub side_next : (u w n j : ℕ) (xs : List Item) → j < n → (xs ++ item.Edge (u + j) (w + j) ∷ []) ++ side_by_side (u + (j + 1)) (w + (j + 1)) (n - (j + 1)) ≡ xs ++ side_by_side (u + j) (w + j) (n - j)
side_next u w n j xs less =
    let left : n - j ≡ suc (n - (j + 1)) = omega (arith, less) in
    let first : u + (j + 1) ≡ suc (u + j) = omega arith in
    let second : w + (j + 1) ≡ suc (w + j) = omega arith in
    sites.behind xs (item.Edge (u + j) (w + j) ∷ []) (side_by_side (u + (j + 1)) (w + (j + 1)) (n - (j + 1)))
    ∙ (λ i. xs ++ item.Edge (u + j) (w + j) ∷ side_by_side (first i) (second i) (n - (j + 1)))
    ∙ ap (λ (m : ℕ). xs ++ side_by_side (u + j) (w + j) m) (sym left)

pub side_ended : (u w n j : ℕ) (xs : List Item) → n ≤ j → xs ++ side_by_side (u + j) (w + j) (n - j) ≡ xs
side_ended u w n j xs past =
    let none : n - j ≡ 0 = omega (arith, past) in
    ap (λ (m : ℕ). xs ++ side_by_side (u + j) (w + j) m) none ∙ no_more xs
  where
    no_more : (ys : List Item) → ys ++ [] ≡ ys
    no_more [] = refl
    no_more (y ∷ ys) = ap (λ (t : List Item). y ∷ t) (no_more ys)

-- which of them it is
pub record IsBeside (u w n : ℕ) (x : Item) : Type 0 where
  pub place : ℕ
  pub within : place < n
  pub edge : x ≡ item.Edge (u + place) (w + place)

from_side : (u w n : ℕ) (x : Item) → Contains (side_by_side u w n) x → IsBeside u w n x
from_side u w zero x m = absurd (no_member x m)
from_side u w (suc n) x m = by (first_or_behind (item.Edge u w) (side_by_side (suc u) (suc w) n) x m) (from_side (suc u) (suc w) n x)
  where
    further : IsBeside (suc u) (suc w) n x → IsBeside u w (suc n) x
    further ih =
        let first : suc u + ih.place ≡ u + suc ih.place = omega arith in
        let second : suc w + ih.place ≡ w + suc ih.place = omega arith in
        record { place = suc ih.place; within = omega (arith, ih.within); edge = ih.edge ∙ (λ i. item.Edge (first i) (second i)) }

    by : (item.Edge u w ≡ x) ⊎ Contains (side_by_side (suc u) (suc w) n) x → (Contains (side_by_side (suc u) (suc w) n) x → IsBeside (suc u) (suc w) n x) → IsBeside u w (suc n) x
    by (inl same) ih =
        let first : u ≡ u + 0 = omega arith in
        let second : w ≡ w + 0 = omega arith in
        record { place = 0; within = omega arith; edge = sym same ∙ (λ i. item.Edge (first i) (second i)) }
    by (inr k) ih = further (ih k)

in_side : (u w n j : ℕ) → j < n → Contains (side_by_side u w n) (item.Edge (u + j) (w + j))
in_side u w zero j less = absurd (omega (arith, less))
in_side u w (suc n) zero less =
    let first : u ≡ u + 0 = omega arith in
    let second : w ≡ w + 0 = omega arith in
    subst (λ (x : Item). Contains (side_by_side u w (suc n)) x) (λ i. item.Edge (first i) (second i)) (here (item.Edge u w) (side_by_side (suc u) (suc w) n))
in_side u w (suc n) (suc j) less =
    let first : suc u + j ≡ u + suc j = omega arith in
    let second : suc w + j ≡ w + suc j = omega arith in
    subst (λ (x : Item). Contains (side_by_side u w (suc n)) x) (λ i. item.Edge (first i) (second i))
    (behind (item.Edge u w) (side_by_side (suc u) (suc w) n) (item.Edge (suc u + j) (suc w + j)) (in_side (suc u) (suc w) n j (omega (arith, less))))

-- The sets of an application's objects

holders_keyed : (r : ObjRef) (ps : List Fixed) → is_keyed r (holders ps) ≡ true → is_keyed r ps ≡ true
holders_keyed r ps e =
    let some = member_any (λ (p : Fixed). same_ref r p.key) (holders ps) e in
    any_member (λ (p : Fixed). same_ref r p.key) ps some.0 some.1 (passing_from (λ (p : Fixed). is_holder p.class) ps some.0 some.2).1

holders_unkeyed : (r : ObjRef) (ps : List Fixed) → not (is_keyed r ps) ≡ true → not (is_keyed r (holders ps)) ≡ true
holders_unkeyed r ps none = by (is_keyed r (holders ps)) refl
  where
    by : (b : Bool) → is_keyed r (holders ps) ≡ b → not b ≡ true
    by false e = refl
    by true e = let never : not true ≡ true = subst (λ (t : Bool). not t ≡ true) (holders_keyed r ps e) none in never

holders_apart : (ps : List Fixed) → are_apart ps ≡ true → are_apart (holders ps) ≡ true
holders_apart [] e = refl
holders_apart (p ∷ ps) e =
    let two = halves (not (is_keyed p.key ps)) (are_apart ps) e in
    by (is_holder p.class) two.0 (holders_apart ps two.1)
  where
    by : (b : Bool) → not (is_keyed p.key ps) ≡ true → are_apart (holders ps) ≡ true → are_apart (cond b (p ∷ holders ps) (holders ps)) ≡ true
    by true none ih = both (not (is_keyed p.key (holders ps))) (are_apart (holders ps)) (holders_unkeyed p.key ps none) ih
    by false none ih = ih

own_node : (v : Service) (ch : Chart) (k : ℕ) (c : Config) (b : Bases) (j : ℕ) (p : Fixed) → IsChart v ch → IsAt ch k c b → slice_get (holders (group_parts v c.app)) j ≡ Some p → node_from v c p.key b ≡ Some (b.application + j)
own_node v ch k c b j p is at own = node_sum v ch k c b p.key is at ∙ ap (option_map (λ (i : ℕ). b.application + i)) there
  where
    key : Fixed → Bool
    key q = same_ref p.key q.key

    first : place key (holders (group_parts v c.app)) ≡ Some j
    first =
        sym (position_place key (holders (group_parts v c.app)))
        ∙ apart_place p.key (holders (group_parts v c.app)) j p (holders_apart (group_parts v c.app) (group_apart v c.app is.keys)) own (same_itself p.key)

    there : place_of_key v c p.key ≡ Some j
    there =
        ap (place key) (holders_joined v c)
        ∙ place_joined key (holders (group_parts v c.app)) (holders (scene_parts v c.scene))
        ∙ ap (λ (o : Option ℕ). option_or o (option_map (λ (i : ℕ). length (holders (group_parts v c.app)) + i) (place key (holders (scene_parts v c.scene))))) first

stands_at : (xs : List Fixed) (j : ℕ) → j < length xs → (x : Fixed) × (slice_get xs j ≡ Some x)
stands_at [] j less = absurd (omega (arith, less))
stands_at (x ∷ xs) zero less = (x, refl)
stands_at (x ∷ xs) (suc j) less = stands_at xs j (omega (arith, less))

-- the object of an application that has the set with this number
own_part : (v : Service) (ch : Chart) (k : ℕ) (c : Config) (b : Bases) (j : ℕ) → IsChart v ch → IsAt ch k c b → j < b.scene - b.application → (p : Fixed) × (slice_get (holders (group_parts v c.app)) j ≡ Some p)
own_part v ch k c b j is at less =
    let scene = (is_set_of v ch k c b is at).scene in
    stands_at (holders (group_parts v c.app)) j (omega (arith, less, scene))

own_within : (v : Service) (ch : Chart) (k : ℕ) (c : Config) (b : Bases) (j : ℕ) → IsChart v ch → IsAt ch k c b → j < b.scene - b.application → b.application + j < length ch.sets
own_within v ch k c b j is at less =
    let part = own_part v ch k c b j is at less in
    let whole = ap (λ (ps : List Fixed). slice_get ps j) (holders_joined v c) ∙ get_left (holders (group_parts v c.app)) (holders (scene_parts v c.scene)) j part.0 part.1 in
    let stands = (is_set_of v ch k c b is at).at j part.0 whole in
    slice_get_within ch.sets (b.application + j) (set.Held k (0 + stands.place)) stands.set

-- Passages

-- an edge that is taken along leads from the set of an object of the application to the set that it has there
pub record IsAlong (v : Service) (ch : Chart) (c d : Config) (b e : Bases) (x : Item) : Type 0 where
  pub from : ℕ
  pub to : ℕ
  pub edge : item.Edge from to ≡ x
  pub from_within : from < length ch.sets
  pub to_within : to < length ch.sets
  pub part : Fixed
  pub among : Contains (group_parts v c.app) part
  pub source : node_from v c part.key b ≡ Some from
  pub aim : c.app ≡ d.app → node_from v d part.key e ≡ Some to

pub along_is : (v : Service) (ch : Chart) (k n : ℕ) (c d : Config) (b e : Bases) (x : Item) → IsChart v ch → IsAt ch k c b → IsAt ch n d e → Contains (taken_along b e) x → IsAlong v ch c d b e x
along_is v ch k n c d b e x is at there m =
    let side = from_side b.application e.application (smaller (b.scene - b.application) (e.scene - e.application)) x m in
    let below = below_smaller side.place (b.scene - b.application) (e.scene - e.application) side.within in
    let part = own_part v ch k c b side.place is at below.0 in
    record {
      from = b.application + side.place;
      to = e.application + side.place;
      edge = sym side.edge;
      from_within = own_within v ch k c b side.place is at below.0;
      to_within = own_within v ch n d e side.place is there below.1;
      part = part.0;
      among = (passing_from (λ (p : Fixed). is_holder p.class) (group_parts v c.app) part.0 (get_member (holders (group_parts v c.app)) side.place part.0 part.1)).1;
      source = own_node v ch k c b side.place part.0 is at part.1;
      aim = λ same. own_node v ch n d e side.place part.0 is there (subst (λ (g : List ℕ). slice_get (holders (group_parts v g)) side.place ≡ Some part.0) same part.1);
    }

pub is_along : (v : Service) (ch : Chart) (k n : ℕ) (c d : Config) (b e : Bases) (p : Fixed) (u w : ℕ) → IsChart v ch → IsAt ch k c b → IsAt ch n d e → c.app ≡ d.app → Contains (group_parts v c.app) p → is_holder p.class ≡ true → node_from v c p.key b ≡ Some u → node_from v d p.key e ≡ Some w → Contains (taken_along b e) (item.Edge u w)
is_along v ch k n c d b e p u w is at there same among holds from to =
    let found = member_get (holders (group_parts v c.app)) p (passing (λ (q : Fixed). is_holder q.class) (group_parts v c.app) p holds among) in
    let found_there = subst (λ (g : List ℕ). slice_get (holders (group_parts v g)) found.0 ≡ Some p) same found.1 in
    let source : b.application + found.0 ≡ u = some_same (sym (own_node v ch k c b found.0 p is at found.1) ∙ from) in
    let aim : e.application + found.0 ≡ w = some_same (sym (own_node v ch n d e found.0 p is there found_there) ∙ to) in
    let first = slice_get_within (holders (group_parts v c.app)) found.0 p found.1 in
    let second = slice_get_within (holders (group_parts v d.app)) found.0 p found_there in
    let scene = (is_set_of v ch k c b is at).scene in
    let scene_there = (is_set_of v ch n d e is there).scene in
    subst (λ (y : Item). Contains (taken_along b e) y) (λ i. item.Edge (source i) (aim i))
    (in_side b.application e.application (smaller (b.scene - b.application) (e.scene - e.application)) found.0
    (smaller_than found.0 (b.scene - b.application) (e.scene - e.application) (omega (arith, first, scene)) (omega (arith, second, scene_there))))
