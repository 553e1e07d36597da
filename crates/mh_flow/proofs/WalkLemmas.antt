-- The actions through a variable, found in tables, are those of all active actions that go on through it.
use Rattle.std.proofs.Common.{◌≡◌, ◌⊎◌, ℕ, zero, suc, ◌+◌, Bool, true, false, ◌&&◌, ◌||◌, cond, List, [], ◌∷◌, ◌++◌, filter, length, map, Option, Some, None, refl, inl, inr, ap, sym, subst, ◌∙◌, append-nil, length-append}
use Rattle.std.specs.Prelude.{if◌then◌else◌, slice_get, unwrap_or, position, option_and_then}
use Rattle.std.specs.List.{find, flat_map, list_any}
use Rattle.std.specs.Map.{keys_of, lookup}
use Rattle.std.specs.Option.{option_map, option_map_or, option_to_list}
use Rattle.std.specs.Str.{bytes_eq}
use Rattle.std.specs.Cmp.Lexicographic.{nat_list_eq_equiv}
use Rattle.std.proofs.lemmas.List.Concat.{flat_map-append}
use Rattle.mh_base.specs.declared.obj_ref.ObjRef.{ObjRef}
use Rattle.mh_model.specs.declared.act.Act.{Act}
use Rattle.mh_model.specs.declared.act.Target.{Target}
use Rattle.mh_model.specs.declared.act.Target.TheVariants as target
use Rattle.mh_model.specs.declared.config.Config.{Config}
use Rattle.mh_model.specs.declared.object.Fixed.{Fixed}
use Rattle.mh_model.specs.Configuration.{present, scene_parts}
use Rattle.mh_model.specs.Effects.{actions}
use Rattle.mh_model.specs.Reference.{same_key, same_ref}
use Rattle.mh_model.specs.Service.{Service, group_parts}
use Rattle.mh_model.proofs.ListLemmas.{some_same}
use Rattle.mh_model.proofs.ServiceLemmas.{same_ref-same}
use Rattle.mh_laws.specs.Active.{active_actions, is_active}
use Rattle.mh_laws.specs.Flow.{is_reference_in}
use Rattle.mh_flow.specs.declared.chart.Bases.{Bases}
use Rattle.mh_flow.specs.declared.fixpoint.constraints.Item.{Item}
use Rattle.mh_flow.specs.Chart.{Chart, goes_on, target_variables, targeted_by}
use Rattle.mh_flow.specs.Opening.{by_variable, does, does_through, walked}
use Rattle.mh_flow.specs.Walks.{AreTablesOf, IsTableOf, Walk, goes_through, listed, walk_if, walks, walks_of}
use Rattle.mh_flow.proofs.BridgeLemmas.{does_nothing}
use Rattle.mh_flow.proofs.ChartLemmas.{key_is}
use Rattle.mh_flow.proofs.IndexLemmas.{position_next}

-- Tables

-- an action more under its variable
pub listed_more : (old new : List (ObjRef × List Walk)) (k : ObjRef) (w : List Walk) (x : Walk)
    → ((q : ObjRef) → lookup (same_key q) new ≡ cond (same_key k q) (Some w) (lookup (same_key q) old)) → w ≡ listed k old ++ x ∷ []
    → (q : ObjRef) → listed q new ≡ listed q old ++ cond (same_key k q) (x ∷ []) []
listed_more old new k w x put is q = ap (λ (o : Option (List Walk)). unwrap_or o []) (put q) ∙ by (same_key k q) refl
  where
    by : (b : Bool) → same_key k q ≡ b → unwrap_or (cond b (Some w) (lookup (same_key q) old)) [] ≡ listed q old ++ cond b (x ∷ []) []
    by true e = is ∙ ap (λ (j : ObjRef). listed j old ++ x ∷ []) (same_ref-same k q (sym (key_is k q) ∙ e))
    by false e = sym (append-nil (listed q old))

-- the variable of an action, if it has one, is the one under which it stands
pub walk_one : (w : ObjRef) (p : Fixed) (a : Act) (o : Option ObjRef) → option_to_list o ≡ targeted_by a → option_map_or (λ (v : ObjRef). cond {A = List Walk} (same_key v w) (record { part = p; act = a } ∷ []) []) o [] ≡ walk_if w p a
walk_one w p a o e = by o ∙ ap (λ (xs : List ObjRef). cond {A = List Walk} (list_any (λ x. same_key x w) xs) (record { part = p; act = a } ∷ []) []) e
  where
    or_false : (b : Bool) → b ≡ (b || false)
    or_false true = refl
    or_false false = refl

    by : (o : Option ObjRef) → option_map_or (λ (v : ObjRef). cond {A = List Walk} (same_key v w) (record { part = p; act = a } ∷ []) []) o [] ≡ cond {A = List Walk} (list_any (λ x. same_key x w) (option_to_list o)) (record { part = p; act = a } ∷ []) []
    by None = refl
    by (Some v) = ap (λ (b : Bool). cond {A = List Walk} b (record { part = p; act = a } ∷ []) []) (or_false (same_key v w))

-- Groups by their numbers

by_number : (gs : List (List ℕ × List Fixed)) (g : List ℕ) → find (λ e. bytes_eq e.0 g) gs ≡ option_and_then (slice_get gs) (position (bytes_eq g) (keys_of gs))
by_number [] g = refl
by_number (e ∷ gs) g =
    (λ i. cond (nat_list_eq_equiv.symm e.0 g i) (Some e) (by_number gs g i))
    ∙ by (bytes_eq g e.0) (position (bytes_eq g) (keys_of gs))
    ∙ ap (option_and_then (slice_get (e ∷ gs))) (sym (position_next (bytes_eq g) e.0 (keys_of gs)))
  where
    by : (b : Bool) (o : Option ℕ) → cond b (Some e) (option_and_then (slice_get gs) o) ≡ option_and_then (slice_get (e ∷ gs)) (cond b (Some 0) (option_map suc o))
    by true o = refl
    by false None = refl
    by false (Some n) = refl

-- no group of this name
pub no_group : (v : Service) (g : List ℕ) (w : ObjRef) → position (bytes_eq g) (keys_of v.groups) ≡ None → [] ≡ walks w (group_parts v g)
no_group v g w e = sym (ap (λ (o : Option (List ℕ × List Fixed)). walks w (unwrap_or (option_map (λ x. x.1) o) [])) (by_number v.groups g ∙ ap (option_and_then (slice_get v.groups)) e))

-- the group with this number
pub group_at : (v : Service) (g : List ℕ) (w : ObjRef) (n : ℕ) → position (bytes_eq g) (keys_of v.groups) ≡ Some n → option_map_or (λ e. walks w e.1) (slice_get v.groups n) [] ≡ walks w (group_parts v g)
group_at v g w n e = by (slice_get v.groups n) ∙ sym (ap (λ (o : Option (List ℕ × List Fixed)). walks w (unwrap_or (option_map (λ x. x.1) o) [])) (by_number v.groups g ∙ ap (option_and_then (slice_get v.groups)) e))
  where
    by : (o : Option (List ℕ × List Fixed)) → option_map_or (λ e. walks w e.1) o [] ≡ walks w (unwrap_or (option_map (λ x. x.1) o) [])
    by None = refl
    by (Some x) = refl

slice_get_split : {X : Type 0} (xs : List X) (x : X) (m : ℕ) (u : X) → slice_get (xs ++ x ∷ []) m ≡ Some u → (slice_get xs m ≡ Some u) ⊎ ((m ≡ length xs) × (x ≡ u))
slice_get_split [] x zero u e = inr (refl, some_same e)
slice_get_split [] x (suc m) u e = cc
slice_get_split (y ∷ xs) x zero u e = inl e
slice_get_split {X} (y ∷ xs) x (suc m) u e = by (slice_get_split xs x m u e)
  where
    by : (slice_get xs m ≡ Some u) ⊎ ((m ≡ length xs) × (x ≡ u)) → (slice_get (y ∷ xs) (suc m) ≡ Some u) ⊎ ((suc m ≡ suc (length xs)) × (x ≡ u))
    by (inl there) = inl there
    by (inr last) = inr (ap suc last.0, last.1)

-- a table more
pub table_more : (v : Service) (n : ℕ) (old new : List (List (ObjRef × List Walk))) (t : List (ObjRef × List Walk)) → AreTablesOf v n old → new ≡ old ++ t ∷ [] → ((g : List ℕ × List Fixed) → slice_get v.groups n ≡ Some g → IsTableOf g.1 t) → AreTablesOf v (n + 1) new
table_more v n old new t is put says = subst (AreTablesOf v (n + 1)) (sym put) (record {
  count = length-append old (t ∷ []) ∙ ap (λ (k : ℕ). k + 1) is.count;
  each = λ m g u at stands. by (slice_get_split old t m u stands) m g at refl;
})
  where
    by : {u : List (ObjRef × List Walk)} {m : ℕ} → (slice_get old m ≡ Some u) ⊎ ((m ≡ length old) × (t ≡ u)) → (m' : ℕ) (g : List ℕ × List Fixed) → slice_get v.groups m' ≡ Some g → m' ≡ m → IsTableOf g.1 u
    by (inl there) m' g at e = is.each _ g _ (subst (λ (k : ℕ). slice_get v.groups k ≡ Some g) e at) there
    by (inr last) m' g at e = subst (IsTableOf g.1) last.1 (says g (subst (λ (k : ℕ). slice_get v.groups k ≡ Some g) (e ∙ last.0 ∙ is.count) at))

-- What is walked

act_through : (v : Service) (ch : Chart) (k : ℕ) (c : Config) (b : Bases) (w r : ObjRef) (p : Fixed) (a : Act) → is_active (present v c) p ≡ true → does_through v ch k c b w r a a.target ≡ flat_map (walked v ch k c b r) (walk_if w p a)
act_through v ch k c b w r p a on = by (goes_on a) refl a.target
  where
    here : (z : Bool) → is_active (present v c) p ≡ z → z ≡ true → does v ch k c b a r ≡ cond z (does v ch k c b a r) [] ++ []
    here true e f = sym (append-nil (does v ch k c b a r))
    here false e f = cc

    same : (z : Bool) → cond z (does v ch k c b a r) [] ≡ flat_map (walked v ch k c b r) (cond (z || false) (record { part = p; act = a } ∷ []) [])
    same true = here (is_active (present v c) p) refl on
    same false = refl

    by : (z : Bool) → goes_on a ≡ z → (t : Target) → does_through v ch k c b w r a t ≡ flat_map (walked v ch k c b r) (cond (list_any (λ x. same_key x w) (cond z (target_variables t) [])) (record { part = p; act = a } ∷ []) [])
    by false e (target.Direct x) = refl
    by false e (target.Through x) = ap (λ (xs : List Item). cond {A = List Item} (same_ref x w) xs []) (does_nothing v ch k c b a r e) ∙ nothing (same_ref x w)
      where
        nothing : (z : Bool) → cond {A = List Item} z [] [] ≡ []
        nothing true = refl
        nothing false = refl
    by true e (target.Direct x) = refl
    by true e (target.Through x) = same (same_ref x w) ∙ ap (λ (z : Bool). flat_map (walked v ch k c b r) (cond (z || false) (record { part = p; act = a } ∷ []) [])) (sym (key_is x w))

acts_on : (v : Service) (ch : Chart) (k : ℕ) (c : Config) (b : Bases) (w r : ObjRef) (p : Fixed) → is_active (present v c) p ≡ true → (acts : List Act) → flat_map (λ a. does_through v ch k c b w r a a.target) acts ≡ flat_map (walked v ch k c b r) (flat_map (walk_if w p) acts)
acts_on v ch k c b w r p on [] = refl
acts_on v ch k c b w r p on (a ∷ acts) =
    (λ i. act_through v ch k c b w r p a on i ++ acts_on v ch k c b w r p on acts i)
    ∙ sym (flat_map-append (walked v ch k c b r) (walk_if w p a) (flat_map (walk_if w p) acts))

act_off : (v : Service) (ch : Chart) (k : ℕ) (c : Config) (b : Bases) (w r : ObjRef) (p : Fixed) (a : Act) → is_active (present v c) p ≡ false → [] ≡ flat_map (walked v ch k c b r) (walk_if w p a)
act_off v ch k c b w r p a off = by (goes_through w a)
  where
    by : (z : Bool) → [] ≡ flat_map (walked v ch k c b r) (cond z (record { part = p; act = a } ∷ []) [])
    by true = sym (ap (λ (z : Bool). cond z (does v ch k c b a r) [] ++ []) off)
    by false = refl

acts_off : (v : Service) (ch : Chart) (k : ℕ) (c : Config) (b : Bases) (w r : ObjRef) (p : Fixed) → is_active (present v c) p ≡ false → (acts : List Act) → [] ≡ flat_map (walked v ch k c b r) (flat_map (walk_if w p) acts)
acts_off v ch k c b w r p off [] = refl
acts_off v ch k c b w r p off (a ∷ acts) =
    (λ i. act_off v ch k c b w r p a off i ++ acts_off v ch k c b w r p off acts i)
    ∙ sym (flat_map-append (walked v ch k c b r) (walk_if w p a) (flat_map (walk_if w p) acts))

parts_through : (v : Service) (ch : Chart) (k : ℕ) (c : Config) (b : Bases) (w r : ObjRef) (ps : List Fixed) → flat_map (λ a. does_through v ch k c b w r a a.target) (flat_map actions (filter (is_active (present v c)) ps)) ≡ flat_map (walked v ch k c b r) (walks w ps)
parts_through v ch k c b w r [] = refl
parts_through v ch k c b w r (p ∷ ps) = by (is_active (present v c) p) refl (parts_through v ch k c b w r ps) ∙ sym (flat_map-append (walked v ch k c b r) (walks_of w p) (walks w ps))
  where
    by : (z : Bool) → is_active (present v c) p ≡ z → flat_map (λ a. does_through v ch k c b w r a a.target) (flat_map actions (filter (is_active (present v c)) ps)) ≡ flat_map (walked v ch k c b r) (walks w ps) → flat_map (λ a. does_through v ch k c b w r a a.target) (flat_map actions (cond z (p ∷ filter (is_active (present v c)) ps) (filter (is_active (present v c)) ps))) ≡ flat_map (walked v ch k c b r) (walks_of w p) ++ flat_map (walked v ch k c b r) (walks w ps)
    by true e rest =
        flat_map-append (λ a. does_through v ch k c b w r a a.target) (actions p) (flat_map actions (filter (is_active (present v c)) ps))
        ∙ (λ i. acts_on v ch k c b w r p e (actions p) i ++ rest i)
    by false e rest = λ i. acts_off v ch k c b w r p e (actions p) i ++ rest i

-- the application's and the scene's are all
pub all_walked : (v : Service) (ch : Chart) (k : ℕ) (c : Config) (b : Bases) (w r : ObjRef) → is_reference_in (present v c) w ≡ true → flat_map (walked v ch k c b r) (walks w (group_parts v c.app)) ++ flat_map (walked v ch k c b r) (walks w (scene_parts v c.scene)) ≡ by_variable v ch k c b w (Some r)
all_walked v ch k c b w r h =
    sym (flat_map-append (walked v ch k c b r) (walks w (group_parts v c.app)) (walks w (scene_parts v c.scene)))
    ∙ ap (flat_map (walked v ch k c b r)) (sym (flat_map-append (walks_of w) (group_parts v c.app) (scene_parts v c.scene)))
    ∙ sym (parts_through v ch k c b w r (present v c))
    ∙ by (is_reference_in (present v c) w) h
  where
    by : (z : Bool) → z ≡ true → flat_map (λ a. does_through v ch k c b w r a a.target) (active_actions (present v c)) ≡ cond z (flat_map (λ a. does_through v ch k c b w r a a.target) (active_actions (present v c))) []
    by true e = refl
    by false e = cc
