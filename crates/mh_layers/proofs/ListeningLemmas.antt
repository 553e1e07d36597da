-- Who listens to what: what is found by numbers is what waits by name.
use Rattle.std.specs.Prelude.{◌≡◌, ◌⊎◌, ℕ, zero, suc, ◌+◌, ◌<◌, Bool, true, false, ◌&&◌, cond, ◌==◌, drop, filter, length, List, [], ◌∷◌, ◌++◌, map, slice_get, position, unwrap_or, option_and_then, nat_eq, Option, Some, None, refl}
use Rattle.std.specs.List.{find, flat_map, list_any}
use Rattle.std.specs.Map.{keys_of, lookup}
use Rattle.std.specs.Option.{option_eq, option_map, option_map_or, option_to_list}
use Rattle.std.specs.Str.{bytes_eq}
use Rattle.std.specs.Cmp.Lexicographic.{nat_list_eq_equiv}
use Rattle.std.proofs.Common.{arith, inl, inr, ap, ◌∙◌, sym, subst, append-nil, append_assoc}
use Rattle.std.proofs.lemmas.Bool.Decides.{Decides-eqb}
use Rattle.std.proofs.lemmas.List.Sums.{fold-append}
use Rattle.indexmap.specs.IndexSet.{insert_key, insert_all}
use Rattle.mh_base.specs.declared.obj_ref.ObjRef.{ObjRef}
use Rattle.mh_base.specs.declared.value.Value.{Value}
use Rattle.mh_base.specs.declared.value.Value.TheVariants as value
use Rattle.mh_base.specs.declared.event.EventType.{EventType}
use Rattle.mh_base.specs.Event.{number_of}
use Rattle.mh_group.specs.declared.attribute.Attribute.TheVariants as attribute
use Rattle.mh_group.specs.Table.{is_link}
use Rattle.mh_model.specs.declared.config.Config.{Config}
use Rattle.mh_model.specs.declared.object.Fixed.{Fixed}
use Rattle.mh_model.specs.Configuration.{present, scene_parts}
use Rattle.mh_model.specs.Items.{hears_source, hears_type}
use Rattle.mh_model.specs.Property.{held, as_event, as_reference, as_value}
use Rattle.mh_model.specs.Reference.{same_key, same_ref}
use Rattle.mh_model.specs.Service.{Service, group_parts}
use Rattle.mh_model.specs.Variables.{same_value}
use Rattle.mh_model.proofs.ListLemmas.{and_left, and_right}
use Rattle.mh_model.proofs.ServiceLemmas.{same_ref-same}
use Rattle.mh_laws.specs.Each.{Among}
use Rattle.mh_laws.proofs.EachLemmas.{among_either, among_joined, among_left, among_right}
use Rattle.mh_flow.specs.Chart.{all_parts}
use Rattle.mh_flow.proofs.ChartLemmas.{key_is}
use Rattle.mh_flow.proofs.IndexLemmas.{position_next}
use Rattle.mh_layers.specs.declared.listening.listener_slot.EventKey.{EventKey}
use Rattle.mh_layers.specs.declared.listening.listener_slot.Share.{Share}
use Rattle.mh_layers.specs.declared.listening.listener_slot.ListenerSlot.{ListenerSlot}
use Rattle.mh_layers.specs.Grouped.{has, is_plain}
use Rattle.mh_layers.specs.Hashing.{value_itself, value_one}
use Rattle.mh_layers.specs.CostNodes.{data_of, knows, values, waits_for}
use Rattle.mh_layers.specs.Listening.{AllAreHeard, HeardIsNamed, IsListening, ObjectsAreNumbered, ValuesAreNumbered, Listeners, ear_at, ear_of, ear_with, heard, is_ear, is_place, links_at, listed, lists_at, lists_from, lists_in, mentioned, named, named_by, number_in, objects_of, place_at, place_of, same_ear, same_place, same_share, source_of, with_more}
use Rattle.mh_layers.proofs.PositionLemmas.{AreOnce, TellsOne, any_position, kept_one, once_all, once_at, once_inserted, position_is, position_there, positions_same, put_all, put_one}

-- What tells one from another

pub tells_objects : TellsOne same_key
tells_objects = record {
  itself = λ a. key_is a a ∙ value_itself (value.Object a);
  one = λ a b e. same_ref-same a b (sym (key_is a b) ∙ e);
}

pub tells_values : TellsOne same_value
tells_values = record { itself = value_itself; one = value_one }

number_one : (m n : ℕ) → (m == n) ≡ true → m ≡ n
number_one m n e = (Decides-eqb m n).0 e

number_itself : (n : ℕ) → (n == n) ≡ true
number_itself n = (Decides-eqb n n).1 refl

pub one_ear : (a b : EventKey) → same_ear a b ≡ true → a ≡ b
one_ear a b e =
    let s = number_one a.source b.source (and_left (a.source == b.source) (a.kind == b.kind) e) in
    let k = number_one a.kind b.kind (and_right (a.source == b.source) (a.kind == b.kind) e) in
    λ i. record { source = s i; kind = k i }

ear_itself : (a : EventKey) → same_ear a a ≡ true
ear_itself a = λ i. number_itself a.source i && number_itself a.kind i

one_number : (m n : Option ℕ) → option_eq nat_eq m n ≡ true → m ≡ n
one_number None None e = refl
one_number None (Some n) e = absurd cc
one_number (Some m) None e = absurd cc
one_number (Some m) (Some n) e = ap Some (number_one m n e)

one_share : (a b : Share) → same_share a b ≡ true → a ≡ b
one_share a b e =
    let g = number_one a.group b.group (and_left (a.group == b.group) (option_eq nat_eq a.value b.value) e) in
    let n = one_number a.value b.value (and_right (a.group == b.group) (option_eq nat_eq a.value b.value) e) in
    λ i. record { group = g i; value = n i }

pub one_place : (a b : ListenerSlot) → same_place a b ≡ true → a ≡ b
one_place a b e =
    let x = one_ear a.ear b.ear (and_left (same_ear a.ear b.ear) (same_share a.share b.share) e) in
    let y = one_share a.share b.share (and_right (same_ear a.ear b.ear) (same_share a.share b.share) e) in
    λ i. record { ear = x i; share = y i }

-- What is put under a key

-- what stood there is part of what is put there
pub put_at : {K X : Type 0} (same : K → K → Bool) (one : (a b : K) → same a b ≡ true → a ≡ b) (f : Option X → X) (old new : List (K × X)) (k : K) (w : X)
    → ((q : K) → lookup (same q) new ≡ cond (same k q) (Some w) (lookup (same q) old)) → w ≡ f (lookup (same k) old)
    → (q : K) → lookup (same q) new ≡ cond (same k q) (Some (f (lookup (same q) old))) (lookup (same q) old)
put_at {K} {X} same one f old new k w put is q = put q ∙ by (same k q) refl
  where
    by : (b : Bool) → same k q ≡ b → cond b (Some w) (lookup (same q) old) ≡ cond b (Some (f (lookup (same q) old))) (lookup (same q) old)
    by true e = ap Some (is ∙ ap (λ (j : K). f (lookup (same j) old)) (one k q e))
    by false e = refl

-- a link more at its place
pub listed_more : (old new : List (ListenerSlot × List Fixed)) (k : ListenerSlot) (w : List Fixed) (p : Fixed)
    → ((q : ListenerSlot) → lookup (same_place q) new ≡ cond (same_place k q) (Some w) (lookup (same_place q) old)) → w ≡ listed k old ++ p ∷ []
    → (q : ListenerSlot) → listed q new ≡ listed q old ++ cond (same_place k q) (p ∷ []) []
listed_more old new k w p put is q =
    ap (λ (o : Option (List Fixed)). unwrap_or o []) (put_at same_place one_place (λ (o : Option (List Fixed)). unwrap_or o [] ++ p ∷ []) old new k w put is q)
    ∙ by (same_place k q)
  where
    by : (b : Bool) → unwrap_or (cond b (Some (listed q old ++ p ∷ [])) (lookup (same_place q) old)) [] ≡ listed q old ++ cond b (p ∷ []) []
    by true = refl
    by false = sym (append-nil (listed q old))

-- Objects

pub more_put : (ks xs ys : List ObjRef) → insert_all same_key (insert_all same_key ks xs) ys ≡ insert_all same_key ks (xs ++ ys)
more_put ks xs ys = sym (fold-append (insert_key same_key) ks xs ys)

-- Groups

abbrev pub Groups : Type 0
Groups = List (List ℕ × List Fixed)

abbrev all_of : Groups → List Fixed
all_of gs = flat_map (λ e. e.1) gs

abbrev parts_in : Groups → List ℕ → List Fixed
parts_in gs g = unwrap_or (option_map (λ e. e.1) (find (λ e. bytes_eq e.0 g) gs)) []

abbrev pub group_number : Groups → List ℕ → Option ℕ
group_number gs g = position (bytes_eq g) (keys_of gs)

pub parts_among : (gs : Groups) (g : List ℕ) (p : Fixed) → Among (parts_in gs g) p → Among (all_of gs) p
parts_among [] g p there = absurd cc
parts_among (e ∷ gs) g p there = by (bytes_eq e.0 g) (parts_among gs g p) there
  where
    by : (b : Bool) → (Among (parts_in gs g) p → Among (all_of gs) p) → Among (unwrap_or (option_map (λ x. x.1) (cond b (Some e) (find (λ x. bytes_eq x.0 g) gs))) []) p → Among (e.1 ++ all_of gs) p
    by true ih h = among_left e.1 (all_of gs) p h
    by false ih h = among_right e.1 (all_of gs) p (ih h)

parts_at : Option (List ℕ × List Fixed) → List Fixed
parts_at o = unwrap_or (option_map (λ e. e.1) o) []

-- by its name, and by its number
by_number : (gs : Groups) (g : List ℕ) → find (λ e. bytes_eq e.0 g) gs ≡ option_and_then (slice_get gs) (group_number gs g)
by_number [] g = refl
by_number (e ∷ gs) g =
    (λ i. cond (nat_list_eq_equiv.symm e.0 g i) (Some e) (by_number gs g i))
    ∙ by (bytes_eq g e.0) (group_number gs g)
    ∙ ap (option_and_then (slice_get (e ∷ gs))) (sym (position_next (bytes_eq g) e.0 (keys_of gs)))
  where
    by : (b : Bool) (o : Option ℕ) → cond b (Some e) (option_and_then (slice_get gs) o) ≡ option_and_then (slice_get (e ∷ gs)) (cond b (Some 0) (option_map suc o))
    by true o = refl
    by false None = refl
    by false (Some n) = refl

-- the groups one by one
pub joined : (gs : Groups) → flat_map (λ (ps : List Fixed). ps) (map (λ e. e.1) gs) ≡ all_of gs
joined [] = refl
joined (e ∷ gs) = ap (λ (ps : List Fixed). e.1 ++ ps) (joined gs)

-- Sources have numbers

source_there : (ps : List Fixed) (os : List ObjRef) → os ≡ objects_of ps → (p : Fixed) → Among ps p → (s : ObjRef) → Among (mentioned p) s → (n : ℕ) × (position (same_key s) os ≡ Some n)
source_there ps os is p there s says =
    position_there (same_key s) os
    (ap (list_any (same_key s)) is ∙ put_all same_key tells_objects.itself [] (flat_map mentioned ps) s (among_joined mentioned ps p s there says))

source_says : (p : Fixed) (s : ObjRef) → source_of p ≡ Some s → Among (mentioned p) s
source_says p s e = subst (λ (o : Option ObjRef). Among (p.key ∷ option_to_list o) s) (sym e) (inr (inl refl))

-- Tests by number

abbrev HasSource : List ObjRef → Fixed → Type 0
HasSource os p = (s : ObjRef) → source_of p ≡ Some s → (m : ℕ) × (position (same_key s) os ≡ Some m)

and_false : (a : Bool) → (a && false) ≡ false
and_false true = refl
and_false false = refl

-- a link that waits for these events has their ear
ear_test : (os : List ObjRef) (r : ObjRef) (kind : EventType) (n : ℕ) → position (same_key r) os ≡ Some n → (p : Fixed) → HasSource os p → is_ear (ear_at n kind) (ear_of os p) ≡ waits_for r kind p
ear_test os r kind n at p found = by (is_link p.class) (as_value (held attribute.EventSource p.properties)) (as_event (held attribute.EventType p.properties)) found
  where
    told : (s : ObjRef) (k : EventType) (m : ℕ) → position (same_key s) os ≡ Some m → is_ear (ear_at n kind) (ear_with os s k) ≡ (same_ref s r && (number_of k == number_of kind))
    told s k m h =
        ap (λ (o : Option ℕ). is_ear (ear_at n kind) (option_map (λ j. ear_at j k) o)) h
        ∙ ap (λ (b : Bool). b && (number_of k == number_of kind)) (positions_same same_key tells_objects os s r m n h at ∙ key_is s r)

    by : (b : Bool) (v : Option Value) (t : Option EventType) → ((s : ObjRef) → cond b (as_reference v) None ≡ Some s → (m : ℕ) × (position (same_key s) os ≡ Some m))
        → is_ear (ear_at n kind) (option_and_then (λ s. option_and_then (λ k. ear_with os s k) t) (cond b (as_reference v) None)) ≡ (b && hears_source v r && hears_type t kind)
    by false v t f = refl
    by true None t f = refl
    by true (Some (value.Bool b)) t f = refl
    by true (Some (value.Int b)) t f = refl
    by true (Some (value.Octets b)) t f = refl
    by true (Some (value.Content b)) t f = refl
    by true (Some (value.Object s)) None f = sym (and_false (same_ref s r))
    by true (Some (value.Object s)) (Some k) f = let m = f s refl in told s k m.0 m.1

-- no link waits for what has no number
deaf : (os : List ObjRef) (r : ObjRef) (kind : EventType) → position (same_key r) os ≡ None → (p : Fixed) → HasSource os p → waits_for r kind p ≡ false
deaf os r kind none p found = by (is_link p.class) (as_value (held attribute.EventSource p.properties)) (as_event (held attribute.EventType p.properties)) found
  where
    never : (s : ObjRef) (c : Bool) (t : Option EventType) → same_ref s r ≡ c → (m : ℕ) × (position (same_key s) os ≡ Some m) → (c && hears_type t kind) ≡ false
    never s true t e m =
        let same : s ≡ r = same_ref-same s r e in
        let never : Some m.0 ≡ None = sym m.1 ∙ ap (λ (q : ObjRef). position (same_key q) os) same ∙ none in
        absurd cc
    never s false t e m = refl

    by : (b : Bool) (v : Option Value) (t : Option EventType) → ((s : ObjRef) → cond b (as_reference v) None ≡ Some s → (m : ℕ) × (position (same_key s) os ≡ Some m))
        → (b && hears_source v r && hears_type t kind) ≡ false
    by false v t f = refl
    by true None t f = refl
    by true (Some (value.Bool b)) t f = refl
    by true (Some (value.Int b)) t f = refl
    by true (Some (value.Octets b)) t f = refl
    by true (Some (value.Content b)) t f = refl
    by true (Some (value.Object s)) t f = never s (same_ref s r) t refl (f s refl)

-- What is named

named_alike : (w u : Fixed → Bool) (o : Option (List Value)) (ps : List Fixed) → ((p : Fixed) → Among ps p → w p ≡ u p) → named w o ps ≡ named u o ps
named_alike w u o [] h = refl
named_alike w u o (p ∷ ps) h =
    named_alike w u (named_by w o p) ps (λ q there. h q (inr there))
    ∙ ap (λ (b : Bool). named u (cond b (Some (with_more (data_of p) o)) o) ps) (h p (inl refl))

named_none : (o : Option (List Value)) (ps : List Fixed) → named (λ p. false) o ps ≡ o
named_none o [] = refl
named_none o (p ∷ ps) = named_none o ps

abbrev HaveSources : List Fixed → List ObjRef → Type 0
HaveSources ps os = (p : Fixed) → Among ps p → HasSource os p

have_sources : (ps : List Fixed) (os : List ObjRef) → os ≡ objects_of ps → HaveSources ps os
have_sources ps os is = λ p there s e. source_there ps os is p there s (source_says p s e)

-- what is heard is what links name that wait
pub heard_is : HeardIsNamed
heard_is v l is r kind = by (position (same_key r) l.objects) refl
  where
    found : HaveSources (all_parts v) l.objects
    found = have_sources (all_parts v) l.objects is.objects

    by : (o : Option ℕ) → position (same_key r) l.objects ≡ o → option_and_then (λ e. lookup (same_ear e) l.ears) (option_map (λ n. ear_at n kind) o) ≡ named (waits_for r kind) None (all_parts v)
    by None none =
        sym (named_none None (all_parts v))
        ∙ sym (named_alike (waits_for r kind) (λ p. false) None (all_parts v) (λ p there. deaf l.objects r kind none p (found p there)))
    by (Some n) at =
        is.ears (ear_at n kind)
        ∙ named_alike (λ p. is_ear (ear_at n kind) (ear_of l.objects p)) (waits_for r kind) None (all_parts v) (λ p there. ear_test l.objects r kind n at p (found p there))

knows_kept : (w : Fixed → Bool) (o : Option (List Value)) (p : Fixed) (d : Option Value) → knows o d ≡ true → knows (named_by w o p) d ≡ true
knows_kept w o p d h = by (w p) o d (data_of p) h
  where
    by : (b : Bool) (o : Option (List Value)) (d e : Option Value) → knows o d ≡ true → knows (cond b (Some (with_more e o)) o) d ≡ true
    by false o d e k = k
    by true None d e k = absurd cc
    by true (Some xs) None e k = refl
    by true (Some xs) (Some x) None k = k
    by true (Some xs) (Some x) (Some y) k = kept_one same_value (same_value x) xs y k

knows_put : (w : Fixed → Bool) (o : Option (List Value)) (p : Fixed) → w p ≡ true → knows (named_by w o p) (data_of p) ≡ true
knows_put w o p h = ap (λ (b : Bool). knows (cond b (Some (with_more (data_of p) o)) o) (data_of p)) h ∙ by (data_of p)
  where
    by : (d : Option Value) → knows (Some (with_more d o)) d ≡ true
    by None = refl
    by (Some x) = put_one same_value value_itself (unwrap_or o []) x

all_kept : (w : Fixed → Bool) (o : Option (List Value)) (ps : List Fixed) (d : Option Value) → knows o d ≡ true → knows (named w o ps) d ≡ true
all_kept w o [] d h = h
all_kept w o (p ∷ ps) d h = all_kept w (named_by w o p) ps d (knows_kept w o p d h)

named_knows : (w : Fixed → Bool) (o : Option (List Value)) (ps : List Fixed) (p : Fixed) → Among ps p → w p ≡ true → knows (named w o ps) (data_of p) ≡ true
named_knows w o [] p there h = absurd cc
named_knows w o (q ∷ ps) p (inl e) h =
    all_kept w (named_by w o q) ps (data_of p) (subst (λ (x : Fixed). knows (named_by w o x) (data_of p) ≡ true) (sym e) (knows_put w o p h))
named_knows w o (q ∷ ps) p (inr more) h = named_knows w (named_by w o q) ps p more h

-- all that is present is among the groups
pub present_among : (v : Service) (c : Config) (p : Fixed) → Among (present v c) p → Among (all_parts v) p
present_among v c p there = by (among_either (group_parts v c.app) (scene_parts v c.scene) p there)
  where
    of_scene : (g : Option (List ℕ)) → Among (scene_parts v g) p → Among (all_parts v) p
    of_scene None h = absurd cc
    of_scene (Some g) h = parts_among v.groups g p h

    by : (Among (group_parts v c.app) p ⊎ Among (scene_parts v c.scene) p) → Among (all_parts v) p
    by (inl h) = parts_among v.groups c.app p h
    by (inr h) = of_scene c.scene h

-- every link is known, whatever flow
pub hears_all : AllAreHeard
hears_all v w l is = record {
  each = λ c on p there r kind waits.
      ap (λ (o : Option (List Value)). knows o (data_of p)) (heard_is v l is r kind)
      ∙ named_knows (waits_for r kind) None (all_parts v) p (present_among v c p there) waits;
}

-- each value is named once

abbrev AreOnceIf : Option (List Value) → Type 0
AreOnceIf None = Unit {0}
AreOnceIf (Some xs) = AreOnce same_value xs

once_named : (w : Fixed → Bool) (o : Option (List Value)) (ps : List Fixed) → AreOnceIf o → AreOnceIf (named w o ps)
once_named w o [] once = once
once_named w o (p ∷ ps) once = once_named w (named_by w o p) ps (by (w p) o (data_of p) once)
  where
    by : (b : Bool) (o : Option (List Value)) (d : Option Value) → AreOnceIf o → AreOnceIf (cond b (Some (with_more d o)) o)
    by false o d h = h
    by true None None h = tt
    by true None (Some x) h = once_inserted same_value [] x tt
    by true (Some xs) None h = h
    by true (Some xs) (Some x) h = once_inserted same_value xs x h

-- so that a number is that of its value
value_at : (v : Service) (l : Listeners) → IsListening v l → (r : ObjRef) (kind : EventType) (xs : List Value) → heard l r kind ≡ Some xs → (n : ℕ) (x : Value) → slice_get xs n ≡ Some x → position (same_value x) xs ≡ Some n
value_at v l is r kind xs h n x at =
    once_at same_value tells_values xs (subst AreOnceIf (sym (heard_is v l is r kind) ∙ h) (once_named (waits_for r kind) None (all_parts v) tt)) n x at

pub values_numbered : ValuesAreNumbered
values_numbered v l is r kind xs h = record {
  numbers = λ n x. (value_at v l is r kind xs h n x, position_is same_value tells_values xs x n);
  found = λ x. any_position (same_value x) xs;
}

object_at : (v : Service) (l : Listeners) → IsListening v l → (n : ℕ) (r : ObjRef) → slice_get l.objects n ≡ Some r → position (same_key r) l.objects ≡ Some n
object_at v l is n r at =
    once_at same_key tells_objects l.objects (subst (AreOnce same_key) (sym is.objects) (once_all same_key [] (flat_map mentioned (all_parts v)) tt)) n r at

pub objects_numbered : ObjectsAreNumbered
objects_numbered v l is = record {
  numbers = λ n r. (object_at v l is n r, position_is same_key tells_objects l.objects r n);
  all = λ p r there says. source_there (all_parts v) l.objects is.objects p there r says;
}

-- Places

-- a place of another group
other_group : (os : List ObjRef) (es : List (EventKey × List Value)) (q : ListenerSlot) (g : ℕ) → (g == q.share.group) ≡ false → (p : Fixed) → is_place q (place_of os es g p) ≡ false
other_group os es q g differ p = by (ear_of os p)
  where
    of : (e : EventKey) (o : Option (Option ℕ)) → is_place q (option_map (place_at e g) o) ≡ false
    of e None = refl
    of e (Some n) = ap (λ (b : Bool). same_ear e q.ear && (b && option_eq nat_eq n q.share.value)) differ ∙ and_false (same_ear e q.ear)

    by : (o : Option EventKey) → is_place q (option_and_then (λ e. option_map (place_at e g) (number_in (lookup (same_ear e) es) (data_of p))) o) ≡ false
    by None = refl
    by (Some e) = of e (number_in (lookup (same_ear e) es) (data_of p))

filter_alike : (w u : Fixed → Bool) (ps : List Fixed) → ((p : Fixed) → Among ps p → w p ≡ u p) → filter w ps ≡ filter u ps
filter_alike w u [] h = refl
filter_alike w u (p ∷ ps) h = λ i. cond (h p (inl refl) i) (p ∷ filter_alike w u ps (λ q there. h q (inr there)) i) (filter_alike w u ps (λ q there. h q (inr there)) i)

filter_none : (ps : List Fixed) → filter (λ (p : Fixed). false) ps ≡ []
filter_none [] = refl
filter_none (p ∷ ps) = filter_none ps

nothing_there : (os : List ObjRef) (es : List (EventKey × List Value)) (q : ListenerSlot) (g : ℕ) → (g == q.share.group) ≡ false → (ps : List Fixed) → lists_in os es q g ps ≡ []
nothing_there os es q g differ ps = filter_alike (λ p. is_place q (place_of os es g p)) (λ p. false) ps (λ p there. other_group os es q g differ p) ∙ filter_none ps

apart : (m n : ℕ) → ((m ≡ n) → false ≡ true) → (m == n) ≡ false
apart m n differ = by (m == n) refl
  where
    by : (b : Bool) → (m == n) ≡ b → b ≡ false
    by true e = sym (differ (number_one m n e))
    by false e = refl

-- behind its group
past : (os : List ObjRef) (es : List (EventKey × List Value)) (q : ListenerSlot) (g : ℕ) (gs : Groups) → q.share.group < g → lists_from os es q g gs ≡ []
past os es q g [] less = refl
past os es q g (e ∷ gs) less = λ i. nothing_there os es q g (apart g q.share.group (λ same. absurd (omega (arith, less, same)))) e.1 i ++ past os es q (suc g) gs (omega (arith, less)) i

-- of all groups only its own has links at a place
its_group : (os : List ObjRef) (es : List (EventKey × List Value)) (q : ListenerSlot) (g n : ℕ) (gs : Groups) → g + n ≡ q.share.group → lists_from os es q g gs ≡ lists_in os es q q.share.group (parts_at (slice_get gs n))
unfolding parts_at
its_group os es q g n [] e = refl
its_group os es q g zero (x ∷ gs) e =
    let here : g ≡ q.share.group = omega (arith, e) in
    (λ i. lists_in os es q (here i) x.1 ++ past os es q (suc g) gs (omega (arith, here)) i)
    ∙ append-nil (lists_in os es q q.share.group x.1)
its_group os es q g (suc n) (x ∷ gs) e =
    let next : suc g + n ≡ q.share.group = omega (arith, e) in
    (λ i. nothing_there os es q g (apart g q.share.group (λ same. absurd (omega (arith, e, same)))) x.1 i ++ its_group os es q (suc g) n gs next i)

-- those of one group more
pub next_group : (os : List ObjRef) (es : List (EventKey × List Value)) (q : ListenerSlot) (gs : Groups) (g n : ℕ) (old new : List Fixed) → n < length gs → new ≡ old ++ lists_at os es q g (slice_get gs n)
    → new ++ lists_from os es q (g + 1) (drop (n + 1) gs) ≡ old ++ lists_from os es q g (drop n gs)
next_group os es q [] g n old new less is = absurd (omega (arith, less))
next_group os es q (e ∷ gs) g zero old new less is =
    let one : g + 1 ≡ suc g = omega arith in
    (λ i. is i ++ lists_from os es q (one i) gs) ∙ append_assoc old (lists_in os es q g e.1) (lists_from os es q (suc g) gs)
next_group os es q (e ∷ gs) g (suc n) old new less is =
    let further : suc n + 1 ≡ suc (n + 1) = omega arith in
    ap (λ (m : ℕ). new ++ lists_from os es q (g + 1) (drop m (e ∷ gs))) further ∙ next_group os es q gs g n old new (omega (arith, less)) is

-- The links that are found

-- the place is that of those that wait for the events and have such data
abbrev Fits : Service → Listeners → ObjRef → EventType → Option ℕ → (Option Value → Bool) → Type 0
Fits v l r kind d is =
    (n g : ℕ) (p : Fixed) → position (same_key r) l.objects ≡ Some n → Among (all_parts v) p
    → is_place (place_at (ear_at n kind) g d) (place_of l.objects l.ears g p) ≡ (waits_for r kind p && is (data_of p))

found_by : (v : Service) (l : Listeners) → IsListening v l → (g : List ℕ) (r : ObjRef) (kind : EventType) (d : Option ℕ) (is : Option Value → Bool) → Fits v l r kind d is
    → links_at l (group_number v.groups g) r kind d ≡ filter (λ p. waits_for r kind p && is (data_of p)) (group_parts v g)
unfolding parts_at
found_by v l listens g r kind d is fits = by (position (same_key r) l.objects) refl (group_number v.groups g) refl
  where
    quiet : position (same_key r) l.objects ≡ None → [] ≡ filter (λ p. waits_for r kind p && is (data_of p)) (group_parts v g)
    quiet none =
        sym (filter_none (group_parts v g))
        ∙ sym (filter_alike (λ p. waits_for r kind p && is (data_of p)) (λ p. false) (group_parts v g)
        (λ p there. ap (λ (b : Bool). b && is (data_of p)) (deaf l.objects r kind none p (have_sources (all_parts v) l.objects listens.objects p (parts_among v.groups g p there)))))

    there_is : (j : Option ℕ) → group_number v.groups g ≡ j → group_parts v g ≡ parts_at (option_and_then (slice_get v.groups) j)
    there_is j e = ap parts_at (by_number v.groups g ∙ ap (option_and_then (slice_get v.groups)) e)

    by : (o : Option ℕ) → position (same_key r) l.objects ≡ o → (j : Option ℕ) → group_number v.groups g ≡ j
        → option_map_or (λ q. listed q l.lists) (option_and_then (λ e. option_map (λ h. place_at e h d) j) (option_map (λ n. ear_at n kind) o)) [] ≡ filter (λ p. waits_for r kind p && is (data_of p)) (group_parts v g)
    by None none j e = quiet none
    by (Some n) at None e = sym (ap (filter (λ p. waits_for r kind p && is (data_of p))) (there_is None e))
    by (Some n) at (Some j) e =
        let q = place_at (ear_at n kind) j d in
        listens.lists q
        ∙ its_group l.objects l.ears q 0 j v.groups (omega arith)
        ∙ ap (lists_in l.objects l.ears q j) (sym (there_is (Some j) e))
        ∙ filter_alike (λ p. is_place q (place_of l.objects l.ears j p)) (λ p. waits_for r kind p && is (data_of p)) (group_parts v g) (λ p there. fits n j p at (parts_among v.groups g p there))

-- the test of a place, where that of its ear is told
told_place : (l : Listeners) (q : EventKey) (g : ℕ) (d : Option ℕ) (p : Fixed) (is : Option Value → Bool)
    → is_place (place_at q g d) (option_map (place_at q g) (number_in (lookup (same_ear q) l.ears) (data_of p))) ≡ is (data_of p)
    → is_place (place_at q g d) (place_of l.objects l.ears g p) ≡ (is_ear q (ear_of l.objects p) && is (data_of p))
told_place l q g d p is told = by (ear_of l.objects p)
  where
    else_none : (e : EventKey) (o : Option (Option ℕ)) → same_ear e q ≡ false → is_place (place_at q g d) (option_map (place_at e g) o) ≡ false
    else_none e None differ = refl
    else_none e (Some n) differ = ap (λ (b : Bool). b && ((g == g) && option_eq nat_eq n d)) differ

    of : (e : EventKey) (b : Bool) → same_ear e q ≡ b → is_place (place_at q g d) (option_map (place_at e g) (number_in (lookup (same_ear e) l.ears) (data_of p))) ≡ (b && is (data_of p))
    of e true same =
        ap (λ (x : EventKey). is_place (place_at q g d) (option_map (place_at x g) (number_in (lookup (same_ear x) l.ears) (data_of p)))) (one_ear e q same) ∙ told
    of e false differ = else_none e (number_in (lookup (same_ear e) l.ears) (data_of p)) differ

    by : (o : Option EventKey) → is_place (place_at q g d) (option_and_then (λ e. option_map (place_at e g) (number_in (lookup (same_ear e) l.ears) (data_of p))) o) ≡ (is_ear q o && is (data_of p))
    by None = refl
    by (Some e) = of e (same_ear e q) refl

-- two places of one ear and one group
same_but : (q : EventKey) (g : ℕ) (m d : Option ℕ) → same_place (place_at q g m) (place_at q g d) ≡ option_eq nat_eq m d
same_but q g m d = λ i. ear_itself q i && (number_itself g i && option_eq nat_eq m d)

fits_plain : (v : Service) (l : Listeners) → IsListening v l → (r : ObjRef) (kind : EventType) → Fits v l r kind None is_plain
fits_plain v l listens r kind n g p at there =
    told_place l (ear_at n kind) g None p is_plain (by (lookup (same_ear (ear_at n kind)) l.ears) (data_of p))
    ∙ ap (λ (b : Bool). b && is_plain (data_of p)) (ear_test l.objects r kind n at p (have_sources (all_parts v) l.objects listens.objects p there))
  where
    q : EventKey
    q = ear_at n kind

    of : (o : Option ℕ) → is_place (place_at q g None) (option_map (place_at q g) (option_map Some o)) ≡ false
    of None = refl
    of (Some k) = same_but q g (Some k) None

    by : (m : Option (List Value)) (d : Option Value) → is_place (place_at q g None) (option_map (place_at q g) (number_in m d)) ≡ is_plain d
    by m None = same_but q g None None
    by None (Some x) = refl
    by (Some xs) (Some x) = of (position (same_value x) xs)

fits_with : (v : Service) (l : Listeners) → IsListening v l → (r : ObjRef) (kind : EventType) (xs : List Value) → heard l r kind ≡ Some xs → (d : ℕ) (x : Value) → position (same_value x) xs ≡ Some d → Fits v l r kind (Some d) (has same_value x)
fits_with v l listens r kind xs h d x stands n g p at there =
    told_place l (ear_at n kind) g (Some d) p (has same_value x) (ap (λ (m : Option (List Value)). is_place (place_at q g (Some d)) (option_map (place_at q g) (number_in m (data_of p)))) known ∙ by (data_of p))
    ∙ ap (λ (b : Bool). b && has same_value x (data_of p)) (ear_test l.objects r kind n at p (have_sources (all_parts v) l.objects listens.objects p there))
  where
    q : EventKey
    q = ear_at n kind

    known : lookup (same_ear (ear_at n kind)) l.ears ≡ Some xs
    known = sym (ap (λ (o : Option ℕ). option_and_then (λ e. lookup (same_ear e) l.ears) (option_map (λ m. ear_at m kind) o)) at) ∙ h

    unlike : (y : Value) (b : Bool) → same_value y x ≡ b → position (same_value y) xs ≡ None → false ≡ b
    unlike y true e none =
        let never : None ≡ Some d = sym none ∙ ap (λ (z : Value). position (same_value z) xs) (value_one y x e) ∙ stands in
        absurd cc
    unlike y false e none = refl

    of : (y : Value) (o : Option ℕ) → position (same_value y) xs ≡ o → is_place (place_at q g (Some d)) (option_map (place_at q g) (option_map Some o)) ≡ same_value y x
    of y None none = unlike y (same_value y x) refl none
    of y (Some k) stood = same_but q g (Some k) (Some d) ∙ positions_same same_value tells_values xs y x k d stood stands

    by : (m : Option Value) → is_place (place_at q g (Some d)) (option_map (place_at q g) (number_in (Some xs) m)) ≡ has same_value x m
    by None = same_but q g None (Some d)
    by (Some y) = of y (position (same_value y) xs) refl

-- the links that have no data
pub plain_is : (v : Service) (l : Listeners) → IsListening v l → (g : List ℕ) (r : ObjRef) (kind : EventType) → links_at l (group_number v.groups g) r kind None ≡ filter (λ p. waits_for r kind p && is_plain (data_of p)) (group_parts v g)
plain_is v l listens g r kind = found_by v l listens g r kind None is_plain (fits_plain v l listens r kind)

-- and those that have this value
pub with_is : (v : Service) (l : Listeners) → IsListening v l → (g : List ℕ) (r : ObjRef) (kind : EventType) (n : ℕ) (x : Value) → slice_get (values (heard l r kind)) n ≡ Some x
    → links_at l (group_number v.groups g) r kind (Some n) ≡ filter (λ p. waits_for r kind p && has same_value x (data_of p)) (group_parts v g)
with_is v l listens g r kind n x at = by (heard l r kind) refl at
  where
    by : (o : Option (List Value)) → heard l r kind ≡ o → slice_get (values o) n ≡ Some x → links_at l (group_number v.groups g) r kind (Some n) ≡ filter (λ p. waits_for r kind p && has same_value x (data_of p)) (group_parts v g)
    by None h e = absurd cc
    by (Some xs) h e = found_by v l listens g r kind (Some n) (has same_value x) (fits_with v l listens r kind xs h n x (value_at v l listens r kind xs h n x e))

nothing_else : (q : EventKey) (g n : ℕ) (o : Option (List Value)) (m : Option Value) → slice_get (values o) n ≡ None → is_place (place_at q g (Some n)) (option_map (place_at q g) (number_in o m)) ≡ false
nothing_else q g n o None none = same_but q g None (Some n)
nothing_else q g n None (Some y) none = refl
nothing_else q g n (Some xs) (Some y) none = of (position (same_value y) xs) refl
  where
    at : (k : ℕ) (b : Bool) → (k == n) ≡ b → position (same_value y) xs ≡ Some k → b ≡ false
    at k false e stood = refl
    at k true e stood =
        let never : None ≡ Some y = sym none ∙ ap (slice_get xs) (sym (number_one k n e)) ∙ position_is same_value tells_values xs y k stood in
        absurd cc

    of : (o : Option ℕ) → position (same_value y) xs ≡ o → is_place (place_at q g (Some n)) (option_map (place_at q g) (option_map Some o)) ≡ false
    of None stood = refl
    of (Some k) stood = same_but q g (Some k) (Some n) ∙ at k (k == n) refl stood

fits_none : (v : Service) (l : Listeners) → IsListening v l → (r : ObjRef) (kind : EventType) (n : ℕ) → slice_get (values (heard l r kind)) n ≡ None → Fits v l r kind (Some n) (λ d. false)
fits_none v l listens r kind n none m g p at there =
    told_place l (ear_at m kind) g (Some n) p (λ d. false) (nothing_else (ear_at m kind) g n (lookup (same_ear (ear_at m kind)) l.ears) (data_of p) (ap (λ (o : Option (List Value)). slice_get (values o) n) known ∙ none))
    ∙ ap (λ (b : Bool). b && false) (ear_test l.objects r kind m at p (have_sources (all_parts v) l.objects listens.objects p there))
  where
    known : lookup (same_ear (ear_at m kind)) l.ears ≡ heard l r kind
    known = sym (ap (λ (o : Option ℕ). option_and_then (λ e. lookup (same_ear e) l.ears) (option_map (λ j. ear_at j kind) o)) at)

-- no link has a value that has no number
pub without_is : (v : Service) (l : Listeners) → IsListening v l → (g : List ℕ) (r : ObjRef) (kind : EventType) (n : ℕ) → slice_get (values (heard l r kind)) n ≡ None
    → links_at l (group_number v.groups g) r kind (Some n) ≡ []
without_is v l listens g r kind n none =
    found_by v l listens g r kind (Some n) (λ d. false) (fits_none v l listens r kind n none)
    ∙ filter_alike (λ p. waits_for r kind p && false) (λ p. false) (group_parts v g) (λ p there. and_false (waits_for r kind p))
    ∙ filter_none (group_parts v g)
