-- Sites behind sites.
use Rattle.std.specs.Prelude.{◌≡◌, ℕ, suc, zero, ◌+◌, ◌<◌, Bool, ◌&&◌, drop, slice_index_or, List, [], ◌∷◌, ◌++◌, length, map, filter, refl}
use Rattle.std.specs.List.{flat_map, list_all}
use Rattle.std.proofs.lemmas.List.{map-append}
use Rattle.std.proofs.lemmas.List.Elements.{filter-append}
use Rattle.std.proofs.lemmas.List.Concat.{flat_map-append}
use Rattle.std.proofs.Common.{arith, ap, ◌∙◌, sym, length-append}
use Rattle.mh_base.specs.declared.obj_ref.ObjRef.{ObjRef}
use Rattle.mh_model.specs.declared.act.Act.{Act}
use Rattle.mh_group.specs.declared.attribute.Attribute.TheVariants as attribute
use Rattle.mh_model.specs.declared.object.member.Member.{Member}
use Rattle.mh_model.specs.declared.object.Fixed.{Fixed}
use Rattle.mh_laws.specs.Active.{is_active, active_actions}
use Rattle.mh_model.specs.Effects.{actions}
use Rattle.mh_model.specs.Property.{held, as_effect}
use Rattle.mh_model.specs.Tokens.{members, member_actions, slot_actions}
use Rattle.mh_laws.specs.Costs.{effects}
use Rattle.mh_flow.specs.Sites.{Site, numbered, through_effects, sites, sites_of}

pub behind : {X : Type 0} (xs ys zs : List X) → (xs ++ ys) ++ zs ≡ xs ++ (ys ++ zs)
behind {X} [] ys zs = refl
behind {X} (x ∷ xs) ys zs = ap (λ (t : List X). x ∷ t) (behind xs ys zs)

numbered_length : (k : ObjRef) (f i : ℕ) (xs : List Act) → length (numbered k f i xs) ≡ length xs
numbered_length k f i [] = refl
numbered_length k f i (x ∷ xs) = ap suc (numbered_length k f (suc i) xs)

-- one action, and then the others
pub numbered_behind : (k : ObjRef) (f : ℕ) (old new : List Site) (x : Act) (xs : List Act) → new ≡ old ++ numbered k f (suc (length old)) (x ∷ []) → new ++ numbered k f (suc (length new)) xs ≡ old ++ numbered k f (suc (length old)) (x ∷ xs)
numbered_behind k f old new x xs e =
    ap (λ (t : List Site). t ++ numbered k f (suc (length t)) xs) e
    ∙ ap (λ (n : ℕ). (old ++ one) ++ numbered k f (suc n) xs) (length-append old one ∙ count (length old))
    ∙ behind old one (numbered k f (suc (suc (length old))) xs)
  where
    one : List Site
    one = record { key = k; index = suc (length old); first = f; act = x } ∷ []

    count : (n : ℕ) → n + 1 ≡ suc n
    count n = omega arith

-- effects, and then others
through_more : (k : ObjRef) (i : ℕ) (xs ys : List (List Act)) → through_effects k i (xs ++ ys) ≡ through_effects k i xs ++ through_effects k (i + length (through_effects k i xs)) ys
through_more k i [] ys = ap (λ (n : ℕ). through_effects k n ys) (same i)
  where
    same : (n : ℕ) → n ≡ n + 0
    same n = omega arith
through_more k i (x ∷ xs) ys =
    ap (λ (t : List Site). numbered k i i x ++ t) (through_more k (i + length x) xs ys)
    ∙ sym (behind (numbered k i i x) (through_effects k (i + length x) xs) _)
    ∙ ap (λ (n : ℕ). (numbered k i i x ++ through_effects k (i + length x) xs) ++ through_effects k n ys) count
  where
    count : i + length x + length (through_effects k (i + length x) xs) ≡ i + length (numbered k i i x ++ through_effects k (i + length x) xs)
    count = omega (arith, length-append (numbered k i i x) (through_effects k (i + length x) xs), numbered_length k i i x)

pub slots_behind : (k : ObjRef) (old new : List Site) (xs ys : List (List Act)) → new ≡ old ++ through_effects k (suc (length old)) xs → new ++ through_effects k (suc (length new)) ys ≡ old ++ through_effects k (suc (length old)) (xs ++ ys)
slots_behind k old new xs ys e =
    ap (λ (t : List Site). t ++ through_effects k (suc (length t)) ys) e
    ∙ ap (λ (n : ℕ). (old ++ more) ++ through_effects k (suc n) ys) (length-append old more)
    ∙ behind old more (through_effects k (suc (length old + length more)) ys)
    ∙ ap (λ (n : ℕ). old ++ (more ++ through_effects k n ys)) (moved (length old) (length more))
    ∙ ap (λ (t : List Site). old ++ t) (sym (through_more k (suc (length old)) xs ys))
  where
    more : List Site
    more = through_effects k (suc (length old)) xs

    moved : (a b : ℕ) → suc (a + b) ≡ suc a + b
    moved a b = omega arith

pub effects_behind : (k : ObjRef) (old new : List Site) (x : List Act) (ys : List (List Act)) → new ≡ old ++ through_effects k (suc (length old)) (x ∷ []) → new ++ through_effects k (suc (length new)) ys ≡ old ++ through_effects k (suc (length old)) (x ∷ ys)
effects_behind k old new x ys e = slots_behind k old new (x ∷ []) ys e

-- what a loop has still to do is what is next and what is behind it
pub drop_next : {X : Type 0} (xs : List X) (i : ℕ) (x : X) → i < length xs → x ≡ slice_index_or xs i x → x ∷ drop (i + 1) xs ≡ drop i xs
drop_next {X} [] i x less e = absurd (omega (arith, less))
drop_next {X} (y ∷ xs) zero x less e = ap (λ (z : X). z ∷ xs) e
drop_next {X} (y ∷ xs) (suc i) x less e = ap (λ (n : ℕ). x ∷ drop n (y ∷ xs)) (moved i) ∙ drop_next xs i x (omega (arith, less)) e
  where
    moved : (n : ℕ) → suc n + 1 ≡ suc (n + 1)
    moved n = omega arith

-- The actions of sites.

numbered_acts : (k : ObjRef) (f i : ℕ) (acts : List Act) → map (λ (x : Site). x.act) (numbered k f i acts) ≡ acts
numbered_acts k f i [] = refl
numbered_acts k f i (a ∷ acts) = ap (λ (t : List Act). a ∷ t) (numbered_acts k f (suc i) acts)

through_acts : (k : ObjRef) (i : ℕ) (es : List (List Act)) → map (λ (x : Site). x.act) (through_effects k i es) ≡ flat_map (λ (e : List Act). e) es
through_acts k i [] = refl
through_acts k i (e ∷ es) =
    map-append (λ (x : Site). x.act) (numbered k i i e) (through_effects k (i + length e) es)
    ∙ ap (λ (t : List Act). t ++ map (λ (x : Site). x.act) (through_effects k (i + length e) es)) (numbered_acts k i i e)
    ∙ ap (λ (t : List Act). e ++ t) (through_acts k (i + length e) es)

slots_acts : (ms : List Member) → flat_map (λ (e : List Act). e) (flat_map (λ (m : Member). m.slots) ms) ≡ flat_map member_actions ms
slots_acts [] = refl
slots_acts (m ∷ ms) =
    flat_map-append (λ (e : List Act). e) m.slots (flat_map (λ (x : Member). x.slots) ms)
    ∙ ap (λ (t : List Act). member_actions m ++ t) (slots_acts ms)

-- those of the sites of an object are its actions
pub sites_acts : (p : Fixed) → map (λ (x : Site). x.act) (sites p) ≡ actions p
sites_acts p =
    through_acts p.key 1 (effects p)
    ∙ ap (λ (t : List Act). start_up ++ (close_down ++ (link ++ t))) (slots_acts (members p))
    ∙ sym (behind start_up close_down (link ++ slot_actions p))
    ∙ sym (behind (start_up ++ close_down) link (slot_actions p))
  where
    start_up : List Act
    start_up = as_effect (held attribute.OnStartUp p.properties)

    close_down : List Act
    close_down = as_effect (held attribute.OnCloseDown p.properties)

    link : List Act
    link = as_effect (held attribute.LinkEffect p.properties)

flat_mapped : {X : Type 0} (f : Act → List X) (xs : List Site) → flat_map (λ (x : Site). f x.act) xs ≡ flat_map f (map (λ (x : Site). x.act) xs)
flat_mapped f [] = refl
flat_mapped {X} f (x ∷ xs) = ap (λ (t : List X). f x.act ++ t) (flat_mapped f xs)

-- what goes over the sites of an object goes over its actions
pub through_sites : {X : Type 0} (f : Act → List X) (p : Fixed) → flat_map (λ (x : Site). f x.act) (sites p) ≡ flat_map f (actions p)
through_sites f p = flat_mapped f (sites p) ∙ ap (flat_map f) (sites_acts p)

all_acts : (ps : List Fixed) → map (λ (x : Site). x.act) (flat_map sites ps) ≡ flat_map actions ps
all_acts [] = refl
all_acts (p ∷ ps) =
    map-append (λ (x : Site). x.act) (sites p) (flat_map sites ps)
    ∙ ap (λ (t : List Act). t ++ map (λ (x : Site). x.act) (flat_map sites ps)) (sites_acts p)
    ∙ ap (λ (t : List Act). actions p ++ t) (all_acts ps)

-- and those of all that are active are the active actions
pub active_acts : (ps : List Fixed) → map (λ (x : Site). x.act) (sites_of ps) ≡ active_actions ps
active_acts ps = all_acts (filter (is_active ps) ps)

-- what goes over the sites goes over the active actions

pub through_active : {X : Type 0} (f : Act → List X) (ps : List Fixed) → flat_map (λ (x : Site). f x.act) (sites_of ps) ≡ flat_map f (active_actions ps)
through_active f ps = flat_mapped f (sites_of ps) ∙ ap (flat_map f) (active_acts ps)

all_mapped : (p : Act → Bool) (xs : List Site) → list_all (λ (x : Site). p x.act) xs ≡ list_all p (map (λ (x : Site). x.act) xs)
all_mapped p [] = refl
all_mapped p (x ∷ xs) = ap (λ (b : Bool). p x.act && b) (all_mapped p xs)

pub all_active : (p : Act → Bool) (ps : List Fixed) → list_all (λ (x : Site). p x.act) (sites_of ps) ≡ list_all p (active_actions ps)
all_active p ps = all_mapped p (sites_of ps) ∙ ap (list_all p) (active_acts ps)

-- the sites of two lists of parts, where these are present
pub active_joined : (is : Fixed → Bool) (ps qs : List Fixed) → flat_map sites (filter is ps) ++ flat_map sites (filter is qs) ≡ flat_map sites (filter is (ps ++ qs))
active_joined is ps qs =
    sym (flat_map-append sites (filter is ps) (filter is qs))
    ∙ ap (λ (xs : List Fixed). flat_map sites xs) (sym (filter-append is ps qs))
