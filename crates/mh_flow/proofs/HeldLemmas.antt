-- What is held, object by object.
use Rattle.std.proofs.Common.{◌≡◌, ℕ, zero, suc, Bool, true, false, cond, List, [], ◌∷◌, ◌++◌, map, slice_get, Option, Some, None, refl, ap, sym, subst, ◌∙◌}
use Rattle.std.specs.Prelude.{option_and_then, unwrap_or}
use Rattle.std.specs.List.{Contains}
use Rattle.std.specs.Option.{option_map, option_map_or}
use Rattle.std.proofs.lemmas.List.Elements.{Contains-append_left, Contains-append_right}
use Rattle.std.proofs.lemmas.List.{map-append}
use Rattle.mh_base.specs.declared.obj_ref.ObjRef.{ObjRef}
use Rattle.mh_model.specs.declared.config.Config.{Config}
use Rattle.mh_model.specs.declared.object.Fixed.{Fixed}
use Rattle.mh_model.specs.Configuration.{has_keys, present}
use Rattle.mh_model.specs.Reference.{same_ref}
use Rattle.mh_model.specs.Service.{Service, part_at}
use Rattle.mh_model.proofs.ServiceLemmas.{same_ref-same}
use Rattle.mh_laws.specs.Flow.{is_holder}
use Rattle.mh_flow.specs.Chart.{place_in}
use Rattle.mh_flow.specs.Index.{Home, IsPresent}
use Rattle.mh_flow.specs.Solved.{Solved, held_by, held_in, is_holder_in, set_of}
use Rattle.mh_flow.proofs.IndexLemmas.{position_next}
use Rattle.mh_flow.proofs.PresentLemmas.{present_found}

pub get_mapped : {X Y : Type 0} (f : X → Y) (xs : List X) (n : ℕ) → slice_get (map f xs) n ≡ option_map f (slice_get xs n)
get_mapped f [] n = refl
get_mapped f (x ∷ xs) zero = refl
get_mapped f (x ∷ xs) (suc n) = get_mapped f xs n

-- a set of each object, where what is not there has none
at_place : (set : ObjRef → List ObjRef) (r : ObjRef) (ps : List Fixed) → (part_at r ps ≡ None → set r ≡ []) → unwrap_or (option_and_then (slice_get (map (λ p. set p.key) ps)) (place_in ps r)) [] ≡ set r
at_place set r [] none = sym (none refl)
at_place set r (p ∷ ps) none =
    ap (λ (o : Option ℕ). unwrap_or (option_and_then (slice_get (map (λ x. set x.key) (p ∷ ps))) o) []) (position_next (λ x. same_ref r x.key) p ps)
    ∙ by (same_ref r p.key) refl none (at_place set r ps)
  where
    further : (o : Option ℕ) → unwrap_or (option_and_then (slice_get (set p.key ∷ map (λ x. set x.key) ps)) (option_map suc o)) [] ≡ unwrap_or (option_and_then (slice_get (map (λ x. set x.key) ps)) o) []
    further None = refl
    further (Some n) = refl

    by : (b : Bool) → same_ref r p.key ≡ b → (cond b (Some p) (part_at r ps) ≡ None → set r ≡ []) → ((part_at r ps ≡ None → set r ≡ []) → unwrap_or (option_and_then (slice_get (map (λ x. set x.key) ps)) (place_in ps r)) [] ≡ set r) → unwrap_or (option_and_then (slice_get (set p.key ∷ map (λ x. set x.key) ps)) (cond b (Some 0) (option_map suc (place_in ps r)))) [] ≡ set r
    by true same none ih = ap set (sym (same_ref-same r p.key same))
    by false other none ih = further (place_in ps r) ∙ ih none

-- what is held in a configuration is what the flow says
pub held_is_set : (v : Service) (f : Solved) (c : Config) (r : ObjRef) → held_by (present v c) (held_in v f c) r ≡ set_of v f.chart f.rows c r
held_is_set v f c r = at_place (set_of v f.chart f.rows c) r (present v c) (λ none. rw none refl)

-- the lists of the application, and then those of the scene
pub held_put : (v : Service) (f : Solved) (c : Config) (none one two : List (List ObjRef)) (ps qs : List Fixed) → none ≡ [] → one ≡ none ++ map (λ p. set_of v f.chart f.rows c p.key) ps → two ≡ one ++ map (λ p. set_of v f.chart f.rows c p.key) qs → ps ++ qs ≡ present v c → two ≡ held_in v f c
held_put v f c none one two ps qs empty first second whole =
    second
    ∙ (λ i. (first ∙ ap (λ (t : List (List ObjRef)). t ++ map (λ p. set_of v f.chart f.rows c p.key) ps) empty) i ++ map (λ p. set_of v f.chart f.rows c p.key) qs)
    ∙ sym (map-append (λ p. set_of v f.chart f.rows c p.key) ps qs)
    ∙ ap (map (λ p. set_of v f.chart f.rows c p.key)) whole

-- whether one that is present is a variable or a list is said by its class
pub part_holds : (v : Service) (c : Config) (es : List (ObjRef × Home)) (ps qs all : List Fixed) (p : Fixed) → IsPresent v c es ps qs → ps ++ qs ≡ all → has_keys v ≡ true → Contains all p → is_holder_in all p.key ≡ is_holder p.class
part_holds v c es ps qs all p k whole keys m =
    ap (λ (o : Option Fixed). option_map_or is_holder (option_map (λ (x : Fixed). x.class) o) false)
    (ap (part_at p.key) (sym there) ∙ present_found v c p k.named.service keys (subst (λ (xs : List Fixed). Contains xs p) (sym there) m))
  where
    there : present v c ≡ all
    there = (λ i. sym k.application i ++ sym k.scene i) ∙ whole

-- what is of the application or of the scene is present
pub in_application : (ps qs all : List Fixed) (p : Fixed) → ps ++ qs ≡ all → Contains ps p → Contains all p
in_application ps qs all p whole m = subst (λ (xs : List Fixed). Contains xs p) whole (Contains-append_left ps qs p m)

pub in_scene : (ps qs all : List Fixed) (p : Fixed) → ps ++ qs ≡ all → Contains qs p → Contains all p
in_scene ps qs all p whole m = subst (λ (xs : List Fixed). Contains xs p) whole (Contains-append_right ps qs p m)
