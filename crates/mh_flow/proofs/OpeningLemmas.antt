-- What is put behind what is there.
use Rattle.std.proofs.Common.{◌≡◌, ℕ, Bool, true, false, ◌&&◌, ◌||◌, List, [], ◌∷◌, ◌++◌, map, Option, Some, None, refl, ap, sym, ◌∙◌, append-nil}
use Rattle.std.specs.Prelude.{if◌then◌else◌}
use Rattle.std.specs.List.{cons_option, filter_map, flat_map, list_any}
use Rattle.std.specs.Option.{option_to_list}
use Rattle.std.proofs.lemmas.List.Concat.{flat_map-append}
use Rattle.mh_base.specs.declared.obj_ref.ObjRef.{ObjRef}
use Rattle.mh_model.specs.declared.act.Act.{Act}
use Rattle.mh_model.specs.declared.config.Config.{Config}
use Rattle.mh_model.specs.declared.object.Fixed.{Fixed}
use Rattle.mh_model.specs.Configuration.{present}
use Rattle.mh_model.specs.Reference.{same_ref}
use Rattle.mh_model.specs.Property.{as_reference, value_held}
use Rattle.mh_model.specs.Service.{Service, fresh}
use Rattle.mh_model.specs.Tokens.{members}
use Rattle.mh_group.specs.Table.{is_list_group}
use Rattle.mh_laws.specs.Active.{active_actions}
use Rattle.mh_laws.specs.Flow.{is_holder, is_reference_in, refers}
use Rattle.mh_flow.specs.declared.chart.Bases.{Bases}
use Rattle.mh_flow.specs.Chart.{Chart, IsChart, member_of, node_from}
use Rattle.mh_flow.specs.Opening.{by_variable, does_through, held_first, member_at}
use Rattle.mh_flow.specs.Sites.{Site, sites_of}
use Rattle.mh_flow.proofs.BridgeLemmas.{untargeted_opens_nothing}
use Rattle.mh_flow.proofs.SiteLemmas.{behind, through_active}

-- what a function gives for those that are there
pub some_next : {X Y Z : Type 0} (g : X → Option Y) (f : Y → List Z) (x : X) (xs : List X) → flat_map f (option_to_list (g x)) ++ flat_map f (filter_map g xs) ≡ flat_map f (filter_map g (x ∷ xs))
some_next {X} {Y} {Z} g f x xs = by (g x)
  where
    by : (o : Option Y) → flat_map f (option_to_list o) ++ flat_map f (filter_map g xs) ≡ flat_map f (cons_option o (filter_map g xs))
    by None = refl
    by (Some y) = ap (λ (t : List Z). t ++ flat_map f (filter_map g xs)) (append-nil (f y))

-- what the objects of a configuration hold at first, and what its actions do
pub reached_put : {X : Type 0} (f : Fixed → List X) (g : Act → List X) (old one two three : List X) (ps qs all : List Fixed) (xs : List Site) → one ≡ old ++ flat_map f ps → two ≡ one ++ flat_map f qs → three ≡ two ++ flat_map (λ x. g x.act) xs → ps ++ qs ≡ all → xs ≡ sites_of all → three ≡ old ++ (flat_map f all ++ flat_map g (active_actions all))
reached_put {X} f g old one two three ps qs all xs first second third joined sites =
    third
    ∙ ap (λ (t : List X). t ++ acts) (second ∙ ap (λ (t : List X). t ++ flat_map f qs) first ∙ behind old (flat_map f ps) (flat_map f qs) ∙ ap (λ (t : List X). old ++ t) (sym (flat_map-append f ps qs)))
    ∙ behind old (flat_map f (ps ++ qs)) acts
    ∙ ap (λ (t : List Fixed). old ++ (flat_map f t ++ acts)) joined
    ∙ ap (λ (t : List X). old ++ (flat_map f all ++ t)) (ap (flat_map (λ (x : Site). g x.act)) sites ∙ through_active g all)
  where
    acts : List X
    acts = flat_map (λ x. g x.act) xs

-- The actions whose target is the variable.

pub not_walked : (v : Service) (ch : Chart) (k : ℕ) (c : Config) (b : Bases) (w r : ObjRef) → IsChart v ch → (list_any (same_ref w) ch.targeted && is_reference_in (present v c) w) ≡ false → [] ≡ by_variable v ch k c b w (Some r)
not_walked v ch k c b w r is h = by (list_any (same_ref w) ch.targeted) refl h
  where
    by : (t : Bool) → list_any (same_ref w) ch.targeted ≡ t → (t && is_reference_in (present v c) w) ≡ false → [] ≡ by_variable v ch k c b w (Some r)
    by false e h = sym (untargeted_opens_nothing v ch k c b w (Some r) is e)
    by true e h = rw h refl

pub is_walked_there : (v : Service) (ch : Chart) (c : Config) (w : ObjRef) → (list_any (same_ref w) ch.targeted && is_reference_in (present v c) w) ≡ true → is_reference_in (present v c) w ≡ true
is_walked_there v ch c w h = by (list_any (same_ref w) ch.targeted) h
  where
    by : (t : Bool) → (t && is_reference_in (present v c) w) ≡ true → is_reference_in (present v c) w ≡ true
    by true h = h
    by false h = cc

-- what is no variable of references and no list holds nothing at first
pub nothing_first : (v : Service) (ch : Chart) (c : Config) (b : Bases) (p : Fixed) → is_holder p.class ≡ false → [] ≡ held_first v ch c b p
nothing_first v ch c b p e = by (refers p.class) (is_list_group p.class) e
  where
    by : (x y : Bool) → (x || y) ≡ false → [] ≡ flat_map (λ q. member_at (node_from v c p.key b) (member_of ch q)) ((if x then option_to_list (as_reference (value_held p (fresh p).body)) else []) ++ (if y then map (λ m. m.object) (members p) else []))
    by false false e = refl
    by true y e = cc
    by false true e = cc
