-- Which refusal comes first: by name of the group, number of the object, number of the action, and kind; and
-- then the first configuration, by name of the application and of the scene, no scene before any.
use Rattle.std.specs.Prelude.{◌≡◌, ℕ, Bool, true, false, List, [], ◌∷◌, Some, None, ◌⊎◌}
use Rattle.std.specs.declared.cmp.Ordering.{Ordering}
use Rattle.std.specs.Ordering.{is_eq, is_lt, nat_cmp, on, then_cmp}
use Rattle.std.specs.Option.{option_cmp}
use Rattle.std.specs.Cmp.Lexicographic.{slice_cmp}
use Rattle.std.specs.List.{Contains, find}
use Rattle.mh_model.specs.declared.config.Config.{Config}
use Rattle.mh_model.specs.declared.program.Signature.{Signature}
use Rattle.mh_model.specs.Service.{Service}
use Rattle.mh_laws.specs.Acceptable.{IsAcceptableBy}
use Rattle.mh_laws.specs.Budget.{six_costs}
use Rattle.mh_laws.specs.Costs.{Costing, Effect}
use Rattle.mh_laws.specs.Flow.{Flow, reached}
use Rattle.mh_laws.specs.Layers.{IsCost, IsLayering}
use Rattle.mh_laws.specs.Least.{IsLeast}
use Rattle.mh_layers.specs.declared.bounds.InputKind.{InputKind}
use Rattle.mh_layers.specs.declared.arrows.arrow.Arrow.{Arrow}
use Rattle.mh_layers.specs.Arrows.{AreFirstArrows}
use Rattle.mh_layers.specs.Bounding.{IsFirstAbove}
use Rattle.mh_verify.specs.declared.coming.Coming.{Coming}
use Rattle.mh_verify.specs.declared.refusal.Found.{Found}
use Rattle.mh_verify.specs.declared.refusal.Place.{Place}
use Rattle.mh_verify.specs.declared.refusal.Refusal.{Refusal}
use Rattle.mh_verify.specs.declared.refusal.RefusalKind.{RefusalKind}
use Rattle.mh_verify.specs.declared.refusal.RefusalKind.TheVariants as kind
use Rattle.mh_flow.specs.Equipment.{equipped}
use Rattle.mh_flow.specs.Orders.{by_config}
use Rattle.mh_verify.specs.Free.{most_cost}
use Rattle.mh_verify.specs.Kinds.{kind_number}
use Rattle.mh_verify.specs.Naming.{IsNamed}
use Rattle.mh_verify.specs.Refusals.{refusals_in}

abbrev pub by_place : Place → Place → Ordering
by_place = then_cmp (then_cmp (on (λ p. p.group) (slice_cmp nat_cmp)) (on (λ p. p.object) nat_cmp)) (on (λ p. p.index) nat_cmp)

abbrev pub order : Found → Found → Ordering
order = then_cmp (then_cmp (on (λ x. x.place) by_place) (on (λ x. kind_number x.kind) (option_cmp nat_cmp))) (on (λ x. x.config) by_config)

abbrev pub is_before : Found → Found → Bool
is_before x y = is_lt (order x y)

-- a refusal of a configuration that is reached, and no refusal of any of those comes before it
pub record IsFirst (s : Service) (w : Flow) (x : Found) : Type 0 where
  pub among : reached w x.config ≡ true
  pub stands : Contains (refusals_in s w x.config) x
  pub first : (c : Config) (y : Found) → reached w c ≡ true → Contains (refusals_in s w c) y → is_before y x ≡ false
  -- and of those that the order does not tell apart, as several members of one group, it is the first that is written
  pub written : find (λ y. is_eq (order x y)) (refusals_in s w x.config) ≡ Some x

-- the refusal says this of the service, with the reference that came so
abbrev pub refusal_of : Service → Found → Coming → Refusal
refusal_of s x k = record { kind = x.kind; place = Some x.place; action = x.action; config = Some x.config; object = Some k.at; chain = k.chain; cycle = []; service = s }

-- the refusal says that the effect of this arrow puts itself to work, by way of those behind it
abbrev pub cycle_refusal : Service → Arrow → List Arrow → Refusal
cycle_refusal s a behind = record { kind = kind.Cycle; place = Some (record { group = a.cause.at.group; object = a.cause.at.number; index = a.cause.index }); action = a.cause.action; config = Some a.cause.config; object = None; chain = []; cycle = a ∷ behind; service = s }

-- the refusal has a kind alone
abbrev pub bare_refusal : RefusalKind → Service → Refusal
bare_refusal k s = record { kind = k; place = None; action = None; config = None; object = None; chain = []; cycle = []; service = s }

-- no verdict, for want of memory
abbrev pub unjudged : Service → Refusal
unjudged s = bare_refusal kind.NoMemory s

-- the refusal says what comes first by the least flow, where the receiver has these programs
pub record NamesFirst (s : Service) (programs : List Signature) (r : Refusal) : Type 0 where
  pub flow : Flow
  pub least : IsLeast (equipped s programs) flow
  pub found : Found
  pub first : IsFirst (equipped s programs) flow found
  pub coming : Coming
  pub named : IsNamed (equipped s programs) flow found coming
  pub names : r ≡ refusal_of s found coming

-- nothing can be stuck by the least flow, but effects put themselves to work: the refusal names the first, and the first of
-- the shortest ways, each effect with an action that puts the next to work
pub record NamesCycle (s : Service) (programs : List Signature) (r : Refusal) : Type 0 where
  pub flow : Flow
  pub least : IsLeast (equipped s programs) flow
  pub acceptable : IsAcceptableBy (equipped s programs) flow
  pub first : Arrow
  pub behind : List Arrow
  pub cycle : AreFirstArrows (equipped s programs) flow (first ∷ behind)
  pub names : r ≡ cycle_refusal s first behind

-- nothing can be stuck by the least flow, and no effect puts itself to work; but the start or an input can lead to too many
-- steps, whatever exact costs are taken: the refusal names the first kind
pub record NamesBound (s : Service) (programs : List Signature) (r : Refusal) : Type 0 where
  pub flow : Flow
  pub least : IsLeast (equipped s programs) flow
  pub acceptable : IsAcceptableBy (equipped s programs) flow
  pub rank : Effect → ℕ
  pub layering : IsLayering (equipped s programs) flow rank
  pub input : InputKind
  pub first :
      (cost : Costing) → IsCost (equipped s programs) flow cost →
      IsFirstAbove most_cost (six_costs (equipped s programs) flow cost) input
  pub names : r ≡ bare_refusal (kind.TooManySteps input) s

-- a refusal that is no want of memory
abbrev pub Names : Service → List Signature → Refusal → Type 0
Names s programs r = NamesFirst s programs r ⊎ (NamesCycle s programs r ⊎ NamesBound s programs r)

-- a refusal of the service says what comes first, or that memory was refused
abbrev pub IsTold : Service → List Signature → Refusal → Type 0
IsTold s programs r = Names s programs r ⊎ (r ≡ unjudged s)
