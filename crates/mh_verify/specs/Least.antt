-- The first refusal of a list, and the reference that came soonest.
use Rattle.std.specs.Prelude.{◌≡◌, Bool, true, ◌||◌, if◌then◌else◌, List, [], ◌∷◌, Option, Some, None}
use Rattle.std.specs.Ordering.{is_lt, is_ne}
use Rattle.std.specs.Cmp.Lexicographic.{slice_cmp}
use Rattle.mh_base.specs.declared.obj_ref.ObjRef.{ObjRef}
use Rattle.mh_laws.specs.Least.{by_reference}
use Rattle.mh_flow.specs.declared.chain.link.Link.{Link}
use Rattle.mh_flow.specs.Chains.{by_action_site}
use Rattle.mh_verify.specs.declared.refusal.Found.{Found}
use Rattle.mh_model.specs.Service.{Service}
use Rattle.mh_laws.specs.Flow.{Flow}
use Rattle.mh_verify.specs.declared.coming.Coming.{Coming}
use Rattle.mh_verify.specs.Naming.{IsNamed, is_sooner}
use Rattle.mh_verify.specs.Order.{is_before}
use Rattle.mh_verify.specs.Refusals.{all_refusals}

-- the first of one and the best so far
abbrev pub lesser : Option Found → Found → Found
lesser None x = x
lesser (Some b) x = if is_before x b then x else b

-- the first of these and the best so far
abbrev pub least_of : Option Found → List Found → Option Found
least_of b [] = b
least_of b (x ∷ xs) = least_of (Some (lesser b x)) xs

-- the one of this and of the best so far that came sooner
abbrev pub sooner : Option Coming → Coming → Coming
sooner None k = k
sooner (Some b) k = if is_sooner k b then k else b

-- a reference, of which no links come before these, may have come sooner than the best so far: not if that came by the
-- places of these links, and the reference is no smaller
abbrev pub may_be_sooner : Option Coming → List Link → ObjRef → Bool
may_be_sooner None ls q = true
may_be_sooner (Some b) ls q = is_ne (slice_cmp by_action_site b.chain ls) || is_lt (by_reference q b.at)

-- what comes first of all that is wrong, with the reference that is named; none where nothing is wrong
pub record IsFirstNamed (s : Service) (w : Flow) (x : Found) (k : Coming) : Type 0 where
  pub first : least_of None (all_refusals s w) ≡ Some x
  pub named : IsNamed s w x k

abbrev pub IsJudged : Service → Flow → Option (Found × Coming) → Type 0
IsJudged s w None = least_of None (all_refusals s w) ≡ None
IsJudged s w (Some x) = IsFirstNamed s w x.0 x.1
