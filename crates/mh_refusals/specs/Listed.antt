-- All that is wrong with a service, in the order of places, with how references came to what holds them.
use Rattle.std.specs.Prelude.{◌≡◌, ℕ, true, List, [], map, take, Some}
use Rattle.mh_base.specs.declared.obj_ref.ObjRef.{ObjRef}
use Rattle.mh_flow.specs.Chains.{IsFirstChain}
use Rattle.mh_laws.specs.Each.{Each}
use Rattle.mh_laws.specs.Flow.{Flow, has}
use Rattle.mh_laws.specs.Least.{IsLeast}
use Rattle.mh_model.specs.Service.{Service}
use Rattle.mh_verify.specs.declared.refusal.Found.{Found}
use Rattle.mh_verify.specs.declared.refusal.RefusalKind.{RefusalKind}
use Rattle.mh_verify.specs.declared.refusal.RefusalKind.TheVariants as kind
use Rattle.mh_verify.specs.Refusals.{all_refusals}
use Rattle.mh_refusals.specs.declared.told.Told.{Told}
use Rattle.mh_refusals.specs.Places.{with_all}

-- a variable or a list may hold the reference that is wrong
pub record IsHeld (w : Flow) (x : Found) : Type 0 where
  pub holder : ObjRef
  pub through : x.through ≡ Some holder
  pub held : has (w.sets x.config) holder x.object ≡ true

-- the links brought it there, and no others come before them
pub record IsHeldBy (s : Service) (t : Told) : Type 0 where
  pub holder : ObjRef
  pub through : t.found.through ≡ Some holder
  pub chain : IsFirstChain s t.found.object t.found.config holder t.chain

-- no links where the reference is written at the place
abbrev pub HasChainAs : RefusalKind → Service → Told → Type 0
HasChainAs kind.HeldAbsent s t = IsHeldBy s t
HasChainAs kind.HeldWrongClass s t = IsHeldBy s t
HasChainAs _ s t = t.chain ≡ []

abbrev pub HasChain : Service → Told → Type 0
HasChain s t = HasChainAs t.found.kind s t

-- the first of all that is wrong, by the least flow, a place each and at most so many
pub record AreRefusals (s : Service) (most : ℕ) (ts : List Told) : Type 0 where
  pub flow : Flow
  pub least : IsLeast s flow
  pub founds : map (λ (t : Told). t.found) ts ≡ take most (with_all [] (all_refusals s flow))
  pub chains : Each (HasChain s) ts
