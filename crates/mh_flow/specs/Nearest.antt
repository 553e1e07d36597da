-- The first of the shortest chains that bring one of several references, and those that came by the same places.
use Rattle.std.specs.Prelude.{◌≡◌, ◌≤◌, ◌≢◌, List, length}
use Rattle.std.specs.List.{Contains}
use Rattle.std.specs.declared.cmp.Ordering.TheVariants.{Less, Equal}
use Rattle.std.specs.Cmp.Lexicographic.{slice_cmp}
use Rattle.mh_base.specs.declared.obj_ref.ObjRef.{ObjRef}
use Rattle.mh_model.specs.declared.config.Config.{Config}
use Rattle.mh_model.specs.Service.{Service}
use Rattle.mh_flow.specs.declared.chain.link.Link.{Link}
use Rattle.mh_flow.specs.Chains.{Brings, by_action_site}

-- the links bring one of the origins, which are among these references; no links that bring one of these are fewer, none
-- that are as many have places that come before, and what comes by the same places is among the origins
pub record IsNearest (v : Service) (c : Config) (r : ObjRef) (qs : List ObjRef) (ls : List Link) (os : List ObjRef) : Type 0 where
  pub among : (q : ObjRef) → Contains os q → Contains qs q
  pub brought : (q : ObjRef) × Contains os q × Brings v q ls c r
  pub shortest : (q : ObjRef) (ks : List Link) → Contains qs q → Brings v q ks c r → length ls ≤ length ks
  pub first : (q : ObjRef) (ks : List Link) → Contains qs q → Brings v q ks c r → length ks ≡ length ls → slice_cmp by_action_site ks ls ≢ Less
  pub level : (q : ObjRef) (ks : List Link) → Contains qs q → Brings v q ks c r → slice_cmp by_action_site ks ls ≡ Equal → Contains os q
