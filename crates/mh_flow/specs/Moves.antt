-- Moves one behind the other, and the links that they are.
use Rattle.std.specs.Prelude.{◌≡◌, ◌≤◌, ◌≢◌, List, [], ◌∷◌, ◌++◌, length, Option, Some, None}
use Rattle.std.specs.List.{Contains}
use Rattle.std.specs.declared.cmp.Ordering.TheVariants.{Less}
use Rattle.std.specs.Cmp.Lexicographic.{slice_cmp}
use Rattle.mh_base.specs.declared.obj_ref.ObjRef.{ObjRef}
use Rattle.mh_flow.specs.declared.chain.link.Link.{Link}
use Rattle.mh_flow.specs.declared.chain.moves.Holder.{Holder}
use Rattle.mh_flow.specs.declared.chain.moves.ActionSite.{ActionSite}
use Rattle.mh_flow.specs.declared.chain.moves.Move.{Move}
use Rattle.mh_flow.specs.Chains.{link, by_action_site}

-- what is written at the object from this action site
abbrev pub links_at : Option ActionSite → ObjRef → List Link
links_at None r = []
links_at (Some s) r = link s.key s.index r ∷ []

abbrev pub links_by : Move → List Link
links_by m = links_at m.action_site m.to.at

-- these are the links of moves that lead to the holder: the first comes from nowhere, and each other from that to
-- which the one before it leads
pub data Follows (ms : List Move) : List Link → Holder → Type 0 where
  begin : (m : Move) → Contains ms m → m.from ≡ None → Follows ms (links_by m) m.to
  onward : (ls : List Link) (p : Holder) (m : Move) → Follows ms ls p → Contains ms m → m.from ≡ Some p
      → Follows ms (ls ++ links_by m) m.to

-- the links lead to the holder, no fewer do, and of those that are as many none whose action sites come before
pub record IsFirstOf (ms : List Move) (p : Holder) (ls : List Link) : Type 0 where
  pub follows : Follows ms ls p
  pub shortest : (ks : List Link) → Follows ms ks p → length ls ≤ length ks
  pub first : (ks : List Link) → Follows ms ks p → length ks ≡ length ls → slice_cmp by_action_site ks ls ≢ Less
