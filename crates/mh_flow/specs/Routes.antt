-- Moves by numbers: those of holders and of action sites, and the graph whose arrows are moves.
use Rattle.std.specs.Prelude.{◌≡◌, ℕ, zero, suc, Bool, ◌&&◌, true, ◌==◌, if◌then◌else◌, List, [], ◌∷◌, ◌++◌, length, position, replicate, slice_get, unwrap_or, Option, Some, None, option_and_then}
use Rattle.std.specs.List.{Contains, flat_map, list_any}
use Rattle.std.specs.List.Sorted.{IsSorted}
use Rattle.std.specs.Option.{option_map}
use Rattle.std.specs.declared.cmp.Ordering.{Ordering}
use Rattle.std.specs.Ordering.{nat_cmp, on, then_cmp}
use Rattle.mh_model.specs.Configuration.{same_config}
use Rattle.mh_model.specs.Reference.{same_key}
use Rattle.mh_laws.specs.Least.{by_reference}
use Rattle.mh_paths.specs.declared.graph.Arrow.{Arrow}
use Rattle.mh_flow.specs.declared.chain.link.Link.{Link}
use Rattle.mh_flow.specs.declared.chain.moves.Holder.{Holder}
use Rattle.mh_flow.specs.declared.chain.moves.ActionSite.{ActionSite}
use Rattle.mh_flow.specs.declared.chain.moves.Move.{Move}
use Rattle.mh_flow.specs.Chains.{link}

abbrev pub same_holder : Holder → Holder → Bool
same_holder a b = same_config a.config b.config && same_key a.at b.at

abbrev pub same_action_site : ActionSite → ActionSite → Bool
same_action_site a b = same_key a.key b.key && a.index == b.index

-- by the object, then by the number
abbrev pub action_site_cmp : ActionSite → ActionSite → Ordering
action_site_cmp = then_cmp (on (λ s. s.key) by_reference) (on (λ s. s.index) nat_cmp)

-- What moves speak of, each once

abbrev pub with_holder : List Holder → Holder → List Holder
with_holder ps p = if list_any (same_holder p) ps then ps else ps ++ p ∷ []

abbrev pub with_source : List Holder → Option Holder → List Holder
with_source ps None = ps
with_source ps (Some p) = with_holder ps p

abbrev pub holders_from : List Holder → List Move → List Holder
holders_from ps [] = ps
holders_from ps (m ∷ ms) = holders_from (with_holder (with_source ps m.from) m.to) ms

abbrev pub holders_met : List Move → List Holder
holders_met ms = holders_from [] ms

-- the action sites of these moves are among these, which are in order
pub record AreActionSites (ms : List Move) (ss : List ActionSite) : Type 0 where
  pub sorted : IsSorted action_site_cmp ss
  pub each : (m : Move) (s : ActionSite) → Contains ms m → m.action_site ≡ Some s → list_any (same_action_site s) ss ≡ true

-- Numbers

abbrev pub holder_number : List Holder → Holder → ℕ
holder_number ps p = unwrap_or (position (same_holder p) ps) 0

abbrev pub action_site_number : List ActionSite → ActionSite → ℕ
action_site_number ss s = unwrap_or (position (same_action_site s) ss) 0

-- a move as an arrow
abbrev pub arrow_of : List Holder → List ActionSite → Move → Arrow
arrow_of ps ss m = record { label = option_map (action_site_number ss) m.action_site; to = holder_number ps m.to }

abbrev pub start_of : List Holder → List ActionSite → Move → Option Holder → List Arrow
start_of ps ss m None = arrow_of ps ss m ∷ []
start_of ps ss m (Some p) = []

-- those that come from nowhere
abbrev pub starts_of : List Holder → List ActionSite → List Move → List Arrow
starts_of ps ss ms = flat_map (λ m. start_of ps ss m m.from) ms

-- an arrow more in the row with this number
abbrev pub with_arrow : List (List Arrow) → ℕ → Arrow → List (List Arrow)
with_arrow [] u a = []
with_arrow (row ∷ rows) zero a = (row ++ a ∷ []) ∷ rows
with_arrow (row ∷ rows) (suc u) a = row ∷ with_arrow rows u a

abbrev pub with_move : List Holder → List ActionSite → List (List Arrow) → Move → Option Holder → List (List Arrow)
with_move ps ss rows m None = rows
with_move ps ss rows m (Some p) = with_arrow rows (holder_number ps p) (arrow_of ps ss m)

abbrev pub rows_from : List Holder → List ActionSite → List (List Arrow) → List Move → List (List Arrow)
rows_from ps ss rows [] = rows
rows_from ps ss rows (m ∷ ms) = rows_from ps ss (with_move ps ss rows m m.from) ms

-- for each holder the arrows that leave it
abbrev pub rows_of : List Holder → List ActionSite → List Move → List (List Arrow)
rows_of ps ss ms = rows_from ps ss (replicate (length ps) []) ms

-- Links

-- what an arrow with this action site to this holder is
abbrev pub link_between : Option ActionSite → Option Holder → List Link
link_between (Some s) (Some p) = link s.key s.index p.at ∷ []
link_between _ _ = []

abbrev pub link_of : List Holder → List ActionSite → Arrow → List Link
link_of ps ss a = link_between (option_and_then (slice_get ss) a.label) (slice_get ps a.to)

abbrev pub links_of : List Holder → List ActionSite → List Arrow → List Link
links_of ps ss trail = flat_map (link_of ps ss) trail

-- The action sites of moves, each once

abbrev pub with_action_site : List ActionSite → ActionSite → List ActionSite
with_action_site ss s = if list_any (same_action_site s) ss then ss else ss ++ s ∷ []

abbrev pub with_action_site_of : List ActionSite → Option ActionSite → List ActionSite
with_action_site_of ss None = ss
with_action_site_of ss (Some s) = with_action_site ss s

abbrev pub action_sites_from : List ActionSite → List Move → List ActionSite
action_sites_from ss [] = ss
action_sites_from ss (m ∷ ms) = action_sites_from (with_action_site_of ss m.action_site) ms
