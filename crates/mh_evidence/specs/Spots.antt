-- Spots: the actions of an object at a place or a link, and what a chain asks of them.
use Rattle.std.specs.Prelude.{ℕ, Bool, true, ◌&&◌, ◌||◌, ◌==◌, List, [], ◌∷◌, filter}
use Rattle.std.specs.List.{list_any}
use Rattle.mh_base.specs.declared.obj_ref.ObjRef.{ObjRef}
use Rattle.mh_model.specs.declared.object.Fixed.{Fixed}
use Rattle.mh_model.specs.Service.{Service, group_parts}
use Rattle.mh_flow.specs.declared.chain.link.Link.{Link}
use Rattle.mh_flow.specs.Chart.{handed_argument}
use Rattle.mh_flow.specs.Sites.{Site, sites}
use Rattle.mh_verify.specs.declared.refusal.Place.{Place}
use Rattle.mh_verify.specs.Evidence.{answers, is_link_at, is_written, reads, writes}
use Rattle.mh_verify.specs.Naming.{is_site_at}

-- the action with this number, if there is one
unfoldable pub with_number : ℕ → Fixed → List Site
with_number n p = filter (λ x. n == x.index) (sites p)

unfoldable pub at_place : Place → Fixed → List Site
at_place q p = filter (is_site_at q) (sites p)

unfoldable pub at_link : Link → Fixed → List Site
at_link l p = filter (is_link_at l) (sites p)

-- the action writes the reference, as the link says
abbrev pub is_beginning : Service → ObjRef → Link → Site → Bool
is_beginning s q l x = writes s x l.written && is_written q (handed_argument x.act)

-- the action reads what was written last, and writes what the link says
abbrev pub is_step : Service → ObjRef → Link → Site → Bool
is_step s y l x = (writes s x l.written && reads s x y) || answers s x y l.written

-- so does one of the actions at the link, object by object

unfoldable pub begins_there : Service → ObjRef → Link → Bool
begins_there s q l = list_any (λ p. list_any (is_beginning s q l) (at_link l p)) (group_parts s l.key.group)

unfoldable pub goes_on_there : Service → ObjRef → Link → Bool
goes_on_there s y l = list_any (λ p. list_any (is_step s y l) (at_link l p)) (group_parts s l.key.group)

-- and each link leads on so
abbrev pub leads_on_there : Service → ObjRef → List Link → Bool
leads_on_there s y [] = true
leads_on_there s y (l ∷ ls) = goes_on_there s y l && leads_on_there s l.written ls
