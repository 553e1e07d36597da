-- Origins: the references that are brought from nowhere at the place that a link names.
use Rattle.std.specs.Prelude.{◌≡◌, ◌==◌, if◌then◌else◌, List, [], ◌∷◌, ◌++◌}
use Rattle.std.specs.List.{Contains, flat_map}
use Rattle.mh_base.specs.declared.obj_ref.ObjRef.{ObjRef}
use Rattle.mh_model.specs.declared.object.Fixed.{Fixed}
use Rattle.mh_model.specs.Reference.{same_ref}
use Rattle.mh_model.specs.Service.{Service}
use Rattle.mh_flow.specs.declared.chain.link.Link.{Link}
use Rattle.mh_flow.specs.Chart.{all_parts, firsts, handed}
use Rattle.mh_flow.specs.Sites.{Site, sites}

-- what the object has at first, if the link names the object itself
abbrev pub first_begun : Link → Fixed → List ObjRef
first_begun l p = if l.index == 0 then firsts p else []

-- what is written in the action, if the link names it
abbrev pub begun_at : Link → Site → List ObjRef
begun_at l x = if x.index == l.index then handed x.act else []

abbrev pub begun_in : Link → Fixed → List ObjRef
begun_in l p = first_begun l p ++ flat_map (begun_at l) (sites p)

abbrev pub begun_by : Link → Fixed → List ObjRef
begun_by l p = if same_ref p.key l.key then begun_in l p else []

abbrev pub begun : Service → Link → List ObjRef
begun v l = flat_map (begun_by l) (all_parts v)

-- they are those of these references that the first of the links brings from nowhere
pub record AreOrigins (v : Service) (qs : List ObjRef) (ls : List Link) (os : List ObjRef) : Type 0 where
  pub among : (q : ObjRef) → Contains os q → Contains qs q
  pub each : (l : Link) (rest : List Link) (q : ObjRef) → ls ≡ l ∷ rest → Contains qs q → Contains (begun v l) q → Contains os q
