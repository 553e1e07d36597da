-- Sites: the actions of objects, each at its place, in written order.
use Rattle.std.specs.Prelude.{ℕ, suc, ◌+◌, List, [], ◌∷◌, ◌++◌, length, filter}
use Rattle.std.specs.List.{flat_map}
use Rattle.mh_base.specs.declared.obj_ref.ObjRef.{ObjRef}
use Rattle.mh_model.specs.declared.act.Act.{Act}
use Rattle.mh_model.specs.declared.object.Fixed.{Fixed}
use Rattle.mh_laws.specs.Active.{is_active}
use Rattle.mh_laws.specs.Costs.{effects}

pub record Site : Type 0 where
  -- the object
  pub key : ObjRef
  -- the number of the action through the object's effects, from 1 on
  pub index : ℕ
  -- that of the first action of its effect
  pub first : ℕ
  pub act : Act

-- actions of one effect, numbered from here on
abbrev pub numbered : ObjRef → ℕ → ℕ → List Act → List Site
numbered k f i [] = []
numbered k f i (a ∷ acts) = record { key = k; index = i; first = f; act = a } ∷ numbered k f (suc i) acts

-- effects one after another, their actions numbered from here on
abbrev pub through_effects : ObjRef → ℕ → List (List Act) → List Site
through_effects k i [] = []
through_effects k i (e ∷ es) = numbered k i i e ++ through_effects k (i + length e) es

-- the sites of an object
abbrev pub sites : Fixed → List Site
sites p = through_effects p.key 1 (effects p)

-- the sites of what is active where these are present
abbrev pub sites_of : List Fixed → List Site
sites_of ps = flat_map sites (filter (is_active ps) ps)
