-- What is present in a configuration and held there, and to what a target comes.
use Rattle.std.specs.Prelude.{List, [], ◌∷◌}
use Rattle.mh_base.specs.declared.obj_ref.ObjRef.{ObjRef}
use Rattle.mh_base.specs.declared.value.Value.TheVariants as value
use Rattle.mh_model.specs.declared.act.Argument.{Argument}
use Rattle.mh_model.specs.declared.act.Argument.TheVariants as argument
use Rattle.mh_model.specs.declared.act.Target.{Target}
use Rattle.mh_model.specs.declared.act.Target.TheVariants as target
use Rattle.mh_model.specs.declared.object.Fixed.{Fixed}
use Rattle.mh_laws.specs.Flow.{Sets}
use Rattle.mh_flow.specs.Solved.{held_by}

pub record There : Type 0 where
  pub present : List Fixed
  pub lists : List (List ObjRef)

-- to what each variable may refer, and which items each list may have
unfoldable pub sets_there : There → Sets
sets_there t = held_by t.present t.lists

-- the objects to which a target may come
abbrev pub comes_to : Sets → Target → List ObjRef
comes_to h (target.Direct r) = r ∷ []
comes_to h (target.Through x) = h x

-- and those to which an argument may
abbrev pub names : Sets → Argument → List ObjRef
names h (argument.Direct (value.Object q)) = q ∷ []
names h (argument.Through x k) = h x
names h _ = []
