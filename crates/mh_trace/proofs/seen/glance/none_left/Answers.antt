use Rattle.std.specs.Prelude.{◌≡◌, ◌≤◌, false, List, [], ◌∷◌, length, refl}
use Rattle.std.proofs.Common.{arith, rules}
use Rattle.mh_base.specs.declared.obj_ref.ObjRef.{ObjRef}
use Rattle.mh_trace.specs.Glance.{same_refs}
use Rattle.mh_trace.proofs.seen.glance.none_left.Goals as goal

some_left : (rs : List ObjRef) → 1 ≤ length rs → false ≡ same_refs rs []
some_left [] some = absurd (omega (arith, some))
some_left (r ∷ rs) some = refl

pub returns-in-len1-up : goal.returns-in-len1-up
returns-in-len1-up c = some_left c.args.refs.now (search rules)
