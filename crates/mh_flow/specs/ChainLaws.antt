-- Chains say what is derived: where a variable or a list may hold a reference there is a chain, and only there.
use Rattle.std.specs.Prelude.{List}
use Rattle.std.specs.List.{Contains}
use Rattle.mh_base.specs.declared.obj_ref.ObjRef.{ObjRef}
use Rattle.mh_model.specs.declared.config.Config.{Config}
use Rattle.mh_model.specs.Service.{Service}
use Rattle.mh_laws.specs.Least.{Derived, Held}
use Rattle.mh_laws.specs.Flow.{Flow}
use Rattle.mh_flow.specs.declared.chain.link.Link.{Link}
use Rattle.mh_flow.specs.declared.chain.moves.Holder.{Holder}
use Rattle.mh_flow.specs.Moves.{Follows}
use Rattle.mh_flow.specs.Steps.{IsExact, moves_of, holder_at}
use Rattle.mh_flow.specs.Chains.{Brings}

abbrev pub WhatIsBroughtIsHeld : Type 0
WhatIsBroughtIsHeld =
    (v : Service) (q : ObjRef) (ls : List Link) (c : Config) (r : ObjRef) → Brings v q ls c r →
    Derived v (Held c r q)

abbrev pub WhatIsHeldIsBrought : Type 0
WhatIsHeldIsBrought =
    (v : Service) (q : ObjRef) (c : Config) (r : ObjRef) → Derived v (Held c r q) →
    (ls : List Link) × Brings v q ls c r

-- In an exact flow the moves of references are what brings one of them.
abbrev pub MovesBring : Type 0
MovesBring =
    (v : Service) (w : Flow) → IsExact v w → (qs : List ObjRef) (ls : List Link) (p : Holder) →
    Follows (moves_of v w qs) ls p → (q : ObjRef) × Contains qs q × Brings v q ls p.config p.at

abbrev pub WhatBringsMoves : Type 0
WhatBringsMoves =
    (v : Service) (w : Flow) → IsExact v w → (qs : List ObjRef) (q : ObjRef) → Contains qs q →
    (ls : List Link) (c : Config) (r : ObjRef) → Brings v q ls c r → Follows (moves_of v w qs) ls (holder_at c r)
