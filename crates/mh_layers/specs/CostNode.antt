-- What has a cost of its own.
use Rattle.std.specs.Prelude.{ℕ, Bool}
use Rattle.mh_base.specs.declared.obj_ref.ObjRef.{ObjRef}
use Rattle.mh_base.specs.declared.value.Value.{Value}
use Rattle.mh_base.specs.declared.event.EventType.{EventType}
use Rattle.mh_model.specs.declared.config.Config.{Config}
use Rattle.mh_layers.specs.declared.bounds.InputKind.{InputKind}

-- the links that an event can match: those without data, those with this data, or those with any one data
pub data Hearing : Type 0 where
  Plain : Hearing
  With : Value → Hearing
  Any : Hearing

-- what has a cost of its own: an effect by its number, what an event sets going that is dealt with at once, an event that
-- waits, a change of a list, what is done when the scene or all of a configuration is left, and when one is entered, and an
-- input of a kind that is taken
pub data CostNode : Type 0 where
  Effect : Config → ObjRef → ℕ → CostNode
  Fired : Config → ObjRef → EventType → Hearing → CostNode
  Entry : ObjRef → EventType → Hearing → CostNode
  Change : Config → ObjRef → CostNode
  Leave : Config → Bool → CostNode
  Enter : Config → CostNode
  Taken : Config → InputKind → CostNode
