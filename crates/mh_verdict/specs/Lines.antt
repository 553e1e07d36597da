-- What is printed of a verdict. Of what cannot be read: one line. Of a service that is accepted: the bounds of the start and of each kind of input. Of a
-- refusal: its number, the place and its action, or the kind of what leads to too many steps; then the configuration, the
-- reference that is wrong, and a line for each link of the chain that brought it, or for each effect of a cycle.
use Rattle.std.specs.Prelude.{ℕ, List, [], ◌∷◌, ◌++◌, Option, Some, None, unwrap_or, codes}
use Rattle.std.specs.Fmt.{decimal}
use Rattle.std.specs.List.{flat_map}
use Rattle.mh_base.specs.declared.obj_ref.ObjRef.{ObjRef}
use Rattle.mh_group.specs.declared.action_name.ActionName.{ActionName}
use Rattle.mh_group.specs.Words.{action_word}
use Rattle.mh_model.specs.declared.config.Config.{Config}
use Rattle.mh_laws.specs.Budget.{Bounds}
use Rattle.mh_flow.specs.declared.chain.link.Link.{Link}
use Rattle.mh_layers.specs.declared.bounds.InputKind.{InputKind}
use Rattle.mh_layers.specs.declared.bounds.InputKind.TheVariants as input
use Rattle.mh_layers.specs.Bounding.{kind_word}
use Rattle.mh_layers.specs.declared.arrows.arrow.Arrow.{Arrow}
use Rattle.mh_layers.specs.declared.cause.Cause.{Cause}
use Rattle.mh_verify.specs.declared.refusal.Place.{Place}
use Rattle.mh_verify.specs.declared.refusal.Refusal.{Refusal}
use Rattle.mh_verify.specs.declared.refusal.RefusalKind.{RefusalKind}
use Rattle.mh_verify.specs.declared.refusal.RefusalKind.TheVariants as kind
use Rattle.mh_verify.specs.Kinds.{kind_number}
use Rattle.mh_told.specs.declared.unplayable.Unplayable.{Unplayable}
use Rattle.mh_told.specs.declared.unplayable.Unplayable.TheVariants as unplayable

-- the line on what cannot be read
unfoldable pub complaint : Unplayable → List ℕ
complaint (unplayable.File name number offset) = codes "file " ++ name ++ codes " " ++ decimal number ++ codes " " ++ decimal offset ++ 10 ∷ []
complaint (unplayable.Service number group) = codes "service " ++ decimal number ++ codes " " ++ group ++ 10 ∷ []
complaint (unplayable.Tags number place) = codes "tags " ++ decimal number ++ codes " " ++ decimal place ++ 10 ∷ []
complaint (unplayable.Script number) = codes "script " ++ decimal number ++ 10 ∷ []
complaint unplayable.NoMemory = []

abbrev pub place_words : Option Place → List ℕ
place_words None = []
place_words (Some p) = codes " " ++ p.group ++ codes " " ++ decimal p.object ++ codes " " ++ decimal p.index

abbrev pub action_words : Option ActionName → List ℕ
action_words None = codes " -"
action_words (Some a) = codes " " ++ action_word a

abbrev pub scene_word : Option (List ℕ) → List ℕ
scene_word None = codes "-"
scene_word (Some g) = g

abbrev pub config_line : Option Config → List ℕ
config_line None = []
config_line (Some c) = codes "config " ++ c.app ++ codes " " ++ scene_word c.scene ++ 10 ∷ []

abbrev pub object_line : Option ObjRef → List ℕ
object_line None = []
object_line (Some r) = codes "object " ++ r.group ++ codes " " ++ decimal r.number ++ 10 ∷ []

abbrev pub link_line : Link → List ℕ
link_line l = codes "by " ++ l.key.group ++ codes " " ++ decimal l.key.number ++ codes " " ++ decimal l.index ++ 10 ∷ []

abbrev pub chain_lines : List Link → List ℕ
chain_lines ls = flat_map link_line ls

abbrev pub cause_line : Cause → List ℕ
cause_line x = codes "cause " ++ x.at.group ++ codes " " ++ decimal x.at.number ++ codes " " ++ decimal x.index ++ 10 ∷ []

abbrev pub cycle_lines : List Arrow → List ℕ
cycle_lines xs = flat_map (λ (a : Arrow). cause_line a.cause) xs

-- the place and its action, or the kind of what leads to too many steps
abbrev pub where_words : RefusalKind → Option Place → Option ActionName → List ℕ
where_words (kind.TooManySteps k) p a = codes " " ++ kind_word k
where_words _ p a = place_words p ++ action_words a

unfoldable pub refusal_lines : Refusal → List ℕ
refusal_lines r =
    codes "refused V" ++ decimal (unwrap_or (kind_number r.kind) 0) ++ where_words r.kind r.place r.action ++ 10 ∷ []
    ++ config_line r.config ++ object_line r.object ++ chain_lines r.chain ++ cycle_lines r.cycle

-- of a service that is accepted

abbrev pub bound_line : InputKind → ℕ → List ℕ
bound_line k n = kind_word k ++ codes " " ++ decimal n ++ 10 ∷ []

unfoldable pub accepted_lines : Bounds → List ℕ
accepted_lines b =
    codes "accepted" ++ 10 ∷ [] ++ bound_line input.Start b.start ++ bound_line input.Key b.key ++ bound_line input.Tick b.tick
    ++ bound_line input.Stream b.stream ++ bound_line input.Engine b.engine ++ bound_line input.Arrive b.arrive
