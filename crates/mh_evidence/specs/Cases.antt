-- Cases: a claim, and what it is held against where one reference is granted.
use Rattle.std.specs.Prelude.{Bool, ◌&&◌, List, Option, Some, None}
use Rattle.std.specs.List.{list_any}
use Rattle.mh_base.specs.declared.obj_ref.ObjRef.{ObjRef}
use Rattle.mh_base.specs.declared.value.Kind.{Kind}
use Rattle.mh_group.specs.declared.action_name.ActionName.{ActionName}
use Rattle.mh_model.specs.declared.object.Fixed.{Fixed}
use Rattle.mh_model.specs.Faults.{Wrong, goes_with, is_content_kind, is_data_kind, wrongs}
use Rattle.mh_model.specs.Known.{Known}
use Rattle.mh_model.specs.Service.{Service}
use Rattle.mh_model.specs.Variables.{is_operator, same_kind}
use Rattle.mh_laws.specs.Active.{is_active, known_with}
use Rattle.mh_flow.specs.Sites.{Site}
use Rattle.mh_layers.specs.Arrows.{same_action}
use Rattle.mh_verify.specs.declared.refusal.Place.{Place}
use Rattle.mh_verify.specs.Evidence.{Claim, all_have, is_claimed}
use Rattle.mh_verify.specs.Naming.{is_part_at}
use Rattle.mh_verify.specs.Refusals.{part_wrongs}
use Rattle.mh_evidence.specs.declared.wrongs_kinds.Test.{Test}
use Rattle.mh_evidence.specs.declared.wrongs_kinds.Test.TheVariants as test
use Rattle.mh_evidence.specs.Spots.{at_place}

pub record Case : Type 0 where
  pub service : Service
  -- what is present
  pub parts : List Fixed
  -- to this each variable refers, and each list has it
  pub at : ObjRef
  pub claim : Claim

-- what is known then
abbrev pub known_by : Case → Known
known_by c = known_with c.service c.parts (all_have c.at)

-- what is claimed is one of these
unfoldable pub claims : Case → List Wrong → Bool
claims c ws = list_any (is_claimed c.claim) ws

-- the kinds that pass a test
abbrev pub passes : Test → Kind → Bool
passes (test.Is k) = same_kind k
passes test.Shown = is_content_kind
passes test.Sent = is_data_kind
passes (test.GoesWith n k) = λ t. goes_with n t k
passes (test.ComparedBy n) = λ t. is_operator t n.now

-- of an object at the place itself, what is claimed is wrong with a member
unfoldable pub has_wrong_member : Case → Place → Fixed → Bool
has_wrong_member c p x = is_part_at p x && claims c (part_wrongs c.parts (all_have c.at) x)

-- of an action with this name, what is claimed is wrong with it
unfoldable pub is_wrong_site : Case → ActionName → Site → Bool
is_wrong_site c n x = same_action n x.act.name && claims c (wrongs (known_by c) x.act)

unfoldable pub has_wrong_action : Case → Place → ActionName → Fixed → Bool
has_wrong_action c p n x = list_any (is_wrong_site c n) (at_place p x) && is_active c.parts x

-- what is claimed is wrong with the object, or with its action, at the place
abbrev pub is_wrong_part : Case → Place → Option ActionName → Fixed → Bool
is_wrong_part c p None x = has_wrong_member c p x
is_wrong_part c p (Some n) x = has_wrong_action c p n x

-- A claim about a place where this is present; without an action it is about the object itself.
pub record Question : Type 0 where
  pub service : Service
  pub parts : List Fixed
  pub place : Place
  pub action : Option ActionName
  pub claim : Claim

-- where variables refer to this
abbrev pub case_of : Question → ObjRef → Case
case_of q r = record { service = q.service; parts = q.parts; at = r; claim = q.claim }

-- it is so then
unfoldable pub is_so : Question → ObjRef → Bool
is_so q r = list_any (is_wrong_part (case_of q r) q.place q.action) q.parts
