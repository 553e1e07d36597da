-- Objects that are not there (V1, V4).
use Rattle.std.specs.Prelude.{ℕ, if◌then◌else◌, List, [], ◌++◌, codes, Option, Some, None}
use Rattle.std.specs.Fmt.{decimal}
use Rattle.std.specs.List.{find}
use Rattle.mh_base.specs.declared.obj_ref.ObjRef.{ObjRef}
use Rattle.mh_base.specs.declared.value.Kind.{Kind}
use Rattle.mh_group.specs.declared.action_name.ActionName.{ActionName}
use Rattle.mh_group.specs.declared.action_name.ActionName.TheVariants as action
use Rattle.mh_group.specs.Table.{is_scene}
use Rattle.mh_group.specs.Words.{action_word}
use Rattle.mh_misread.specs.Likeness.{is_like}
use Rattle.mh_model.specs.declared.object.Fixed.{Fixed}
use Rattle.mh_model.specs.Configuration.{is_group_of}
use Rattle.mh_model.specs.Service.{Service}
use Rattle.mh_model.specs.Variables.{variable_kind}
use Rattle.mh_service.specs.Resolved.{parts_under}
use Rattle.mh_cause.specs.declared.phrases.TheConstants as told
use Rattle.mh_cause.specs.declared.role.Role.{Role}
use Rattle.mh_cause.specs.declared.role.Role.TheVariants as role
use Rattle.mh_cause.specs.Acts.{numbered}
use Rattle.mh_cause.specs.Candidates.{candidates_told}
use Rattle.mh_cause.specs.Elsewhere.{meant_names}
use Rattle.mh_cause.specs.Naming.{named, numbered_words, parameter_words}
use Rattle.mh_cause.specs.Refusing.{Refused}
use Rattle.mh_cause.specs.Roles.{role_at}

-- WHERE THE REFERENCE STANDS

-- where it is written
unfoldable pub written_words : ActionName → Role → ObjRef → List ℕ
written_words a role.Target at = action_word a ++ told.IS_DONE_TO.now ++ named at
written_words a role.Through at = told.THE_TARGET_OF.now ++ action_word a ++ told.IS_WHAT.now ++ named at ++ codes " holds"
written_words a (role.Parameter n) at = parameter_words a n ++ codes " is " ++ named at
written_words a role.Unknown at = action_word a ++ codes " names " ++ named at

-- where the variable is written that may hold it
abbrev pub held_front : ActionName → Role → List ℕ
held_front a (role.Parameter n) = parameter_words a n ++ told.IS_WHAT.now
held_front a r = action_word a ++ told.IS_DONE_TO.now ++ codes "what "

unfoldable pub held_words : ActionName → Role → ObjRef → ObjRef → List ℕ
held_words a r holder at = held_front a r ++ named holder ++ told.HOLDS_WHICH.now ++ named at

unfoldable pub member_words : Refused → List ℕ
member_words r = told.A_MEMBER_OF.now ++ numbered_words r.group r.object ++ codes " is " ++ named r.at

unfoldable pub item_words : Refused → List ℕ
item_words r = codes "an item of " ++ numbered_words r.group r.object ++ codes " can be " ++ named r.at

abbrev pub of_members : Refused → Option ObjRef → List ℕ
of_members r None = member_words r
of_members r (Some holder) = item_words r

abbrev pub of_action : Service → Refused → ActionName → Option ObjRef → List ℕ
of_action s r a None = written_words a (role_at s r r.at) r.at
of_action s r a (Some holder) = held_words a (role_at s r holder) holder r.at

abbrev pub place_words : Service → Refused → Option ActionName → List ℕ
place_words s r None = of_members r r.holder
place_words s r (Some a) = of_action s r a r.holder

-- WHY IT IS NOT THERE

-- what the file has to be
abbrev pub file_kind : Option ActionName → List ℕ
file_kind (Some action.TransitionTo) = codes "a scene"
file_kind (Some action.Launch) = codes "an application"
file_kind a = codes "a group"

unfoldable pub no_group : Option ActionName → ObjRef → List ℕ
no_group a at = told.NO_FILE.now ++ at.group ++ told.IN_FOLDER_IS.now ++ file_kind a

unfoldable pub no_number : ObjRef → List ℕ
no_number at = codes ", and " ++ at.group ++ told.HAS_NO_OBJECT.now ++ decimal at.number

unfoldable pub shown_words : Service → List ℕ → List ℕ
shown_words s g =
    if is_group_of is_scene s g then codes "scene " ++ g ++ codes " is shown" else codes "application " ++ g ++ codes " runs"

unfoldable pub not_shown : Service → ObjRef → List ℕ
not_shown s at = told.ONLY_WHILE.now ++ shown_words s at.group

abbrev pub absent_in : Service → ObjRef → Option Fixed → List ℕ
absent_in s at None = no_number at
absent_in s at (Some p) = not_shown s at

abbrev pub absence : Service → Option ActionName → ObjRef → Option (List Fixed) → List ℕ
absence s a at None = no_group a at
absence s a at (Some ps) = absent_in s at (numbered at.number ps)

unfoldable pub absent_cause : Service → Refused → List ℕ
absent_cause s r = place_words s r r.action ++ absence s r.action r.at (parts_under r.at.group s.groups)

-- THE MEND

abbrev pub or_name : Option (List ℕ) → Option (List ℕ) → Option (List ℕ)
or_name (Some g) other = Some g
or_name None other = other

abbrev pub like_name : ℕ → List ℕ → List (List ℕ) → Option (List ℕ)
like_name n word names = find (λ g. is_like n word g) names

-- the name that is most like the word
unfoldable pub near_name : List ℕ → List (List ℕ) → Option (List ℕ)
near_name word names = or_name (like_name 0 word names) (or_name (like_name 1 word names) (like_name 2 word names))

unfoldable pub name_told : Option (List ℕ) → List ℕ
name_told None = []
name_told (Some g) = told.NEAREST_NAME.now ++ g

unfoldable pub no_group_mend : Service → Option ActionName → ObjRef → List ℕ
no_group_mend s a at = told.ADD_FILE.now ++ name_told (near_name at.group (meant_names s a))

unfoldable pub no_number_mend : Service → Refused → List ℕ
no_number_mend s r = told.NAME_THERE.now ++ candidates_told s r

-- a variable that outlives a scene is one of the application
unfoldable pub kept_mend : Option Kind → List ℕ
kept_mend None = []
kept_mend (Some k) = told.KEPT_VARIABLE.now

unfoldable pub not_shown_mend : ObjRef → Fixed → List ℕ
not_shown_mend at p = told.MOVE_TO.now ++ at.group ++ kept_mend (variable_kind p.class)

abbrev pub there_mend : Service → Refused → Option Fixed → List ℕ
there_mend s r None = no_number_mend s r
there_mend s r (Some p) = not_shown_mend r.at p

abbrev pub written_mend : Service → Refused → Option (List Fixed) → List ℕ
written_mend s r None = no_group_mend s r.action r.at
written_mend s r (Some ps) = there_mend s r (numbered r.at.number ps)

unfoldable pub held_mend : ObjRef → List ℕ
held_mend holder = codes "set " ++ named holder ++ told.THAT_IS_THERE.now

unfoldable pub list_mend : ObjRef → List ℕ
list_mend holder = codes "let " ++ named holder ++ told.HOLD_PRESENT.now

-- a list, or a variable
abbrev pub holder_mend : ObjRef → Option ActionName → List ℕ
holder_mend holder None = list_mend holder
holder_mend holder (Some a) = held_mend holder

abbrev pub absent_mend_for : Service → Refused → Option ObjRef → List ℕ
absent_mend_for s r None = written_mend s r (parts_under r.at.group s.groups)
absent_mend_for s r (Some holder) = holder_mend holder r.action

abbrev pub absent_mend : Service → Refused → List ℕ
absent_mend s r = absent_mend_for s r r.holder
